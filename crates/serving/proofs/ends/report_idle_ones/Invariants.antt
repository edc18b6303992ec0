use Rattle.std.proofs.Common.{◌-◌, take}
use Rattle.arrayvec.specs.ArrayVec.{array_vec_len}
use Rattle.office.specs.Events.{Trace}
use Rattle.office.specs.Stands.{StandsFor}
use Rattle.serving.specs.Hearing.{HasHeard, idle_ends}
use Rattle.serving.proofs.ends.report_idle_ones.Given as goal

abbrev pub invariant-loop-place : goal.invariant-loop-place
invariant-loop-place g l = record {
  told : (T : Trace) → StandsFor g.V.Vault.holds l.fn.office T → HasHeard g.L.Listener.heard l.fn.listener l.listener (idle_ends T (take l.place l.fn.clients.seats.items));
}

abbrev pub decreases-loop-place : goal.decreases-loop-place
decreases-loop-place g l = array_vec_len l.fn.clients.seats - l.place
