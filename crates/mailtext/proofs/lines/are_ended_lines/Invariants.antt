use Rattle.std.proofs.Common.{◌≡◌, length}
use Rattle.std.specs.Prelude.{◌↔◌}
use Rattle.mailtext.specs.Text.{kept_form}
use Rattle.mailtext.proofs.lines.are_ended_lines.Given as goal

abbrev pub invariant-rest : goal.invariant-rest
invariant-rest l = (kept_form l.rest ≡ l.rest) ↔ (kept_form l.octets ≡ l.octets)

abbrev pub decreases-rest : goal.decreases-rest
decreases-rest l = length l.rest
