-- What was only looked at on a link is served still.
use Rattle.std.proofs.Common.{List, ℕ, ◌≡◌, ◌+◌, Bool, false, ◌||◌, ◌&&◌, Option, None, ap}
use Rattle.vault.specs.Changes.{Contents}
use Rattle.office.specs.Events.{Trace}
use Rattle.office.specs.declared.office.Office.{Office}
use Rattle.serving.specs.declared.links.Seat.{Seat}
use Rattle.serving.specs.Wires.{ToldOfPorts}
use Rattle.serving.specs.Served.{Elsewhere, IsServing}
use Rattle.std.specs.Prelude.{not, nat_le, is_some}
use Rattle.creds.specs.declared.login_name.LoginName.{LoginName}
use Rattle.office.specs.Log.{clock, moment}
use Rattle.office.specs.Logins.{login_brought}
use Rattle.office.specs.Sessions.{holder}
use Rattle.office.specs.Trace.{history}
use Rattle.office.specs.Waiting.{is_held_for, waits}

-- another wire of which the same is told
pub serving_seen : {V W : Type 0} (Holds : V → Contents → Type 0) (Tells : W → ToldOfPorts → Type 0) (T : Trace) (elsewhere : Elsewhere) (office : Office V) (wire seen : W) (seats these : List Seat)
    → ((t : ToldOfPorts) → Tells wire t → Tells seen t) → IsServing Holds Tells T elsewhere office wire seats these → IsServing Holds Tells T elsewhere office seen seats these
serving_seen Holds Tells T elsewhere office wire seen seats these same s = record {
  log = s.log;
  told = s.told;
  owner = s.owner;
  stands = s.stands;
  admitted = s.admitted;
  tells = same (record { pop = s.told; admin = elsewhere.admin }) s.tells;
  served = s.served;
  seated = s.seated;
  adds = s.adds;
}

-- a login that waits for no lock stays unread where it is kept back
pub held_by_login : (waits kept held : Bool) → waits ≡ false → held ≡ kept → held ≡ (waits || kept)
held_by_login waits kept held e h = rw e h

-- without a login none waits
pub nobody_waits : (T : Trace) (c : ℕ) (piece : List ℕ) (seconds : ℕ) → None ≡ login_brought T c piece → false ≡ waits T c piece seconds
nobody_waits T c piece seconds none =
    ap (λ (o : Option LoginName). is_held_for (λ d. is_some (holder (history T) d)) o && not (nat_le (clock T.log c + seconds) (moment T.log))) none
