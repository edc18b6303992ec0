-- What a conversation over an office leaves in its store.
use Rattle.std.proofs.Common.{◌≡◌, ℕ, ◌⊎◌, inl, inr, List, Bool, true, Ok, Err}
use Rattle.vault.specs.Calls.{has_grown}
use Rattle.vault.specs.Changes.{Contents}
use Rattle.office.specs.Events.{Trace, Log}
use Rattle.office.specs.Log.{next_number}
use Rattle.office.specs.Stands.{Keeps, vault_of}
use Rattle.office.specs.declared.office.Office.{Office}
use Rattle.converse.specs.Talked.{StandsSo, ComesOut, HasFailed}
use Rattle.converse.specs.Runs.{HasTalked, HasBroken}
use Rattle.converse.specs.declared.talk.TalkFault.{TalkFault}
use Rattle.converse.specs.declared.talk.TalkFault.TheVariants as fault

-- it came out well
pub has_talked : {V : Type 0} (Holds : V → Contents → Type 0) (faults : V → ℕ) (before : ℕ) (o : Office V) (T : Trace) (octets written : List ℕ) (AtEnd : Type 0) (done : Unit {0})
    → StandsSo Holds faults before o T (next_number T.log) (ComesOut AtEnd (has_grown before (faults (vault_of o))) T (next_number T.log) octets written (Ok done))
    → HasTalked Holds (vault_of o) (has_grown before (faults (vault_of o))) T octets written AtEnd
has_talked Holds faults before o T octets written AtEnd done h = record { log = h.log; keeps = h.stands.keeps; on = record { own = h.own; caused = h.caused; came_out = h.so } }

or_grown : {A B : Type 0} (grown more : Bool) → (grown ≡ true → more ≡ true) → A ⊎ (B × (grown ≡ true)) → A ⊎ (B × (more ≡ true))
or_grown grown more h (inl a) = inl a
or_grown grown more h (inr p) = inr (p.0, h p.1)

-- what came out so far, of a longer time
pub talked_since : {V : Type 0} (Holds : V → Contents → Type 0) (new : V) (T : Trace) (octets written : List ℕ) (AtEnd : Type 0) (grown more : Bool) → (grown ≡ true → more ≡ true)
    → HasTalked Holds new grown T octets written AtEnd → HasTalked Holds new more T octets written AtEnd
talked_since Holds new T octets written AtEnd grown more h t =
    record { log = t.log; keeps = t.keeps; on = record { own = t.on.own; caused = λ lt. h (t.on.caused lt); came_out = (t.on.came_out.0, or_grown grown more h t.on.came_out.1) } }

any_grown : (AtEnd : Type 0) (grown : Bool) (T : Trace) (c : ℕ) (octets written : List ℕ) (f : TalkFault) (L : Log)
    → ComesOut AtEnd grown T c octets written (Err f) L → ComesOut AtEnd true T c octets written (Err f) L
any_grown AtEnd grown T c octets written fault.Read L h = h
any_grown AtEnd grown T c octets written fault.Write L h = h
any_grown AtEnd grown T c octets written fault.TooManyConnections L h = h
any_grown AtEnd grown T c octets written fault.NoMemory L h = h
any_grown AtEnd grown T c octets written fault.Endless L h = h

-- a fault broke it off
pub has_broken : {V : Type 0} (Holds : V → Contents → Type 0) (faults : V → ℕ) (before : ℕ) (o : Office V) (T : Trace) (octets written : List ℕ)
    (AtEnd : Type 0) {reads writes : Bool} (f : TalkFault) → HasFailed reads writes f
    → StandsSo Holds faults before o T (next_number T.log) (ComesOut AtEnd (has_grown before (faults (vault_of o))) T (next_number T.log) octets written (Err f))
    → HasBroken Holds (vault_of o) (has_grown before (faults (vault_of o))) reads writes T octets written AtEnd
has_broken Holds faults before o T octets written AtEnd f failed h =
    record {
      fault = f;
      log = h.log;
      keeps = h.stands.keeps;
      on =
          record { own = h.own; caused = h.caused; failed = failed; came_out = any_grown AtEnd (has_grown before (faults (vault_of o))) T _ octets written f h.log h.so };
    }

-- the same, of a longer time
pub broken_since : {V : Type 0} (Holds : V → Contents → Type 0) (new : V) (T : Trace) (octets written : List ℕ) (AtEnd : Type 0) (grown more : Bool) {reads writes : Bool}
    → (grown ≡ true → more ≡ true)
    → HasBroken Holds new grown reads writes T octets written AtEnd → HasBroken Holds new more reads writes T octets written AtEnd
broken_since Holds new T octets written AtEnd grown more h t =
    record { fault = t.fault; log = t.log; keeps = t.keeps; on = record { own = t.on.own; caused = λ lt. h (t.on.caused lt); failed = t.on.failed; came_out = t.on.came_out } }

-- what another vault holds too
pub keeps_still : (Holds Still : Contents → Type 0) (T : Trace) (k : Keeps Holds T) → Still k.contents → Keeps Still T
keeps_still Holds Still T k held = record { contents = k.contents; held = held; agree = k.agree; sound = k.sound; formed = k.formed; began = k.began }
