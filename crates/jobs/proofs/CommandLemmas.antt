-- What the commands of the program did, by what they say of the store that they left.
use Rattle.std.proofs.Common.{◌≡◌, ◌≤◌, ◌⊎◌, ℕ, Bool, zero, suc, inl, inr, refl, sym, ◌∙◌, ap, arith, List, [], ◌∷◌, Option, Result, Ok, Err, map, true}
use Rattle.std.specs.Io.KnownBytes.{IsAtEnd}
use Rattle.creds.specs.Names.{by_name}
use Rattle.vault.specs.declared.answer.Total.{Total}
use Rattle.vault.specs.declared.fault.VaultFault.{VaultFault}
use Rattle.vault.specs.declared.fault.VaultFault.TheVariants as fault
use Rattle.vault.specs.Calls.{has_grown, seen_as, IsAnswer}
use Rattle.vault.specs.Changes.{Contents, totals, total_in}
use Rattle.vault.specs.Records.{Records, Agree, in_maildrop}
use Rattle.office.specs.Events.{Trace}
use Rattle.office.specs.Stands.{Keeps}
use Rattle.converse.specs.Script.{ScriptLine}
use Rattle.converse.specs.Played.{HasRun, HasRunInPart}
use Rattle.converse.specs.Runs.{HasTalked, HasStopped}
use Rattle.converse.specs.Streams.{Reading, Writing, Reads, Writes, reads_failed, writes_failed}
use Rattle.jobs.specs.Commands.{AreLinesOf, HasReplayed, HasConversed, IsLook}

-- ---- an exit status

status_is : (n : ℕ) → n ≤ 1 → (n ≡ 0) ⊎ (n ≡ 1)
status_is zero h = inl refl
status_is (suc n) h = inr (omega (arith, h))

-- ---- a script

module _ {V : Type 0} (Holds : V → Contents → Type 0) (new : V) (script before after : Option (List ℕ)) (flushed : Bool) (status first last : ℕ) (T opened : Trace) where
  abbrev Left : Type 0
  Left = (U : Trace) × HasReplayed script before after flushed status first last T opened U × Keeps (Holds new) U

  left_whole : status ≡ 0 → flushed ≡ true → (lines : List ScriptLine) → AreLinesOf script lines → HasRun Holds new first last before after opened lines → Left
  left_whole well on lines are h =
      (h.trace, record { bound = omega (arith, well); on = λ _. on; whole = λ _. (lines, are, h.runs); part = λ ill. absurd (omega (arith, well, ill)) }, h.keeps)

  left_part : status ≡ 1 → Keeps (Holds new) T ⊎ ((lines : List ScriptLine) × AreLinesOf script lines × HasRunInPart Holds new first last opened lines) → Left
  left_part ill (inl k) =
      (T, record { bound = omega (arith, ill); on = λ well. absurd (omega (arith, well, ill)); whole = λ well. absurd (omega (arith, well, ill)); part = λ _. inl refl }, k)
  left_part ill (inr (lines, are, h)) =
      (h.trace, record { bound = omega (arith, ill); on = λ well. absurd (omega (arith, well, ill)); whole = λ well. absurd (omega (arith, well, ill)); part = λ _. inr (lines, are, h.runs) }, h.keeps)

  pub replayed : status ≤ 1 → (status ≡ 0 → flushed ≡ true) → (status ≡ 0 → (lines : List ScriptLine) × AreLinesOf script lines × HasRun Holds new first last before after opened lines)
      → Keeps (Holds new) T ⊎ ((lines : List ScriptLine) × AreLinesOf script lines × HasRunInPart Holds new first last opened lines) → Left
  replayed bound on ran kept = elim (status_is status bound) [
    | inl well ↦ let r = ran well in left_whole well (on well) r.0 r.1 r.2
    | inr ill ↦ left_part ill kept
  ]

-- ---- a conversation

module _ {V : Type 0} (Holds : V → Contents → Type 0) (new : V) (old now : Reading) (before after : Writing) (status first last : ℕ)
    (T opened : Trace) (octets written : List ℕ) (read : Reads old now octets) (wrote : Writes before after written) where
  abbrev Conversed : Type 0
  Conversed = (U : Trace) × HasConversed old now before after status first last T opened U × Keeps (Holds new) U

  abbrev AtEnd : Type 0
  AtEnd = IsAtEnd now.left

  conversed_well : status ≡ 0 → after.flushed ≡ true → HasTalked Holds new (has_grown first last) opened octets written AtEnd → Conversed
  conversed_well well on h = (
    record { base = opened.base; log = h.log },
    record {
      octets = octets;
      written = written;
      read = read;
      wrote = wrote;
      bound = omega (arith, well);
      on = λ _. on;
      whole = λ _. (h.log, refl, h.on);
      part = λ ill. absurd (omega (arith, well, ill));
    },
    h.keeps,
  )

  conversed_ill : status ≡ 1 → HasStopped Holds new (has_grown first last) (reads_failed old now) (writes_failed before after) T opened octets written AtEnd → Conversed
  conversed_ill ill (inl none) = (
    T,
    record {
      octets = octets;
      written = written;
      read = read;
      wrote = wrote;
      bound = omega (arith, ill);
      on = λ well. absurd (omega (arith, well, ill));
      whole = λ well. absurd (omega (arith, well, ill));
      part = λ _. inl (record { same = refl; unread = none.1; unwritten = none.2 });
    },
    none.0,
  )
  conversed_ill ill (inr h) = (
    record { base = opened.base; log = h.log },
    record {
      octets = octets;
      written = written;
      read = read;
      wrote = wrote;
      bound = omega (arith, ill);
      on = λ well. absurd (omega (arith, well, ill));
      whole = λ well. absurd (omega (arith, well, ill));
      part = λ _. inr (h.fault, h.log, refl, h.on);
    },
    h.keeps,
  )

  pub conversed : status ≤ 1 → (status ≡ 0 → after.flushed ≡ true) → (status ≡ 0 → HasTalked Holds new (has_grown first last) opened octets written AtEnd)
      → (status ≡ 1 → HasStopped Holds new (has_grown first last) (reads_failed old now) (writes_failed before after) T opened octets written AtEnd) → Conversed
  conversed bound on talked stopped = elim (status_is status bound) [
    | inl well ↦ conversed_well well (on well) (talked well)
    | inr ill ↦ conversed_ill ill (stopped ill)
  ]

-- ---- a look

map_alike : {A B : Type 0} (f g : A → B) (xs : List A) → ((x : A) → f x ≡ g x) → map f xs ≡ map g xs
map_alike f g [] h = refl
map_alike f g (x ∷ xs) h = ap (λ y. y ∷ map f xs) (h x) ∙ ap (λ ys. g x ∷ ys) (map_alike f g xs h)

-- records that agree have the same totals
pub totals_agree : (A B : Records) → Agree A B → totals A ≡ totals B
totals_agree A B same =
    map_alike (λ d. total_in d (in_maildrop d A.messages)) (λ d. total_in d (in_maildrop d B.messages)) (by_name A.maildrops) (λ d. ap (total_in d) (same.messages d))
    ∙ ap (map (λ d. total_in d (in_maildrop d B.messages))) same.maildrops

abbrev found_or : List Total → Result (List Total) VaultFault → List Total
found_or these (Ok found) = found
found_or these (Err refused) = these

abbrev fault_or : {B : Type 0} → VaultFault → Result B VaultFault → VaultFault
fault_or f (Ok x) = f
fault_or f (Err e) = e

pub refused_so : {A B : Type 0} (r : Result A VaultFault) (view : A → B) (e : VaultFault) → seen_as r view ≡ Err e → r ≡ Err e
refused_so (Ok x) view e h = absurd (cc)
refused_so (Err f) view e h = ap Err (ap (fault_or f) h)

pub looked_so : (these : List Total) (first last : ℕ) (answered : Result (List Total) VaultFault) → IsAnswer (Ok these) answered → (answered ≡ Err fault.Store → has_grown first last ≡ true)
    → IsLook these first last answered
looked_so these first last (Ok found) answer cause = sym (ap (found_or these) answer)
looked_so these first last (Err fault.Store) answer cause = cause refl
looked_so these first last (Err fault.NoMemory) answer cause = tt
looked_so these first last (Err fault.NoMaildrop) answer cause = cc
looked_so these first last (Err fault.Conflict) answer cause = cc
looked_so these first last (Err fault.Full) answer cause = cc
looked_so these first last (Err fault.NotEmpty) answer cause = cc
looked_so these first last (Err fault.NotOurs) answer cause = cc
looked_so these first last (Err fault.OldVersion) answer cause = cc
looked_so these first last (Err fault.NoClerk) answer cause = cc
