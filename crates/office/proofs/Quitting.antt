-- What a QUIT asks of the store, and what it leaves.
use Rattle.std.proofs.Common.{◌≡◌, ℕ, ◌==◌, length, arith, Bool, true, false, not, List, [], ◌∷◌, Option, None, Ok, refl, sym, ◌∙◌, ap, subst}
use Rattle.std.proofs.lemmas.Bool.Decides.{nat_tests}
use Rattle.std.specs.Prelude.{map}
use Rattle.std.specs.Str.{bytes_eq}
use Rattle.creds.specs.declared.login_name.LoginName.{LoginName}
use Rattle.popline.specs.Commands.{Quit}
use Rattle.popline.specs.Replies.{RemovalFailed}
use Rattle.policy.specs.Policy.{Policy}
use Rattle.vault.specs.Records as records
use Rattle.vault.specs.Changes.{Contents, head_of, with_messages, without_keys}
use Rattle.vault.specs.Calls.{IsRefusal}
use Rattle.vault.specs.declared.answer.Head.{Head}
use Rattle.vault.specs.declared.fault.VaultFault.{VaultFault}
use Rattle.vault.specs.declared.fault.VaultFault.TheVariants as fault
use Rattle.vault.specs.declared.record.Keyed.{Keyed}
use Rattle.vault.specs.declared.record.Message.{Message}
use Rattle.session.specs.Session.{Session}
use Rattle.session.specs.Session as head
use Rattle.session.specs.View.{marked, to_remove, removed_by, denying, is_marked}
use Rattle.session.specs.declared.removed.RemovedMessage.{RemovedMessage}
use Rattle.office.specs.Replying.{quit_says, is_empty}
use Rattle.office.specs.Output.{Output, OwesReply}
use Rattle.office.specs.Transaction.{LiesIn, IsAnswered, transaction_asks, transaction_of, keys_to_remove, without_marked}
use Rattle.office.specs.declared.login_state.LineOutcome.TheVariants as outcome
use Rattle.office.proofs.Alike.{to_remove-map, denying-map, length_marked-map}
use Rattle.office.proofs.Listed.{message_of}
use Rattle.office.proofs.SmallLemmas.{and_false, quit_keeps}

-- ---- no key

without_none : (d : List ℕ) (ms : List Keyed) → without_keys d [] ms ≡ ms
without_none d [] = refl
without_none d (x ∷ xs) = let e = and_false (bytes_eq x.message.maildrop d) in rw e (ap (λ ms. x ∷ ms) (without_none d xs))

pub nothing_removed : (p : Policy) (s : Session) (c : Contents) → keys_to_remove p s ≡ [] → without_marked p s c ≡ c
nothing_removed p s c e = ap (λ (keys : List ℕ). with_messages (without_keys s.name.maildrop keys c.messages) c) e
    ∙ ap (λ (ms : List Keyed). with_messages ms c) (without_none s.name.maildrop c.messages)

-- ---- what the store answers

-- a removal is refused as any call may be
pub store_refused : (e : VaultFault) → IsRefusal {A = Unit {0}} (Ok tt) e → (e ≡ fault.NoMemory → ⊥) → e ≡ fault.Store
store_refused fault.Store r n = refl
store_refused fault.NoMemory r n = absurd (n refl)
store_refused fault.NoMaildrop r n = cc
store_refused fault.Conflict r n = cc
store_refused fault.Full r n = cc
store_refused fault.NotEmpty r n = cc
store_refused fault.NotOurs r n = cc
store_refused fault.OldVersion r n = cc
store_refused fault.NoClerk r n = cc

-- ---- the marked messages

module _ (p : Policy) (name : LoginName) where
  abbrev told_of_head : Head → RemovedMessage
  told_of_head = removed_by head.class_of head.uid_of p name

  abbrev told_of : Message → RemovedMessage
  told_of = removed_by records.class_of records.uid_of p name

  same_told : (xs : List Keyed) → map told_of_head (map head_of xs) ≡ map told_of (map message_of xs)
  same_told [] = refl
  same_told (x ∷ xs) = ap (λ (told : List RemovedMessage). told_of_head (head_of x) ∷ told) (same_told xs)

no_key : (xs : List Keyed) → not (is_empty (map message_of xs)) ≡ false → map head.key_of (map head_of xs) ≡ []
no_key [] e = refl
no_key (x ∷ xs) e = cc

some_key : (xs : List Keyed) → (map head.key_of (map head_of xs) ≡ [] → ⊥) → not (is_empty (map message_of xs)) ≡ true
some_key [] n = absurd (n refl)
some_key (x ∷ xs) n = refl

module _ (c : Contents) (p : Policy) (s : Session) (kept : List Keyed) (lies : LiesIn c s kept) where
  -- what is chosen of the stored messages
  abbrev chosen : List Keyed
  chosen = to_remove (λ (x : Keyed). x.message.class) p s.name s.marks kept

  keys_chosen : keys_to_remove p s ≡ map head.key_of (map head_of chosen)
  keys_chosen = ap (λ (view : List Head). map head.key_of (to_remove head.class_of p s.name s.marks view)) lies.heads
      ∙ ap (map head.key_of) (to_remove-map head_of head.class_of p s.name s.marks kept)

  asks_removal : (keys_to_remove p s ≡ [] → ⊥) → not (is_empty (to_remove records.class_of p s.name s.marks (map message_of kept))) ≡ true
  asks_removal n = ap (λ (ms : List Message). not (is_empty ms)) (to_remove-map message_of records.class_of p s.name s.marks kept)
      ∙ some_key chosen (λ e. n (keys_chosen ∙ e))

  pub none_asked : transaction_asks p (transaction_of s kept) (Ok Quit) ≡ false → keys_to_remove p s ≡ []
  none_asked e = keys_chosen
      ∙ no_key chosen (sym (ap (λ (ms : List Message). not (is_empty ms)) (to_remove-map message_of records.class_of p s.name s.marks kept)) ∙ e)

  pub denying_alike : denying head.class_of p s.name s.marks s.view ≡ denying records.class_of p s.name s.marks (map message_of kept)
  denying_alike = ap (λ (view : List Head). denying head.class_of p s.name s.marks view) lies.heads
      ∙ (denying-map head_of head.class_of p s.name s.marks kept ∙ sym (denying-map message_of records.class_of p s.name s.marks kept))

  -- what a QUIT's account counts
  pub marks_counted : length (marked s.marks s.view) ≡ length (marked s.marks (map message_of kept))
  marks_counted =
      ap (λ (view : List Head). length (marked s.marks view)) lies.heads
      ∙ (length_marked-map head_of s.marks kept ∙ sym (length_marked-map message_of s.marks kept))

  -- what it names as removed
  pub removed_alike : map (told_of_head p s.name) (to_remove head.class_of p s.name s.marks s.view)
      ≡ map (told_of p s.name) (to_remove records.class_of p s.name s.marks (map message_of kept))
  removed_alike =
      ap (λ (view : List Head). map (told_of_head p s.name) (to_remove head.class_of p s.name s.marks view)) lies.heads
      ∙ (ap (map (told_of_head p s.name)) (to_remove-map head_of head.class_of p s.name s.marks kept)
      ∙ (same_told p s.name chosen ∙ sym (ap (map (told_of p s.name)) (to_remove-map message_of records.class_of p s.name s.marks kept))))

  module _ (After : Contents → Type 0) (grown : Bool) (after : Output) where
    pub quit_done : (denied : Option (List ℕ)) → denied ≡ denying head.class_of p s.name s.marks s.view → OwesReply c None after (quit_says denied)
        → After (without_marked p s c) → IsAnswered After grown c p s s kept after (Ok Quit) outcome.Done
    quit_done denied e said held = record {
      owed = subst (λ (o : Option (List ℕ)). OwesReply c None after (quit_says o)) (e ∙ denying_alike) said;
      session = record {
        name = refl;
        removals = refl;
        view = refl;
        marks = λ n. ap (λ (ms : List ℕ). is_marked ms n) (sym (quit_keeps (denying records.class_of p s.name s.marks (map message_of kept)) s.marks));
      };
      held = held;
      may = λ e. cc;
      cause = λ e. cc;
    }

    pub quit_failed : OwesReply c None after RemovalFailed → (keys_to_remove p s ≡ [] → ⊥) → After c → grown ≡ true
        → IsAnswered After grown c p s s kept after (Ok Quit) outcome.Failed
    quit_failed said some held grew = record {
      owed = said;
      session = record { name = refl; removals = refl; view = refl; marks = λ n. refl };
      held = held;
      may = λ e. asks_removal some;
      cause = λ e. grew;
    }

-- ---- a list by its length

pub none_left : {A : Type 0} (xs : List A) (n : ℕ) → n ≡ length xs → (n == 0) ≡ true → xs ≡ []
none_left [] n e t = refl
none_left (x ∷ xs) n e t = absurd (grind (arith, nat_tests))

pub some_left : {A : Type 0} (xs : List A) (n : ℕ) → n ≡ length xs → (n == 0) ≡ false → xs ≡ [] → ⊥
some_left [] n e t h = grind (arith, nat_tests)
some_left (x ∷ xs) n e t h = cc
