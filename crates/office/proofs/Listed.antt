-- What a session says of its heads is what is said of the messages beneath them.
use Rattle.std.proofs.Common.{◌≡◌, ◌<◌, ◌^◌, ℕ, List, [], ◌∷◌, length, refl, sym, ◌∙◌, ap, ap₂}
use Rattle.std.specs.Prelude.{map, sum_by}
use Rattle.popline.specs.Commands.{Stat, ListAll, UidlAll, Rset}
use Rattle.popline.specs.Replies.{MaildropHas, DropListing, ScanListing, UidListing}
use Rattle.policy.specs.Policy.{Policy}
use Rattle.vault.specs.Records as records
use Rattle.vault.specs.Changes.{Contents, head_of}
use Rattle.vault.specs.declared.answer.Head.{Head}
use Rattle.vault.specs.declared.record.Keyed.{Keyed}
use Rattle.vault.specs.declared.record.Message.{Message}
use Rattle.session.specs.Session.{Session}
use Rattle.session.specs.Session as head
use Rattle.session.specs.View.{unmarked, sizes_of, uids_of, total_of}
use Rattle.office.specs.Transaction.{LiesIn, transaction_told}
use Rattle.office.proofs.Alike.{sizes_of-map, uids_of-map, total_of-map, length_unmarked-map, all_unmarked, total_unmarked}
use Rattle.office.proofs.Lying.{lies_marked}

-- a stored message without its key
abbrev pub message_of : Keyed → Message
message_of x = x.message

module _ (c : Contents) (s : Session) (kept : List Keyed) (lies : LiesIn c s kept) where
  abbrev messages : List Message
  messages = map message_of kept

  pub lengths_alike : length (unmarked s.marks s.view) ≡ length (unmarked s.marks messages)
  lengths_alike = ap (λ (view : List Head). length (unmarked s.marks view)) lies.heads
      ∙ (length_unmarked-map head_of s.marks kept ∙ sym (length_unmarked-map message_of s.marks kept))

  pub totals_alike : total_of head.octets_of (unmarked s.marks s.view) ≡ total_of records.octets_of (unmarked s.marks messages)
  totals_alike = ap (λ (view : List Head). total_of head.octets_of (unmarked s.marks view)) lies.heads
      ∙ (total_of-map head_of head.octets_of s.marks kept ∙ sym (total_of-map message_of records.octets_of s.marks kept))

  pub sizes_alike : sizes_of head.octets_of (unmarked s.marks s.view) ≡ sizes_of records.octets_of (unmarked s.marks messages)
  sizes_alike = ap (λ (view : List Head). sizes_of head.octets_of (unmarked s.marks view)) lies.heads
      ∙ (sizes_of-map head_of head.octets_of s.marks kept ∙ sym (sizes_of-map message_of records.octets_of s.marks kept))

  pub uids_alike : uids_of head.uid_of (unmarked s.marks s.view) ≡ uids_of records.uid_of (unmarked s.marks messages)
  uids_alike = ap (λ (view : List Head). uids_of head.uid_of (unmarked s.marks view)) lies.heads
      ∙ (uids_of-map head_of head.uid_of s.marks kept ∙ sym (uids_of-map message_of records.uid_of s.marks kept))

  pub stat_said : (p : Policy) (n m : ℕ) → n ≡ length (unmarked s.marks s.view)
      → (sum_by head.octets_of s.view < 2 ^ 64 → m ≡ total_of head.octets_of (unmarked s.marks s.view)) → DropListing n m ≡ transaction_told p s kept Stat
  stat_said p n m e f = ap₂ DropListing (e ∙ lengths_alike) (f lies.fits ∙ totals_alike)

  pub list_said : (p : Policy) → ScanListing (sizes_of head.octets_of (unmarked s.marks s.view)) ≡ transaction_told p s kept ListAll
  list_said p = ap ScanListing sizes_alike

  pub uidl_said : (p : Policy) → UidListing (uids_of head.uid_of (unmarked s.marks s.view)) ≡ transaction_told p s kept UidlAll
  uidl_said p = ap UidListing uids_alike

module _ (c : Contents) (s : Session) (kept : List Keyed) (lies : LiesIn c s kept) where
  abbrev unmarked_all : Session
  unmarked_all = record s { marks = [] }

  unmarked_said : (p : Policy) (n m : ℕ) → n ≡ length (unmarked [] s.view)
      → (sum_by head.octets_of s.view < 2 ^ 64 → m ≡ total_of head.octets_of (unmarked [] s.view)) → MaildropHas n m ≡ transaction_told p s kept Rset
  unmarked_said p n m e f =
      let still = lies_marked c s unmarked_all kept lies refl refl in
      ap₂ MaildropHas (e ∙ (lengths_alike c unmarked_all kept still ∙ all_unmarked (map message_of kept)))
      (f lies.fits ∙ (totals_alike c unmarked_all kept still ∙ total_unmarked records.octets_of (map message_of kept)))

  pub reset_said : (new : Session) → new ≡ unmarked_all → (p : Policy) (n m : ℕ) → n ≡ length (unmarked new.marks new.view)
      → (sum_by head.octets_of new.view < 2 ^ 64 → m ≡ total_of head.octets_of (unmarked new.marks new.view)) → MaildropHas n m ≡ transaction_told p s kept Rset
  reset_said new same p n m e f = unmarked_said p n m (rw same at e) (rw same at f)

-- what an iterator yields, looked at as it is
pub same_items : {A : Type 0} (xs : List A) → xs ≡ map (λ (x : A). x) xs
same_items [] = refl
same_items {A} (x ∷ xs) = ap (λ (ys : List A). x ∷ ys) (same_items xs)
