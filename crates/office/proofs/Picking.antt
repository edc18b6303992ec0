-- What a number of a session refers to, among its heads and among the messages beneath them.
use Rattle.std.proofs.Common.{◌≡◌, ℕ, Bool, true, false, List, Option, Some, None, Result, Ok, Err, refl, sym, ◌∙◌, ap}
use Rattle.std.specs.Prelude.{map, if◌then◌else◌}
use Rattle.policy.specs.Policy.{Policy}
use Rattle.policy.specs.declared.decide.Decision.{Decision}
use Rattle.popline.specs.Commands.{ListOne, UidlOne, Dele}
use Rattle.popline.specs.Replies.{Reply, NoSuchMessage, AlreadyMarked, DeniedBy, ScanLine, UidLine, Marked}
use Rattle.vault.specs.Records as records
use Rattle.vault.specs.Changes.{Contents, head_of}
use Rattle.vault.specs.declared.answer.Head.{Head}
use Rattle.vault.specs.declared.record.Keyed.{Keyed}
use Rattle.vault.specs.declared.record.Message.{Message as Stored}
use Rattle.session.specs.declared.pick.Pick.{Pick}
use Rattle.session.specs.declared.pick.Pick.TheVariants.{NoSuch, Deleted, Denied}
use Rattle.session.specs.declared.removals.Removals.{Removals}
use Rattle.session.specs.declared.removals.Removals.TheVariants.{JudgedAtDele, JudgedAtQuit}
use Rattle.session.specs.Session.{Session, picked, marking, mark_answer}
use Rattle.session.specs.Session as head
use Rattle.session.specs.View.{at_number, is_marked, refer, referred, removal}
use Rattle.office.specs.Replying.{deleted_if}
use Rattle.office.specs.Transaction.{LiesIn, transaction_told, refused_pick}
use Rattle.office.proofs.Alike.{refer-map}
use Rattle.office.proofs.Listed.{message_of}

-- what a reference comes to, by what it finds
abbrev pub answer_by : {A : Type 0} → (A → Reply) → ℕ → Result A Pick → Reply
answer_by found n (Ok x) = found x
answer_by found n (Err why) = refused_pick n why

referred_by : {A B : Type 0} (o : Option A) (b : Bool) (n : ℕ) (test : A → Result B Pick) (found : B → Reply) →
    answer_by found n (referred o b (Err NoSuch) (Err Deleted) test) ≡ referred o b NoSuchMessage (AlreadyMarked n) (λ x. answer_by found n (test x))
referred_by None b n test found = refl
referred_by (Some x) true n test found = refl
referred_by (Some x) false n test found = refl

referred_alike : {A B : Type 0} (o : Option A) (b : Bool) (no_such deleted : B) (f g : A → B) → ((x : A) → f x ≡ g x) →
    referred o b no_such deleted f ≡ referred o b no_such deleted g
referred_alike None b no_such deleted f g same = refl
referred_alike (Some x) true no_such deleted f g same = refl
referred_alike (Some x) false no_such deleted f g same = same x

-- what is said of a head is said of its message
pub said_alike : {B : Type 0} (c : Contents) (s : Session) (kept : List Keyed) (lies : LiesIn c s kept) (n : ℕ)
    (test : Head → Result B Pick) (found : B → Reply) (of_message : Stored → Reply)
    → ((x : Keyed) → answer_by found n (test (head_of x)) ≡ of_message x.message)
    → (r : Result B Pick) → r ≡ refer s.marks s.view n (Err NoSuch) (Err Deleted) test
    → answer_by found n r ≡ refer s.marks (map message_of kept) n NoSuchMessage (AlreadyMarked n) of_message
said_alike {B} c s kept lies n test found of_message same r e =
    let refused : Pick → Result B Pick = λ why. Err why in
    ap (answer_by found n) e
    ∙ (ap (λ (view : List Head). answer_by found n (refer s.marks view n (refused NoSuch) (refused Deleted) test)) lies.heads
    ∙ (ap (answer_by found n) (refer-map head_of s.marks kept n (refused NoSuch) (refused Deleted) test)
    ∙ (referred_by (at_number kept n) (is_marked s.marks n) n (λ x. test (head_of x)) found
    ∙ (referred_alike (at_number kept n) (is_marked s.marks n) NoSuchMessage (AlreadyMarked n) (λ x. answer_by found n (test (head_of x))) (λ x. of_message x.message) same
    ∙ sym (refer-map message_of s.marks kept n NoSuchMessage (AlreadyMarked n) of_message)))))

module _ (c : Contents) (s : Session) (kept : List Keyed) (lies : LiesIn c s kept) (p : Policy) (n : ℕ) where
  pub scan_said : (r : Result Head Pick) → r ≡ picked s n → answer_by (λ (h : Head). ScanLine n h.octets) n r ≡ transaction_told p s kept (ListOne n)
  scan_said r e = said_alike c s kept lies n (λ (h : Head). Ok h) (λ (h : Head). ScanLine n h.octets) (λ (m : Stored). ScanLine n (records.octets_of m)) (λ x. refl) r e

  pub uid_said : (r : Result Head Pick) → r ≡ picked s n → answer_by (λ (h : Head). UidLine n (head.uid_of h)) n r ≡ transaction_told p s kept (UidlOne n)
  uid_said r e = said_alike c s kept lies n (λ (h : Head). Ok h) (λ (h : Head). UidLine n (head.uid_of h)) (λ (m : Stored). UidLine n (records.uid_of m)) (λ x. refl) r e

  marked_by : (j : Removals) (d : Decision) → answer_by (λ (u : Unit {0}). Marked n) n (mark_answer j d) ≡ deleted_if j d n
  marked_by JudgedAtQuit d = refl
  marked_by JudgedAtDele d = at d.allowed
    where
      at : (b : Bool) → answer_by (λ (u : Unit {0}). Marked n) n (if b then Ok tt else Err (Denied d.rule)) ≡ (if b then Marked n else DeniedBy d.rule)
      at true = refl
      at false = refl

  pub dele_said : (r : Result (Unit {0}) Pick) → r ≡ marking p s n → answer_by (λ (u : Unit {0}). Marked n) n r ≡ transaction_told p s kept (Dele n)
  dele_said r e = said_alike c s kept lies n (λ (h : Head). mark_answer s.removals (removal p s.name h.class)) (λ (u : Unit {0}). Marked n)
      (λ (m : Stored). deleted_if s.removals (removal p s.name m.class) n) (λ x. marked_by s.removals (removal p s.name x.message.class)) r e
