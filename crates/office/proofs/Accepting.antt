-- What an accepted deposit says of its front.
use Rattle.std.specs.Prelude.{◌≡◌, ℕ, ◌+◌, ◌≤◌, ◌<◌, Bool, true, false, ◌&&◌, nat_le, nat_lt, List, length, Option, Some, None, if◌then◌else◌}
use Rattle.std.proofs.Common.{refl, sym, ap}
use Rattle.std.proofs.lemmas.Bool.{or_parts, ltb-false, leb-false}
use Rattle.std.specs.Str.{bytes_eq}
use Rattle.mailtext.specs.Text.{kept_form}
use Rattle.creds.specs.declared.uid.Uid.{Uid}
use Rattle.creds.specs.Digests.{text_digest}
use Rattle.vault.specs.Records.{Records, receipt_of, class_count, most_octets, most_messages, most_deposits}
use Rattle.vault.specs.declared.record.Receipt.{Receipt}
use Rattle.vault.specs.Changes.{DepositAnswer, Accepted, KnownAs, deposit_answer, deposit_answered, is_full}
use Rattle.vault.specs.Changes as changes
use Rattle.office.specs.Answers.{Answer, New, Known, Conflict, Full, EmptyText, TextTooLarge, NoSuchMaildrop}
use Rattle.office.specs.History.{Entry, Tag, Done, Failed, NoMemory, Silence, Answers, Deposit, deposits, exists}
use Rattle.office.specs.Replying.{is_empty}
use Rattle.office.specs.Sessions.{present}
use Rattle.office.specs.Told.{said_to, deposited, answer_of_deposit, answers_if_done}

-- an accepted deposit: its maildrop is there and has room, its id is new, and its number is the next of its class
pub record IsTaken (B : Records) (G : List Entry) (d class id text : List ℕ) (uid : Uid) : Type 0 where
  pub some : is_empty text ≡ false
  pub size : length (kept_form text) ≤ most_octets
  pub there : exists B G d ≡ true
  pub unused : receipt_of id (deposits B G d) ≡ None
  pub room : length (present B G d) < most_messages
  pub few : class_count class (deposits B G d) < most_deposits
  pub class_is : uid.class ≡ class
  pub number : uid.k ≡ class_count class (deposits B G d) + 1

-- ---- answers apart

silent : (a : Answer) → Silence ≡ Answers a → ⊥
silent a e = cc

answered : (a : Answer) (t : Tag) (uid : Uid) → answers_if_done t a ≡ Answers (New uid) → a ≡ New uid
answered a Done uid e = cc
answered a Failed uid e = absurd (silent (New uid) e)
answered a NoMemory uid e = absurd (silent (New uid) e)

not_empty : (u : Uid) → EmptyText ≡ New u → ⊥
not_empty u e = cc

not_large : (u : Uid) → TextTooLarge ≡ New u → ⊥
not_large u e = cc

-- the text is neither empty nor too large
judged : (a b : Bool) (x : Answer) (uid : Uid) → (if a then EmptyText else if b then TextTooLarge else x) ≡ New uid → (a ≡ false) × (b ≡ false) × (x ≡ New uid)
judged true b x uid e = absurd (not_empty uid e)
judged false true x uid e = absurd (not_large uid e)
judged false false x uid e = (refl, refl, e)

not_known : (u v : Uid) → Known u ≡ New v → ⊥
not_known u v e = cc

not_nowhere : (u : Uid) → NoSuchMaildrop ≡ New u → ⊥
not_nowhere u e = cc

not_conflict : (u : Uid) → Conflict ≡ New u → ⊥
not_conflict u e = cc

not_full : (u : Uid) → Full ≡ New u → ⊥
not_full u e = cc

accepted : (a : DepositAnswer) (uid : Uid) → answer_of_deposit a ≡ New uid → a ≡ Accepted uid
accepted (Accepted u) uid e = cc
accepted (KnownAs u) uid e = absurd (not_known u uid e)
accepted changes.NoMaildrop uid e = absurd (not_nowhere uid e)
accepted changes.Conflict uid e = absurd (not_conflict uid e)
accepted changes.Full uid e = absurd (not_full uid e)

-- ---- what acceptance says

refused_known : (b : Bool) (u v : Uid) → (if b then KnownAs u else changes.Conflict) ≡ Accepted v → ⊥
refused_known true u v e = cc
refused_known false u v e = cc

refused_full : (v : Uid) → changes.Full ≡ Accepted v → ⊥
refused_full v e = cc

refused_nowhere : (v : Uid) → changes.NoMaildrop ≡ Accepted v → ⊥
refused_nowhere v e = cc

class_in : DepositAnswer → List ℕ → List ℕ
class_in (Accepted u) other = u.class
class_in _ other = other

number_in : DepositAnswer → ℕ → ℕ
number_in (Accepted u) other = u.k
number_in _ other = other

opened : (o : Option Receipt) (class text : List ℕ) (full : Bool) (next : ℕ) (uid : Uid) → deposit_answered o class text full next ≡ Accepted uid
    → (o ≡ None) × (full ≡ false) × (uid.class ≡ class) × (uid.k ≡ next)
unfolding class_in number_in
opened (Some r) class text full next uid e =
    absurd (refused_known (bytes_eq r.class class && bytes_eq r.digest (text_digest text)) (record { class = r.class; k = r.k }) uid e)
opened None class text true next uid e = absurd (refused_full uid e)
opened None class text false next uid e = (refl, refl, sym (ap (λ a. class_in a class) e), sym (ap (λ a. number_in a next) e))

found : (there : Bool) (held : ℕ) (rs : List Receipt) (class id text : List ℕ) (uid : Uid) → deposit_answer there held rs class id text ≡ Accepted uid
    → (there ≡ true) × (receipt_of id rs ≡ None) × (held < most_messages) × (class_count class rs < most_deposits) × (uid.class ≡ class) × (uid.k ≡ class_count class rs + 1)
found false held rs class id text uid e = absurd (refused_nowhere uid e)
found true held rs class id text uid e =
    let p = opened (receipt_of id rs) class text (is_full held rs class) (class_count class rs + 1) uid e in
    let q = or_parts (nat_le most_messages held) (nat_le most_deposits (class_count class rs)) p.1 in
    (refl, p.0, leb-false most_messages held q.0, leb-false most_deposits (class_count class rs) q.1, p.2, p.3)

-- a deposit that is answered as new
pub taken : (B : Records) (G : List Entry) (d class id text : List ℕ) (t : Tag) (uid : Uid)
    → Answers (New uid) ≡ said_to B G (Deposit d class id text) t → IsTaken B G d class id text uid
taken B G d class id text t uid e =
    let x = deposit_answer (exists B G d) (length (present B G d)) (deposits B G d) class id (kept_form text) in
    let j = judged (is_empty text) (nat_lt most_octets (length (kept_form text))) (answer_of_deposit x) uid (answered (deposited B G d class id text) t uid (sym e)) in
    let f = found (exists B G d) (length (present B G d)) (deposits B G d) class id (kept_form text) uid (accepted x uid j.2) in
    record {
      some = j.0;
      size = ltb-false most_octets (length (kept_form text)) j.1;
      there = f.0;
      unused = f.1;
      room = f.2;
      few = f.3;
      class_is = f.4;
      number = f.5;
    }
