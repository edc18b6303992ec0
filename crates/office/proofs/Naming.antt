-- The message that a line names, among a session's heads and among the messages beneath them; and the account of its sending.
use Rattle.std.proofs.Common.{◌≡◌, ℕ, Bool, true, false, List, Option, Some, None, Result, Ok, Err, refl, sym, ◌∙◌, ap}
use Rattle.std.specs.Prelude.{map, if◌then◌else◌}
use Rattle.std.specs.Option.{option_map}
use Rattle.mailtext.specs.Text.{lines_of, stuffed_lines, top_part}
use Rattle.creds.specs.declared.login_name.LoginName.{LoginName}
use Rattle.policy.specs.Policy.{Policy}
use Rattle.policy.specs.declared.decide.Decision.{Decision}
use Rattle.popline.specs.Commands.{Command, Retr, Top, Dele}
use Rattle.popline.specs.declared.command.LineFault.{LineFault}
use Rattle.popline.specs.Replies.{Reply, NoSuchMessage, AlreadyMarked, DeniedBy, Message, TopPart}
use Rattle.vault.specs.Records.{octets_of}
use Rattle.vault.specs.Changes.{Contents, head_of}
use Rattle.vault.specs.declared.answer.Head.{Head}
use Rattle.vault.specs.declared.record.Keyed.{Keyed}
use Rattle.vault.specs.declared.record.Message.{Message as Stored}
use Rattle.session.specs.declared.pick.Pick.{Pick}
use Rattle.session.specs.declared.pick.Pick.TheVariants.{NoSuch, Deleted, Denied}
use Rattle.session.specs.declared.pick.Readable.{Readable}
use Rattle.session.specs.Session.{Session, picked, picked_for, read_answer}
use Rattle.session.specs.View.{at_number, is_marked, refer, referred, retrieval}
use Rattle.office.specs.History.{Says}
use Rattle.office.specs.Replying.{served_if}
use Rattle.office.specs.Transaction.{LiesIn, transaction_of, transaction_answered, sending}
use Rattle.office.specs.Accounts.{row_of, row_at, row_of_head, row_kept, named, named_in, reading_rule, message_told, done_told, sent_by, sending_told, told_if_done, transaction_account}
use Rattle.office.specs.declared.account.Account.{Account}
use Rattle.office.specs.declared.account.MessageCommand.{MessageCommand}
use Rattle.office.specs.declared.account.MessageCommand.TheVariants as to
use Rattle.office.specs.declared.answer.MessageRow.{MessageRow}
use Rattle.office.specs.declared.login_state.LineOutcome.{LineOutcome}
use Rattle.office.specs.declared.login_state.LineOutcome.TheVariants as outcome
use Rattle.office.proofs.Alike.{refer-map, at_number-map}
use Rattle.office.proofs.Listed.{message_of}

-- numbers that give the same messages
pub named_alike : (f g : ℕ → Option MessageRow) → ((n : ℕ) → f n ≡ g n) → (r : Result Command LineFault) → named f r ≡ named g r
named_alike f g same (Ok (Dele n)) = same n
named_alike f g same (Ok (Retr n)) = same n
named_alike f g same (Ok (Top n k)) = same n
named_alike f g same _ = refl

-- the message of a number, if its mark is known another way
pub marked_row : (view : List Stored) (n : ℕ) (a b : Bool) → a ≡ b
    → referred {B = Option MessageRow} (at_number view n) a None None (λ m. Some (row_of m)) ≡ referred (at_number view n) b None None (λ m. Some (row_of m))
marked_row view n a b e = ap (λ (b : Bool). referred {B = Option MessageRow} (at_number view n) b None None (λ m. Some (row_of m))) e

-- a number that was looked up among the heads
pub row_picked : (s : Session) (n : ℕ) (head : Head) → ◌≡◌ {A = Result Head Pick} (Ok head) (picked s n) → Some (row_of_head head) ≡ row_kept s n
row_picked s n head e = at (at_number s.view n) (is_marked s.marks n) e
  where
    at : (o : Option Head) (b : Bool) → ◌≡◌ {A = Result Head Pick} (Ok head) (referred o b (Err NoSuch) (Err Deleted) (λ h. Ok h))
        → Some (row_of_head head) ≡ referred o b None None (λ h. Some (row_of_head h))
    at None b f = absurd (cc)
    at (Some h) true f = absurd (cc)
    at (Some h) false f = let same : head ≡ h = cc in ap (λ (h : Head). Some (row_of_head h)) same

pub row_refused : (s : Session) (n : ℕ) (why : Pick) → ◌≡◌ {A = Result Head Pick} (Err why) (picked s n) → None ≡ row_kept s n
row_refused s n why e = at (at_number s.view n) (is_marked s.marks n) e
  where
    at : (o : Option Head) (b : Bool) → ◌≡◌ {A = Result Head Pick} (Err why) (referred o b (Err NoSuch) (Err Deleted) (λ h. Ok h))
        → ◌≡◌ {A = Option MessageRow} None (referred o b None None (λ h. Some (row_of_head h)))
    at None b f = refl
    at (Some h) true f = refl
    at (Some h) false f = absurd (cc)

module _ (c : Contents) (s : Session) (kept : List Keyed) (lies : LiesIn c s kept) where
  row_alike : (n : ℕ) → row_kept s n ≡ row_at s.marks (map message_of kept) n
  row_alike n =
      ap (λ (view : List Head). refer {B = Option MessageRow} s.marks view n None None (λ h. Some (row_of_head h))) lies.heads
      ∙ (refer-map head_of s.marks kept n None None (λ h. Some (row_of_head h))
      ∙ sym (refer-map message_of s.marks kept n None None (λ m. Some (row_of m))))

  -- a session's heads name the messages beneath them
  pub heads_name : (r : Result Command LineFault) → named (row_kept s) r ≡ named_in (transaction_of s kept) r
  heads_name r = named_alike (row_kept s) (row_at s.marks (map message_of kept)) row_alike r

-- ---- a RETR or TOP

abbrev head_found : Policy → LoginName → Option Keyed → Bool → Result Readable Pick
head_found p name o b = referred (option_map head_of o) b (Err NoSuch) (Err Deleted) (λ (h : Head). read_answer (retrieval p name h.class) h)

abbrev row_found : Option Keyed → Bool → Option MessageRow
row_found o b = referred (option_map message_of o) b None None (λ m. Some (row_of m))

module _ (p : Policy) (name : LoginName) (n : ℕ) (command : MessageCommand) (reply : Stored → Reply)
    (sent : (m : Stored) (rule : List ℕ) → message_told command (Says (reply m)) (Some rule) (Some (row_of m)) ≡ done_told command (Some (row_of m)) rule) where
  abbrev reply_found : Option Keyed → Bool → Reply
  reply_found o b = referred (option_map message_of o) b NoSuchMessage (AlreadyMarked n) (λ (m : Stored). served_if (retrieval p name m.class) (reply m))

  judged : (d : Decision) (x : Keyed) → sending_told command (read_answer d (head_of x)) (Some (row_of x.message))
      ≡ message_told command (Says (served_if d (reply x.message))) (Some d.rule) (Some (row_of x.message))
  judged d x = at d.allowed
    where
      at : (b : Bool) → sending_told command (if b then Ok (record { head = head_of x; rule = d.rule }) else Err (Denied d.rule)) (Some (row_of x.message))
          ≡ message_told command (Says (if b then reply x.message else DeniedBy d.rule)) (Some d.rule) (Some (row_of x.message))
      at true = sym (sent x.message d.rule)
      at false = refl

  -- by the rule for the message, if there is one
  abbrev told_found : Reply → Option MessageRow → Account
  told_found r m = message_told command (Says r) (option_map (reading_rule p name) m) m

  sent_at : (o : Option Keyed) (b : Bool) → sending_told command (head_found p name o b) (row_found o b) ≡ told_found (reply_found o b) (row_found o b)
  sent_at None b = refl
  sent_at (Some x) true = refl
  sent_at (Some x) false = judged (retrieval p name x.message.class) x

module _ (c : Contents) (p : Policy) (s : Session) (kept : List Keyed) (lies : LiesIn c s kept) (n : ℕ) where
  -- what is said of the message of the number, if it may be read
  abbrev reply_to_number : (Stored → Reply) → Reply
  reply_to_number reply = refer s.marks (map message_of kept) n NoSuchMessage (AlreadyMarked n) (λ (m : Stored). served_if (retrieval p s.name m.class) (reply m))

  picked_among : picked_for p s n ≡ head_found p s.name (at_number kept n) (is_marked s.marks n)
  picked_among =
      let view : at_number s.view n ≡ option_map head_of (at_number kept n) = ap (λ (view : List Head). at_number view n) lies.heads ∙ at_number-map head_of kept n in
      ap (λ (o : Option Head). referred {B = Result Readable Pick} o (is_marked s.marks n) (Err NoSuch) (Err Deleted) (λ (h : Head). read_answer (retrieval p s.name h.class) h)) view

  -- what is kept of a session says of a message's sending what the reply does
  sending_so : (command : MessageCommand) (reply : Stored → Reply)
      (sent : (m : Stored) (rule : List ℕ) → message_told command (Says (reply m)) (Some rule) (Some (row_of m)) ≡ done_told command (Some (row_of m)) rule)
      → sending_told command (picked_for p s n) (row_at s.marks (map message_of kept) n)
      ≡ told_found p s.name n command reply sent (reply_to_number reply) (row_at s.marks (map message_of kept) n)
  sending_so command reply sent =
      let b = is_marked s.marks n in
      let under : at_number (map message_of kept) n ≡ option_map message_of (at_number kept n) = at_number-map message_of kept n in
      let row : row_at s.marks (map message_of kept) n ≡ row_found (at_number kept n) b = ap (λ (o : Option Stored). referred {B = Option MessageRow} o b None None (λ m. Some (row_of m))) under in
      let said : reply_to_number reply ≡ reply_found p s.name n command reply sent (at_number kept n) b =
      ap (λ (o : Option Stored). referred o b NoSuchMessage (AlreadyMarked n) (λ (m : Stored). served_if (retrieval p s.name m.class) (reply m))) under in
      ap (λ (r : Result Readable Pick). sending_told command r (row_at s.marks (map message_of kept) n)) picked_among
      ∙ (ap (λ (m : Option MessageRow). sending_told command (head_found p s.name (at_number kept n) b) m) row
      ∙ (sent_at p s.name n command reply sent (at_number kept n) b
      ∙ (ap (told_found p s.name n command reply sent (reply_found p s.name n command reply sent (at_number kept n) b)) (sym row)
      ∙ ap (λ (q : Reply). told_found p s.name n command reply sent q (row_at s.marks (map message_of kept) n)) (sym said))))

  -- the account of a RETR or TOP, by whether the message may be read
  pub sent_so : (w : LineOutcome) (lines : Option ℕ) (told after : Account) → told ≡ sending_told (sent_by lines) (picked_for p s n) (row_kept s n) → after ≡ told_if_done w told
      → after ≡ transaction_account w p s (Ok (sending n lines)) (Says (transaction_answered w p (transaction_of s kept) (Ok (sending n lines)))) (named_in
      (transaction_of s kept) (Ok (sending n lines)))
  sent_so outcome.Failed None told after is so = so
  sent_so outcome.Failed (Some k) told after is so = so
  sent_so outcome.Done None told after is so = so ∙ (is ∙ (ap (sending_told to.Retr (picked_for p s n)) (row_alike c s kept lies n)
      ∙ sending_so to.Retr (λ (m : Stored). Message (octets_of m) (stuffed_lines (lines_of m.text))) (λ m rule. refl)))
  sent_so outcome.Done (Some k) told after is so = so ∙ (is ∙ (ap (sending_told to.Top (picked_for p s n)) (row_alike c s kept lies n)
      ∙ sending_so to.Top (λ (m : Stored). TopPart (stuffed_lines (top_part (lines_of m.text) k))) (λ m rule. refl)))
