-- The message under a number of a session, and its text under its key.
use Rattle.std.proofs.Common.{◌≡◌, ◌<◌, ℕ, zero, suc, Bool, true, false, not, ◌&&◌, ◌==◌, cond, List, [], ◌∷◌, length, Option, Some, None, Result, Ok, Err, slice_get, refl}
use Rattle.std.proofs.Common.{sym, ◌∙◌, ap, ap₂, subst, ⊎_elim, inl, inr, true≢false, arith}
use Rattle.std.proofs.lemmas.Bool.{and_parts, or_parts, eq-eqb}
use Rattle.std.proofs.lemmas.Slice.Eq.{bytes_eq-Decides}
use Rattle.std.specs.Prelude.{map, nat_le, nat_lt, unwrap_or, if◌then◌else◌}
use Rattle.std.specs.List.{list_any, list_all, find}
use Rattle.std.specs.Option.{option_map}
use Rattle.std.specs.Str.{bytes_eq}
use Rattle.mailtext.specs.MailText.{IsMailText}
use Rattle.mailtext.specs.Text.{kept_form, lines_of, stuffed_lines, top_part}
use Rattle.creds.specs.declared.login_name.LoginName.{LoginName}
use Rattle.policy.specs.Policy.{Policy, are_distinct}
use Rattle.policy.specs.declared.decide.Decision.{Decision}
use Rattle.popline.specs.Commands.{Retr, Top}
use Rattle.popline.specs.Replies.{Reply, NoSuchMessage, AlreadyMarked, Message, TopPart, DeniedBy, bytes_of}
use Rattle.vault.specs.Records.{Records, is_sound_message, is_one_of, is_receipt_for, octets_of, most_octets}
use Rattle.vault.specs.Changes.{Contents, AreSound, records_of, head_of}
use Rattle.vault.specs.Calls.{text_under}
use Rattle.vault.specs.declared.answer.Head.{Head}
use Rattle.vault.specs.declared.record.Keyed.{Keyed}
use Rattle.vault.specs.declared.record.Message.{Message as Stored}
use Rattle.session.specs.declared.pick.Pick.{Pick}
use Rattle.session.specs.declared.pick.Pick.TheVariants.{NoSuch, Deleted, Denied}
use Rattle.session.specs.declared.pick.Readable.{Readable}
use Rattle.session.specs.Session.{Session, picked_for, read_answer}
use Rattle.session.specs.View.{at_number, is_marked, refer, referred, retrieval, may_read}
use Rattle.office.specs.Laws.{In}
use Rattle.office.specs.Replying.{is_readable, served_if}
use Rattle.office.specs.Output.{Output, Owes, OwesReply, Reads, IsBegunAt, text_coming}
use Rattle.office.specs.Transaction.{LiesIn, GoesOn, IsAnswered, HasText, IsServed, Transaction, transaction_of, transaction_asks, transaction_told, refused_pick, sending, text_reply}
use Rattle.office.specs.declared.reading.Reading.{Reading}
use Rattle.office.specs.declared.login_state.LineOutcome.{LineOutcome}
use Rattle.office.specs.declared.login_state.LineOutcome.TheVariants as outcome
use Rattle.office.proofs.Alike.{refer-map, at_number-map}
use Rattle.office.proofs.Listed.{message_of}
use Rattle.office.proofs.Obeying.{said_so}
use Rattle.office.proofs.SmallLemmas.{nat_le-true}
use Rattle.vault.proofs.ListLemmas.{not_true}

-- ---- the message under a number

-- a number names a stored message, which isn't marked and may be read
pub record Found (p : Policy) (s : Session) (kept : List Keyed) (n : ℕ) (head : Head) : Type 0 where
  pub stored : Keyed
  pub there : In stored kept
  pub head_is : head ≡ head_of stored
  pub at : at_number kept n ≡ Some stored
  pub unmarked : is_marked s.marks n ≡ false
  pub readable : may_read p s.name stored.message.class ≡ true

there_at : {A : Type 0} (xs : List A) (n : ℕ) (x : A) → slice_get xs n ≡ Some x → In x xs
there_at [] n x e = cc
there_at (y ∷ ys) zero x e = inl cc
there_at (y ∷ ys) (suc n) x e = inr (there_at ys n x e)

in_at_number : {A : Type 0} (xs : List A) (n : ℕ) (x : A) → at_number xs n ≡ Some x → In x xs
in_at_number xs zero x e = cc
in_at_number xs (suc n) x e = there_at xs n x e

abbrev head_referred : Policy → LoginName → Option Keyed → Bool → Result Readable Pick
head_referred p name o b = referred (option_map head_of o) b (Err NoSuch) (Err Deleted) (λ (h : Head). read_answer (retrieval p name h.class) h)

-- a head that is let be read
read : (b : Bool) (rule : List ℕ) (may : Readable) (h : Head) → ◌≡◌ {A = Result Readable Pick} (Ok may) (if b then Ok (record { head = h; rule = rule }) else Err (Denied rule))
    → (may.head ≡ h) × (b ≡ true)
read true rule may h e = let same : may ≡ record { head = h; rule = rule } = cc in (ap (λ (r : Readable). r.head) same, refl)
read false rule may h e = absurd (cc)

found_at : (p : Policy) (s : Session) (kept : List Keyed) (n : ℕ) (may : Readable) (o : Option Keyed) → at_number kept n ≡ o → (b : Bool) → is_marked s.marks n ≡ b
    → ◌≡◌ {A = Result Readable Pick} (Ok may) (head_referred p s.name o b) → Found p s kept n may.head
found_at p s kept n may None e b f h = absurd (cc)
found_at p s kept n may (Some x) e true f h = absurd (cc)
found_at p s kept n may (Some x) e false f h =
    let d = retrieval p s.name x.message.class in
    let r = read d.allowed d.rule may (head_of x) h in
    record { stored = x; there = in_at_number kept n x e; head_is = r.0; at = e; unmarked = f; readable = r.1 }

-- a reference among the heads, as one among what is stored
among : (c : Contents) (p : Policy) (s : Session) (kept : List Keyed) → LiesIn c s kept → (n : ℕ) → picked_for p s n ≡ head_referred p s.name (at_number kept n) (is_marked s.marks n)
among c p s kept lies n =
    let view : at_number s.view n ≡ option_map head_of (at_number kept n) = ap (λ (view : List Head). at_number view n) lies.heads ∙ at_number-map head_of kept n in
    ap (λ (o : Option Head). referred {B = Result Readable Pick} o (is_marked s.marks n) (Err NoSuch) (Err Deleted) (λ (h : Head). read_answer (retrieval p s.name h.class) h)) view

pub found : (c : Contents) (p : Policy) (s : Session) (kept : List Keyed) → LiesIn c s kept → (n : ℕ) (may : Readable)
    → ◌≡◌ {A = Result Readable Pick} (Ok may) (picked_for p s n) → Found p s kept n may.head
found c p s kept lies n may e = found_at p s kept n may (at_number kept n) refl (is_marked s.marks n) refl (e ∙ among c p s kept lies n)

-- what is refused is named: there is no such message, it is marked, or its reading is denied
refused_read : (d : Decision) (n : ℕ) (why : Pick) (h : Head) (reply : Reply) → ◌≡◌ {A = Result Readable Pick} (Err why) (read_answer d h) → refused_pick n why ≡ served_if d reply
refused_read d n why h reply e = at d.allowed e
  where
    at : (b : Bool) → ◌≡◌ {A = Result Readable Pick} (Err why) (if b then Ok (record { head = h; rule = d.rule }) else Err (Denied d.rule))
        → refused_pick n why ≡ (if b then reply else DeniedBy d.rule)
    at true f = absurd (cc)
    at false f = let same : why ≡ Denied d.rule = cc in ap (refused_pick n) same

refused_at : (p : Policy) (name : LoginName) (n : ℕ) (why : Pick) (reply : Stored → Reply) (o : Option Keyed) (b : Bool)
    → ◌≡◌ {A = Result Readable Pick} (Err why) (head_referred p name o b)
    → refused_pick n why ≡ referred o b NoSuchMessage (AlreadyMarked n) (λ (x : Keyed). served_if (retrieval p name x.message.class) (reply x.message))
refused_at p name n why reply None b e = let same : why ≡ NoSuch = cc in ap (refused_pick n) same
refused_at p name n why reply (Some x) true e = let same : why ≡ Deleted = cc in ap (refused_pick n) same
refused_at p name n why reply (Some x) false e = refused_read (retrieval p name x.message.class) n why (head_of x) (reply x.message) e

refused_said : (c : Contents) (p : Policy) (s : Session) (kept : List Keyed) → LiesIn c s kept → (n : ℕ) (why : Pick) (reply : Stored → Reply)
    → ◌≡◌ {A = Result Readable Pick} (Err why) (picked_for p s n)
    → refused_pick n why ≡ refer s.marks (map message_of kept) n NoSuchMessage (AlreadyMarked n) (λ (m : Stored). served_if (retrieval p s.name m.class) (reply m))
refused_said c p s kept lies n why reply e =
    refused_at p s.name n why reply (at_number kept n) (is_marked s.marks n) (e ∙ among c p s kept lies n)
    ∙ sym (refer-map message_of s.marks kept n NoSuchMessage (AlreadyMarked n) (λ (m : Stored). served_if (retrieval p s.name m.class) (reply m)))

-- a refusal changes no mark
pub refused_goes_on : (n : ℕ) (why : Pick) (s : Session) → GoesOn (refused_pick n why) s s
refused_goes_on n NoSuch s = record { name = refl; removals = refl; view = refl; marks = λ m. refl }
refused_goes_on n Deleted s = record { name = refl; removals = refl; view = refl; marks = λ m. refl }
refused_goes_on n (Denied rule) s = record { name = refl; removals = refl; view = refl; marks = λ m. refl }

-- ---- what is said of it

module _ (c : Contents) (p : Policy) (s : Session) (kept : List Keyed) (n : ℕ) (head : Head) (f : Found p s kept n head) where
  said_of : (reply : Stored → Reply)
      → refer s.marks (map message_of kept) n NoSuchMessage (AlreadyMarked n) (λ (m : Stored). served_if (retrieval p s.name m.class) (reply m)) ≡ reply f.stored.message
  said_of reply =
      let d = retrieval p s.name f.stored.message.class in
      refer-map message_of s.marks kept n NoSuchMessage (AlreadyMarked n) (λ (m : Stored). served_if (retrieval p s.name m.class) (reply m))
      ∙ ap₂ (λ (o : Option Keyed) (b : Bool). referred o b NoSuchMessage (AlreadyMarked n) (λ (x : Keyed). served_if (retrieval p s.name x.message.class) (reply x.message))) f.at f.unmarked
      ∙ ap (λ (b : Bool). if b then reply f.stored.message else DeniedBy d.rule) f.readable

  pub message_said : Message (length f.stored.message.text) (stuffed_lines (lines_of f.stored.message.text)) ≡ transaction_told p s kept (Retr n)
  message_said = sym (said_of (λ (m : Stored). Message (octets_of m) (stuffed_lines (lines_of m.text))))

  pub top_said : (lines : ℕ) → TopPart (stuffed_lines (top_part (lines_of f.stored.message.text) lines)) ≡ transaction_told p s kept (Top n lines)
  top_said lines = sym (said_of (λ (m : Stored). TopPart (stuffed_lines (top_part (lines_of m.text) lines))))

  pub is_asked : is_readable p s.name (at_number (map message_of kept) n) (is_marked s.marks n) ≡ true
  is_asked = ap (λ (o : Option Stored). is_readable p s.name o (is_marked s.marks n)) (at_number-map message_of kept n ∙ ap (option_map message_of) f.at)
      ∙ ap₂ (λ (b d : Bool). not b && d) f.unmarked f.readable

-- it is a number that asks for its message
asks_for : (c : Contents) (p : Policy) (s : Session) (kept : List Keyed) → LiesIn c s kept → (n : ℕ) (may : Readable) → ◌≡◌ {A = Result Readable Pick} (Ok may) (picked_for p s n)
    → is_readable p s.name (at_number (map message_of kept) n) (is_marked s.marks n) ≡ false → ⊥
asks_for c p s kept lies n may e none = true≢false (sym (is_asked c p s kept n may.head (found c p s kept lies n may e)) ∙ none)

-- a RETR or TOP asks for its message, and leaves the store as it is
sending_asks : (p : Policy) (v : Transaction) (n : ℕ) (lines : Option ℕ) → transaction_asks p v (Ok (sending n lines)) ≡ is_readable p v.name (at_number v.view n) (is_marked v.marks n)
sending_asks p v n None = refl
sending_asks p v n (Some k) = refl

pub sending_found : (c : Contents) (p : Policy) (s : Session) (kept : List Keyed) → LiesIn c s kept → (n : ℕ) (lines : Option ℕ) (may : Readable)
    → ◌≡◌ {A = Result Readable Pick} (Ok may) (picked_for p s n)
    → transaction_asks p (transaction_of s kept) (Ok (sending n lines)) ≡ false → ⊥
sending_found c p s kept lies n lines may e none = asks_for c p s kept lies n may e (sym (sending_asks p (transaction_of s kept) n lines) ∙ none)

-- ---- the text under a key

find_at : (x : Keyed) (b : Bool) (o : Option Keyed) → b ≡ true → cond b (Some x) o ≡ Some x
find_at x true o e = refl
find_at x false o e = absurd (true≢false (sym e))

find_past : (y : Keyed) (b : Bool) (o : Option Keyed) → b ≡ false → cond b (Some y) o ≡ o
find_past y true o e = absurd (true≢false e)
find_past y false o e = refl

apart_in : (y : Keyed) (xs : List Keyed) (x : Keyed) → list_any (λ (z : Keyed). y.key == z.key) xs ≡ false → In x xs → (y.key == x.key) ≡ false
apart_in y [] x e i = absurd i
apart_in y (z ∷ zs) x e i =
    let r = or_parts (y.key == z.key) (list_any (λ (z : Keyed). y.key == z.key) zs) e in
    ⊎_elim (λ (same : x ≡ z). ap (λ (w : Keyed). y.key == w.key) same ∙ r.0) (λ k. apart_in y zs x r.1 k) i

pub find_key : (xs : List Keyed) → are_distinct (λ (x y : Keyed). x.key == y.key) xs ≡ true → (x : Keyed) → In x xs → find (λ (y : Keyed). y.key == x.key) xs ≡ Some x
find_key [] d x i = absurd i
find_key (y ∷ ys) d x i =
    let r = and_parts (not (list_any (λ (z : Keyed). y.key == z.key) ys)) (are_distinct (λ (x y : Keyed). x.key == y.key) ys) d in
    let none = not_true (list_any (λ (z : Keyed). y.key == z.key) ys) r.0 in
    ⊎_elim
    (λ (same : x ≡ y). find_at y (y.key == x.key) (find (λ (z : Keyed). z.key == x.key) ys) (eq-eqb y.key x.key (ap (λ (w : Keyed). w.key) (sym same))) ∙ ap (λ (w : Keyed). Some w) (sym same))
    (λ k. find_past y (y.key == x.key) (find (λ (z : Keyed). z.key == x.key) ys) (apart_in y ys x none k) ∙ find_key ys r.1 x k) i

pub text_at : (c : Contents) → AreSound c → (x : Keyed) → In x c.messages → text_under x.key c.messages ≡ x.message.text
text_at c sound x i = ap (λ (o : Option Keyed). unwrap_or (option_map (λ (y : Keyed). y.message.text) o) []) (find_key c.messages sound.keys x i)

all_in : (p : Stored → Bool) (xs : List Keyed) → list_all p (map message_of xs) ≡ true → (x : Keyed) → In x xs → p x.message ≡ true
all_in p [] h x i = absurd i
all_in p (y ∷ ys) h x i =
    let r = and_parts (p y.message) (list_all p (map message_of ys)) h in
    ⊎_elim (λ (same : x ≡ y). ap (λ (z : Keyed). p z.message) same ∙ r.0) (λ k. all_in p ys r.1 x k) i

not_empty : (xs : List ℕ) → nat_lt 0 (length xs) ≡ true → xs ≡ [] → ⊥
not_empty [] e h = absurd (true≢false (sym e))
not_empty (x ∷ xs) e h = cc

text_form : (B : Records) (m : Stored) → is_sound_message B m ≡ true → IsMailText m.text
text_form B m h =
    let a = and_parts (bytes_eq (kept_form m.text) m.text && nat_lt 0 (octets_of m) && nat_le (octets_of m) most_octets && is_one_of m.maildrop B.maildrops)
    (list_any (is_receipt_for m) B.deposits) h in
    let b = and_parts (bytes_eq (kept_form m.text) m.text && nat_lt 0 (octets_of m) && nat_le (octets_of m) most_octets) (is_one_of m.maildrop B.maildrops) a.0 in
    let d = and_parts (bytes_eq (kept_form m.text) m.text && nat_lt 0 (octets_of m)) (nat_le (octets_of m) most_octets) b.0 in
    let e = and_parts (bytes_eq (kept_form m.text) m.text) (nat_lt 0 (octets_of m)) d.0 in
    record {
      nonempty = not_empty m.text e.1;
      kept = (bytes_eq-Decides (kept_form m.text) m.text).0 e.0;
      within = nat_le-true (octets_of m) most_octets d.1;
    }

pub has_text : (c : Contents) → AreSound c → (x : Keyed) → In x c.messages → HasText c x.key (octets_of x.message)
has_text c sound x i =
    let same = text_at c sound x i in
    let form = text_form (records_of c) x.message (all_in (is_sound_message (records_of c)) c.messages sound.records.messages x i) in
    record { size = ap length same; form = subst (λ (text : List ℕ). IsMailText text) (sym same) form }

-- ---- what becomes of a line that asks for a text

-- the text under a head that a number found
pub found_text : (c : Contents) → AreSound c → (p : Policy) (s : Session) (kept : List Keyed) (lies : LiesIn c s kept) (n : ℕ) (head : Head) (f : Found p s kept n head)
    → HasText c head.key head.octets × (text_under head.key c.messages ≡ f.stored.message.text)
found_text c sound p s kept lies n head f =
    let there = lies.there f.stored f.there in (
      subst (λ (h : Head). HasText c h.key h.octets) (sym f.head_is) (has_text c sound f.stored there),
      ap (λ (h : Head). text_under h.key c.messages) f.head_is ∙ text_at c sound f.stored there,
    )

-- why a message isn't found is what the session says
module _ (c : Contents) (p : Policy) (s : Session) (kept : List Keyed) (lies : LiesIn c s kept) (n : ℕ) (why : Pick) (e : ◌≡◌ {A = Result Readable Pick} (Err why) (picked_for p s n)) where
  retrieve_refused : refused_pick n why ≡ transaction_told p s kept (Retr n)
  retrieve_refused = refused_said c p s kept lies n why (λ (m : Stored). Message (octets_of m) (stuffed_lines (lines_of m.text))) e

  top_refused : (lines : ℕ) → refused_pick n why ≡ transaction_told p s kept (Top n lines)
  top_refused lines = refused_said c p s kept lies n why (λ (m : Stored). TopPart (stuffed_lines (top_part (lines_of m.text) lines))) e

  -- what becomes of the line then
  pub sending_denied : (After : Contents → Type 0) (grown : Bool) (after : Output) (lines : Option ℕ) (w : LineOutcome) → w ≡ outcome.Done → OwesReply c (Some s) after (refused_pick n why) → After c
      → IsAnswered After grown c p s s kept after (Ok (sending n lines)) w
  sending_denied After grown after None w e said held =
      said_so After grown c p s s kept after (Ok (Retr n)) w (refused_pick n why) e said retrieve_refused (refused_goes_on n why s) held
  sending_denied After grown after (Some k) w e said held =
      said_so After grown c p s s kept after (Ok (Top n k)) w (refused_pick n why) e said (top_refused k) (refused_goes_on n why s) held

some_octets : (xs : List ℕ) → (xs ≡ [] → ⊥) → 0 < length xs
some_octets [] h = absurd (h refl)
some_octets (x ∷ xs) h = omega arith

module _ (c : Contents) (sound : AreSound c) (p : Policy) (s : Session) (kept : List Keyed) (lies : LiesIn c s kept) (n : ℕ) (head : Head) (f : Found p s kept n head) where
  abbrev pub text : List ℕ
  text = f.stored.message.text

  -- it is kept in its form
  pub form : IsMailText text
  form = let has = found_text c sound p s kept lies n head f in subst (λ (xs : List ℕ). IsMailText xs) has.1 has.0.form

  pub size : length text ≡ head.octets
  size = sym (ap (λ (h : Head). h.octets) f.head_is)

  -- a reading of it from its beginning on
  pub begins : (r : Reading) → IsBegunAt head r → Reads c s r (text_coming r text)
  begins r at = record {
    stored = f.stored;
    there = lies.there f.stored f.there;
    within = lies.within f.stored f.there;
    key = sym (at.key ∙ ap (λ (h : Head). h.key) f.head_is);
    begun = record { size = size ∙ sym at.octets; left = let some = some_octets text form.nonempty in omega (arith, some, at.place, at.octets, size) };
    coming = refl;
  }

  module _ (After : Contents → Type 0) (grown : Bool) (o : Output) where
    -- what became of a RETR whose reply was to be these octets
    retrieved : (w : LineOutcome) (octets : List ℕ) → octets ≡ bytes_of (Message (length text) (stuffed_lines (lines_of text))) → IsServed After grown c s octets o w
        → IsAnswered After grown c p s s kept o (Ok (Retr n)) w
    retrieved outcome.Done octets is served =
        let e = message_said c p s kept n head f in
        record {
          owed = subst (λ (r : Reply). OwesReply c (Some s) o r) e (record { owes = subst (λ xs. Owes c (Some s) o xs) is served.owed; serves = λ h. refl });
          session = subst (λ (r : Reply). GoesOn r s s) e (record { name = refl; removals = refl; view = refl; marks = λ m. refl });
          held = served.held;
          may = λ e. cc;
          cause = λ e. cc;
        }
    retrieved outcome.Failed octets is served = record {
      owed = served.owed.0;
      session = record { name = refl; removals = refl; view = refl; marks = λ m. refl };
      held = served.held;
      may = λ e. is_asked c p s kept n head f;
      cause = λ e. served.owed.1;
    }

    -- the same of a TOP
    topped : (lines : ℕ) (w : LineOutcome) (octets : List ℕ) → octets ≡ bytes_of (TopPart (stuffed_lines (top_part (lines_of text) lines))) → IsServed After grown c s octets o w
        → IsAnswered After grown c p s s kept o (Ok (Top n lines)) w
    topped lines outcome.Done octets is served =
        let e = top_said c p s kept n head f lines in
        record {
          owed = subst (λ (r : Reply). OwesReply c (Some s) o r) e (record { owes = subst (λ xs. Owes c (Some s) o xs) is served.owed; serves = λ h. refl });
          session = subst (λ (r : Reply). GoesOn r s s) e (record { name = refl; removals = refl; view = refl; marks = λ m. refl });
          held = served.held;
          may = λ e. cc;
          cause = λ e. cc;
        }
    topped lines outcome.Failed octets is served = record {
      owed = served.owed.0;
      session = record { name = refl; removals = refl; view = refl; marks = λ m. refl };
      held = served.held;
      may = λ e. is_asked c p s kept n head f;
      cause = λ e. served.owed.1;
    }

    pub sent : (lines : Option ℕ) (w : LineOutcome) (octets : List ℕ) → octets ≡ bytes_of (text_reply lines text) → IsServed After grown c s octets o w
        → IsAnswered After grown c p s s kept o (Ok (sending n lines)) w
    sent None = retrieved
    sent (Some k) = topped k
