-- What one more event says of a conversation.
use Rattle.std.proofs.Common.{◌≡◌, ℕ, ◌+◌, ◌<◌, ◌≤◌, Bool, true, false, not, ◌&&◌, List, [], ◌∷◌, ◌++◌, length, take, drop, refl, sym, ◌∙◌, ap, arith, slice_get, Some, length-append, subst, eq-eqb}
use Rattle.std.proofs.lemmas.Option.{slice_get_within}
use Rattle.std.proofs.Math.Seq.{take-add}
use Rattle.std.proofs.lemmas.List.{length-take, length-take-le, take_all, take-append-le}
use Rattle.std.proofs.lemmas.List.Folds.{list_any-append}
use Rattle.std.specs.List.{list_any}
use Rattle.popline.specs.Cutting.{Cut, cut}
use Rattle.popline.specs.Replies.{Reply, Greeting, LineTooLong, UnknownCommand, WrongState, BadArguments, Capabilities, SendPass, LoginFailed, LoginFailedClosing, DeniedBy}
use Rattle.popline.specs.Replies.{NoSuchMaildrop, InUse, MaildropHas, DropListing, ScanListing, ScanLine, UidListing, UidLine, Message, TopPart, Marked, Okay, NoSuchMessage}
use Rattle.popline.specs.Replies.{AlreadyMarked, Bye, RemovalDenied, RemovalFailed, StoreFailed, bytes_of}
use Rattle.vault.specs.Records.{Records}
use Rattle.office.specs.History.{Act, Line, Tag, Done, Failed, NoMemory, is_no_memory}
use Rattle.office.specs.Connections.{connected, closing, acted, sent}
use Rattle.office.specs.Replying.{reply_to_cut}
use Rattle.office.specs.Told.{told}
use Rattle.converse.specs.Talk.{goes_on, spoken, may_be, said_last}
use Rattle.converse.specs.Conversing.{LinesActed, Spoke}
use Rattle.converse.proofs.Lines.{further, spoken_on, fit_on, spoken_next, fit_next}

-- ---- no reply is empty

pub says_something : (r : Reply) → 0 < length (bytes_of r)
says_something (Greeting number boot host) = omega arith
says_something LineTooLong = omega arith
says_something UnknownCommand = omega arith
says_something WrongState = omega arith
says_something BadArguments = omega arith
says_something Capabilities = omega arith
says_something SendPass = omega arith
says_something LoginFailed = omega arith
says_something LoginFailedClosing = omega arith
says_something (DeniedBy rule) = omega arith
says_something NoSuchMaildrop = omega arith
says_something InUse = omega arith
says_something (MaildropHas n m) = omega arith
says_something (DropListing n m) = omega arith
says_something (ScanListing rows) = omega arith
says_something (ScanLine n m) = omega arith
says_something (UidListing rows) = omega arith
says_something (UidLine n uid) = omega arith
says_something (Message octets lines) = omega arith
says_something (TopPart lines) = omega arith
says_something (Marked n) = omega arith
says_something Okay = omega arith
says_something NoSuchMessage = omega arith
says_something (AlreadyMarked n) = omega arith
says_something Bye = omega arith
says_something (RemovalDenied rule) = omega arith
says_something RemovalFailed = omega arith
says_something StoreFailed = omega arith

-- ---- beginnings

-- a beginning is no longer than the whole
pub within : (written all : List ℕ) → written ≡ take (length written) all → length written ≤ length all
within written all e = let n = ap length e in omega (arith, n, length-take (length written) all)

-- what is all written is the whole
pub whole : (written all : List ℕ) → written ≡ take (length written) all → length all ≤ length written → written ≡ all
whole written all e h = e ∙ take_all (length written) all h

-- a beginning stays one as more is said
pub begins_longer : (written all more : List ℕ) → written ≡ take (length written) all → written ≡ take (length written) (all ++ more)
begins_longer written all more e = let h : length written ≤ length all = within written all e in e ∙ sym (take-append-le (length written) all more h)

-- so many more octets of what is left
pub begins_further : (written all : List ℕ) (n : ℕ) → written ≡ take (length written) all
    → written ++ take n (drop (length written) all) ≡ take (length written + n) all
begins_further written all n e = ap (λ (w : List ℕ). w ++ take n (drop (length written) all)) e ∙ sym (take-add (length written) n all)

pub begins_still : (written all : List ℕ) (n : ℕ) → written ≡ take (length written) all → n ≤ length (drop (length written) all)
    → written ++ take n (drop (length written) all) ≡ take (length (written ++ take n (drop (length written) all))) all
begins_still written all n e h =
    let more = take n (drop (length written) all) in
    let k : length (written ++ more) ≡ length written + n =
    length-append written more ∙ ap (λ m. length written + m) (length-take-le n (drop (length written) all) h) in
    begins_further written all n e ∙ ap (λ m. take m all) (sym k)

-- ---- what a line changes

module _ (B : Records) (c : ℕ) (H : List (Act × Tag)) (x : Cut) where
  pub line_count : (t : Tag) → acted (told B ((Line c x, t) ∷ H)) c ≡ acted (told B H) c + 1
  line_count t = let e = eq-eqb c c refl in rw e refl

  pub line_sent : (t : Tag) → sent (told B ((Line c x, t) ∷ H)) c ≡ sent (told B H) c ++ said_last (told B ((Line c x, t) ∷ H))
  line_sent t = let e = eq-eqb c c refl in rw e refl

  pub line_here : (t : Tag) → is_no_memory t ≡ false → connected (told B ((Line c x, t) ∷ H)) c ≡ connected (told B H) c
  line_here Done e = refl
  line_here Failed e = refl
  line_here NoMemory e = cc

  pub line_lost : connected (told B ((Line c x, NoMemory) ∷ H)) c ≡ false
  line_lost = let e = eq-eqb c c refl in rw e refl

  pub line_says : (t : Tag) → is_no_memory t ≡ false → 0 < length (said_last (told B ((Line c x, t) ∷ H)))
  line_says Done e = says_something (reply_to_cut B (told B H) c x Done)
  line_says Failed e = says_something (reply_to_cut B (told B H) c x Failed)
  line_says NoMemory e = cc

-- ---- what is kept of what was spoken

on_if : (a b : Bool) → a ≡ true → b ≡ false → (a && not b) ≡ true
on_if a b e f = rw (e, f) refl

none_lacked : (tags : List Tag) (t : Tag) → list_any is_no_memory tags ≡ false → is_no_memory t ≡ false → list_any is_no_memory (tags ++ t ∷ []) ≡ false
none_lacked tags t e f = list_any-append is_no_memory tags (t ∷ []) ∙ rw (e, f) refl

module _ (B : Records) (c : ℕ) (old : List (Act × Tag)) where
  -- further octets came
  pub lines_on : (octets written piece : List ℕ) (tags : List Tag) (H : List (Act × Tag)) → LinesActed B c old octets written tags H → LinesActed B c old (octets ++ piece) written tags H
  lines_on octets written piece tags H s =
      let f = further octets piece in
      record {
        some = let h = s.some in rw f.is (omega (arith, h, length-append (cut octets) f.more));
        fit = fit_on B c octets tags old piece s.some ∙ s.fit;
        are = s.are ∙ sym (spoken_on B c octets tags old piece s.some);
        in_turn = s.in_turn;
        replies = s.replies;
      }

  pub spoke_on : (octets written piece : List ℕ) (tags : List Tag) (H : List (Act × Tag)) → Spoke B c old octets written tags H → Spoke B c old (octets ++ piece) written tags H
  spoke_on octets written piece tags H s =
      record { lines = lines_on octets written piece tags H s.lines; ample = s.ample; count = s.count; here = s.here }

  -- the next line acts, if all before it is written
  pub lines_line : (octets written : List ℕ) (tags : List Tag) (H : List (Act × Tag)) → Spoke B c old octets written tags H → (x : Cut) (t : Tag) → closing (told B H) c ≡ false
      → length (sent (told B H) c) ≤ length written → slice_get (cut octets) (length tags) ≡ Some x → may_be B (told B H) c x t ≡ true
      → LinesActed B c old octets written (tags ++ t ∷ []) ((Line c x, t) ∷ H)
  lines_line octets written tags H s x t shut paid there may =
      let K = spoken B c octets tags old in
      let on : goes_on (told B K) c ≡ true = subst (λ (G : List (Act × Tag)). goes_on (told B G) c ≡ true) s.lines.are (on_if (connected (told B H) c) (closing (told B H) c) s.here shut) in
      let mayK : may_be B (told B K) c x t ≡ true = subst (λ (G : List (Act × Tag)). may_be B (told B G) c x t ≡ true) s.lines.are may in
      let n : length tags < length (cut octets) = slice_get_within (cut octets) (length tags) x there in
      record {
        some = omega (arith, n, length-append tags (t ∷ []));
        fit = fit_next B c octets tags old x t there on s.lines.fit mayK;
        are = ap (λ (G : List (Act × Tag)). (Line c x, t) ∷ G) s.lines.are ∙ sym (spoken_next B c octets tags old x t there on);
        in_turn = rw (line_sent B c H x t) (omega (arith, paid, length-append (sent (told B H) c) (said_last (told B ((Line c x, t) ∷ H)))));
        replies = rw (line_sent B c H x t) (begins_longer written (sent (told B H) c) (said_last (told B ((Line c x, t) ∷ H))) s.lines.replies);
      }

  pub spoke_line : (octets written : List ℕ) (tags : List Tag) (H : List (Act × Tag)) → Spoke B c old octets written tags H → (x : Cut) (t : Tag) → closing (told B H) c ≡ false
      → length (sent (told B H) c) ≤ length written → slice_get (cut octets) (length tags) ≡ Some x → may_be B (told B H) c x t ≡ true → is_no_memory t ≡ false
      → Spoke B c old octets written (tags ++ t ∷ []) ((Line c x, t) ∷ H)
  spoke_line octets written tags H s x t shut paid there may kept =
      record {
        lines = lines_line octets written tags H s x t shut paid there may;
        ample = none_lacked tags t s.ample kept;
        count = line_count B c H x t ∙ (let e = s.count in omega (arith, e, length-append tags (t ∷ [])));
        here = line_here B c H x t kept ∙ s.here;
      }

  -- after such a line something is owed
  pub line_owes : (octets written : List ℕ) (tags : List Tag) (H : List (Act × Tag)) → Spoke B c old octets written tags H → (x : Cut) (t : Tag) → is_no_memory t ≡ false
      → length written < length (sent (told B ((Line c x, t) ∷ H)) c)
  line_owes octets written tags H s x t kept =
      let w = within written (sent (told B H) c) s.lines.replies in
      let m = line_says B c H x t kept in
      rw (line_sent B c H x t) (omega (arith, w, m, length-append (sent (told B H) c) (said_last (told B ((Line c x, t) ∷ H)))))

  -- octets of what is owed are taken
  pub spoke_took : (octets written : List ℕ) (tags : List Tag) (H : List (Act × Tag)) → Spoke B c old octets written tags H → (n : ℕ) → n ≤ length (drop (length written) (sent (told B H) c))
      → Spoke B c old octets (written ++ take n (drop (length written) (sent (told B H) c))) tags H
  spoke_took octets written tags H s n h =
      let more = take n (drop (length written) (sent (told B H) c)) in
      record {
        lines = record {
          some = s.lines.some;
          fit = s.lines.fit;
          are = s.lines.are;
          in_turn = let k = s.lines.in_turn in omega (arith, k, length-append written more);
          replies = begins_still written (sent (told B H) c) n s.lines.replies h;
        };
        ample = s.ample;
        count = s.count;
        here = s.here;
      }
