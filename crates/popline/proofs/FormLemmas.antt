-- The form of every reply.
use Rattle.std.proofs.Common.{◌≡◌, ℕ, ◌+◌, ◌^◌, ◌<◌, ◌≤◌, List, [], ◌∷◌, ◌++◌, Bool, true, false, ◌==◌, cond, length, refl, sym, ◌∙◌, ap, subst, arith, ⊎_elim, inl, inr}
use Rattle.std.proofs.Common.{append_assoc, length-append, length-take, codes, lit≤, lit<, append-nil}
use Rattle.std.proofs.lemmas.Bool.{cases_Bool, eqb-true}
use Rattle.std.proofs.lemmas.Fmt.{length-decimal-le, decimal_is_IsNumeral}
use Rattle.std.specs.Str.Parse.{IsNumeral}
use Rattle.std.specs.Char.{digit_value}
use Rattle.std.specs.Fmt.{decimal}
use Rattle.creds.specs.Uid.{uid_text}
use Rattle.popline.specs.Cutting.{through_newline, taken}
use Rattle.popline.specs.Replies.{Reply, Greeting, LineTooLong, UnknownCommand, WrongState, BadArguments, Capabilities, SendPass, LoginFailed, LoginFailedClosing, DeniedBy}
use Rattle.popline.specs.Replies.{NoSuchMaildrop, InUse, MaildropHas, DropListing, ScanListing, ScanLine, UidListing, UidLine, Message, TopPart, Marked, Okay, NoSuchMessage}
use Rattle.popline.specs.Replies.{AlreadyMarked, Bye, RemovalDenied, RemovalFailed, StoreFailed, timestamp, one_line, scan_text, uid_row_text, capabilities, bytes_of}
use Rattle.popline.specs.ReplyForm.{begins_with_bracket, has_code, BeginsWithStatus, IsWellFormed, FormOfReplies}
use Rattle.std.specs.List.{flat_map}

-- ---- the length of a first line

-- the first LF is no later than any LF
line_end : (xs rest : List ℕ) → through_newline (xs ++ 10 ∷ rest) ≤ length xs + 1
line_end [] rest = omega arith
line_end (b ∷ bs) rest = by_test (b == 10) (line_end bs rest)
  where
    by_test : (t : Bool) → through_newline (bs ++ 10 ∷ rest) ≤ length bs + 1 → cond t 1 (through_newline (bs ++ 10 ∷ rest) + 1) ≤ length (b ∷ bs) + 1
    by_test true h = omega arith
    by_test false h = omega arith

-- a first line, with its CR and LF
short_first : (text rest : List ℕ) → length (taken (text ++ 13 ∷ 10 ∷ [] ++ rest)) ≤ length text + 2
short_first text rest =
    let e : text ++ 13 ∷ 10 ∷ [] ++ rest ≡ (text ++ 13 ∷ []) ++ 10 ∷ rest = simp append_assoc in
    let octets = text ++ 13 ∷ 10 ∷ [] ++ rest in
    let up_to : through_newline octets ≤ length (text ++ 13 ∷ []) + 1 = subst (λ (x : List ℕ). through_newline x ≤ length (text ++ 13 ∷ []) + 1) (sym e) (line_end (text ++ 13 ∷ []) rest) in
    omega (arith, length-append text (13 ∷ []), length-take (through_newline octets) octets)

-- a reply of one line, whose text has at most 510 octets and is no response code
one : (r : Reply) (text : List ℕ) → bytes_of r ≡ one_line text → BeginsWithStatus r → has_code r ≡ false → length text ≤ 510 → IsWellFormed r
one r text e status code h =
    let cut : length (taken (bytes_of r)) ≤ length text + 2 = subst (λ (x : List ℕ). length (taken x) ≤ length text + 2) (sym (e ∙ sym (append-nil (one_line text)))) (short_first text []) in
    record {
      status = status;
      short = omega arith;
      code = λ c. let wrong : true ≡ false = sym c ∙ code in cc;
    }

-- a reply of many lines
many : (r : Reply) (text rest : List ℕ) → bytes_of r ≡ text ++ 13 ∷ 10 ∷ [] ++ rest → BeginsWithStatus r → has_code r ≡ false → length text ≤ 510 → IsWellFormed r
many r text rest e status code h =
    let cut : length (taken (bytes_of r)) ≤ length text + 2 = subst (λ (x : List ℕ). length (taken x) ≤ length text + 2) (sym e) (short_first text rest) in
    record {
      status = status;
      short = omega arith;
      code = λ c. let wrong : true ≡ false = sym c ∙ code in cc;
    }

-- ---- numbers

-- a number begins with a digit, and so with no bracket
digit_first : (ds rest : List ℕ) → IsNumeral 10 ds → begins_with_bracket (ds ++ rest) ≡ false
digit_first [] rest (some, all) = absurd (omega arith)
digit_first (d ∷ ds) rest (some, (digit, all)) = ⊎_elim
    (λ (same : (d == 91) ≡ true).
    let at : d ≡ 91 = eqb-true d 91 same in
    let wrong : digit_value 91 < 10 = subst (λ (x : ℕ). digit_value x < 10) at digit in absurd (omega arith))
    (λ (other : (d == 91) ≡ false). other)
    (cases_Bool (d == 91))

number_first : (n : ℕ) (rest : List ℕ) → n < 2 ^ 64 → begins_with_bracket (decimal n ++ rest) ≡ false
number_first n rest h = digit_first (decimal n) rest (decimal_is_IsNumeral n h).0

digits20 : (n : ℕ) → n < 2 ^ 64 → length (decimal n) ≤ 20
digits20 n h = let far : n < 10 ^ 20 = omega arith in length-decimal-le 20 n (lit< tt) far h

-- a text that begins with a number
number_text : (n : ℕ) (x y z : List ℕ) → n < 2 ^ 64 → begins_with_bracket (decimal n ++ x ++ y ++ z) ≡ false
number_text n x y z h =
    let e : decimal n ++ x ++ y ++ z ≡ decimal n ++ (x ++ (y ++ z)) = simp append_assoc in
    ap begins_with_bracket e ∙ number_first n (x ++ (y ++ z)) h

message_text : (octets : ℕ) (lines : List ℕ) → octets < 2 ^ 64 → begins_with_bracket (decimal octets ++ codes " octets" ++ codes "\r\n" ++ lines ++ codes ".\r\n") ≡ false
message_text octets lines h =
    let e : decimal octets ++ codes " octets" ++ codes "\r\n" ++ lines ++ codes ".\r\n" ≡ decimal octets ++ codes " octets" ++ codes "\r\n" ++ (lines ++ codes ".\r\n") = simp append_assoc in
    ap begins_with_bracket e ∙ number_text octets (codes " octets") (codes "\r\n") (lines ++ codes ".\r\n") h

-- ---- each reply

pub form_of_replies : FormOfReplies
form_of_replies (Greeting number boot host) (h, g, l) =
    let a = digits20 number h in
    let b = digits20 boot g in
    one (Greeting number boot host) (codes "+OK POP3 server ready " ++ timestamp number boot host) refl (inl refl) refl (simp length-append (omega arith))
form_of_replies LineTooLong h = one LineTooLong (codes "-ERR line too long") refl (inr refl) refl (lit≤ tt)
form_of_replies UnknownCommand h = one UnknownCommand (codes "-ERR unknown command") refl (inr refl) refl (lit≤ tt)
form_of_replies WrongState h = one WrongState (codes "-ERR wrong state") refl (inr refl) refl (lit≤ tt)
form_of_replies BadArguments h = one BadArguments (codes "-ERR bad arguments") refl (inr refl) refl (lit≤ tt)
form_of_replies Capabilities h =
    many Capabilities (codes "+OK capability list follows") (flat_map one_line capabilities ++ codes ".\r\n") refl (inl refl) refl (lit≤ tt)
form_of_replies SendPass h = one SendPass (codes "+OK send PASS") refl (inl refl) refl (lit≤ tt)
form_of_replies LoginFailed h = one LoginFailed (codes "-ERR login failed") refl (inr refl) refl (lit≤ tt)
form_of_replies LoginFailedClosing h = one LoginFailedClosing (codes "-ERR login failed, closing") refl (inr refl) refl (lit≤ tt)
form_of_replies (DeniedBy rule) h = one (DeniedBy rule) (codes "-ERR denied by rule " ++ rule) refl (inr refl) refl (simp length-append (omega arith))
form_of_replies NoSuchMaildrop h = one NoSuchMaildrop (codes "-ERR no such maildrop") refl (inr refl) refl (lit≤ tt)
form_of_replies InUse h = record { status = inr refl; short = lit≤ tt; code = λ c. refl }
form_of_replies (MaildropHas n m) (h, g) =
    let a = digits20 n h in
    let b = digits20 m g in
    one (MaildropHas n m) (codes "+OK maildrop has " ++ decimal n ++ codes " messages (" ++ decimal m ++ codes " octets)") refl (inl refl) refl (simp length-append (omega arith))
form_of_replies (DropListing n m) (h, g) =
    let a = digits20 n h in
    let b = digits20 m g in
    one (DropListing n m) (codes "+OK " ++ decimal n ++ codes " " ++ decimal m) refl (inl refl) (number_text n (codes " ") (decimal m) (codes "\r\n") h) (simp length-append (omega arith))
form_of_replies (ScanListing rows) h =
    let text = codes "+OK scan listing follows" in
    let others = flat_map (λ row. one_line (scan_text row)) rows in
    many (ScanListing rows) text (others ++ codes ".\r\n") (append_assoc (one_line text) others (codes ".\r\n")) (inl refl) refl (lit≤ tt)
form_of_replies (ScanLine n octets) (h, g) =
    let a = digits20 n h in
    let b = digits20 octets g in
    one (ScanLine n octets) (codes "+OK " ++ scan_text (n, octets)) refl (inl refl) (number_text n (codes " ") (decimal octets) (codes "\r\n") h) (simp length-append (omega arith))
form_of_replies (UidListing rows) h =
    let text = codes "+OK unique-id listing follows" in
    let others = flat_map (λ row. one_line (uid_row_text row)) rows in
    many (UidListing rows) text (others ++ codes ".\r\n") (append_assoc (one_line text) others (codes ".\r\n")) (inl refl) refl (lit≤ tt)
form_of_replies (UidLine n uid) (h, g, l) =
    let a = digits20 n h in
    let b = digits20 uid.k g in
    one (UidLine n uid) (codes "+OK " ++ uid_row_text (n, uid)) refl (inl refl) (number_text n (codes " ") (uid_text uid) (codes "\r\n") h) (simp length-append (omega arith))
form_of_replies (Message octets stuffed_lines) h =
    let a = digits20 octets h in
    let text = codes "+OK " ++ decimal octets ++ codes " octets" in
    many (Message octets stuffed_lines) text (stuffed_lines ++ codes ".\r\n") (append_assoc (one_line text) stuffed_lines (codes ".\r\n")) (inl refl)
    (message_text octets stuffed_lines h) (simp length-append (omega arith))
form_of_replies (TopPart stuffed_lines) h =
    let text = codes "+OK top follows" in
    many (TopPart stuffed_lines) text (stuffed_lines ++ codes ".\r\n") (append_assoc (one_line text) stuffed_lines (codes ".\r\n")) (inl refl) refl (lit≤ tt)
form_of_replies (Marked n) h =
    let a = digits20 n h in
    one (Marked n) (codes "+OK message " ++ decimal n ++ codes " deleted") refl (inl refl) refl (simp length-append (omega arith))
form_of_replies Okay h = one Okay (codes "+OK") refl (inl refl) refl (lit≤ tt)
form_of_replies NoSuchMessage h = one NoSuchMessage (codes "-ERR no such message") refl (inr refl) refl (lit≤ tt)
form_of_replies (AlreadyMarked n) h =
    let a = digits20 n h in
    one (AlreadyMarked n) (codes "-ERR message " ++ decimal n ++ codes " is deleted") refl (inr refl) refl (simp length-append (omega arith))
form_of_replies Bye h = one Bye (codes "+OK bye") refl (inl refl) refl (lit≤ tt)
form_of_replies (RemovalDenied rule) h =
    one (RemovalDenied rule) (codes "-ERR some deleted messages not removed, denied by rule " ++ rule) refl (inr refl) refl (simp length-append (omega arith))
form_of_replies RemovalFailed h = one RemovalFailed (codes "-ERR some deleted messages not removed") refl (inr refl) refl (lit≤ tt)
form_of_replies StoreFailed h = one StoreFailed (codes "-ERR store failed") refl (inr refl) refl (lit≤ tt)
