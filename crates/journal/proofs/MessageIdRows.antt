-- Worked rows: what a Message-ID is, and what a head tells.
use Rattle.std.proofs.Common.{◌≡◌, ◌++◌, refl, true, false, Some, None}
use Rattle.std.specs.Prelude.{codes}
use Rattle.mailtext.specs.Text.{line_end}
use Rattle.journal.specs.MessageIds.{is_message_id, message_id_in}

-- the example of RFC 5322, 3.6.4, and one with a literal behind the @
row_plain : is_message_id (codes "<1234@local.machine.example>") ≡ true
row_plain = refl

row_literal : is_message_id (codes "<a.b@[192.0.2.7]>") ≡ true
row_literal = refl

-- no atom between two dots, a blank, and no brackets
row_two_dots : is_message_id (codes "<a..b@c>") ≡ false
row_two_dots = refl

row_blank : is_message_id (codes "<a b@c>") ≡ false
row_blank = refl

row_bare : is_message_id (codes "a@b") ≡ false
row_bare = refl

-- one line, in small letters and without a blank; two lines; and one with a comment
row_one : message_id_in (codes "Subject: none" ++ line_end ++ codes "message-id:<a@b>" ++ line_end) ≡ Some (codes "<a@b>")
row_one = refl

row_two : message_id_in (codes "Message-ID: <a@b>" ++ line_end ++ codes "Message-ID: <a@b>" ++ line_end) ≡ None
row_two = refl

row_comment : message_id_in (codes "Message-ID: <a@b> (by hand)" ++ line_end) ≡ None
row_comment = refl
