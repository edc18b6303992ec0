-- Worked rows of texts, digests and records.
use Rattle.std.specs.Prelude.{◌≡◌, ℕ, true, false, List, [], ◌∷◌, ◌++◌, length, replicate, refl, codes, Some, None, Ok, Err}
use Rattle.std.specs.Fmt.{digits}
use Rattle.md5.specs.Md5 as M
use Rattle.md5.specs.Md5.{md5}
use Rattle.mailtext.specs.Text.{line_end, kept_form, lines_of, stuffed_lines, multi_line, unstuffed, header_len}
use Rattle.creds.specs.Names.{is_host}
use Rattle.creds.specs.Digests.{apop_digest}
use Rattle.popline.specs.Commands.{command_of, Retr, Pass}
use Rattle.popline.specs.declared.command.LineFault.TheVariants.{Unknown, Syntax}
use Rattle.popline.specs.declared.command.Keyword.TheVariants as keyword
use Rattle.popline.specs.Replies.{Message, Greeting, RemovalDenied, InUse, bytes_of}
use Rattle.popline.specs.ReplyForm.{first_line, has_code}
use Rattle.office.proofs.Sample.{d1, d4}

a_lone_newline : length (kept_form (codes "\n")) ≡ 2
a_lone_newline = refl

only_one_return_is_dropped : lines_of (codes "a\r\r\n") ≡ codes "a\r" ∷ []
only_one_return_is_dropped = refl

kept_with_its_return : length (kept_form (codes "a\r\r\n")) ≡ 4
kept_with_its_return = refl

unfinished_with_its_return : kept_form (codes "a\r") ≡ codes "a\r\r\n"
unfinished_with_its_return = refl

nothing_kept_of_nothing : kept_form [] ≡ []
nothing_kept_of_nothing = refl

header_through_the_empty_line : header_len (lines_of d4) ≡ 8
header_through_the_empty_line = refl

-- what a client reads back
read_back : unstuffed (stuffed_lines (lines_of d1) ++ codes "." ++ line_end ++ codes "+OK") ≡ Some (kept_form d1, 25)
read_back = refl

not_yet_ended : unstuffed (stuffed_lines (lines_of d1)) ≡ None
not_yet_ended = refl

-- a reply with a message is the reply of many lines
message_reply : (ls : List (List ℕ)) → bytes_of (Message 21 (stuffed_lines ls)) ≡ multi_line (codes "+OK 21 octets") ls
unfolding digits
message_reply ls = refl

apop_with_the_rfc_digest : apop_digest (codes "<1896.697170952@dbc.mtview.ca.us>") (codes "tanstaaf")
    ≡ 0xc4 ∷ 0xc9 ∷ 0x33 ∷ 0x4b ∷ 0xac ∷ 0x56 ∷ 0x0e ∷ 0xcc ∷ 0x97 ∷ 0x9e ∷ 0x58 ∷ 0x00 ∷ 0x1b ∷ 0x3e ∷ 0x22 ∷ 0xfb ∷ []
unfolding md5 M.digest_bytes M.hash_after M.compress M.rounds M.block_words
apop_with_the_rfc_digest = refl

keyword_with_its_return : command_of (codes "NOOP\r") ≡ Err Unknown
keyword_with_its_return = refl

quit_with_an_argument : command_of (codes "QUIT x") ≡ Err (Syntax keyword.Quit)
quit_with_an_argument = refl

password_as_it_stands : command_of (codes "pass  x ") ≡ Ok (Pass (codes " x "))
password_as_it_stands = refl

no_password : command_of (codes "PASS ") ≡ Err (Syntax keyword.Pass)
no_password = refl

capped_number : command_of (codes "RETR 18446744073709551616") ≡ Ok (Retr 18446744073709551615)
capped_number = refl

host_with_parts : is_host (codes "dbc.mtview.ca.us") ≡ true
host_with_parts = refl

host_with_an_empty_part : is_host (codes "h..test") ≡ false
host_with_an_empty_part = refl

-- the longest first lines
long_greeting : length (first_line (Greeting 18446744073709551615 18446744073709551615 (replicate 64 97))) ≡ 132
unfolding digits
long_greeting = refl

long_refusal : length (first_line (RemovalDenied (replicate 32 97))) ≡ 89
long_refusal = refl

code_of_a_locked_maildrop : has_code InUse ≡ true
code_of_a_locked_maildrop = refl
