-- Worked rows of conversations, on the sample store.
use Rattle.std.specs.Prelude.{◌≡◌, ℕ, false, List, [], ◌∷◌, ◌++◌, codes}
use Rattle.std.proofs.Common.{refl, arith}
use Rattle.std.specs.Fmt.{digits}
use Rattle.session.specs.declared.removals.Removals.TheVariants.{JudgedAtDele}
use Rattle.office.specs.LoginName.{login_name}
use Rattle.hex.specs.Hex.{decode_pairs}
use Rattle.md5.specs.Md5 as M
use Rattle.md5.specs.Md5.{md5}
use Rattle.office.specs.Cutting as cutting
use Rattle.office.specs.History.{Act, Open, Line, Gone, Restart, Tag, Done}
use Rattle.office.proofs.Sample.{W, replies}
use Rattle.converse.specs.Talk.{Talks, BreaksOff, BreaksOffReading, spoken, removed_last, left_unless_closing}

abbrev start : List (Act × Tag)
start = (Restart 7 (codes "h.test") JudgedAtDele, Done) ∷ []

abbrev marking : List ℕ
marking = codes "APOP ann/orders 34a3e97880fea19f455051f180c63e15\nDELE 1\n"

abbrev line : List ℕ → Act × Tag
line text = (Line 1 (cutting.Line text), Done)

-- a reader that ends after a mark: three replies, and the connection is gone
three_replies : Talks W 1 marking (replies (codes "+OK POP3 server ready <1.7@h.test>" ∷ codes "+OK maildrop has 4 messages (80 octets)" ∷ codes "+OK message 1 deleted" ∷ []))
    (Unit {0}) start ((Gone 1, Done) ∷ line (codes "DELE 1") ∷ line (codes "APOP ann/orders 34a3e97880fea19f455051f180c63e15") ∷ (Open 1, Done) ∷ start)
unfolding digits login_name decode_pairs md5 M.digest_bytes M.hash_after M.compress M.rounds M.block_words
three_replies = record {
  tags = Done ∷ Done ∷ [];
  each = refl;
  ample = refl;
  fit = refl;
  acts = refl;
  ended = λ e. tt;
  replies = refl;
}

-- nothing is removed by it
nothing_removed : removed_last W (left_unless_closing W 1 (spoken W 1 marking (Done ∷ Done ∷ []) start)) ≡ []
unfolding digits login_name decode_pairs md5 M.digest_bytes M.hash_after M.compress M.rounds M.block_words
nothing_removed = refl

-- what comes after a QUIT is dropped
behind_a_quit : spoken W 1 (codes "QUIT\nNOOP\n") (Done ∷ Done ∷ []) start ≡ line (codes "QUIT") ∷ (Open 1, Done) ∷ start
behind_a_quit = refl

-- a QUIT ends it, whatever the reader has left
until_a_quit : Talks W 1 (codes "NOOP\nQUIT\nNOOP\n") (replies (codes "+OK POP3 server ready <1.7@h.test>" ∷ codes "-ERR wrong state" ∷ codes "+OK bye" ∷ [])) ⊥ start
    (line (codes "QUIT") ∷ line (codes "NOOP") ∷ (Open 1, Done) ∷ start)
unfolding digits
until_a_quit = record {
  tags = Done ∷ Done ∷ Done ∷ [];
  each = refl;
  ample = refl;
  fit = refl;
  acts = refl;
  ended = λ e. cc;
  replies = refl;
}

-- a writer that fails in the midst of the first reply: the second line hasn't acted
in_the_midst : BreaksOff W 1 (codes "NOOP\nCAPA\n") (replies (codes "+OK POP3 server ready <1.7@h.test>" ∷ []) ++ codes "-ERR") false start
    ((Gone 1, Done) ∷ line (codes "NOOP") ∷ (Open 1, Done) ∷ start)
unfolding digits
in_the_midst = record {
  tags = Done ∷ [];
  some = omega arith;
  ample = λ e. refl;
  fit = refl;
  acts = refl;
  in_turn = omega arith;
  replies = refl;
}

-- a reader that fails after half a line: what was read is answered
behind_half_a_line : BreaksOffReading W 1 (codes "NOOP\nCA") (replies (codes "+OK POP3 server ready <1.7@h.test>" ∷ codes "-ERR wrong state" ∷ [])) start
    ((Gone 1, Done) ∷ line (codes "NOOP") ∷ (Open 1, Done) ∷ start)
unfolding digits
behind_half_a_line = record {
  tags = Done ∷ [];
  each = refl;
  ample = refl;
  fit = refl;
  acts = refl;
  not_closing = refl;
  replies = refl;
}
