-- Worked rows of sessions and connections: ids over a drop and a restart, a pipelined QUIT that the store refuses, names in force, and
-- what sets the idle clock.
use Rattle.std.specs.Prelude.{◌≡◌, true, false, List, [], ◌∷◌, ◌++◌, map, replicate, refl, codes, ℕ}
use Rattle.std.specs.Fmt.{digits}
use Rattle.creds.specs.LoginName.{login_name}
use Rattle.hex.specs.Hex.{decode_pairs}
use Rattle.md5.specs.Md5 as M
use Rattle.md5.specs.Md5.{md5}
use Rattle.sha2.specs.Sha256 as S
use Rattle.sha2.specs.Sha256.{sha256}
use Rattle.mailtext.specs.Text.{line_end}
use Rattle.office.specs.Answers.{AddMaildrop, DropMaildrop, ShowMaildrop, EndSession}
use Rattle.office.specs.History.{Failed}
use Rattle.office.specs.Events.{Event, Connect, Bytes, Took, Tick, Admin, Restart, Tagged, Trace}
use Rattle.office.specs.Events as events
use Rattle.office.specs.Outcomes as outcomes
use Rattle.office.specs.Trace.{is_open}
use Rattle.office.specs.Expected.{outcome_of, may_show}
use Rattle.office.proofs.Sample.{lent, shows, both, Step, Give, Drain, Sip, run, ran, connect, says, received, replies, as_ann, ann, ann_receives, kept_ids, deposit, answered}
use Rattle.office.proofs.Sample.{pipelined, d1, d4, second_as_bob}

-- ---- ids over a drop and a restart

abbrev emptied : List Step
emptied = connect 1 ++ says 1 (as_ann ++ codes "DELE 1" ∷ codes "DELE 2" ∷ codes "DELE 3" ∷ codes "DELE 4" ∷ codes "QUIT" ∷ [])

abbrev dropped : List Step
dropped = emptied ++ Give (Admin (DropMaildrop (codes "orders"))) ∷ []

abbrev added_again : List Step
added_again = dropped ++ Give (Admin (AddMaildrop (codes "orders"))) ∷ Give (Restart 8) ∷ []

dropped_when_empty : answered (run emptied) (Admin (DropMaildrop (codes "orders"))) ≡ codes "dropped\n"
unfolding digits login_name decode_pairs md5 M.digest_bytes M.hash_after M.compress M.rounds M.block_words
dropped_when_empty = refl

-- to a known id, and to adding it again
answers_while_dropped : shows (run dropped) (λ T. answered T (deposit (codes "note") (codes "d1") d1) ∷ answered T (Admin (AddMaildrop (codes "orders"))) ∷ [])
    ≡ codes "no such maildrop\n"
    ∷ codes "added\n" ∷ []
unfolding digits login_name decode_pairs md5 M.digest_bytes M.hash_after M.compress M.rounds M.block_words
answers_while_dropped = refl

-- it is empty; to a known id, to the same of another class, and to a new one
added_again_over_a_drop : shows (run added_again)
    (λ T. answered T (Admin (ShowMaildrop (codes "orders"))) ∷ answered T (deposit (codes "note") (codes "d1") d1)
    ∷ answered T (deposit (codes "pay") (codes "d1") d1) ∷ answered T (deposit (codes "note") (codes "d6") (codes "x\n")) ∷ [])
    ≡ []
    ∷ codes "known note.1\n"
    ∷ codes "conflict\n"
    ∷ codes "new note.3\n" ∷ []
unfolding digits login_name decode_pairs md5 M.digest_bytes M.hash_after M.compress M.rounds M.block_words sha256 S.first_words S.schedule S.digest_bytes S.hash_after S.compress S.rounds
added_again_over_a_drop = refl

-- the sample's own text again, after a new deposit of its class
sample_text_over_a_restart : answered (run (connect 1 ++ says 1 (as_ann ++ codes "DELE 4" ∷ codes "QUIT" ∷ []) ++ Give (Restart 8) ∷ Give (deposit (codes "todo") (codes "d6") (codes "A: 2\n")) ∷ []))
    (deposit (codes "todo") (codes "d4") d4)
    ≡ codes "known todo.1\n"
unfolding digits login_name decode_pairs md5 M.digest_bytes M.hash_after M.compress M.rounds M.block_words sha256 S.first_words S.schedule S.digest_bytes S.hash_after S.compress S.rounds
sample_text_over_a_restart = refl

-- ---- the pipelined QUIT, if the store refuses it

-- the tenth taking is of the last two octets of the reply to DELE, and lets the QUIT act
abbrev tenth : Event
tenth = Took 1 2

abbrev refused : Trace → Trace
refused T = ran (events.given T tenth (Tagged Failed)) (Drain 1 ∷ [])

abbrev failed : Trace → outcomes.Outcome
failed T = outcome_of T (lent T) tenth Failed

-- the store may refuse it; it is said so, and nothing is removed
pipelined_quit_that_is_refused : shows (pipelined 6) (λ T. both (may_show T tenth Failed) (both (failed T) (both (received 1 (refused T)) (kept_ids (refused T)))))
    ≡ both true
    (both (outcomes.Failed)
    (both (ann_receives (codes "+OK 21 octets" ∷ codes "Subject: a" ∷ [] ∷ codes "hi" ∷ codes ".." ∷ codes "." ∷ codes "+OK message 1 deleted" ∷ codes "-ERR some deleted messages not removed" ∷ []))
    ((codes "note", 1) ∷ (codes "pay", 1) ∷ (codes "note", 2) ∷ (codes "todo", 1) ∷ (codes "note", 3) ∷ [])))
unfolding digits login_name decode_pairs md5 M.digest_bytes M.hash_after M.compress M.rounds M.block_words
pipelined_quit_that_is_refused = refl

-- the ninth taking lets nothing act, so that the store can't refuse it
ninth_taking_may_not_fail : may_show (pipelined 5) (Took 1 7) Failed ≡ false
unfolding digits login_name decode_pairs md5 M.digest_bytes M.hash_after M.compress M.rounds M.block_words
ninth_taking_may_not_fail = refl

-- ---- other refusals of the store

-- a line that shows Failed, and its reply
abbrev failing : List Step → (line : List ℕ) → Trace
failing steps line = ran (events.given (run steps) (Bytes 1 (line ++ line_end)) (Tagged Failed)) (Drain 1 ∷ [])

-- it counts as no failed credential, withdraws the name, and takes no lock
login_that_is_refused : received 1 (ran (failing (connect 1 ++ says 1 (codes "USER ann/orders" ∷ [])) (codes "PASS s3 cret"))
    (says 1 (codes "PASS s3 cret" ∷ codes "USER ann/orders" ∷ codes "PASS wrong" ∷ codes "USER ann/orders" ∷ codes "PASS wrong" ∷ as_ann)))
    ≡ replies (codes "+OK POP3 server ready <1.7@h.test>" ∷ codes "+OK send PASS" ∷ codes "-ERR store failed" ∷ codes "-ERR wrong state" ∷ codes "+OK send PASS" ∷ codes "-ERR login failed"
    ∷ codes "+OK send PASS" ∷ codes "-ERR login failed" ∷ codes "+OK maildrop has 4 messages (80 octets)" ∷ [])
unfolding digits login_name decode_pairs md5 M.digest_bytes M.hash_after M.compress M.rounds M.block_words
login_that_is_refused = refl

-- the lock is free after a QUIT that is refused
lock_free_after_a_refused_quit : received 2 (ran (failing (connect 1 ++ says 1 (as_ann ++ codes "DELE 1" ∷ [])) (codes "QUIT")) (connect 2 ++ says 2 second_as_bob))
    ≡ replies (codes "+OK POP3 server ready <2.7@h.test>" ∷ codes "+OK maildrop has 3 messages (61 octets)" ∷ [])
unfolding digits login_name decode_pairs md5 M.digest_bytes M.hash_after M.compress M.rounds M.block_words
lock_free_after_a_refused_quit = refl

message_that_is_refused : received 1 (failing (connect 1 ++ says 1 as_ann) (codes "RETR 1")) ≡ ann_receives (codes "-ERR store failed" ∷ [])
unfolding digits login_name decode_pairs md5 M.digest_bytes M.hash_after M.compress M.rounds M.block_words
message_that_is_refused = refl

-- what isn't served can't be refused
missing_message_may_not_fail : may_show (run (connect 1 ++ says 1 as_ann)) (Bytes 1 (codes "RETR 5\r\n")) Failed ≡ false
unfolding digits login_name decode_pairs md5 M.digest_bytes M.hash_after M.compress M.rounds M.block_words
missing_message_may_not_fail = refl

marked_message_may_not_fail : may_show (run (connect 1 ++ says 1 (as_ann ++ codes "DELE 1" ∷ []))) (Bytes 1 (codes "TOP 1 0\r\n")) Failed ≡ false
unfolding digits login_name decode_pairs md5 M.digest_bytes M.hash_after M.compress M.rounds M.block_words
marked_message_may_not_fail = refl

-- a later part of a message that can't be read ends the connection, and its maildrop is free
abbrev reading : List Step
reading = connect 1 ++ says 1 as_ann ++ Give (Bytes 1 (codes "RETR 1\r\nQUIT\r\n")) ∷ []

abbrev cut_short : Trace → Trace
cut_short T = events.given T (Took 1 7) (Tagged Failed)

-- the store may refuse it; the connection ends, and the next session begins
later_part_that_is_refused : shows (run reading) (λ T. both (may_show T (Took 1 7) Failed) (both (is_open (cut_short T) 1) (received 2 (ran (cut_short T) (connect 2 ++ says 2 second_as_bob)))))
    ≡ both true
    (both false
    (replies (codes "+OK POP3 server ready <2.7@h.test>" ∷ codes "+OK maildrop has 3 messages (61 octets)" ∷ [])))
unfolding digits login_name decode_pairs md5 M.digest_bytes M.hash_after M.compress M.rounds M.block_words
later_part_that_is_refused = refl

-- ---- names in force, and faulty lines

user_name_withdrawn_by_a_faulty_capa : received 1 (run (connect 1 ++ says 1 (codes "USER ann/orders" ∷ codes "CAPA x" ∷ codes "PASS s3 cret" ∷ [])))
    ≡ replies (codes "+OK POP3 server ready <1.7@h.test>" ∷ codes "+OK send PASS" ∷ codes "-ERR bad arguments" ∷ codes "-ERR wrong state" ∷ [])
unfolding digits login_name decode_pairs md5 M.digest_bytes M.hash_after M.compress M.rounds M.block_words
user_name_withdrawn_by_a_faulty_capa = refl

user_name_withdrawn_by_a_long_line : received 1 (run (connect 1 ++ says 1 (codes "USER ann/orders" ∷ replicate 254 65 ∷ codes "PASS s3 cret" ∷ [])))
    ≡ replies (codes "+OK POP3 server ready <1.7@h.test>" ∷ codes "+OK send PASS" ∷ codes "-ERR line too long" ∷ codes "-ERR wrong state" ∷ [])
unfolding digits login_name decode_pairs md5 M.digest_bytes M.hash_after M.compress M.rounds M.block_words
user_name_withdrawn_by_a_long_line = refl

pass_without_an_argument : received 1 (run (connect 1 ++ says 1 (codes "PASS" ∷ codes "USER ann/orders" ∷ codes "PASS" ∷ codes "PASS s3 cret" ∷ [])))
    ≡ replies (codes "+OK POP3 server ready <1.7@h.test>" ∷ codes "-ERR wrong state" ∷ codes "+OK send PASS" ∷ codes "-ERR bad arguments" ∷ codes "-ERR wrong state" ∷ [])
unfolding digits login_name decode_pairs md5 M.digest_bytes M.hash_after M.compress M.rounds M.block_words
pass_without_an_argument = refl

-- refused credentials count over both kinds, of clerks that aren't known too; bad arguments don't count
failed_logins_of_both_kinds : received 1 (run (connect 1 ++ says 1 (codes "APOP eve/orders c4c9334bac560ecc979e58001b3e22fb" ∷ codes "APOP ann/orders c4c9" ∷ codes "USER nobody/orders"
    ∷ codes "PASS x" ∷ codes "APOP mrose/orders c4c9334bac560ecc979e58001b3e22fb" ∷ codes "NOOP" ∷ [])))
    ≡ replies (codes "+OK POP3 server ready <1.7@h.test>" ∷ codes "-ERR login failed" ∷ codes "-ERR bad arguments" ∷ codes "+OK send PASS"
    ∷ codes "-ERR login failed" ∷ codes "-ERR login failed, closing" ∷ [])
unfolding digits login_name decode_pairs md5 M.digest_bytes M.hash_after M.compress M.rounds M.block_words
failed_logins_of_both_kinds = refl

-- it closes nothing and removes nothing, and the marks stay
quit_with_an_argument_is_no_quit : ann (codes "DELE 1" ∷ codes "QUIT now" ∷ codes "STAT" ∷ codes "USER ann/orders" ∷ codes "CAPA" ∷ [])
    ≡ ann_receives (codes "+OK message 1 deleted" ∷ codes "-ERR bad arguments" ∷ codes "+OK 3 59" ∷ codes "-ERR wrong state" ∷ codes "+OK capability list follows" ∷ codes "TOP" ∷ codes "USER"
    ∷ codes "UIDL" ∷ codes "RESP-CODES" ∷ codes "PIPELINING" ∷ codes "." ∷ [])
unfolding digits login_name decode_pairs md5 M.digest_bytes M.hash_after M.compress M.rounds M.block_words
quit_with_an_argument_is_no_quit = refl

-- listings leave out what is marked; the numbers stay
marked_numbers_left_out : ann (codes "DELE 2" ∷ codes "LIST" ∷ codes "UIDL" ∷ codes "LIST 03" ∷ codes "NOOP" ∷ [])
    ≡ ann_receives (codes "+OK message 2 deleted" ∷ codes "+OK scan listing follows" ∷ codes "1 21" ∷ codes "3 15" ∷ codes "4 25" ∷ codes "." ∷ codes "+OK unique-id listing follows" ∷ codes "1 note.1"
    ∷ codes "3 note.2" ∷ codes "4 todo.1" ∷ codes "." ∷ codes "+OK 3 15" ∷ codes "+OK" ∷ [])
unfolding digits login_name decode_pairs md5 M.digest_bytes M.hash_after M.compress M.rounds M.block_words
marked_numbers_left_out = refl

-- ---- the idle clock

-- half a line doesn't set it, and an earlier moment counts as the last
ended_with_half_a_line : is_open (run (Give (Tick 1000) ∷ connect 1 ++ Give (Tick 1500) ∷ Give (Bytes 1 (codes "NOOP")) ∷ Give (Tick 10) ∷ Give (Tick 1600) ∷ [])) 1 ≡ false
unfolding digits
ended_with_half_a_line = refl

-- taking some of what is owed sets it
abbrev taking : List Step
taking = Give (Tick 1000) ∷ connect 1 ++ Give (Bytes 1 (codes "CAPA\r\n")) ∷ Give (Tick 1500) ∷ Sip 1 1 ∷ []

open_after_a_taking : is_open (run (taking ++ Give (Tick 2099) ∷ [])) 1 ≡ true
unfolding digits
open_after_a_taking = refl

ended_after_a_taking : is_open (run (taking ++ Give (Tick 2100) ∷ [])) 1 ≡ false
unfolding digits
ended_after_a_taking = refl

-- a restart ends every connection, and moments count from nothing again
abbrev restarted : List Step
restarted = Give (Tick 1000) ∷ connect 1 ++ Give (Restart 8) ∷ []

ended_by_a_restart : is_open (run restarted) 1 ≡ false
unfolding digits
ended_by_a_restart = refl

open_after_a_restart : is_open (run (restarted ++ Give Connect ∷ Give (Tick 599) ∷ [])) 1 ≡ true
unfolding digits
open_after_a_restart = refl

ended_by_the_octet : is_open (run (connect 1 ++ map (λ b. Give (Bytes 1 (b ∷ []))) (codes "QUIT\r\n") ++ Drain 1 ∷ [])) 1 ≡ false
unfolding digits
ended_by_the_octet = refl

-- a number that is given again is no session before its login
number_given_again : answered (run (connect 1 ++ says 1 as_ann ++ Give (Restart 8) ∷ connect 1)) (Admin (EndSession 1)) ≡ codes "no such session\n"
unfolding digits login_name decode_pairs md5 M.digest_bytes M.hash_after M.compress M.rounds M.block_words
number_given_again = refl
