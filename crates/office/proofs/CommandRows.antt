-- Worked rows of commands, on traces.
use Rattle.std.specs.Prelude.{◌≡◌, true, false, [], ◌∷◌, ◌++◌, replicate, refl, codes}
use Rattle.std.specs.List.{flat_map}
use Rattle.std.specs.Fmt.{digits}
use Rattle.creds.specs.LoginName.{login_name}
use Rattle.hex.specs.Hex.{decode_pairs}
use Rattle.md5.specs.Md5 as M
use Rattle.md5.specs.Md5.{md5}
use Rattle.sha2.specs.Sha256 as S
use Rattle.sha2.specs.Sha256.{sha256}
use Rattle.mailtext.specs.Text.{line_end}
use Rattle.policy.specs.declared.rule.Action.TheVariants as to
use Rattle.office.specs.Answers.{ShowMaildrop, ListMaildrops, ListSessions, EndSession, Explain, DropMaildrop, AddMaildrop}
use Rattle.office.specs.Events.{Connect, Bytes, Gone, Admin}
use Rattle.office.specs.Outcomes.{Ignored, PieceTooLong, TooManyConnections}
use Rattle.office.specs.Trace.{is_open}
use Rattle.office.proofs.Sample.{shows, both, run, connect, gives, says, received, replies, Give, Drain, outcome, as_ann, as_bob, ann, ann_receives, kept_ids, deposit, answered}
use Rattle.office.proofs.Sample.{pipelined, connects, second_as_bob}

capability_list_octet_by_octet : received 1 (run (connect 1 ++ flat_map (λ b. Give (Bytes 1 (b ∷ [])) ∷ Drain 1 ∷ []) (codes "CAPA\r\nQUIT\r\n")))
    ≡ replies (codes "+OK POP3 server ready <1.7@h.test>" ∷ codes "+OK capability list follows" ∷ codes "TOP" ∷ codes "USER" ∷ codes "UIDL"
    ∷ codes "RESP-CODES" ∷ codes "PIPELINING" ∷ codes "." ∷ codes "+OK bye" ∷ [])
unfolding digits login_name decode_pairs md5 M.digest_bytes M.hash_after M.compress M.rounds M.block_words
capability_list_octet_by_octet = refl

capability_list_in_one_piece : received 1 (run (connect 1 ++ gives 1 (codes "CAPA\r\nQUIT\r\n")))
    ≡ replies (codes "+OK POP3 server ready <1.7@h.test>" ∷ codes "+OK capability list follows" ∷ codes "TOP" ∷ codes "USER" ∷ codes "UIDL"
    ∷ codes "RESP-CODES" ∷ codes "PIPELINING" ∷ codes "." ∷ codes "+OK bye" ∷ [])
unfolding digits login_name decode_pairs md5 M.digest_bytes M.hash_after M.compress M.rounds M.block_words
capability_list_in_one_piece = refl

ended_by_quit : is_open (run (connect 1 ++ gives 1 (codes "CAPA\r\nQUIT\r\n"))) 1
    ≡ false
unfolding digits login_name decode_pairs md5 M.digest_bytes M.hash_after M.compress M.rounds M.block_words
ended_by_quit = refl

line_length_limit : received 1 (run
    (connect 1 ++ gives 1 (codes "NOOP" ++ replicate 249 32 ++ line_end) ++ gives 1 (codes "NOOP" ++ replicate 250 32 ++ line_end) ++ gives 1 (codes "NOOP" ++ replicate 250 32 ++ codes "\n")))
    ≡ replies (codes "+OK POP3 server ready <1.7@h.test>" ∷ codes "-ERR wrong state" ∷ codes "-ERR line too long" ∷ codes "-ERR wrong state" ∷ [])
unfolding digits login_name decode_pairs md5 M.digest_bytes M.hash_after M.compress M.rounds M.block_words
line_length_limit = refl

retrieve_with_dots : ann (codes "RETR 1" ∷ [])
    ≡ ann_receives (codes "+OK 21 octets" ∷ codes "Subject: a" ∷ [] ∷ codes "hi" ∷ codes ".." ∷ codes "." ∷ [])
unfolding digits login_name decode_pairs md5 M.digest_bytes M.hash_after M.compress M.rounds M.block_words
retrieve_with_dots = refl

top_without_header_end : ann (codes "TOP 3 0" ∷ [])
    ≡ ann_receives (codes "+OK top follows" ∷ codes "no header end" ∷ codes "." ∷ [])
unfolding digits login_name decode_pairs md5 M.digest_bytes M.hash_after M.compress M.rounds M.block_words
top_without_header_end = refl

top_line_counts : ann (codes "TOP 4 0" ∷ codes "TOP 4 1" ∷ codes "TOP 4 3" ∷ codes "TOP 4 18446744073709551616" ∷ [])
    ≡ ann_receives (codes "+OK top follows" ∷ codes "A: 1" ∷ [] ∷ codes "." ∷ codes "+OK top follows" ∷ codes "A: 1" ∷ [] ∷ codes "one" ∷ codes "."
    ∷ codes "+OK top follows" ∷ codes "A: 1" ∷ [] ∷ codes "one" ∷ codes "two" ∷ codes "three" ∷ codes "." ∷ codes "+OK top follows" ∷ codes "A: 1"
    ∷ [] ∷ codes "one" ∷ codes "two" ∷ codes "three" ∷ codes "." ∷ [])
unfolding digits login_name decode_pairs md5 M.digest_bytes M.hash_after M.compress M.rounds M.block_words
top_line_counts = refl

user_name_in_force_over_capa : received 1 (run (connect 1 ++ says 1 (codes "USER bob/orders" ∷ codes "user eve/orders" ∷ codes "CAPA" ∷ codes "pass any one" ∷ [])))
    ≡ replies (codes "+OK POP3 server ready <1.7@h.test>" ∷ codes "+OK send PASS" ∷ codes "+OK send PASS" ∷ codes "+OK capability list follows"
    ∷ codes "TOP" ∷ codes "USER" ∷ codes "UIDL" ∷ codes "RESP-CODES" ∷ codes "PIPELINING" ∷ codes "." ∷ codes "+OK maildrop has 0 messages (0 octets)" ∷ [])
unfolding digits login_name decode_pairs md5 M.digest_bytes M.hash_after M.compress M.rounds M.block_words sha256 S.first_words S.schedule S.digest_bytes S.hash_after S.compress S.rounds
user_name_in_force_over_capa = refl

user_name_withdrawn : received 1 (run (connect 1 ++ says 1 (codes "USER ann/orders" ∷ codes "XYZZY" ∷ codes "PASS s3 cret" ∷ [])))
    ≡ replies (codes "+OK POP3 server ready <1.7@h.test>" ∷ codes "+OK send PASS" ∷ codes "-ERR unknown command" ∷ codes "-ERR wrong state" ∷ [])
unfolding digits login_name decode_pairs md5 M.digest_bytes M.hash_after M.compress M.rounds M.block_words
user_name_withdrawn = refl

password_with_a_space : received 1 (run (connect 1 ++ says 1 (codes "USER eve/orders" ∷ codes "PASS any one " ∷ [])))
    ≡ replies (codes "+OK POP3 server ready <1.7@h.test>" ∷ codes "+OK send PASS" ∷ codes "-ERR login failed" ∷ [])
unfolding digits login_name decode_pairs md5 M.digest_bytes M.hash_after M.compress M.rounds M.block_words sha256 S.first_words S.schedule S.digest_bytes S.hash_after S.compress S.rounds
password_with_a_space = refl

empty_view : received 1 (run (connect 1 ++ says 1 (codes "APOP cat/orders 53f78eea73ac202cbd0294d6b64fcf09" ∷ codes "STAT" ∷ codes "LIST" ∷ codes "UIDL" ∷ codes "RETR 1" ∷ codes "LIST 0" ∷ [])))
    ≡ replies (codes "+OK POP3 server ready <1.7@h.test>" ∷ codes "+OK maildrop has 0 messages (0 octets)" ∷ codes "+OK 0 0"
    ∷ codes "+OK scan listing follows" ∷ codes "." ∷ codes "+OK unique-id listing follows" ∷ codes "." ∷ codes "-ERR no such message" ∷ codes "-ERR no such message" ∷ [])
unfolding digits login_name decode_pairs md5 M.digest_bytes M.hash_after M.compress M.rounds M.block_words
empty_view = refl

filtered_view : received 1 (run (connect 1 ++ says 1 (as_bob ++ codes "STAT" ∷ codes "LIST" ∷ codes "UIDL" ∷ codes "UIDL 2" ∷ codes "DELE 3" ∷ codes "DELE 2" ∷ [])))
    ≡ replies (codes "+OK POP3 server ready <1.7@h.test>" ∷ codes "+OK maildrop has 3 messages (61 octets)" ∷ codes "+OK 3 61"
    ∷ codes "+OK scan listing follows" ∷ codes "1 21" ∷ codes "2 15" ∷ codes "3 25" ∷ codes "." ∷ codes "+OK unique-id listing follows"
    ∷ codes "1 note.1" ∷ codes "2 note.2" ∷ codes "3 todo.1" ∷ codes "." ∷ codes "+OK 2 note.2" ∷ codes "-ERR denied by rule default" ∷ codes "+OK message 2 deleted" ∷ [])
unfolding digits login_name decode_pairs md5 M.digest_bytes M.hash_after M.compress M.rounds M.block_words
filtered_view = refl

-- only the next session sees it
deposit_during_a_session : shows
    (run (connect 1 ++ says 1 as_bob ++ Give (deposit (codes "note") (codes "d5") (codes "x\n")) ∷ says 1 (codes "STAT" ∷ codes "QUIT" ∷ []) ++ connect 2 ++ says 2 second_as_bob))
    (λ T. received 1 T ∷ received 2 T ∷ [])
    ≡ replies (codes "+OK POP3 server ready <1.7@h.test>" ∷ codes "+OK maildrop has 3 messages (61 octets)" ∷ codes "+OK 3 61" ∷ codes "+OK bye" ∷ [])
    ∷ replies (codes "+OK POP3 server ready <2.7@h.test>" ∷ codes "+OK maildrop has 4 messages (64 octets)" ∷ []) ∷ []
unfolding digits login_name decode_pairs md5 M.digest_bytes M.hash_after M.compress M.rounds M.block_words
deposit_during_a_session = refl

marked_numbers_and_reset : ann (codes "DELE 1" ∷ codes "DELE 1" ∷ codes "RETR 1" ∷ codes "LIST 1" ∷ codes "STAT" ∷ codes "RSET" ∷ codes "RETR 1" ∷ [])
    ≡ ann_receives (codes "+OK message 1 deleted" ∷ codes "-ERR message 1 is deleted" ∷ codes "-ERR message 1 is deleted"
    ∷ codes "-ERR message 1 is deleted" ∷ codes "+OK 3 59" ∷ codes "+OK maildrop has 4 messages (80 octets)" ∷ codes "+OK 21 octets"
    ∷ codes "Subject: a" ∷ [] ∷ codes "hi" ∷ codes ".." ∷ codes "." ∷ [])
unfolding digits login_name decode_pairs md5 M.digest_bytes M.hash_after M.compress M.rounds M.block_words
marked_numbers_and_reset = refl

gone_removes_nothing : received 2 (run (connect 1 ++ says 1 (as_ann ++ codes "DELE 1" ∷ []) ++ Give (Gone 1) ∷ connect 2 ++ says 2 second_as_bob))
    ≡ replies (codes "+OK POP3 server ready <2.7@h.test>" ∷ codes "+OK maildrop has 3 messages (61 octets)" ∷ [])
unfolding digits login_name decode_pairs md5 M.digest_bytes M.hash_after M.compress M.rounds M.block_words
gone_removes_nothing = refl

-- ended after the twelfth taking
pipelined_retrieve_delete_quit : shows (pipelined 9) (λ T. both (received 1 T) (is_open T 1))
    ≡ both (ann_receives (codes "+OK 21 octets" ∷ codes "Subject: a" ∷ [] ∷ codes "hi" ∷ codes ".." ∷ codes "." ∷ codes "+OK message 1 deleted" ∷ codes "+OK bye" ∷ []))
    false
unfolding digits login_name decode_pairs md5 M.digest_bytes M.hash_after M.compress M.rounds M.block_words
pipelined_retrieve_delete_quit = refl

there_through_the_ninth_taking : kept_ids (pipelined 6)
    ≡ (codes "note", 1) ∷ (codes "pay", 1) ∷ (codes "note", 2) ∷ (codes "todo", 1) ∷ (codes "note", 3) ∷ []
unfolding digits login_name decode_pairs md5 M.digest_bytes M.hash_after M.compress M.rounds M.block_words
there_through_the_ninth_taking = refl

gone_after_the_tenth_taking : kept_ids (pipelined 7)
    ≡ (codes "pay", 1) ∷ (codes "note", 2) ∷ (codes "todo", 1) ∷ (codes "note", 3) ∷ []
unfolding digits login_name decode_pairs md5 M.digest_bytes M.hash_after M.compress M.rounds M.block_words
gone_after_the_tenth_taking = refl

open_after_the_eleventh_taking : is_open (pipelined 8) 1
    ≡ true
unfolding digits login_name decode_pairs md5 M.digest_bytes M.hash_after M.compress M.rounds M.block_words
open_after_the_eleventh_taking = refl

third_failed_login_closes : shows
    (run (connect 1 ++ says 1 (codes "USER ann/orders" ∷ codes "PASS wrong" ∷ codes "USER ann/orders" ∷ codes "PASS wrong" ∷ codes "USER ann/orders" ∷ codes "PASS wrong" ∷ [])))
    (λ T. both (received 1 T) (is_open T 1))
    ≡ both (replies (codes "+OK POP3 server ready <1.7@h.test>" ∷ codes "+OK send PASS" ∷ codes "-ERR login failed" ∷ codes "+OK send PASS"
    ∷ codes "-ERR login failed" ∷ codes "+OK send PASS" ∷ codes "-ERR login failed, closing" ∷ []))
    false
unfolding digits login_name decode_pairs md5 M.digest_bytes M.hash_after M.compress M.rounds M.block_words
third_failed_login_closes = refl

connect_with_64_open : outcome (run (connects 64)) Connect
    ≡ Ignored TooManyConnections
unfolding digits login_name decode_pairs md5 M.digest_bytes M.hash_after M.compress M.rounds M.block_words
connect_with_64_open = refl

piece_of_4097_octets : outcome (run (connect 1)) (Bytes 1 (replicate 4097 10))
    ≡ Ignored PieceTooLong
unfolding digits login_name decode_pairs md5 M.digest_bytes M.hash_after M.compress M.rounds M.block_words
piece_of_4097_octets = refl

argument_faults : ann (codes "RETR" ∷ codes "RETR x" ∷ codes "RETR 1 2" ∷ codes "RETR  1" ∷ codes "retr 01 " ∷ [] ∷ [])
    ≡ ann_receives (codes "-ERR bad arguments" ∷ codes "-ERR bad arguments" ∷ codes "-ERR bad arguments" ∷ codes "-ERR bad arguments"
    ∷ codes "+OK 21 octets" ∷ codes "Subject: a" ∷ [] ∷ codes "hi" ∷ codes ".." ∷ codes "." ∷ codes "-ERR unknown command" ∷ [])
unfolding digits login_name decode_pairs md5 M.digest_bytes M.hash_after M.compress M.rounds M.block_words
argument_faults = refl

explain : answered (run []) (Admin (Explain (codes "bob") (codes "orders") (codes "pay") to.Read))
    ≡ codes "deny by rule bob-no-pay\n"
unfolding digits login_name decode_pairs md5 M.digest_bytes M.hash_after M.compress M.rounds M.block_words
explain = refl

-- while ann is in
drop_list_and_end_in_session : shows (run (connect 1 ++ says 1 as_ann))
    (λ T. answered T (Admin (DropMaildrop (codes "orders"))) ∷ answered T (Admin ListSessions) ∷ answered T (Admin (EndSession 1)) ∷ [])
    ≡ codes "in use\n"
    ∷ codes "1 ann orders\n"
    ∷ codes "ended\n" ∷ []
unfolding digits login_name decode_pairs md5 M.digest_bytes M.hash_after M.compress M.rounds M.block_words
drop_list_and_end_in_session = refl

drop_not_empty : answered (run (connect 1 ++ says 1 (as_ann ++ codes "QUIT" ∷ []))) (Admin (DropMaildrop (codes "orders")))
    ≡ codes "not empty\n"
unfolding digits login_name decode_pairs md5 M.digest_bytes M.hash_after M.compress M.rounds M.block_words
drop_not_empty = refl

session_ended_before : answered (run (connect 1 ++ says 1 as_ann ++ Give (Admin (EndSession 1)) ∷ [])) (Admin (EndSession 1))
    ≡ codes "no such session\n"
unfolding digits login_name decode_pairs md5 M.digest_bytes M.hash_after M.compress M.rounds M.block_words
session_ended_before = refl

bob_after_gone : received 2 (run (connect 1 ++ says 1 (as_ann ++ codes "DELE 1" ∷ []) ++ connect 2 ++ says 2 second_as_bob ++ Give (Gone 1) ∷ says 2 second_as_bob))
    ≡ replies (codes "+OK POP3 server ready <2.7@h.test>" ∷ codes "-ERR [IN-USE] maildrop is in use" ∷ codes "+OK maildrop has 3 messages (61 octets)" ∷ [])
unfolding digits login_name decode_pairs md5 M.digest_bytes M.hash_after M.compress M.rounds M.block_words
bob_after_gone = refl

maildrops_by_name : answered (run (Give (Admin (AddMaildrop (codes "alpha"))) ∷ [])) (Admin ListMaildrops)
    ≡ codes "alpha 0 0\norders 4 80\n"
unfolding digits login_name decode_pairs md5 M.digest_bytes M.hash_after M.compress M.rounds M.block_words
maildrops_by_name = refl

maildrop_shown : answered (run []) (Admin (ShowMaildrop (codes "orders")))
    ≡ codes "note.1 21\npay.1 19\nnote.2 15\ntodo.1 25\n"
unfolding digits login_name decode_pairs md5 M.digest_bytes M.hash_after M.compress M.rounds M.block_words
maildrop_shown = refl
