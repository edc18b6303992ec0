-- Worked rows of many connections, policies, moments and restarts, on traces.
use Rattle.std.specs.Prelude.{◌≡◌, true, false, List, [], ◌∷◌, ◌++◌, refl, codes}
use Rattle.std.specs.Fmt.{digits}
use Rattle.creds.specs.LoginName.{login_name}
use Rattle.hex.specs.Hex.{decode_pairs}
use Rattle.md5.specs.Md5 as M
use Rattle.md5.specs.Md5.{md5}
use Rattle.sha2.specs.Sha256 as S
use Rattle.sha2.specs.Sha256.{sha256}
use Rattle.office.specs.Answers.{SetPolicy}
use Rattle.office.specs.Events.{Took, Gone, Tick, Admin, Restart}
use Rattle.office.specs.Outcomes.{Ignored, NotReady, NoSuchConnection}
use Rattle.office.specs.Trace.{is_open}
use Rattle.office.proofs.Sample.{w_rules, without_groups, shows, both, run, connect, gives, says, received, replies, Give, outcome, Step, as_ann, ann_receives, kept_ids, deposit}
use Rattle.office.proofs.Sample.{freeze, answered, second_as_bob}

-- while ann is in
abbrev refused : List Step
refused = (connect 1 ++ says 1 as_ann ++ connect 2 ++ says 2 second_as_bob ++ connect 3
    ++ says 3 (codes "APOP dan/orders 7ca2ad5ddffc2ecbe3f9683e818e67ba" ∷ []) ++ connect 4 ++ says 4 (codes "APOP mrose/nowhere d6e5467fb8a897c4d4d3652c663f6b37" ∷ []))

-- in use, denied, and no such maildrop
refusals_at_login : shows (run refused) (λ T. received 2 T ∷ received 3 T ∷ received 4 T ∷ [])
    ≡ replies (codes "+OK POP3 server ready <2.7@h.test>" ∷ codes "-ERR [IN-USE] maildrop is in use" ∷ [])
    ∷ replies (codes "+OK POP3 server ready <3.7@h.test>" ∷ codes "-ERR denied by rule default" ∷ [])
    ∷ replies (codes "+OK POP3 server ready <4.7@h.test>" ∷ codes "-ERR no such maildrop" ∷ []) ∷ []
unfolding digits login_name decode_pairs md5 M.digest_bytes M.hash_after M.compress M.rounds M.block_words
refusals_at_login = refl

abbrev frozen : List Step
frozen = (connect 1 ++ says 1 (as_ann ++ codes "DELE 1" ∷ codes "DELE 2" ∷ []) ++ Give (Admin (SetPolicy (without_groups (freeze ∷ w_rules)))) ∷ says 1 (codes "QUIT" ∷ []))

-- what is said, and what is left
quit_under_a_new_policy : shows (run frozen) (λ T. both (received 1 T) (kept_ids T))
    ≡ both (ann_receives (codes "+OK message 1 deleted" ∷ codes "+OK message 2 deleted" ∷ codes "-ERR some deleted messages not removed, denied by rule freeze-pay" ∷ []))
    ((codes "pay", 1) ∷ (codes "note", 2) ∷ (codes "todo", 1) ∷ [])
unfolding digits login_name decode_pairs md5 M.digest_bytes M.hash_after M.compress M.rounds M.block_words
quit_under_a_new_policy = refl

abbrev idling : List Step
idling = (Give (Tick 1000) ∷ connect 1 ++ says 1 (as_ann ++ codes "DELE 1" ∷ []) ++ Give (Tick 1599) ∷ [])

abbrev idled : List Step
idled = idling ++ Give (Tick 1600) ∷ []

still_open_before_idle : is_open (run idling) 1
    ≡ true
unfolding digits login_name decode_pairs md5 M.digest_bytes M.hash_after M.compress M.rounds M.block_words
still_open_before_idle = refl

-- without an octet
ended_when_idle : shows (run idled) (λ T. both (is_open T 1) (received 1 T))
    ≡ both false
    (ann_receives (codes "+OK message 1 deleted" ∷ []))
unfolding digits login_name decode_pairs md5 M.digest_bytes M.hash_after M.compress M.rounds M.block_words
ended_when_idle = refl

idle_removes_nothing : received 2 (run (idled ++ connect 2 ++ says 2 second_as_bob))
    ≡ replies (codes "+OK POP3 server ready <2.7@h.test>" ∷ codes "+OK maildrop has 3 messages (61 octets)" ∷ [])
unfolding digits login_name decode_pairs md5 M.digest_bytes M.hash_after M.compress M.rounds M.block_words
idle_removes_nothing = refl

abbrev restarted : List Step
restarted = (connect 1 ++ says 1 (as_ann ++ codes "DELE 4" ∷ codes "QUIT" ∷ []) ++ Give (Restart 8) ∷ connect 1)

-- the greeting of the new boot number; then a new text, the sample's own, another under its id, and its own in another class
unique_ids_over_a_restart : shows (run restarted)
    (λ T. both (received 1 T) (answered T (deposit (codes "todo") (codes "d6") (codes "A: 2\n"))
    ∷ answered T (deposit (codes "todo") (codes "d4") (codes "A: 1\n\none\ntwo\nthree\n"))
    ∷ answered T (deposit (codes "todo") (codes "d4") (codes "A: 3\n")) ∷ answered T (deposit (codes "note") (codes "d4") (codes "A: 1\n\none\ntwo\nthree\n")) ∷ []))
    ≡ both (ann_receives (codes "+OK message 4 deleted" ∷ codes "+OK bye" ∷ codes "+OK POP3 server ready <1.8@h.test>" ∷ []))
    (codes "new todo.2\n"
    ∷ codes "known todo.1\n"
    ∷ codes "conflict\n"
    ∷ codes "conflict\n" ∷ [])
unfolding digits login_name decode_pairs md5 M.digest_bytes M.hash_after M.compress M.rounds M.block_words sha256 S.first_words S.schedule S.digest_bytes S.hash_after S.compress S.rounds
unique_ids_over_a_restart = refl

abbrev half_a_line : List Step
half_a_line = (connect 1 ++ says 1 as_ann ++ gives 1 (codes "RETR 1"))

abbrev left : List Step
left = half_a_line ++ Give (Gone 1) ∷ []

-- nothing is said, nothing is removed, and nothing more can be taken
half_a_line_and_gone : shows (run left) (λ T. both (received 1 T) (both (kept_ids T) (outcome T (Took 1 0))))
    ≡ both (ann_receives [])
    (both ((codes "note", 1) ∷ (codes "pay", 1) ∷ (codes "note", 2) ∷ (codes "todo", 1) ∷ [])
    (Ignored NoSuchConnection))
unfolding digits login_name decode_pairs md5 M.digest_bytes M.hash_after M.compress M.rounds M.block_words sha256 S.first_words S.schedule S.digest_bytes S.hash_after S.compress S.rounds
half_a_line_and_gone = refl

took_nothing_of_an_open_connection : outcome (run half_a_line) (Took 1 0)
    ≡ Ignored NotReady
unfolding digits login_name decode_pairs md5 M.digest_bytes M.hash_after M.compress M.rounds M.block_words
took_nothing_of_an_open_connection = refl
