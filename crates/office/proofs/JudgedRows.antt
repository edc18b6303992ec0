-- Worked rows of an office whose removals are judged at the QUIT.
use Rattle.std.specs.Prelude.{◌≡◌, ℕ, List, [], ◌∷◌, ◌++◌, refl, codes}
use Rattle.std.specs.Fmt.{digits}
use Rattle.creds.specs.LoginName.{login_name}
use Rattle.hex.specs.Hex.{decode_pairs}
use Rattle.md5.specs.Md5 as M
use Rattle.md5.specs.Md5.{md5}
use Rattle.office.specs.Events.{Restart}
use Rattle.office.proofs.Sample.{shows, both, run, run_judged_at_quit, connect, says, received, replies, Give, Step, as_bob, kept_ids}

-- bob may remove message 2, and not message 3
abbrev bob_deletes : List Step
bob_deletes = connect 1 ++ says 1 (as_bob ++ codes "DELE 3" ∷ codes "DELE 2" ∷ codes "DELE 3" ∷ codes "STAT" ∷ codes "QUIT" ∷ [])

abbrev bob_receives : List (List ℕ) → List ℕ
bob_receives ls = replies (codes "+OK POP3 server ready <1.7@h.test>" ∷ codes "+OK maildrop has 3 messages (61 octets)" ∷ ls)

-- a denied DELE marks, and the QUIT keeps what it marked
denied_at_the_quit : shows (run_judged_at_quit bob_deletes) (λ T. both (received 1 T) (kept_ids T))
    ≡ both (bob_receives (codes "+OK message 3 deleted" ∷ codes "+OK message 2 deleted" ∷ codes "-ERR message 3 is deleted" ∷ codes "+OK 1 21"
    ∷ codes "-ERR some deleted messages not removed, denied by rule default" ∷ []))
    ((codes "note", 1) ∷ (codes "pay", 1) ∷ (codes "todo", 1) ∷ [])
unfolding digits login_name decode_pairs md5 M.digest_bytes M.hash_after M.compress M.rounds M.block_words
denied_at_the_quit = refl

-- a denied DELE marks nothing
denied_at_the_dele : shows (run bob_deletes) (λ T. both (received 1 T) (kept_ids T))
    ≡ both (bob_receives (codes "-ERR denied by rule default" ∷ codes "+OK message 2 deleted" ∷ codes "-ERR denied by rule default" ∷ codes "+OK 2 46" ∷ codes "+OK bye" ∷ []))
    ((codes "note", 1) ∷ (codes "pay", 1) ∷ (codes "todo", 1) ∷ [])
unfolding digits login_name decode_pairs md5 M.digest_bytes M.hash_after M.compress M.rounds M.block_words
denied_at_the_dele = refl

-- a restart leaves it so
judged_over_a_restart : received 1 (run_judged_at_quit (Give (Restart 8) ∷ connect 1 ++ says 1 (codes "APOP bob/orders 86e4af14fb52c8aa097a26e8d10720c1" ∷ codes "DELE 3" ∷ codes "NOOP" ∷ [])))
    ≡ replies (codes "+OK POP3 server ready <1.8@h.test>" ∷ codes "+OK maildrop has 3 messages (61 octets)" ∷ codes "+OK message 3 deleted" ∷ codes "+OK" ∷ [])
unfolding digits login_name decode_pairs md5 M.digest_bytes M.hash_after M.compress M.rounds M.block_words
judged_over_a_restart = refl
