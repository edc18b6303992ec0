-- Worked rows of a session that is ended from outside, over a login by APOP.
use Rattle.std.specs.Prelude.{◌≡◌, List, [], ◌∷◌, ◌++◌, map, refl, codes}
use Rattle.std.specs.Fmt.{digits}
use Rattle.creds.specs.LoginName.{login_name}
use Rattle.hex.specs.Hex.{decode_pairs}
use Rattle.md5.specs.Md5 as M
use Rattle.md5.specs.Md5.{md5}
use Rattle.office.specs.Answers.{AdminCommand, AddMaildrop, DropMaildrop, ListSessions, EndSession}
use Rattle.office.specs.Events.{Admin}
use Rattle.office.specs.Trace.{open_numbers}
use Rattle.office.proofs.Sample.{Step, Give, run, connect, says, answered}

-- two connections, of which the first is mrose's
abbrev in_alpha : List Step
in_alpha = Give (Admin (AddMaildrop (codes "alpha"))) ∷ connect 1 ++ connect 2 ++ says 1 (codes "APOP mrose/alpha 36634ae136f823432b9c0b6e55ce0089" ∷ [])

abbrev ended : List Step
ended = in_alpha ++ Give (Admin (EndSession 1)) ∷ []

-- the session is listed and has its maildrop, the other connection has none
before_the_end : map (λ (command : AdminCommand). answered (run in_alpha) (Admin command)) (ListSessions ∷ DropMaildrop (codes "alpha") ∷ EndSession 2 ∷ EndSession 1 ∷ [])
    ≡ codes "1 mrose alpha\n" ∷ codes "in use\n" ∷ codes "no such session\n" ∷ codes "ended\n" ∷ []
unfolding digits login_name decode_pairs md5 M.digest_bytes M.hash_after M.compress M.rounds M.block_words
before_the_end = refl

-- nobody is in session, and the maildrop is free
behind_the_end : map (λ (command : AdminCommand). answered (run ended) (Admin command)) (ListSessions ∷ DropMaildrop (codes "alpha") ∷ EndSession 1 ∷ [])
    ≡ [] ∷ codes "dropped\n" ∷ codes "no such session\n" ∷ []
unfolding digits login_name decode_pairs md5 M.digest_bytes M.hash_after M.compress M.rounds M.block_words
behind_the_end = refl

-- its connection goes, and the other stays
connections_behind_the_end : open_numbers (run ended) ≡ 2 ∷ []
unfolding digits login_name decode_pairs md5 M.digest_bytes M.hash_after M.compress M.rounds M.block_words
connections_behind_the_end = refl
