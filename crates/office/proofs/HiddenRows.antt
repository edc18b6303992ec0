-- Worked rows of hidden mail: one more payment leaves no trace in what bob is sent, who may not read payments; but it may change what else is there, and so what he is sent.
use Rattle.std.specs.Prelude.{◌≡◌, true, false, List, [], ◌∷◌, ◌++◌, replicate, refl, codes, ℕ}
use Rattle.std.specs.Fmt.{digits}
use Rattle.creds.specs.LoginName.{login_name}
use Rattle.hex.specs.Hex.{decode_pairs}
use Rattle.md5.specs.Md5 as M
use Rattle.md5.specs.Md5.{md5}
use Rattle.sha2.specs.Sha256 as S
use Rattle.sha2.specs.Sha256.{sha256}
use Rattle.policy.specs.declared.rule.Effect.TheVariants.{Allow}
use Rattle.policy.specs.declared.rule.Pattern.TheVariants.{Is}
use Rattle.popline.specs.Cutting as cutting
use Rattle.vault.specs.Records.{Records}
use Rattle.session.specs.declared.removals.Removals.TheVariants.{JudgedAtDele}
use Rattle.office.specs.Answers.{DropMaildrop, SetPolicy}
use Rattle.office.specs.Connections.{sent}
use Rattle.office.specs.History.{Act, Open, Line, Deposit, Restart, Tag, Done}
use Rattle.office.specs.Told.{told}
use Rattle.office.specs.Events.{Admin}
use Rattle.office.proofs.Sample.{W, message, w_rules, without_groups, rule, ord, both, Step, Give, run, connect, says, received, replies, as_ann, second_as_bob, deposit, d2}

-- one more payment
abbrev payment : List Step
payment = Give (deposit (codes "pay") (codes "d5") d2) ∷ []

abbrev note : (id : List ℕ) → List Step
note id = Give (deposit (codes "note") id (codes "x\n")) ∷ []

-- what bob is sent on a second connection, after these steps of the first, without and with what comes between
abbrev bob_after : (first between later : List Step) → List ℕ × List ℕ
bob_after first between later = both
    (received 2 (run (connect 1 ++ connect 2 ++ first ++ later ++ says 2 second_as_bob)))
    (received 2 (run (connect 1 ++ connect 2 ++ first ++ between ++ later ++ says 2 second_as_bob)))

abbrev bob_receives : List ℕ → List ℕ
bob_receives reply = replies (codes "+OK POP3 server ready <2.7@h.test>" ∷ reply ∷ [])

-- also if another clerk removes his own, and a note comes
hidden_payment : bob_after [] payment (note (codes "d6") ++ says 1 (as_ann ++ codes "DELE 1" ∷ codes "QUIT" ∷ []))
    ≡ both (bob_receives (codes "+OK maildrop has 3 messages (43 octets)")) (bob_receives (codes "+OK maildrop has 3 messages (43 octets)"))
unfolding digits login_name decode_pairs md5 M.digest_bytes M.hash_after M.compress M.rounds M.block_words sha256 S.first_words S.schedule S.digest_bytes S.hash_after S.compress S.rounds
hidden_payment = refl

-- ---- what else it may change

-- another clerk's numbers: the fifth message of ann's is the note, or the payment
numbers_of_another : bob_after [] payment (note (codes "d6") ++ says 1 (as_ann ++ codes "DELE 5" ∷ codes "QUIT" ∷ []))
    ≡ both (bob_receives (codes "+OK maildrop has 3 messages (61 octets)")) (bob_receives (codes "+OK maildrop has 4 messages (64 octets)"))
unfolding digits login_name decode_pairs md5 M.digest_bytes M.hash_after M.compress M.rounds M.block_words sha256 S.first_words S.schedule S.digest_bytes S.hash_after S.compress S.rounds
numbers_of_another = refl

-- its id: a note with the same id is refused
id_that_is_used : bob_after [] payment (note (codes "d5"))
    ≡ both (bob_receives (codes "+OK maildrop has 4 messages (64 octets)")) (bob_receives (codes "+OK maildrop has 3 messages (61 octets)"))
unfolding digits login_name decode_pairs md5 M.digest_bytes M.hash_after M.compress M.rounds M.block_words sha256 S.first_words S.schedule S.digest_bytes S.hash_after S.compress S.rounds
id_that_is_used = refl

-- the maildrop: it is dropped only if it is empty
maildrop_that_is_dropped : bob_after (says 1 (as_ann ++ codes "DELE 1" ∷ codes "DELE 2" ∷ codes "DELE 3" ∷ codes "DELE 4" ∷ codes "QUIT" ∷ [])) payment
    (Give (Admin (DropMaildrop (codes "orders"))) ∷ [])
    ≡ both (bob_receives (codes "-ERR no such maildrop")) (bob_receives (codes "+OK maildrop has 0 messages (0 octets)"))
unfolding digits login_name decode_pairs md5 M.digest_bytes M.hash_after M.compress M.rounds M.block_words sha256 S.first_words S.schedule S.digest_bytes S.hash_after S.compress S.rounds
maildrop_that_is_dropped = refl

-- a policy that is set later, and lets bob read payments
policy_that_is_set_later : bob_after [] payment (Give (Admin (SetPolicy (without_groups (rule (codes "bob-pay") Allow (codes "bob") ord (Is (codes "pay")) false true false ∷ w_rules)))) ∷ [])
    ≡ both (bob_receives (codes "+OK maildrop has 4 messages (80 octets)")) (bob_receives (codes "+OK maildrop has 5 messages (99 octets)"))
unfolding digits login_name decode_pairs md5 M.digest_bytes M.hash_after M.compress M.rounds M.block_words sha256 S.first_words S.schedule S.digest_bytes S.hash_after S.compress S.rounds
policy_that_is_set_later = refl

-- the last room of a full maildrop
abbrev crowded : Records
crowded = record W { messages = replicate 9999 (message (codes "pay") 1 d2) }

abbrev bob_of_crowded : (acts : List (Act × Tag)) → List ℕ
bob_of_crowded acts = sent (told crowded ((Line 2 (cutting.Line (codes "APOP bob/orders 4913e303168b8637628bee1be5ffa486")), Done)
    ∷ (Deposit (codes "orders") (codes "note") (codes "d6") (codes "x\n"), Done) ∷ acts ++ (Open 2, Done) ∷ (Restart 7 (codes "h.test") JudgedAtDele, Done) ∷ [])) 2

room_that_is_taken : both (bob_of_crowded []) (bob_of_crowded ((Deposit (codes "orders") (codes "pay") (codes "d5") d2, Done) ∷ []))
    ≡ both (bob_receives (codes "+OK maildrop has 1 messages (3 octets)")) (bob_receives (codes "+OK maildrop has 0 messages (0 octets)"))
unfolding digits login_name decode_pairs md5 M.digest_bytes M.hash_after M.compress M.rounds M.block_words sha256 S.first_words S.schedule S.digest_bytes S.hash_after S.compress S.rounds
room_that_is_taken = refl
