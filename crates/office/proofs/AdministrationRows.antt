-- Worked rows of administration and deposits on the sample store: with those of CommandRows, every answer of every command.
use Rattle.std.specs.Prelude.{◌≡◌, ℕ, true, false, List, [], ◌∷◌, ◌++◌, map, refl, codes, length, nat_lt}
use Rattle.std.specs.List.{range_with_len}
use Rattle.std.specs.Fmt.{decimal, digits}
use Rattle.mailtext.specs.Text.{kept_form}
use Rattle.creds.specs.LoginName.{login_name}
use Rattle.creds.specs.declared.credential.Credential.TheVariants as kept
use Rattle.hex.specs.Hex.{decode_pairs}
use Rattle.md5.specs.Md5 as M
use Rattle.md5.specs.Md5.{md5}
use Rattle.sha2.specs.Sha256 as S
use Rattle.sha2.specs.Sha256.{sha256}
use Rattle.policy.specs.WrittenText.{setting, rule_text}
use Rattle.policy.specs.declared.rule.Action.{Action}
use Rattle.policy.specs.declared.rule.Action.TheVariants as to
use Rattle.policy.specs.declared.rule.Rule.{Rule}
use Rattle.policy.specs.declared.rule.Effect.TheVariants.{Allow}
use Rattle.policy.specs.declared.rule.Pattern.TheVariants.{Any}
use Rattle.vault.specs.Records.{Records, most_octets}
use Rattle.vault.specs.Changes.{DepositAnswer, Accepted, KnownAs, Full, deposit_answer}
use Rattle.office.specs.Answers.{AdminCommand, ShowMaildrop, AddMaildrop, DropMaildrop, ListClerks, ShowClerk, PutClerk, DropClerk}
use Rattle.office.specs.Answers.{ShowPolicy, SetPolicy, ListSessions, EndSession, Explain, TextTooLarge, body_of}
use Rattle.office.specs.History.{Entry}
use Rattle.office.specs.Told.{administered, deposited}
use Rattle.office.specs.Events.{Bytes, Deposit, Admin}
use Rattle.office.proofs.Sample.{W, w_rules, without_groups, rule, ord, freeze, d1, Step, Give, run, connect, says, received, replies, answered, deposit, as_ann, second_as_ann, second_as_bob}

-- what a command is answered after these steps
abbrev told : List Step → AdminCommand → List ℕ
told steps command = answered (run steps) (Admin command)

-- ---- maildrops

abbrev with_alpha : List Step
with_alpha = Give (Admin (AddMaildrop (codes "alpha"))) ∷ []

maildrop_added : told [] (AddMaildrop (codes "alpha")) ≡ codes "added\n"
unfolding digits
maildrop_added = refl

maildrop_that_was_there : told with_alpha (AddMaildrop (codes "alpha")) ≡ codes "was there\n"
unfolding digits
maildrop_that_was_there = refl

maildrop_dropped : told with_alpha (DropMaildrop (codes "alpha")) ≡ codes "dropped\n"
unfolding digits
maildrop_dropped = refl

no_maildrop_to_drop : told [] (DropMaildrop (codes "alpha")) ≡ codes "no such maildrop\n"
unfolding digits
no_maildrop_to_drop = refl

no_maildrop_to_show : told [] (ShowMaildrop (codes "alpha")) ≡ codes "no such maildrop\n"
unfolding digits
no_maildrop_to_show = refl

empty_maildrop_shown : told with_alpha (ShowMaildrop (codes "alpha")) ≡ []
unfolding digits
empty_maildrop_shown = refl

-- as many maildrops and clerks as there may be
abbrev crowded : Records
crowded = record W {
  maildrops = map (λ n. codes "m" ++ decimal n) (range_with_len 1 1000);
  clerks = map (λ n. record { name = codes "c" ++ decimal n; credential = kept.Apop (codes "x") }) (range_with_len 1 1000);
}

no_room_for_a_maildrop : body_of (administered crowded [] (AddMaildrop (codes "orders"))) ≡ codes "full\n"
unfolding digits
no_room_for_a_maildrop = refl

there_among_a_thousand : body_of (administered crowded [] (AddMaildrop (codes "m1000"))) ≡ codes "was there\n"
unfolding digits
there_among_a_thousand = refl

-- ---- clerks

abbrev zoe : AdminCommand
zoe = PutClerk (codes "zoe") (kept.Apop (codes "tanstaaf"))

clerk_added : told [] zoe ≡ codes "added\n"
unfolding digits
clerk_added = refl

clerk_replaced : told (Give (Admin zoe) ∷ []) zoe ≡ codes "replaced\n"
unfolding digits
clerk_replaced = refl

no_room_for_a_clerk : body_of (administered crowded [] zoe) ≡ codes "full\n"
unfolding digits
no_room_for_a_clerk = refl

replaced_among_a_thousand : body_of (administered crowded [] (PutClerk (codes "c1000") (kept.Apop (codes "y")))) ≡ codes "replaced\n"
unfolding digits
replaced_among_a_thousand = refl

kinds_of_clerks : map (λ name. told (Give (Admin zoe) ∷ []) (ShowClerk name)) (codes "eve" ∷ codes "mrose" ∷ codes "zoe" ∷ codes "nobody" ∷ [])
    ≡ codes "pass\n" ∷ codes "apop\n" ∷ codes "apop\n" ∷ codes "no such clerk\n" ∷ []
unfolding digits
kinds_of_clerks = refl

clerks_by_name : told (Give (Admin zoe) ∷ Give (Admin (DropClerk (codes "cat"))) ∷ []) ListClerks
    ≡ codes "ann apop\nbob apop\ndan apop\neve pass\nmrose apop\nzoe apop\n"
unfolding digits
clerks_by_name = refl

clerk_dropped : told [] (DropClerk (codes "ann")) ≡ codes "dropped\n"
unfolding digits
clerk_dropped = refl

no_clerk_to_drop : told (Give (Admin (DropClerk (codes "ann"))) ∷ []) (DropClerk (codes "ann")) ≡ codes "no such clerk\n"
unfolding digits
no_clerk_to_drop = refl

-- a session outlives its clerk, who can't log in again
abbrev without_ann : List Step
without_ann = connect 1 ++ says 1 as_ann ++ Give (Admin (DropClerk (codes "ann"))) ∷ says 1 (codes "STAT" ∷ codes "QUIT" ∷ []) ++ connect 2 ++ says 2 second_as_ann

session_of_a_dropped_clerk : received 1 (run without_ann)
    ≡ replies (codes "+OK POP3 server ready <1.7@h.test>" ∷ codes "+OK maildrop has 4 messages (80 octets)" ∷ codes "+OK 4 80" ∷ codes "+OK bye" ∷ [])
unfolding digits login_name decode_pairs md5 M.digest_bytes M.hash_after M.compress M.rounds M.block_words
session_of_a_dropped_clerk = refl

login_of_a_dropped_clerk : received 2 (run without_ann)
    ≡ replies (codes "+OK POP3 server ready <2.7@h.test>" ∷ codes "-ERR login failed" ∷ [])
unfolding digits login_name decode_pairs md5 M.digest_bytes M.hash_after M.compress M.rounds M.block_words
login_of_a_dropped_clerk = refl

-- the other kind of credential in its place
login_after_a_replacement : received 1 (run (Give (Admin (PutClerk (codes "eve") (kept.Apop (codes "any one")))) ∷ connect 1 ++ says 1 (codes "USER eve/orders" ∷ codes "PASS any one" ∷ [])))
    ≡ replies (codes "+OK POP3 server ready <1.7@h.test>" ∷ codes "+OK send PASS" ∷ codes "-ERR login failed" ∷ [])
unfolding digits login_name decode_pairs md5 M.digest_bytes M.hash_after M.compress M.rounds M.block_words
login_after_a_replacement = refl

-- ---- the policy

abbrev two_rules : List Rule
two_rules = rule (codes "bob-open") Allow (codes "bob") ord Any true false false ∷ freeze ∷ []

policy_set : told [] (SetPolicy (without_groups w_rules)) ≡ codes "8 rules\n"
unfolding digits
policy_set = refl

policy_without_rules : told [] (SetPolicy (without_groups [])) ≡ codes "0 rules\n"
unfolding digits
policy_without_rules = refl

policy_shown : told (Give (Admin (SetPolicy (without_groups two_rules))) ∷ []) ShowPolicy
    ≡ codes "[[rule]]\nname = \"bob-open\"\neffect = \"allow\"\nclerk = \"bob\"\nmaildrop = \"orders\"\nclass = \"*\"\nactions = [\"open\"]\n\n[[rule]]\nname = \"freeze-pay\"\neffect = \"deny\"\nclerk = \"*\"\nmaildrop = \"orders\"\nclass = \"pay\"\nactions = [\"remove\"]\n"
unfolding digits setting rule_text
policy_shown = refl

-- who, where, which class and which action
abbrev explained : List ℕ × List ℕ × List ℕ × Action → List ℕ
explained q = told [] (Explain q.0 q.1 q.2 q.3)

decisions_of_the_sample_policy : map explained (
    (codes "ann", codes "orders", codes "todo", to.Remove) ∷ (codes "ann", codes "orders", codes "pay", to.Open) ∷ (codes "ann", codes "nowhere", codes "todo", to.Read)
    ∷ (codes "bob", codes "orders", codes "pay", to.Open) ∷ (codes "bob", codes "orders", codes "pay", to.Read) ∷ (codes "bob", codes "orders", codes "pay", to.Remove)
    ∷ (codes "bob", codes "orders", codes "note", to.Read) ∷ (codes "bob", codes "orders", codes "note", to.Remove) ∷ (codes "bob", codes "orders", codes "todo", to.Remove)
    ∷ (codes "cat", codes "orders", codes "note", to.Open) ∷ (codes "cat", codes "orders", codes "note", to.Read) ∷ (codes "dan", codes "orders", codes "note", to.Open)
    ∷ (codes "eve", codes "nowhere", codes "note", to.Open) ∷ (codes "eve", codes "orders", codes "note", to.Read) ∷ (codes "mrose", codes "orders", codes "note", to.Open) ∷ [])
    ≡ codes "allow by rule ann-all\n" ∷ codes "allow by rule ann-all\n" ∷ codes "deny by rule default\n"
    ∷ codes "allow by rule bob-open\n" ∷ codes "deny by rule bob-no-pay\n" ∷ codes "deny by rule bob-no-pay\n"
    ∷ codes "allow by rule bob-read\n" ∷ codes "allow by rule bob-rm\n" ∷ codes "deny by rule default\n"
    ∷ codes "allow by rule cat-open\n" ∷ codes "deny by rule default\n" ∷ codes "deny by rule default\n"
    ∷ codes "allow by rule eve-any\n" ∷ codes "deny by rule default\n" ∷ codes "allow by rule mrose-open\n" ∷ []
unfolding digits
decisions_of_the_sample_policy = refl

-- ---- sessions

-- ann's maildrop is that of the higher number
abbrev two_sessions : List Step
two_sessions = Give (Admin (AddMaildrop (codes "alpha"))) ∷ connect 1 ++ connect 2 ++ says 2 second_as_ann ++ says 1 (codes "APOP mrose/alpha 36634ae136f823432b9c0b6e55ce0089" ∷ [])

sessions_by_number : told two_sessions ListSessions ≡ codes "1 mrose alpha\n2 ann orders\n"
unfolding digits login_name decode_pairs md5 M.digest_bytes M.hash_after M.compress M.rounds M.block_words
sessions_by_number = refl

no_session_before_login : told (connect 1) (EndSession 1) ≡ codes "no such session\n"
unfolding digits
no_session_before_login = refl

-- a QUIT acted, and its reply isn't taken yet
abbrev quitting : List Step
quitting = connect 1 ++ says 1 as_ann ++ Give (Bytes 1 (codes "QUIT\r\n")) ∷ []

no_session_after_quit : told quitting (EndSession 1) ≡ codes "no such session\n"
unfolding digits login_name decode_pairs md5 M.digest_bytes M.hash_after M.compress M.rounds M.block_words
no_session_after_quit = refl

none_listed_after_quit : told quitting ListSessions ≡ []
unfolding digits login_name decode_pairs md5 M.digest_bytes M.hash_after M.compress M.rounds M.block_words
none_listed_after_quit = refl

lock_free_after_quit : received 2 (run (quitting ++ connect 2 ++ says 2 second_as_bob))
    ≡ replies (codes "+OK POP3 server ready <2.7@h.test>" ∷ codes "+OK maildrop has 3 messages (61 octets)" ∷ [])
unfolding digits login_name decode_pairs md5 M.digest_bytes M.hash_after M.compress M.rounds M.block_words
lock_free_after_quit = refl

-- a session that is ended removes nothing
ended_session_removes_nothing : told (connect 1 ++ says 1 (as_ann ++ codes "DELE 1" ∷ []) ++ Give (Admin (EndSession 1)) ∷ []) (ShowMaildrop (codes "orders"))
    ≡ codes "note.1 21\npay.1 19\nnote.2 15\ntodo.1 25\n"
unfolding digits login_name decode_pairs md5 M.digest_bytes M.hash_after M.compress M.rounds M.block_words
ended_session_removes_nothing = refl

-- ---- deposits

new_deposit : answered (run []) (deposit (codes "note") (codes "d5") (codes "x\n")) ≡ codes "new note.3\n"
unfolding digits
new_deposit = refl

known_deposit : answered (run []) (deposit (codes "note") (codes "d1") d1) ≡ codes "known note.1\n"
unfolding digits sha256 S.first_words S.schedule S.digest_bytes S.hash_after S.compress S.rounds
known_deposit = refl

empty_deposit : answered (run []) (Deposit (codes "nowhere") (codes "note") (codes "d5") []) ≡ codes "empty text\n"
unfolding digits
empty_deposit = refl

-- of any text whose kept form is above the limit, whatever else holds
text_too_large : (B : Records) (G : List Entry) (maildrop class id : List ℕ) (b : ℕ) (bs : List ℕ) → nat_lt most_octets (length (kept_form (b ∷ bs))) ≡ true
    → deposited B G maildrop class id (b ∷ bs) ≡ TextTooLarge
text_too_large B G maildrop class id b bs h = rw h refl

deposit_nowhere : answered (run []) (Deposit (codes "nowhere") (codes "note") (codes "d1") d1) ≡ codes "no such maildrop\n"
unfolding digits
deposit_nowhere = refl

-- a maildrop of that many messages, which were deposited as the sample's were
abbrev deposit_at : ℕ → (class id text : List ℕ) → DepositAnswer
deposit_at present class id text = deposit_answer true present W.deposits class id (kept_form text)

last_place_in_a_maildrop : deposit_at 9999 (codes "note") (codes "d5") (codes "x\n") ≡ Accepted (record { class = codes "note"; k = 3 })
unfolding sha256 S.first_words S.schedule S.digest_bytes S.hash_after S.compress S.rounds
last_place_in_a_maildrop = refl

full_maildrop : deposit_at 10000 (codes "note") (codes "d5") (codes "x\n") ≡ Full
unfolding sha256 S.first_words S.schedule S.digest_bytes S.hash_after S.compress S.rounds
full_maildrop = refl

known_in_a_full_maildrop : deposit_at 10000 (codes "note") (codes "d1") d1 ≡ KnownAs (record { class = codes "note"; k = 1 })
unfolding sha256 S.first_words S.schedule S.digest_bytes S.hash_after S.compress S.rounds
known_in_a_full_maildrop = refl
