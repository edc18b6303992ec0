-- Worked rows of accounts: which lines are told as logins, and how they were judged; which lines mark, and what a QUIT removed.
use Rattle.std.specs.Prelude.{◌≡◌, ℕ, true, List, [], ◌∷◌, ◌++◌, length, Some, refl, codes}
use Rattle.std.specs.Fmt.{digits}
use Rattle.creds.specs.LoginName.{login_name}
use Rattle.creds.specs.declared.login_name.LoginName.{LoginName}
use Rattle.hex.specs.Hex.{decode_pairs}
use Rattle.mailtext.specs.Text.{line_end}
use Rattle.md5.specs.Md5 as M
use Rattle.md5.specs.Md5.{md5}
use Rattle.popline.specs.Cutting as cutting
use Rattle.session.specs.declared.removals.Removals.TheVariants.{JudgedAtDele}
use Rattle.office.specs.History.{Act, Open, Line, Restart, Tag, Done, Failed, NoMemory}
use Rattle.office.specs.Told.{told}
use Rattle.office.specs.Events.{Admin, Bytes, Connect, Gone, Ignored, Tagged, Took, Trace}
use Rattle.office.specs.Answers.{EndSession}
use Rattle.office.specs.Trace.{rest}
use Rattle.office.specs.Accounts.{account_of, acts_account}
use Rattle.office.specs.declared.account.Account.{Account}
use Rattle.office.specs.declared.account.Account.TheVariants.{Nothing, Login, NoName, Marked, Unmarked, Quit, QuitBeforeLogin, Retrieved, Topped, Denied, Taken, Ended}
use Rattle.office.specs.declared.account.End.TheVariants as end
use Rattle.office.specs.declared.account.MessageCommand.TheVariants as to
use Rattle.office.specs.declared.answer.MessageRow.{MessageRow}
use Rattle.office.specs.declared.account.Way.TheVariants as way
use Rattle.office.specs.declared.account.Verdict.TheVariants as judged
use Rattle.office.proofs.Sample.{W, Step, Give, shows, run, run_judged_at_quit, connect, says, as_bob}

abbrev line : List ℕ → Tag → Act × Tag
line octets t = (Line 1896 (cutting.Line octets), t)

-- the connection of RFC 1939's example, with these lines after its opening
abbrev opened : List (Act × Tag)
opened = (Open 1896, Done) ∷ (Restart 697170952 (codes "dbc.mtview.ca.us") JudgedAtDele, Done) ∷ []

-- the account of a line after these acts
abbrev account_behind : List (Act × Tag) → List ℕ → Tag → Account
account_behind acts octets t = acts_account W (told W acts) (line octets t ∷ [])

abbrev mrose : List ℕ → LoginName
mrose maildrop = record { clerk = codes "mrose"; maildrop = maildrop }

abbrev apop : List ℕ
apop = codes "APOP mrose/orders c4c9334bac560ecc979e58001b3e22fb"

accepted_login : account_behind opened apop Done ≡ Login (mrose (codes "orders")) way.Apop (judged.Accepted (codes "mrose-open"))
unfolding digits login_name decode_pairs md5 M.digest_bytes M.hash_after M.compress M.rounds M.block_words
accepted_login = refl

login_with_a_wrong_digest : account_behind opened (codes "APOP mrose/orders 00c9334bac560ecc979e58001b3e22fb") Done ≡ Login (mrose (codes "orders")) way.Apop judged.WrongCredential
unfolding digits login_name decode_pairs md5 M.digest_bytes M.hash_after M.compress M.rounds M.block_words
login_with_a_wrong_digest = refl

login_to_no_maildrop : account_behind opened (codes "APOP mrose/nowhere c4c9334bac560ecc979e58001b3e22fb") Done ≡ Login (mrose (codes "nowhere")) way.Apop judged.NoSuchMaildrop
unfolding digits login_name decode_pairs md5 M.digest_bytes M.hash_after M.compress M.rounds M.block_words
login_to_no_maildrop = refl

login_at_which_the_store_failed : account_behind opened apop Failed ≡ Login (mrose (codes "orders")) way.Apop judged.StoreFailed
unfolding digits login_name decode_pairs md5 M.digest_bytes M.hash_after M.compress M.rounds M.block_words
login_at_which_the_store_failed = refl

login_without_memory : account_behind opened apop NoMemory ≡ Nothing
unfolding digits login_name decode_pairs md5 M.digest_bytes M.hash_after M.compress M.rounds M.block_words
login_without_memory = refl

-- a name that another line withdrew
password_behind_a_noop : account_behind (line (codes "NOOP") Done ∷ line (codes "USER ann/orders") Done ∷ opened) (codes "PASS s3 cret") Done ≡ Nothing
unfolding digits login_name decode_pairs md5 M.digest_bytes M.hash_after M.compress M.rounds M.block_words
password_behind_a_noop = refl

login_in_a_session : account_behind (line apop Done ∷ opened) apop Done ≡ Nothing
unfolding digits login_name decode_pairs md5 M.digest_bytes M.hash_after M.compress M.rounds M.block_words
login_in_a_session = refl

name_is_no_login : account_behind opened (codes "USER mrose/orders") Done ≡ Nothing
unfolding digits login_name decode_pairs md5 M.digest_bytes M.hash_after M.compress M.rounds M.block_words
name_is_no_login = refl

-- arguments that are no login name, or no digest
name_of_no_form : account_behind opened (codes "USER mrose") Done ≡ NoName
unfolding digits login_name decode_pairs md5 M.digest_bytes M.hash_after M.compress M.rounds M.block_words
name_of_no_form = refl

digest_of_no_form : account_behind opened (codes "APOP mrose/orders c4c9") Done ≡ NoName
unfolding digits login_name decode_pairs md5 M.digest_bytes M.hash_after M.compress M.rounds M.block_words
digest_of_no_form = refl

password_of_no_form : account_behind (line (codes "USER mrose/orders") Done ∷ opened) (codes "PASS") Done ≡ Nothing
unfolding digits login_name decode_pairs md5 M.digest_bytes M.hash_after M.compress M.rounds M.block_words
password_of_no_form = refl

quit_before_a_login : account_behind opened (codes "QUIT") Done ≡ QuitBeforeLogin
unfolding digits login_name decode_pairs md5 M.digest_bytes M.hash_after M.compress M.rounds M.block_words
quit_before_a_login = refl

-- bob marks message 3, which he may not remove, and message 2
abbrev bob_marks : List Step
bob_marks = connect 1 ++ says 1 (as_bob ++ codes "DELE 3" ∷ codes "DELE 2" ∷ [])

-- the account of the next line
abbrev next : Trace → List ℕ → Account
next T octets = account_of T (Bytes 1 (octets ++ line_end)) (Tagged Done)

-- his QUIT, a first and a second mark, a reset, a name that is out of place, and the end of his session, and of none
lines_of_a_session : shows (run_judged_at_quit bob_marks) (λ T. next T (codes "QUIT") ∷ next T (codes "DELE 1") ∷ next T (codes "DELE 2") ∷ next T (codes "RSET") ∷ next T (codes "USER bob")
    ∷ account_of T (Admin (EndSession 1)) (Tagged Done) ∷ account_of T (Admin (EndSession 2)) (Tagged Done) ∷ [])
    ≡ Quit (record {
      name = record { clerk = codes "bob"; maildrop = codes "orders" };
      marked = 2;
      removed = record { uid = record { class = codes "note"; k = 2 }; rule = codes "bob-rm" }
          ∷ [];
      denied = Some (codes "default");
      is_done = true;
    })
    ∷ Marked ∷ Nothing ∷ Unmarked ∷ Nothing ∷ Ended end.SessionEnded ∷ Nothing ∷ []
unfolding digits login_name decode_pairs md5 M.digest_bytes M.hash_after M.compress M.rounds M.block_words
lines_of_a_session = refl

-- a message of a class, of number k
abbrev row : List ℕ → ℕ → ℕ → MessageRow
row class k octets = record { uid = record { class = class; k = k }; octets = octets }

-- what bob reads, and what he may not remove: a RETR, a TOP, a DELE that a rule denies, and numbers of no message
reads_of_a_session : shows (run (connect 1 ++ says 1 as_bob)) (λ T. next T (codes "RETR 1") ∷ next T (codes "TOP 2 0") ∷ next T (codes "DELE 3") ∷ next T (codes "DELE 1") ∷ next T (codes "RETR 9")
    ∷ next T (codes "DELE 9") ∷ next T (codes "LIST 1") ∷ account_of T (Bytes 1 (codes "RETR 1" ++ line_end)) (Tagged Failed) ∷ [])
    ≡ Retrieved (row (codes "note") 1 21) (codes "bob-read") ∷ Topped (row (codes "note") 2 15) (codes "bob-read")
    ∷ Denied to.Dele (record { class = codes "todo"; k = 1 }) (codes "default") ∷ Marked ∷ Nothing
    ∷ Nothing ∷ Nothing ∷ Nothing ∷ []
unfolding digits login_name decode_pairs md5 M.digest_bytes M.hash_after M.compress M.rounds M.block_words
reads_of_a_session = refl

-- of RETR's reply a part is taken; all, after which TOP acts, also if the store fails at it; all, after which NOOP acts or nothing; and all of a farewell
abbrev bob_gives : List ℕ → List Step
bob_gives octets = connect 1 ++ says 1 as_bob ++ Give (Bytes 1 octets) ∷ []

abbrev took_all : Trace → Tag → Account
took_all T t = account_of T (Took 1 (length (rest T 1))) (Tagged t)

takings_of_a_session : shows (run (bob_gives (codes "RETR 1" ++ line_end ++ codes "TOP 2 0" ++ line_end)))
    (λ T. account_of T (Took 1 1) (Tagged Done) ∷ took_all T Done ∷ took_all T Failed ∷ took_all T NoMemory ∷ [])
    ≡ Nothing ∷ Topped (row (codes "note") 2 15) (codes "bob-read") ∷ Taken ∷ Ended end.NoMemoryForLine ∷ []
unfolding digits login_name decode_pairs md5 M.digest_bytes M.hash_after M.compress M.rounds M.block_words
takings_of_a_session = refl

takings_of_all : shows (run (bob_gives (codes "RETR 1" ++ line_end ++ codes "NOOP" ++ line_end))) (λ T. took_all T Done ∷ [])
    ++ shows (run (bob_gives (codes "RETR 1" ++ line_end))) (λ T. took_all T Done ∷ []) ++ shows (run (bob_gives (codes "QUIT" ++ line_end))) (λ T. took_all T Done ∷ [])
    ≡ Taken ∷ Taken ∷ Taken ∷ []
unfolding digits login_name decode_pairs md5 M.digest_bytes M.hash_after M.compress M.rounds M.block_words
takings_of_all = refl

retr_before_a_login : account_behind opened (codes "RETR 1") Done ≡ Nothing
unfolding digits login_name decode_pairs md5 M.digest_bytes M.hash_after M.compress M.rounds M.block_words
retr_before_a_login = refl

-- a connection whose greeting waits is gone, lacks memory at a piece, or is refused a page; one that isn't open is ignored
ends_of_connections : shows (run_judged_at_quit (Give Connect ∷ [])) (λ T. account_of T (Gone 1) (Tagged Done) ∷ account_of T (Bytes 1 (codes "NOOP" ++ line_end)) (Tagged NoMemory)
    ∷ account_of T (Took 1 1) (Tagged NoMemory) ∷ account_of T (Took 1 1) (Tagged Failed) ∷ account_of T (Took 1 1) (Tagged Done) ∷ account_of T (Gone 2) Ignored ∷ [])
    ≡ Ended end.Gone ∷ Ended end.NoMemoryForLine ∷ Ended end.NoMemory ∷ Ended end.StoreFailed ∷ Nothing ∷ Nothing ∷ []
unfolding digits login_name decode_pairs md5 M.digest_bytes M.hash_after M.compress M.rounds M.block_words
ends_of_connections = refl
