-- Worked rows in which the store refuses, and a login on a high number.
use Rattle.std.specs.Prelude.{◌≡◌, ℕ, true, false, List, [], ◌∷◌, ◌++◌, refl, codes}
use Rattle.std.specs.Fmt.{digits}
use Rattle.creds.specs.LoginName.{login_name}
use Rattle.hex.specs.Hex.{decode_pairs}
use Rattle.md5.specs.Md5 as M
use Rattle.md5.specs.Md5.{md5}
use Rattle.popline.specs.Cutting as cutting
use Rattle.session.specs.declared.removals.Removals.TheVariants.{JudgedAtDele}
use Rattle.office.specs.History.{Act, Open, Line, Restart, Tag, Done, Failed}
use Rattle.office.specs.Connections.{sent}
use Rattle.office.specs.Told.{told}
use Rattle.office.specs.Events.{Tagged, Bytes, Trace}
use Rattle.office.specs.Events as events
use Rattle.office.specs.Expected.{may_show}
use Rattle.office.proofs.Sample.{W, run, connect, says, as_ann, ann_receives, kept_ids, replies, received, Step, Drain, ran}

-- a QUIT that the store refuses
abbrev quitting : Trace → Trace
quitting T = ran (events.given T (Bytes 1 (codes "QUIT\r\n")) (Tagged Failed)) (Drain 1 ∷ [])

abbrev marking : List Step
marking = connect 1 ++ says 1 (as_ann ++ codes "DELE 1" ∷ [])

quit_that_is_refused : received 1 (quitting (run marking)) ≡ ann_receives (codes "+OK message 1 deleted" ∷ codes "-ERR some deleted messages not removed" ∷ [])
unfolding digits login_name decode_pairs md5 M.digest_bytes M.hash_after M.compress M.rounds M.block_words
quit_that_is_refused = refl

nothing_removed_by_a_refused_quit : kept_ids (quitting (run marking)) ≡ (codes "note", 1) ∷ (codes "pay", 1) ∷ (codes "note", 2) ∷ (codes "todo", 1) ∷ []
unfolding digits login_name decode_pairs md5 M.digest_bytes M.hash_after M.compress M.rounds M.block_words
nothing_removed_by_a_refused_quit = refl

quit_with_a_mark_may_fail : may_show (run marking) (Bytes 1 (codes "QUIT\r\n")) Failed ≡ true
unfolding digits login_name decode_pairs md5 M.digest_bytes M.hash_after M.compress M.rounds M.block_words
quit_with_a_mark_may_fail = refl

quit_without_a_mark_may_not_fail : may_show (run (connect 1 ++ says 1 as_ann)) (Bytes 1 (codes "QUIT\r\n")) Failed ≡ false
unfolding digits login_name decode_pairs md5 M.digest_bytes M.hash_after M.compress M.rounds M.block_words
quit_without_a_mark_may_not_fail = refl

stat_may_not_fail : may_show (run marking) (Bytes 1 (codes "STAT\r\n")) Failed ≡ false
unfolding digits login_name decode_pairs md5 M.digest_bytes M.hash_after M.compress M.rounds M.block_words
stat_may_not_fail = refl

-- the login that RFC 1939 shows, on the connection of that number
abbrev apop_acts : List ℕ → List (Act × Tag)
apop_acts line = (Line 1896 (cutting.Line line), Done) ∷ (Open 1896, Done) ∷ (Restart 697170952 (codes "dbc.mtview.ca.us") JudgedAtDele, Done) ∷ []

apop_on_its_connection : sent (told W (apop_acts (codes "APOP mrose/orders c4c9334bac560ecc979e58001b3e22fb"))) 1896
    ≡ replies (codes "+OK POP3 server ready <1896.697170952@dbc.mtview.ca.us>" ∷ codes "+OK maildrop has 0 messages (0 octets)" ∷ [])
unfolding digits login_name decode_pairs md5 M.digest_bytes M.hash_after M.compress M.rounds M.block_words
apop_on_its_connection = refl

apop_in_upper_case : sent (told W (apop_acts (codes "APOP mrose/orders C4C9334BAC560ECC979E58001B3E22FB"))) 1896
    ≡ replies (codes "+OK POP3 server ready <1896.697170952@dbc.mtview.ca.us>" ∷ codes "+OK maildrop has 0 messages (0 octets)" ∷ [])
unfolding digits login_name decode_pairs md5 M.digest_bytes M.hash_after M.compress M.rounds M.block_words
apop_in_upper_case = refl

apop_for_a_pass_clerk : sent (told W (apop_acts (codes "APOP eve/orders c4c9334bac560ecc979e58001b3e22fb"))) 1896
    ≡ replies (codes "+OK POP3 server ready <1896.697170952@dbc.mtview.ca.us>" ∷ codes "-ERR login failed" ∷ [])
unfolding digits login_name decode_pairs md5 M.digest_bytes M.hash_after M.compress M.rounds M.block_words
apop_for_a_pass_clerk = refl
