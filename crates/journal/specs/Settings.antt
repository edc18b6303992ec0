-- Whether a server is proved and its options in force, as the line of its start tells them.
use Rattle.std.specs.Prelude.{ℕ, Bool, true, false, List, ◌++◌, codes, Option, Some, None}
use Rattle.std.specs.Fmt.{decimal}
use Rattle.session.specs.declared.removals.Removals.{Removals}
use Rattle.session.specs.declared.removals.Removals.TheVariants as judged
use Rattle.journal.specs.declared.settings.Settings.{Settings}

-- what is so or isn't
abbrev pub yes_or_no : Bool → List ℕ
yes_or_no true = codes "yes"
yes_or_no false = codes "no"

-- when removals are judged
abbrev pub when_text : Removals → List ℕ
when_text judged.JudgedAtDele = codes "dele"
when_text judged.JudgedAtQuit = codes "quit"

-- the options that are seconds
abbrev pub seconds_text : Settings → List ℕ
seconds_text s =
    codes " idle=" ++ decimal s.idle ++ codes " wait=" ++ decimal s.wait
    ++ codes " login-seconds=" ++ decimal s.login_seconds

-- the options of clients that are set or aren't
abbrev pub flags_text : Settings → List ℕ
flags_text s =
    codes " make-room=" ++ yes_or_no s.make_room
    ++ codes " slow-guesses=" ++ yes_or_no s.slow_guesses
    ++ codes " proxy-protocol=" ++ yes_or_no s.proxy_protocol

-- what is logged
abbrev pub logged_text : Settings → List ℕ
logged_text s =
    codes " log-message-ids=" ++ yes_or_no s.message_ids
    ++ codes " log-reads=" ++ yes_or_no s.reads

-- the administration's site, if it has one
abbrev pub site_text : Option (List ℕ) → List ℕ
site_text None = codes " admin-site=no"
site_text (Some name) = codes " admin-site=" ++ name

-- whether the administration lists the clerks, and its site
abbrev pub admin_text : Settings → List ℕ
admin_text s = codes " list-clerks=" ++ yes_or_no s.lists_clerks ++ site_text s.admin_site

-- all of them
abbrev pub settings_text : Settings → List ℕ
settings_text s =
    codes " proved=" ++ yes_or_no s.is_proved ++ codes " removals=" ++ when_text s.removals
    ++ seconds_text s ++ flags_text s ++ logged_text s ++ admin_text s
