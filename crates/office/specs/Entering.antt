-- A clerk whom the policy lets in opens a maildrop.
use Rattle.std.specs.Prelude.{ℕ, List, Option, Some, None, if◌then◌else◌, not}
use Rattle.std.specs.BTreeMap.{BTreeMap}
use Rattle.creds.specs.declared.login_name.LoginName.{LoginName}
use Rattle.policy.specs.Policy.{Policy}
use Rattle.popline.specs.Replies.{Reply, NoSuchMaildrop, InUse, MaildropHas}
use Rattle.vault.specs.Records.{is_one_of, in_maildrop, class_of}
use Rattle.vault.specs.Changes.{Contents, records_of}
use Rattle.session.specs.Session.{Session}
use Rattle.session.specs.View.{visible}
use Rattle.office.specs.Replying.{maildrop_has}
use Rattle.office.specs.Answered.{is_locked_by}

-- the maildrop, then its lock: the first that fails gives the reply
abbrev pub entered : Contents → Policy → BTreeMap (List ℕ) ℕ → LoginName → Reply
entered c p locks name =
    if not (is_one_of name.maildrop c.maildrops) then NoSuchMaildrop
    else if is_locked_by locks name.maildrop then InUse
    else maildrop_has (visible class_of p name (in_maildrop name.maildrop (records_of c).messages))

-- a session begins if the reply says what the maildrop has
abbrev pub began : Reply → Session → Option Session
began (MaildropHas n m) s = Some s
began _ s = None
