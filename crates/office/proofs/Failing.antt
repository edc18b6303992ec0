-- Before a login: the reply if the store failed, and that no session begins.
use Rattle.std.proofs.Common.{◌≡◌, Bool, true, false, Option, None, Result, Ok, refl, sym, true≢false}
use Rattle.creds.specs.declared.login_name.LoginName.{LoginName}
use Rattle.policy.specs.Policy.{Policy}
use Rattle.popline.specs.Cutting.{Cut, TooLong}
use Rattle.popline.specs.Cutting as cutting
use Rattle.popline.specs.Commands.{Command, Pass, Apop, command_of}
use Rattle.popline.specs.declared.command.LineFault.{LineFault}
use Rattle.popline.specs.Replies.{StoreFailed}
use Rattle.session.specs.declared.removals.Removals.{Removals}
use Rattle.vault.specs.Changes.{Contents}
use Rattle.office.specs.History.{Says, Failed}
use Rattle.office.specs.Connections.{is_quit, reading}
use Rattle.office.specs.Sessions.{logs_in}
use Rattle.office.specs.Replying.{reply_to_reading}
use Rattle.office.specs.Kept.{LineContext, state_of, authorization_asks}
use Rattle.office.specs.Answered.{SessionAfter, reply_of}
use Rattle.office.specs.declared.login_state.LoginState.{LoginState}
use Rattle.office.specs.declared.login_state.LineOutcome.TheVariants as outcome

refused_reading : (d : LineContext) (t : LoginState) (r : Result Command LineFault) → authorization_asks t r ≡ true → reply_to_reading (state_of d t None) r Failed ≡ StoreFailed
refused_reading d t (Ok (Pass password)) h = rw h refl
refused_reading d t (Ok (Apop name digest)) h = refl
refused_reading d t _ h = absurd (true≢false (sym h))

pub refused_login : (d : LineContext) (t : LoginState) (x : Cut) → authorization_asks t (reading x) ≡ true → reply_of outcome.Failed d t None x ≡ StoreFailed
refused_login d t TooLong h = absurd (true≢false (sym h))
refused_login d t (cutting.Line l) h = refused_reading d t (command_of l) h

lets_none_in : (r : Result Command LineFault) (user : Option LoginName) → logs_in r (Says StoreFailed) user ≡ None
lets_none_in (Ok (Pass password)) user = refl
lets_none_in (Ok (Apop name digest)) user = refl
lets_none_in _ user = refl

pub begins_none : (r : Result Command LineFault) (user : Option LoginName) (c : Contents) (p : Policy) (j : Removals)
    → SessionAfter (is_quit r) (logs_in r (Says StoreFailed) user) c p j StoreFailed None None
begins_none r user c p j = let nobody = lets_none_in r user in rw nobody (at (is_quit r))
  where
    at : (b : Bool) → SessionAfter b None c p j StoreFailed None None
    at true = refl
    at false = refl
