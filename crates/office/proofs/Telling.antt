-- A command that is answered at once leaves the store as it is.
use Rattle.std.proofs.Common.{◌≡◌, true, Ok, refl}
use Rattle.popline.specs.Commands.{Command, Quit}
use Rattle.policy.specs.Policy.{Policy}
use Rattle.vault.specs.Changes.{Contents}
use Rattle.session.specs.Session.{Session}
use Rattle.office.specs.Transaction.{held_after_line}
use Rattle.office.specs.Connections.{is_quit}
use Rattle.office.specs.Telling.{is_told}
use Rattle.office.specs.declared.login_state.LineOutcome.TheVariants as outcome

pub stays_held : (p : Policy) (s : Session) (c : Contents) (command : Command) → is_told command ≡ true → held_after_line outcome.Done p s (Ok command) c ≡ c
stays_held p s c Quit e = cc
stays_held p s c _ e = refl

-- it is no QUIT
pub told_not_quit : (command : Command) → is_told command ≡ true → is_quit (Ok command) ≡ true → ⊥
told_not_quit Quit e q = cc
told_not_quit _ e q = cc
