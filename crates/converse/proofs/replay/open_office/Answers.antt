use Rattle.std.proofs.Common.{ap, ◌∙◌, subst}
use Rattle.office.specs.Events.{Limits, Tagged, given}
use Rattle.office.specs.Events as event
use Rattle.office.specs.History.{Done}
use Rattle.office.specs.Stands.{StandsFor}
use Rattle.converse.proofs.replay.open_office.Goals as goal

pub returns-in-Ok-clause-opened : goal.returns-in-Ok-clause-opened
returns-in-Ok-clause-opened g c = λ T keeps clean.
    subst (λ limits. StandsFor g.V.Vault.holds c.in-Ok.office (given T (event.Start c.args.host.now c.args.boot limits) (Tagged Done)))
    (c.with_removals.ensures ∙ ap (λ (l : Limits). record l { removals = c.args.removals }) c.in-Some.ensures.value) (c.in-Ok.ensures.opened T keeps clean)
