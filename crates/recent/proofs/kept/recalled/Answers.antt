-- A copy of heads that fit.
use Rattle.std.proofs.Common.{◌≡◌, Ok}
use Rattle.std.proofs.lemmas.Option.{IfSome_then}
use Rattle.vault.specs.Changes.{Contents}
use Rattle.vault.specs.Calls.{heads_result}
use Rattle.recent.specs.Recalling.{Fits}
use Rattle.recent.proofs.Keeping.{copy_fits}
use Rattle.recent.proofs.kept.recalled.Goals as goal

pub returns-in-Some : goal.returns-in-Some
returns-in-Some c =
    IfSome_then c.copy.result
    {Q = λ heads. (d : Contents) → Fits c.args.kept.now d → heads_result c.args.maildrop.now d ≡ Ok heads.items}
    c.copy.ensures
    (λ hs e d h. copy_fits _ _ _ _ d c.in-Some.ensures e h)
