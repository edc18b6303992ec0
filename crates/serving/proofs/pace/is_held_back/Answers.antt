use Rattle.std.proofs.Common.{rules, ◌≡◌, false, sym, ap, ◌∙◌}
use Rattle.serving.specs.Paces.{keeps}
use Rattle.serving.proofs.Looking.{held_by_login}
use Rattle.serving.proofs.pace.is_held_back.Goals as goal

pub returns : goal.returns
returns g c = λ T piece stands brought.
    (let free : c.awaits_lock.result ≡ false = search rules in
    held_by_login _ _ _ (sym (c.awaits_lock.ensures T piece stands brought) ∙ free)
    (c.keeps.ensures ∙ ap (keeps c.args.pace c.args.guesses.now.refusals.items) brought))
