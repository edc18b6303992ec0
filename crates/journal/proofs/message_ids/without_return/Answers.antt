use Rattle.std.proofs.Common.{◌≡◌, ◌++◌, ◌∷◌, [], sym, ◌∙◌, ap, ne_eqb}
use Rattle.mailtext.specs.Text.{without_return}
use Rattle.mailtext.proofs.LineLemmas.{without_return-push, without_return-other}
use Rattle.journal.proofs.message_ids.without_return.Goals as goal

pub returns-in-Some : goal.returns-in-Some
returns-in-Some c =
    let whole : c.args.text.now ≡ c.in-Some.line.now ++ 13 ∷ [] = rw c.if-last-eq13.true at c.in-Some.ensures.cases.0 in
    sym (ap without_return whole ∙ without_return-push c.in-Some.line.now)

pub returns-in_default : goal.returns-in_default
returns-in_default c =
    let s = c.in-Some in
    let whole : c.args.text.now ≡ s.line.now ++ s.last.now ∷ [] = s.ensures.cases.0 in
    whole ∙ (sym (without_return-other s.line.now s.last.now (ne_eqb s.last.now 13 c.if-last-eq13.false)) ∙ ap without_return (sym whole))
