use Rattle.std.proofs.Common.{◌≡◌, ◌++◌, List, ℕ, ap, subst, ◌∙◌}
use Rattle.std.specs.Prelude.{OnOk}
use Rattle.std.specs.List.{flat_map}
use Rattle.review.specs.declared.label.Label.{Label}
use Rattle.review.specs.Differences.{becoming, change_lines, questions}
use Rattle.review.specs.Steps.{told_clerk}
use Rattle.review.proofs.Telling.{all_clerks}
use Rattle.review.proofs.changes.put_change_lines.Goals as goal

pub returns : goal.returns
returns c =
    let change = c.args.change.now in
    let told = λ (ms : List Label) (cs : List Label). flat_map (told_clerk change.allowed change.old.now change.new.now ms c.args.asked.now) cs in
    let clerks = c.args.names.now.clerks.items in
    let maildrops = c.args.names.now.maildrops.items in
    let all : told c.deref-2.result.now c.deref.result.now ≡ change_lines change.old.now change.new.now
    (becoming change.allowed change.old.now change.new.now (questions clerks maildrops c.args.asked.now)) =
    ap (λ (ms : List Label). told ms c.deref.result.now) c.deref-2.ensures.value ∙ ap (told maildrops) c.deref.ensures.value
    ∙ all_clerks change.allowed change.old.now change.new.now clerks maildrops c.args.asked.now in
    subst (λ (text : List ℕ). OnOk c.put_clerks.result (c.put_clerks.new.out.items ≡ c.args.out.now.items ++ text)) all c.put_clerks.ensures
