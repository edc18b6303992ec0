use Rattle.std.proofs.Common.{◌≡◌, ◌++◌, ℕ, List, ap, subst, ◌∙◌}
use Rattle.std.specs.List.{flat_map}
use Rattle.std.specs.Prelude.{OnOk}
use Rattle.review.specs.declared.label.Label.{Label}
use Rattle.review.specs.declared.question.Column.{Column}
use Rattle.review.specs.Differences.{questions}
use Rattle.review.specs.Questions.{columns}
use Rattle.review.specs.Steps.{answers_clerk}
use Rattle.review.specs.Table.{answers_text}
use Rattle.review.proofs.Telling.{answers_of_all}
use Rattle.review.proofs.rows.put_answers.Goals as goal

pub returns : goal.returns
returns c =
    let told = λ (ms : List Label) (asked : List Column) (cs : List Label). flat_map (answers_clerk c.args.format c.args.policy.now ms asked) cs in
    let names = c.args.names.now in
    let asked : c.deref-4.result.now ≡ columns names.classes.items = c.deref-4.ensures.value ∙ c.in_ok-asked.ensures ∙ ap columns c.deref.ensures.value in
    let all : told c.deref-3.result.now c.deref-4.result.now c.deref-2.result.now
    ≡ answers_text c.args.format c.args.policy.now (questions names.clerks.items names.maildrops.items (columns names.classes.items)) =
    ap (λ (ms : List Label). told ms c.deref-4.result.now c.deref-2.result.now) c.deref-3.ensures.value
    ∙ ap (λ (a : List Column). told names.maildrops.items a c.deref-2.result.now) asked
    ∙ ap (told names.maildrops.items (columns names.classes.items)) c.deref-2.ensures.value
    ∙ answers_of_all c.args.format c.args.policy.now names.clerks.items names.maildrops.items (columns names.classes.items) in
    subst (λ (text : List ℕ). OnOk c.put_clerks.result (c.put_clerks.new.out.items ≡ c.args.out.now.items ++ text)) all c.put_clerks.ensures
