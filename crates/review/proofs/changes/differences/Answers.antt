use Rattle.std.proofs.Common.{◌≡◌, ◌++◌, ℕ, List, Bool, true, false, sym, ap, ◌∙◌}
use Rattle.std.proofs.lemmas.Grind.{flat_map-append}
use Rattle.review.specs.declared.question.Column.{Column}
use Rattle.review.specs.declared.question.Question.{Question}
use Rattle.review.specs.Differences.{answer, becoming, change_line, change_lines, questions}
use Rattle.review.specs.Questions.{columns}
use Rattle.review.proofs.changes.differences.Goals as goal

pub returns : goal.returns
returns c =
    let old = c.args.old.now in
    let new = c.args.new.now in
    let names = c.args.names.now in
    let lines = λ (allowed : Bool) (asked : List Column). change_lines old new (becoming allowed old new (questions names.clerks.items names.maildrops.items asked)) in
    let inner : c.in_ok-asked.asked.items ≡ columns names.classes.items = c.in_ok-asked.ensures ∙ ap columns c.deref.ensures.value in
    let gained : c.put_change_lines.new.out.items ≡ lines true (columns names.classes.items) =
    c.in_ok-put_change_lines.ensures ∙ ap (λ (text : List ℕ). text ++ lines true c.deref-2.result.now) c.new-text.ensures.items
    ∙ ap (lines true) (c.deref-2.ensures.value ∙ inner) in
    c.in_ok-put_change_lines-2.ensures
    ∙ ap (λ (text : List ℕ). text ++ lines false c.deref-3.result.now) gained
    ∙ ap (λ (asked : List Column). lines true (columns names.classes.items) ++ lines false asked) (c.deref-3.ensures.value ∙ inner)
    ∙ sym (flat_map-append (λ (q : Question). change_line q (answer old q) (answer new q))
    (becoming true old new (questions names.clerks.items names.maildrops.items (columns names.classes.items)))
    (becoming false old new (questions names.clerks.items names.maildrops.items (columns names.classes.items))))
