use Rattle.std.proofs.Common.{◌≡◌, ◌++◌, ◌∙◌, ap, ℕ, List}
use Rattle.policy.specs.declared.rule.Rule.{Rule}
use Rattle.review.specs.declared.question.Column.{Column}
use Rattle.review.specs.Page.{compared_text, notes_section, rules_section, source_section}
use Rattle.review.specs.Questions.{columns}
use Rattle.review.specs.Style.{page_head}
use Rattle.review.proofs.page.page.Goals as goal

pub returns : goal.returns
returns c =
    let parts = c.args.parts in
    let old = c.args.old.now in
    let new = c.args.new.now in
    let names = c.args.names.now in
    let compared_by = λ (asked : List Column).
    compared_text parts.table parts.changes old new names.clerks.items names.maildrops.items asked in
    let compared_all = compared_by (columns names.classes.items) in
    let notes_all = notes_section c.args.notes.now in
    let rules_all = rules_section new.rules in
    let head : c.put.new.out.items ≡ page_head =
    c.in_ok-put.ensures ∙ ap (λ (t : List ℕ). t ++ c.page_head.result.now) c.new-text.ensures.items
    ∙ c.page_head.ensures in
    let asked : c.deref-2.result.now ≡ columns names.classes.items =
    c.deref-2.ensures.value ∙ c.in_ok-asked.ensures ∙ ap columns c.deref.ensures.value in
    let compared : c.put_compared.new.out.items ≡ page_head ++ compared_all =
    c.in_ok-put_compared.ensures
    ∙ ap (λ (all : List Column). c.put.new.out.items ++ compared_by all) asked
    ∙ ap (λ (t : List ℕ). t ++ compared_all) head in
    let notes : c.put_notes.new.out.items ≡ page_head ++ compared_all ++ notes_all =
    c.in_ok-put_notes.ensures ∙ ap (λ (t : List ℕ). t ++ notes_all) compared in
    let rules : c.put_rules.new.out.items ≡ page_head ++ compared_all ++ notes_all ++ rules_all =
    c.in_ok-put_rules.ensures
    ∙ ap (λ (all : List Rule). c.put_notes.new.out.items ++ rules_section all) c.rules.ensures.value
    ∙ ap (λ (t : List ℕ). t ++ rules_all) notes in
    c.in_ok-put_source.ensures
    ∙ ap (λ (t : List ℕ). t ++ source_section c.args.source.now) rules
