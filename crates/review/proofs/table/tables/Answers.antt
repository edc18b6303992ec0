use Rattle.std.proofs.Common.{◌≡◌, ◌++◌, ℕ, List, map, ap, ◌∙◌}
use Rattle.std.specs.List.{flat_map}
use Rattle.policy.specs.declared.rule.Rule.{Rule}
use Rattle.policy.specs.Policy.{Group}
use Rattle.review.specs.declared.label.Label.{Label}
use Rattle.review.specs.Steps.{Member, member_of, table_among}
use Rattle.review.proofs.TableLemmas.{same_tables}
use Rattle.review.proofs.table.tables.Goals as goal

pub returns : goal.returns
returns c =
    let p = c.args.policy.now in
    let names = c.args.names.now in
    let clerks = names.clerks.items in
    let classes = names.classes.items in
    let told = λ (rs : List Rule) (ks : List Label) (ms : List Member) (ds : List Label). flat_map (table_among rs ks ms) ds in
    let members : c.deref-3.result.now ≡ map (member_of p.groups) clerks =
    c.deref-3.ensures.value ∙ c.in_ok-members.ensures
    ∙ ap (λ (gs : List Group). map (member_of gs) c.deref.result.now) c.groups.ensures.value
    ∙ ap (map (member_of p.groups)) c.deref.ensures.value in
    c.in_ok-put_tables.ensures
    ∙ ap (λ (text : List ℕ). text ++ told c.rules.result.now c.deref-2.result.now c.deref-3.result.now c.deref-4.result.now) c.new-text.ensures.items
    ∙ ap (λ (rs : List Rule). told rs c.deref-2.result.now c.deref-3.result.now c.deref-4.result.now) c.rules.ensures.value
    ∙ ap (λ (ks : List Label). told p.rules ks c.deref-3.result.now c.deref-4.result.now) c.deref-2.ensures.value
    ∙ ap (λ (ms : List Member). told p.rules classes ms c.deref-4.result.now) members
    ∙ ap (told p.rules classes (map (member_of p.groups) clerks)) c.deref-4.ensures.value
    ∙ same_tables p clerks names.maildrops.items classes
