use Rattle.std.proofs.Common.{◌≡◌, ◌++◌, ◌∷◌, [], ℕ, List, map, ap, subst, ◌∙◌}
use Rattle.std.specs.Prelude.{IfOk}
use Rattle.std.specs.List.{flat_map}
use Rattle.policy.specs.declared.rule.Rule.{Rule}
use Rattle.review.specs.declared.label.Label.TheVariants.{Named, Others}
use Rattle.review.specs.Names.{maildrops_in, name_in, put_names}
use Rattle.review.proofs.Naming.{both_parts}
use Rattle.review.proofs.names.maildrops_of.Goals as goal

pub returns : goal.returns
returns c =
    let xs = maildrops_in c.args.old.now in
    let ys = maildrops_in c.args.new.now in
    let names = λ (rs : List Rule). flat_map (λ (r : Rule). name_in r.maildrop) rs in
    let first : c.add_maildrops.new.names.keys ≡ put_names [] xs =
    c.in_ok-add_maildrops.ensures ∙ ap (λ (ks : List (List ℕ)). put_names ks (names c.rules.result.now)) c.new-names.ensures.empty
    ∙ ap (λ (rs : List Rule). put_names [] (names rs)) c.rules.ensures.value in
    let all : c.add_maildrops-2.new.names.keys ≡ put_names [] (xs ++ ys) =
    c.in_ok-add_maildrops-2.ensures ∙ ap (λ (rs : List Rule). put_names c.add_maildrops.new.names.keys (names rs)) c.rules-2.ensures.value
    ∙ both_parts [] c.add_maildrops.new.names.keys xs ys first in
    let with_kept : c.add_names.new.names.keys ≡ put_names [] (xs ++ ys ++ c.args.kept.now) =
    c.in_ok-add_names.ensures ∙ both_parts [] c.add_maildrops-2.new.names.keys (xs ++ ys) c.args.kept.now all in
    subst (λ (ks : List (List ℕ)). IfOk c.labels_of.result (λ labels. labels.items ≡ map Named ks ++ Others ∷ [])) with_kept c.labels_of.ensures
