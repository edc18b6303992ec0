use Rattle.std.proofs.Common.{◌≡◌, ◌++◌, ◌∷◌, [], ℕ, List, map, ap, subst, ◌∙◌}
use Rattle.std.specs.Prelude.{IfOk}
use Rattle.review.specs.declared.label.Label.TheVariants.{Named, Others}
use Rattle.review.specs.Names.{clerks_in, put_names}
use Rattle.review.proofs.Naming.{both_parts}
use Rattle.review.proofs.names.clerks_of.Goals as goal

pub returns : goal.returns
returns c =
    let xs = clerks_in c.args.old.now in
    let first : c.add_clerks.new.names.keys ≡ put_names [] xs = c.in_ok-add_clerks.ensures ∙ ap (λ (ks : List (List ℕ)). put_names ks xs) c.new-names.ensures.empty in
    let all : c.add_clerks-2.new.names.keys ≡ put_names [] (xs ++ clerks_in c.args.new.now) =
    c.in_ok-add_clerks-2.ensures ∙ both_parts [] c.add_clerks.new.names.keys xs (clerks_in c.args.new.now) first in
    let with_kept : c.add_names.new.names.keys ≡ put_names [] (xs ++ clerks_in c.args.new.now ++ c.args.kept.now) =
    c.in_ok-add_names.ensures ∙ both_parts [] c.add_clerks-2.new.names.keys (xs ++ clerks_in c.args.new.now) c.args.kept.now all in
    subst (λ (ks : List (List ℕ)). IfOk c.labels_of.result (λ labels. labels.items ≡ map Named ks ++ Others ∷ [])) with_kept c.labels_of.ensures
