use Rattle.std.proofs.Common.{◌≡◌, ℕ, List, ap, subst, ◌∙◌}
use Rattle.std.specs.Prelude.{OnOk}
use Rattle.std.specs.List.{flat_map}
use Rattle.policy.specs.declared.rule.Rule.{Rule}
use Rattle.policy.specs.Policy.{Group}
use Rattle.review.specs.Names.{clerk_of, clerks_in, put_names}
use Rattle.review.proofs.Naming.{both_parts}
use Rattle.review.proofs.names.add_clerks.Goals as goal

pub returns : goal.returns
returns c =
    let p = c.args.policy.now in
    let init = c.args.names.now.keys in
    let mid = c.add_rules_clerks.new.names.keys in
    let first : mid ≡ put_names init (flat_map (λ (r : Rule). clerk_of r.clerk) p.rules) =
    c.in_ok-add_rules_clerks.ensures ∙ ap (λ (rs : List Rule). put_names init (flat_map (λ (r : Rule). clerk_of r.clerk) rs)) c.rules.ensures.value in
    let second : put_names mid (flat_map (λ (g : Group). g.members) c.groups.result.now) ≡ put_names init (clerks_in p) =
    ap (λ (gs : List Group). put_names mid (flat_map (λ (g : Group). g.members) gs)) c.groups.ensures.value
    ∙ both_parts init mid (flat_map (λ (r : Rule). clerk_of r.clerk) p.rules) (flat_map (λ (g : Group). g.members) p.groups) first in
    subst (λ (ks : List (List ℕ)). OnOk c.add_members.result (c.add_members.new.names.keys ≡ ks)) second c.add_members.ensures
