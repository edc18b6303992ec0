use Rattle.std.proofs.Common.{◌≡◌, ℕ, ◌&&◌, List, min, subst, sym, ap, ◌∙◌, rules}
use Rattle.std.specs.Prelude.{slice_get}
use Rattle.policy.specs.declared.rule.Rule.{Rule}
use Rattle.policy.specs.Index.{place_from}
use Rattle.policy.specs.Lane.{Lane, AreStarts, group_starts, is_about_action, is_about_groups, is_about_one}
use Rattle.policy.specs.Policy.{Policy, decide, decision_of, matches}
use Rattle.policy.proofs.FourKeys.{first_of_all}
use Rattle.policy.proofs.Walking.{found_at}
use Rattle.policy.proofs.lane.Lane.decide.Goals as goal

pub returns : goal.returns
returns c =
    let lane = c.self.inside in
    let all = lane.policy.now.rules in
    let groups = lane.policy.now.groups in
    let inner : c.policy.inside.rules.items ≡ all = ap (λ (p : Policy). p.rules) c.policy.view_is in
    let one : c.deref.result.now ≡ all = c.deref.ensures.value ∙ inner in
    let two : c.deref-2.result.now ≡ all = c.deref-2.ensures.value ∙ inner in
    let three : c.deref-3.result.now ≡ all = c.deref-3.ensures.value ∙ inner in
    let starts = subst (λ (rs : List Rule). AreStarts lane.clerk lane.maildrop rs lane.starts) (sym one) c.self.invariant.0 in
    let q = is_about_action c.args.action c.args.class.now in
    let named : c.first_by_name-named.result ≡ place_from (λ r. is_about_one lane.clerk lane.maildrop r && q r) 0 all =
    c.first_by_name-named.ensures lane.clerk lane.maildrop starts
    ∙ ap (place_from (λ r. is_about_one lane.clerk lane.maildrop r && q r) 0) one in
    let own : c.as_slice.result.now ≡ group_starts groups lane.clerk lane.maildrop c.deref-2.result.now =
    c.as_slice.ensures ∙ c.self.invariant.1.are ∙ ap (λ (rs : List Rule). group_starts groups lane.clerk lane.maildrop rs) (sym two) in
    let grouped : c.first_by_group-grouped.result ≡ place_from (λ r. is_about_groups groups lane.clerk lane.maildrop r && q r) 0 all =
    c.first_by_group-grouped.ensures groups lane.clerk lane.maildrop own
    ∙ ap (place_from (λ r. is_about_groups groups lane.clerk lane.maildrop r && q r) 0) two in
    let least : c.min.result ≡ min c.first_by_name-named.result c.first_by_group-grouped.result = search rules in
    let test = matches groups lane.clerk lane.maildrop c.args.class.now c.args.action in
    let at : c.min.result ≡ place_from test 0 all =
    least ∙ rw (named, grouped) (first_of_all groups lane.clerk lane.maildrop c.args.class.now c.args.action all) in
    c.decided_at.ensures ∙ ap (λ (rs : List Rule). decision_of (slice_get rs c.min.result)) three
    ∙ ap (λ (n : ℕ). decision_of (slice_get all n)) at ∙ ap decision_of (sym (found_at test all))
    ∙ ap (λ (l : Lane). decide l.policy l.clerk l.maildrop c.args.class.now c.args.action) c.self.view_is
