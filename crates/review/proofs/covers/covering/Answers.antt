use Rattle.std.proofs.Common.{◌≡◌, ◌≤◌, ℕ, List, length, take, Option, Some, None, refl, sym, ap, ◌∙◌}
use Rattle.std.proofs.lemmas.Option.{slice_get_read, slice_get_past}
use Rattle.std.specs.List.{position}
use Rattle.std.specs.Prelude.{IfSome, slice_get}
use Rattle.policy.specs.declared.rule.Rule.{Rule}
use Rattle.policy.specs.Policy.{Policy}
use Rattle.review.specs.Covers.{NeverDecides, covers, cover_among}
use Rattle.review.proofs.CoverLemmas.{covered}
use Rattle.review.proofs.covers.covering.Goals as goal

-- a place that was found: the rule there never decides
never : (p : Policy) (n : ℕ) (narrow : Rule) (found : Option ℕ) → slice_get p.rules n ≡ Some narrow → found ≡ position (λ wide. covers p.groups wide narrow) (take n p.rules)
    → IfSome found (λ by. NeverDecides p n)
never p n narrow None at e = tt
never p n narrow (Some by) at e = covered p n by narrow at (sym e)

pub returns-in-Some-clause-first : goal.returns-in-Some-clause-first
returns-in-Some-clause-first c =
    let rules = c.args.policy.now.rules in
    let groups = c.args.policy.now.groups in
    let lookup = c.in-Some.ensures.lookup in
    let inner : slice_get c.rules-rules.result.now c.args.place ≡ Some c.in-Some.narrow.now = slice_get_read c.rules-rules.result.now _ c.args.place c.in-Some.narrow.now refl lookup.3.0 lookup.1 in
    let at : slice_get rules c.args.place ≡ Some c.in-Some.narrow.now = ap (λ (rs : List Rule). slice_get rs c.args.place) (sym c.rules-rules.ensures.value) ∙ inner in
    let found : c.first_covering.result ≡ position (λ wide. covers groups wide c.in-Some.narrow.now) (take c.args.place rules) =
    c.first_covering.ensures ∙ rw (c.groups.ensures.value, c.rules-rules.ensures.value) refl in
    found ∙ ap (cover_among groups (take c.args.place rules)) (sym at)

pub returns-in-Some-clause-never : goal.returns-in-Some-clause-never
returns-in-Some-clause-never c =
    let rules = c.args.policy.now.rules in
    let groups = c.args.policy.now.groups in
    let lookup = c.in-Some.ensures.lookup in
    let inner : slice_get c.rules-rules.result.now c.args.place ≡ Some c.in-Some.narrow.now = slice_get_read c.rules-rules.result.now _ c.args.place c.in-Some.narrow.now refl lookup.3.0 lookup.1 in
    let at : slice_get rules c.args.place ≡ Some c.in-Some.narrow.now = ap (λ (rs : List Rule). slice_get rs c.args.place) (sym c.rules-rules.ensures.value) ∙ inner in
    let found : c.first_covering.result ≡ position (λ wide. covers groups wide c.in-Some.narrow.now) (take c.args.place rules) =
    c.first_covering.ensures ∙ rw (c.groups.ensures.value, c.rules-rules.ensures.value) refl in
    never c.args.policy.now c.args.place c.in-Some.narrow.now c.first_covering.result at found

pub returns-in-None-clause-first : goal.returns-in-None-clause-first
returns-in-None-clause-first c =
    let past : length c.rules-rules.result.now ≤ c.args.place = c.in-None.ensures.lookup.3 in
    let none : slice_get c.args.policy.now.rules c.args.place ≡ None = ap (λ (rs : List Rule). slice_get rs c.args.place) (sym c.rules-rules.ensures.value)
    ∙ slice_get_past c.rules-rules.result.now c.args.place past in
    ap (cover_among c.args.policy.now.groups (take c.args.place c.args.policy.now.rules)) (sym none)
