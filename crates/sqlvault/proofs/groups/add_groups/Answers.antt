use Rattle.std.proofs.Common.{◌≡◌, ◌<◌, ◌≤◌, ◌+◌, ◌∙◌, ◌+ℤ◌, pos, length, take, take_all, get_or, sym, ap, subst, arith, rules, w64, to_z, of_z, Ok}
use Rattle.sqlvault.specs.Rules.{AddsGroup, AddsGroups}
use Rattle.sqlvault.proofs.FrameLemmas.{writes_none, writes_then, writes_halted, writes_failed, passed}
use Rattle.sqlvault.proofs.GroupLemmas.{place_next, place_at, group_more, no_group}
use Rattle.sqlvault.proofs.RuleLemmas.{few_groups}
use Rattle.sqlvault.proofs.SmallLemmas.{take_next}
use Rattle.sqlvault.proofs.groups.add_groups.Goals as goal

pub loop-group-init : goal.loop-group-init
loop-group-init g c =
    (search rules, writes_none g.S.Store c.args.conn.now _ no_group)

pub loop-group-preserved : goal.loop-group-preserved
loop-group-preserved g c =
    let i = c.loop-group.group-index in
    let groups = c.args.policy.now.groups in
    let x = c.group-item.result in
    let are = c.groups-group-items.ensures.value in
    let few = few_groups c.args.policy.now c.groups-group-items.ensures.sound in
    let lt : i < length groups = subst (λ l. i < length l) are c.loop-group-test.true in
    let is : x ≡ get_or groups i x = c.group-item.is ∙ ap (λ l. get_or l i x) are in
    let place = to_z w64 (of_z w64 (to_z w64 c.loop-group.place-bits +ℤ pos 1)) in
    let fine : place ≡ pos (i + 1) =
    place_next (to_z w64 c.loop-group.place-bits) i c.loop-group.invariant.0
    (omega (arith, lt, few)) in (
      fine,
      writes_then (λ _. AddsGroups (take i groups)) (AddsGroup place x)
          (AddsGroups (take (i + 1) groups)) tt (Ok tt) c.loop-group.invariant.1 c.in_ok-add_group.ensures
          (λ from mid to a b. subst (λ l. AddsGroups l from to) (sym (take_next groups i x lt is))
          (group_more (take i groups) x place from mid to (fine ∙ place_at groups i lt) a b)),
    )

pub returns-in_err-add_group : goal.returns-in_err-add_group
returns-in_err-add_group g c = rw (passed c.from_residual.ensures.1) (writes_failed (writes_halted _ tt c.loop-group.invariant.1 c.in_err-add_group.ensures))

pub returns : goal.returns
returns g c =
    let done = c.loop-group.invariant.1 in
    let all : length c.args.policy.now.groups ≤ c.loop-group.group-index =
    subst (λ l. length l ≤ c.loop-group.group-index) c.groups-group-items.ensures.value
    c.loop-group-test.false in
    rw take_all at done
