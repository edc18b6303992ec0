use Rattle.std.proofs.Common.{◌≡◌, ◌≤◌, ◌+◌, ◌∙◌, ◌+ℤ◌, pos, length, take, take_all, sym, subst, arith, rules, SFits, w64, to_z, of_z, to_z-of_z, Ok}
use Rattle.mailsql.specs.declared.rows.Member.{Member}
use Rattle.mailsql.specs.Changes.{AddsMember}
use Rattle.mailsql.specs.Rows.{Rows}
use Rattle.sqlvault.specs.Rules.{AddsMembers}
use Rattle.sqlvault.proofs.GroupLemmas.{place_next, place_at, member_more, no_members}
use Rattle.sqlvault.proofs.FrameLemmas.{wrote, unwritten, writes_none, writes_then, writes_failed, passed}
use Rattle.sqlvault.proofs.FrameLemmas.{writes_halted}
use Rattle.sqlvault.proofs.SmallLemmas.{take_next}
use Rattle.sqlvault.proofs.groups.add_members.Goals as goal

pub loop-member-init : goal.loop-member-init
loop-member-init g c =
    (search rules, writes_none g.S.Store c.args.conn.now _ (no_members c.args.group))

pub loop-member-preserved : goal.loop-member-preserved
loop-member-preserved g c =
    let i = c.loop-member.member-index in
    let names = c.args.members.now in
    let x = c.member-item.result in
    let lt = c.loop-member-test.true in
    let group = to_z w64 (of_z w64 c.args.group) in
    let place = to_z w64 (of_z w64 (to_z w64 c.loop-member.place-bits +ℤ pos 1)) in
    let fine : place ≡ pos (i + 1) =
    place_next (to_z w64 c.loop-member.place-bits) i c.loop-member.invariant.0
    (omega (arith, lt, c.requires)) in
    let row : Member = record { group = group; place = place; clerk = x } in
    let survives = rw c.as_bytes.ensures.value at c.add_member.ensures.survives in (
      fine,
      writes_then (λ _. AddsMembers group (take i names)) (AddsMember row)
          (AddsMembers group (take (i + 1) names)) tt (Ok tt) c.loop-member.invariant.1
          (wrote g.S.Store c.loop-member.conn c.add_member.new.conn (λ _. AddsMember row)
          (AddsMember row) tt (λ clean. rw c.as_bytes.ensures.value at (c.in_ok-add_member.ensures.ok clean))
          survives)
          (λ from mid to a b. subst (λ l. AddsMembers group l from to)
          (sym (take_next names i x lt c.member-item.is))
          (member_more group (take i names) x place from mid to (fine ∙ place_at names i lt) a b)),
    )

pub returns-in_err-add_member : goal.returns-in_err-add_member
returns-in_err-add_member g c = rw (passed c.from_residual.ensures.1) (let row : Member = record {
  group = to_z w64 (of_z w64 c.args.group);
  place = to_z w64 (of_z w64 (to_z w64 c.loop-member.place-bits +ℤ pos 1));
  clerk = c.as_bytes.result.now;
} in
    let Adds : Unit {0} → Rows → Rows → Type 0 = λ _. AddsMember row in
    writes_failed (writes_halted _ tt c.loop-member.invariant.1
    (unwritten g.S.Store c.loop-member.conn c.add_member.new.conn Adds (AddsMember row)
    c.in_err-add_member.field-0.0 c.in_err-add_member.ensures.err c.add_member.ensures.survives)))

pub returns : goal.returns
returns g c =
    let done = c.loop-member.invariant.1 in
    let all : length c.args.members.now ≤ c.loop-member.member-index = c.loop-member-test.false in
    let fits : SFits w64 c.args.group = search rules in
    rw (to_z-of_z fits, take_all) at done
