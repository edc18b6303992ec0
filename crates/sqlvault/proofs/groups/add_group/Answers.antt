use Rattle.std.proofs.Common.{SFits, w64, to_z-of_z, rules}
use Rattle.mailsql.specs.Changes as changes
use Rattle.sqlvault.specs.Rules.{AddsMembers, AddsGroup}
use Rattle.sqlvault.proofs.FrameLemmas.{wrote, unwritten, writes_then, passed}
use Rattle.sqlvault.proofs.GroupLemmas.{group_added}
use Rattle.sqlvault.proofs.groups.add_group.Goals as goal

pub returns : goal.returns
returns g c =
    let of = c.args.group.now in
    let place = c.args.place in
    let fits : SFits w64 place = search rules in
    let survives = rw (c.as_bytes.ensures.value, c.name.ensures) at c.add_group.ensures.survives in
    let members = rw (to_z-of_z fits, c.members.ensures) at c.add_members.ensures in
    writes_then {A = Unit {0}} (λ _. changes.AddsGroup of.name) (AddsMembers place of.members) (AddsGroup place of)
    tt c.add_members.result
    (wrote g.S.Store c.args.conn.now c.add_group.new.conn (λ _. changes.AddsGroup of.name)
    (changes.AddsGroup of.name) tt
    (λ clean. rw (c.as_bytes.ensures.value, c.name.ensures) at (c.in_ok-add_group.ensures.ok clean)) survives)
    members
    (λ from mid to a b. group_added place of from mid to a b)

pub returns-in_err-add_group : goal.returns-in_err-add_group
returns-in_err-add_group g c = rw (passed c.from_residual.ensures.1) (unwritten g.S.Store c.args.conn.now c.add_group.new.conn _
    (changes.AddsGroup c.as_bytes.result.now) c.in_err-add_group.field-0.0 c.in_err-add_group.ensures.err
    c.add_group.ensures.survives)
