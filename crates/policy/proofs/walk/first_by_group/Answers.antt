use Rattle.std.proofs.Common.{◌≡◌, ◌∙◌, ◌<◌, ◌≤◌, List, [], filter, length, min, get_or, sym, ap, arith, rules, take_all, ◌&&◌}
use Rattle.std.proofs.lemmas.List.{get_or-map, length-map}
use Rattle.std.specs.List.{list_any}
use Rattle.policy.specs.declared.group_starts.GroupStart.{GroupStart}
use Rattle.policy.specs.Index.{place_from}
use Rattle.policy.specs.Lane.{group_start, is_about_action, is_about_group}
use Rattle.policy.specs.Policy.{Group, has_member}
use Rattle.policy.proofs.FourKeys.{own-none, own-more, own-all}
use Rattle.policy.proofs.walk.first_by_group.Goals as goal

pub loop-start-init : goal.loop-start-init
loop-start-init c = λ own maildrop e. own-none own maildrop (is_about_action c.args.action c.args.class.now) c.args.rules.now

some_group : Group
some_group = record { name = []; members = [] }

pub loop-start-preserved : goal.loop-start-preserved
loop-start-preserved c = λ own maildrop e.
    let q = is_about_action c.args.action c.args.class.now in
    let all = c.args.rules.now in
    let i = c.loop-start.start-index in
    let none : GroupStart = record { maildrop = 0; all = 0 } in
    let start : Group → GroupStart = λ g. group_start all maildrop g.name in
    let within : i < length own = omega (arith, ap (λ (s : List GroupStart). length s) e ∙ length-map own start) in
    let at : get_or c.args.starts.now i none ≡ start (get_or own i some_group) = ap (λ (s : List GroupStart). get_or s i none) e ∙ get_or-map start own i some_group none within in
    let one = c.first_of_group.ensures maildrop (get_or own i some_group).name at in
    let least : c.min-place.result ≡ min c.loop-start.place c.first_of_group.result = search rules in
    least ∙ rw (c.loop-start.invariant own maildrop e, one) (sym (own-more own i some_group maildrop q all within))

pub returns : goal.returns
returns c = λ groups clerk maildrop e.
    let q = is_about_action c.args.action c.args.class.now in
    let all = c.args.rules.now in
    let own = filter (λ (g : Group). has_member g clerk) groups in
    let start : Group → GroupStart = λ g. group_start all maildrop g.name in
    let ends : length own ≤ c.loop-start.start-index = omega (arith, ap (λ (s : List GroupStart). length s) e ∙ length-map own start) in
    c.loop-start.invariant own maildrop e
    ∙ ap (λ (gs : List Group). place_from (λ r. list_any (λ (g : Group). is_about_group g.name maildrop r) gs && q r) 0 all) (take_all c.loop-start.start-index own ends)
    ∙ own-all groups clerk maildrop q all
