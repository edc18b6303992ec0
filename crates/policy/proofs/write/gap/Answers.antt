use Rattle.std.proofs.Common.{◌<◌, codes, length, map, arith}
use Rattle.std.proofs.lemmas.Grind.{common_steps}
use Rattle.std.proofs.lemmas.List.{length-map}
use Rattle.policy.specs.WrittenText.{group_text, rule_text}
use Rattle.policy.proofs.Written.{joined-some}
use Rattle.policy.proofs.write.gap.Goals as goal

pub returns : goal.returns
returns c =
    let groups = c.args.groups.now in
    let rules = c.args.rules.now in
    let a : 0 < length groups = grind (arith, common_steps, c.is_empty.ensures, c.if-is_empty.false) in
    let b : 0 < length rules = grind (arith, common_steps, c.is_empty-2.ensures, c.if-is_empty-2.false) in
    joined-some (codes "\n") (map group_text groups) (map rule_text rules) (rw (length-map groups group_text) a) (rw (length-map rules rule_text) b)
