use Rattle.std.proofs.Common.{◌∙◌, ap, arith}
use Rattle.policy.specs.Policy.{Group}
use Rattle.review.specs.Names.{put_names}
use Rattle.review.proofs.Naming.{part_more}
use Rattle.review.proofs.names.add_members.Goals as goal

pub loop-group-preserved : goal.loop-group-preserved
loop-group-preserved c =
    part_more (λ (g : Group). g.members) c.args.names.now.keys c.loop-group.names.keys c.add_names.new.names.keys c.args.groups.now c.loop-group.group-index c.group-item.result
    (omega arith) c.group-item.is c.loop-group.invariant (c.in_ok-add_names.ensures ∙ ap (put_names c.loop-group.names.keys) c.members.ensures)
