use Rattle.std.proofs.Common.{◌≡◌, take}
use Rattle.std.specs.List.{flat_map}
use Rattle.review.specs.Names.{name_in, put_names}
use Rattle.review.proofs.names.add_classes.Given as goal

abbrev pub invariant-loop-rule : goal.invariant-loop-rule
invariant-loop-rule l = l.names.keys ≡ put_names l.initial.names.keys (flat_map (λ r. name_in r.class) (take l.rule-index l.rules))
