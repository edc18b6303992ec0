use Rattle.std.proofs.Common.{◌≡◌, take}
use Rattle.std.specs.List.{flat_map}
use Rattle.review.specs.Names.{clerk_of, put_names}
use Rattle.review.proofs.names.add_rules_clerks.Given as goal

abbrev pub invariant-loop-rule : goal.invariant-loop-rule
invariant-loop-rule l = l.names.keys ≡ put_names l.initial.names.keys (flat_map (λ r. clerk_of r.clerk) (take l.rule-index l.rules))
