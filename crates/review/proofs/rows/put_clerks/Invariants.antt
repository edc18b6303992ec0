use Rattle.std.proofs.Common.{◌≡◌, ◌++◌, take}
use Rattle.std.specs.List.{flat_map}
use Rattle.review.specs.Steps.{answers_clerk}
use Rattle.review.proofs.rows.put_clerks.Given as goal

abbrev pub invariant-loop-clerk : goal.invariant-loop-clerk
invariant-loop-clerk l = l.out.items ≡ l.initial.out.items ++ flat_map (answers_clerk l.format l.policy l.maildrops l.asked) (take l.clerk-index l.clerks)
