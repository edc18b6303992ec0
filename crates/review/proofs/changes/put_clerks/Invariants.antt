use Rattle.std.proofs.Common.{◌≡◌, ◌++◌, take}
use Rattle.std.specs.List.{flat_map}
use Rattle.review.specs.Steps.{told_clerk}
use Rattle.review.proofs.changes.put_clerks.Given as goal

abbrev pub invariant-loop-clerk : goal.invariant-loop-clerk
invariant-loop-clerk l = l.out.items ≡ l.initial.out.items ++ flat_map (told_clerk l.change.allowed l.change.old.now l.change.new.now l.maildrops l.asked) (take l.clerk-index l.clerks)
