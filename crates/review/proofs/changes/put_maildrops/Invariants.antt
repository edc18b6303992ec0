use Rattle.std.proofs.Common.{◌≡◌, ◌++◌, take}
use Rattle.std.specs.List.{flat_map}
use Rattle.review.specs.Steps.{told_maildrop}
use Rattle.review.proofs.changes.put_maildrops.Given as goal

abbrev pub invariant-loop-maildrop : goal.invariant-loop-maildrop
invariant-loop-maildrop l = l.out.items ≡ l.initial.out.items ++ flat_map (told_maildrop l.allowed l.clerk l.asked l.rules.old.items l.rules.new.items) (take l.maildrop-index l.maildrops)
