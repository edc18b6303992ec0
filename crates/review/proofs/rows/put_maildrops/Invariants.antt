use Rattle.std.proofs.Common.{◌≡◌, ◌++◌, take}
use Rattle.std.specs.List.{flat_map}
use Rattle.review.specs.Steps.{answers_maildrop}
use Rattle.review.proofs.rows.put_maildrops.Given as goal

abbrev pub invariant-loop-maildrop : goal.invariant-loop-maildrop
invariant-loop-maildrop l = l.out.items ≡ l.initial.out.items ++ flat_map (answers_maildrop l.format l.clerk l.asked l.rules) (take l.maildrop-index l.maildrops)
