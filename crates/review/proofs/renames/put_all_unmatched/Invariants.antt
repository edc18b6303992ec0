use Rattle.std.proofs.Common.{◌≡◌, ◌++◌}
use Rattle.review.specs.Places.{texts_of}
use Rattle.review.specs.Renames.{unmatched_line}
use Rattle.review.proofs.renames.put_all_unmatched.Given as goal

abbrev pub invariant-loop-place : goal.invariant-loop-place
invariant-loop-place l = l.out.items ≡ l.initial.out.items ++ texts_of (unmatched_line l.groups l.these l.own l.how) l.own l.place
