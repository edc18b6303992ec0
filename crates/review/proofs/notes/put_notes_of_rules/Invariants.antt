use Rattle.std.proofs.Common.{◌≡◌, ◌++◌}
use Rattle.review.specs.Notes.{notes_of_rule}
use Rattle.review.specs.Places.{texts_of}
use Rattle.review.proofs.notes.put_notes_of_rules.Given as goal

abbrev pub invariant-loop-place : goal.invariant-loop-place
invariant-loop-place l = l.out.items ≡ l.initial.out.items ++ texts_of (notes_of_rule l.policy l.kept) l.policy.rules l.place
