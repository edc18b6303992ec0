use Rattle.std.proofs.Common.{◌≡◌}
use Rattle.review.specs.Places.{texts_of}
use Rattle.review.specs.Renames.{renamed_line}
use Rattle.review.proofs.renames.renamed.Given as goal

abbrev pub invariant-loop-place : goal.invariant-loop-place
invariant-loop-place l = l.text.items ≡ texts_of (renamed_line l.old l.new) l.new.rules l.place
