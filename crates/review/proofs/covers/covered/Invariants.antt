use Rattle.std.proofs.Common.{◌≡◌}
use Rattle.review.specs.Covers.{cover_lines}
use Rattle.review.proofs.covers.covered.Given as goal

abbrev pub invariant-loop-place : goal.invariant-loop-place
invariant-loop-place l = l.text.items ≡ cover_lines l.policy l.place
