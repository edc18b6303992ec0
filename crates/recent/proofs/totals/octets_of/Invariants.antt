-- The octets of the messages so far.
use Rattle.std.proofs.Common.{◌≡◌, ◌-◌, ◌^◌, take, min}
use Rattle.std.specs.Prelude.{sum_by}
use Rattle.vault.specs.declared.answer.Head.{Head}
use Rattle.recent.proofs.totals.octets_of.Given as goal

abbrev pub invariant-loop-head : goal.invariant-loop-head
invariant-loop-head l = l.octets ≡ min (sum_by (λ (h : Head). h.octets) (take l.head-index l.heads)) (2 ^ 64 - 1)
