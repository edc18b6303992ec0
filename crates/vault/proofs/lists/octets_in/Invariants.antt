-- The octets of the messages so far.
use Rattle.std.proofs.Common.{◌≡◌, ◌-◌, ◌^◌, length, take, min}
use Rattle.std.specs.Prelude.{sum_by}
use Rattle.vault.specs.Changes.{kept_in}
use Rattle.vault.proofs.lists.octets_in.Given as goal

abbrev pub invariant-loop-kept : goal.invariant-loop-kept
invariant-loop-kept l = l.octets ≡ min (sum_by (λ x. length x.message.text) (kept_in l.maildrop (take l.kept-index l.messages))) (2 ^ 64 - 1)
