use Rattle.std.proofs.Common.{◌≡◌, take}
use Rattle.std.specs.Prelude.{sum_by}
use Rattle.vault.specs.declared.answer.Total.{Total}
use Rattle.converse.specs.Checked.{counted}
use Rattle.converse.proofs.check_store.count_messages.Given as goal

-- those of the maildrops that came are counted
abbrev pub invariant-loop-total : goal.invariant-loop-total
invariant-loop-total l = l.count ≡ counted (sum_by (λ (t : Total). t.messages) (take l.total-index l.totals))
