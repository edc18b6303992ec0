-- The first that is of the name and of the id.
use Rattle.std.proofs.Common.{◌∙◌, sym}
use Rattle.std.specs.Str.{bytes_eq}
use Rattle.vault.proofs.ListLemmas.{find-filter}
use Rattle.vault.proofs.deposits.receipt_of.Goals as goal

pub returns : goal.returns
returns c = c.copied.ensures ∙ c.first_receipt.ensures ∙ sym (find-filter (λ r. bytes_eq r.maildrop c.args.maildrop.now) (λ r. bytes_eq r.id c.args.id.now) c.args.deposits.now)
