-- Names are ordered as their octets are.
use Rattle.std.proofs.Common.{◌∙◌}
use Rattle.creds.proofs.OrderLemmas.{is_lt-slice_cmp}
use Rattle.vault.proofs.lists.comes_first.Goals as goal

pub returns : goal.returns
returns c = c.lt.ensures ∙ is_lt-slice_cmp c.args.first.now c.args.second.now
