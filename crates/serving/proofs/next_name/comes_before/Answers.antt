-- Texts are ordered as their octets are.
use Rattle.std.proofs.Common.{◌∙◌}
use Rattle.creds.proofs.OrderLemmas.{is_lt-slice_cmp}
use Rattle.serving.proofs.next_name.comes_before.Goals as goal

pub returns : goal.returns
returns c = c.lt.ensures ∙ is_lt-slice_cmp c.args.first.now c.args.second.now
