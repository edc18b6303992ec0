use Rattle.std.proofs.Common.{sym, take_all, arith}
use Rattle.std.proofs.lemmas.List.{length-take-le}
use Rattle.adminhttp.proofs.HeadLemmas.{length_take_le}
use Rattle.adminhttp.proofs.head.front_of.Goals as goal

pub returns-then-octets-le-MAX_HEAD-clause-value : goal.returns-then-octets-le-MAX_HEAD-clause-value
returns-then-octets-le-MAX_HEAD-clause-value c = sym (take_all 8192 c.args.octets.now c.if-octets-le-MAX_HEAD.true)

pub slice_bounds-result-end : goal.slice_bounds-result-end
slice_bounds-result-end c = sym (length-take-le 8192 c.args.octets.now (omega arith))

pub returns-clause-short : goal.returns-clause-short
returns-clause-short c = length_take_le 8192 c.args.octets.now
