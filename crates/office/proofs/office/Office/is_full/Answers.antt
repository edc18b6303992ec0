use Rattle.std.proofs.Common.{◌≤◌, rules}
use Rattle.office.specs.Expected.{most_number}
use Rattle.office.proofs.Counting.{full_by_len, full_by_number}
use Rattle.office.proofs.office.Office.is_full.Goals as goal

pub returns-then-len-ge-MOST_OPEN-clause-value : goal.returns-then-len-ge-MOST_OPEN-clause-value
returns-then-len-ge-MOST_OPEN-clause-value g c T st =
    full_by_len _ c.args.self.now T st c.len.ensures.ordered c.len.result c.len.ensures.len c.if-len-ge-MOST_OPEN.true

pub returns-else-len-ge-MOST_OPEN-clause-value : goal.returns-else-len-ge-MOST_OPEN-clause-value
returns-else-len-ge-MOST_OPEN-clause-value g c T st =
    let fits : c.args.self.now.opened ≤ most_number = search rules in
    full_by_number _ c.args.self.now T st c.len.ensures.ordered c.len.result c.len.ensures.len c.if-len-ge-MOST_OPEN.false fits
