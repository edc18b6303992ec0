use Rattle.session.specs.Session.{octets_of}
use Rattle.session.specs.View.{unmarked, sizes_of}
use Rattle.office.proofs.ListedRows.{next_behind}
use Rattle.office.proofs.output.sizes_behind.Goals as goal

pub loop-preserved : goal.loop-preserved
loop-preserved c =
    let s = c.args.session.now in
    next_behind c.next.result (sizes_of octets_of (unmarked s.marks s.view)) c.loop.rows c.next.new.self c.loop.counter c.loop.invariant c.next.ensures.steps
