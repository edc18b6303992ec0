use Rattle.session.specs.Session.{uid_of}
use Rattle.session.specs.View.{unmarked, uids_of}
use Rattle.office.proofs.ListedRows.{next_behind}
use Rattle.office.proofs.output.uids_behind.Goals as goal

pub loop-preserved : goal.loop-preserved
loop-preserved c =
    let s = c.args.session.now in
    next_behind c.next.result (uids_of uid_of (unmarked s.marks s.view)) c.loop.rows c.next.new.self c.loop.counter c.loop.invariant c.next.ensures.steps
