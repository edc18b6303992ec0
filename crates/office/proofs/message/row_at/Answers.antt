use Rattle.office.proofs.Naming.{row_picked, row_refused}
use Rattle.office.proofs.message.row_at.Goals as goal

pub returns-in-Ok : goal.returns-in-Ok
returns-in-Ok c = row_picked c.args.session.now c.args.n c.in-Ok.head c.in-Ok.ensures

pub returns-in-Err : goal.returns-in-Err
returns-in-Err c = row_refused c.args.session.now c.args.n _ c.in-Err.ensures
