use Rattle.std.proofs.Common.{rules}
use Rattle.office.proofs.Remembering.{remembered}
use Rattle.office.proofs.transaction.next_login_state.Goals as goal

pub returns : goal.returns
returns c = λ p v. remembered p v c.args.outcome c.args.line.now c.args.state _ _ c.next_user.ensures (search rules)
