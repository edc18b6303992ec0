use Rattle.popline.specs.Seen.{reply_seen}
use Rattle.office.proofs.Owing.{owes_put}
use Rattle.office.proofs.login_state.say.Goals as goal

pub returns-clause-owed : goal.returns-clause-owed
returns-clause-owed c d s = owes_put d s c.args.output.now c.say.new.self (reply_seen c.args.reply.now) c.requires c.in_ok-say.ensures
