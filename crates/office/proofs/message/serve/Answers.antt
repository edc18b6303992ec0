use Rattle.std.proofs.Common.{Some}
use Rattle.popline.specs.Replies.{StoreFailed}
use Rattle.office.proofs.Owing.{owes_put}
use Rattle.office.proofs.message.serve.Goals as goal

pub returns-clause-served : goal.returns-clause-served
returns-clause-served g c d s coming held clean reads = record {
  held = c.send_text.ensures.looks.held d held clean;
  owed = (owes_put d (Some s) c.clear.new.self c.say.new.self StoreFailed c.clear.ensures c.in_ok-say.ensures, c.in_ok-send_text.ensures.cause c.if-branch.false d s coming held clean reads);
}
