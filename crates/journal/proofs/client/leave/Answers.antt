-- One client more is done.
use Rattle.std.proofs.Common.{arith}
use Rattle.vault.proofs.ClerkLemmas.{replaced_at}
use Rattle.journal.specs.Sessions.{left_client}
use Rattle.journal.proofs.client.leave.Goals as goal

pub loop-client-preserved : goal.loop-client-preserved
loop-client-preserved c =
    replaced_at (left_client c.args.maildrop.now) c.args.clients.now c.loop-client.clients c.loop-client.client-index
    c.client-item.result c.leave.new.self (omega arith) c.loop-client.invariant c.leave.ensures
