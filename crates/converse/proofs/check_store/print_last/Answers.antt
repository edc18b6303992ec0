use Rattle.converse.proofs.Checking.{last_told}
use Rattle.converse.proofs.check_store.print_last.Goals as goal

pub returns : goal.returns
returns g c =
    last_told c.args.totals.now c.args.clerks c.args.rules _ _ _ _ c.count_messages-messages.ensures c.count_octets-octets.ensures c.in_ok-print_counts.ensures
