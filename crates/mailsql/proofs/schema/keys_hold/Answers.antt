use Rattle.std.proofs.Common.{rules}
use Rattle.sqlite.specs.Held.{state}
use Rattle.mailsql.proofs.KeyLemmas.{live_apart}
use Rattle.mailsql.proofs.schema.keys_hold.Goals as goal

pub returns : goal.returns
returns g c = record { apart = live_apart (state g.S.Store c.args.conn.now) (search rules) }
