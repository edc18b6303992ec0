use Rattle.std.proofs.Common.{◌++◌, ◌/◌, length, ap, ◌∙◌}
use Rattle.sqlvault.specs.Arrivals.{Arrival}
use Rattle.sqlvault.proofs.FrameLemmas.{writes_nothing}
use Rattle.sqlvault.proofs.ComingLemmas.{rest_written}
use Rattle.sqlvault.proofs.coming.put_sheets.Goals as goal

pub returns-clause-writes : goal.returns-clause-writes
returns-clause-writes g c =
    rest_written {store = g.S.Store} {old = c.args.conn.now} {new = c.add_rest.new.conn} c.sheets-from.result (length c.args.coming.now.put / 4096) c.key-key.result c.args.coming.now.key
    c.bytes.result.now (c.args.coming.now.put ++ c.args.octets.now) c.add_rest.result c.sheets-from.ensures.value c.key-key.ensures
    (c.bytes.ensures ∙ ap (λ (a : Arrival). a.put) c.in_ok-take_in.ensures) c.add_rest.ensures

pub returns-in_err-take_in-clause-writes : goal.returns-in_err-take_in-clause-writes
returns-in_err-take_in-clause-writes g c =
    writes_nothing g.S.Store c.args.conn.now _ c.from_residual.result _ c.from_residual.ensures.1
