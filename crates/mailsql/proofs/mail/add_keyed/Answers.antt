use Rattle.std.proofs.Common.{to_z-of_z}
use Rattle.sqlite.specs.Held.{state}
use Rattle.sqlite.proofs.StateLemmas.{survives_weaker}
use Rattle.mailsql.specs.Rows.{Message}
use Rattle.mailsql.proofs.ResultLemmas.{on_ok_then}
use Rattle.mailsql.proofs.MessageLemmas.{add_keyed_ok, add_keyed_commits}
use Rattle.mailsql.proofs.mail.add_keyed.Goals as goal

pub returns-clause-ok : goal.returns-clause-ok
returns-clause-ok g c clean ready =
    on_ok_then _ (λ it. add_keyed_ok (state g.S.Store c.args.conn.now) (state g.S.Store c.run.new.conn)
    (let m : Message = record { key = c.args.key; maildrop = c.args.maildrop.now; class = c.args.class.now; k = c.args.k; octets = c.args.octets } in m) c.run.ensures.live it.0 ready it.1)
    (simp (to_z-of_z, c.ranges.key, c.ranges.k, c.ranges.octets) at (c.run.ensures.ok clean))

pub returns-clause-err : goal.returns-clause-err
returns-clause-err g c = c.run.ensures.err

pub returns-clause-cause : goal.returns-clause-cause
returns-clause-cause g c clean = simp (to_z-of_z, c.ranges.key, c.ranges.k, c.ranges.octets) at (c.run.ensures.cause clean)

pub returns-clause-survives : goal.returns-clause-survives
returns-clause-survives g c = survives_weaker _ _ _ _
    (λ _ db may. add_keyed_commits (state g.S.Store c.args.conn.now) (state g.S.Store c.run.new.conn)
    (let m : Message = record { key = c.args.key; maildrop = c.args.maildrop.now; class = c.args.class.now; k = c.args.k; octets = c.args.octets } in m) c.run.ensures.live db may)
    (simp (to_z-of_z, c.ranges.key, c.ranges.k, c.ranges.octets) at (c.run.ensures.survives))
