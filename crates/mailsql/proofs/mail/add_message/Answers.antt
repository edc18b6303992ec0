use Rattle.std.proofs.Common.{to_z-of_z, SFits, w64}
use Rattle.sqlite.specs.Held.{state}
use Rattle.mailsql.proofs.StateLemmas.{error_undone}
use Rattle.mailsql.proofs.MessageLemmas.{add_message_ok, add_message_commits}
use Rattle.sqlite.proofs.StateLemmas.{survives_weaker}
use Rattle.mailsql.proofs.mail.add_message.Goals as goal

pub returns-in-Ok-clause-ok : goal.returns-in-Ok-clause-ok
returns-in-Ok-clause-ok g c clean ready =
    let fits : SFits w64 c.last_insert_rowid.result = record { sfits = c.last_insert_rowid.type_inv } in
    rw (to_z-of_z fits, c.last_insert_rowid.ensures)
    (add_message_ok (state g.S.Store c.args.conn.now)
    (state g.S.Store c.execute.new.self) c.args.maildrop.now c.args.class.now c.args.k c.args.octets c.schema-schema.ensures.live c.in-Ok.field-0 ready
    (simp (to_z-of_z, c.ranges.k, c.ranges.octets) at (c.in-Ok.ensures.runs clean)))

pub returns-in-Ok-clause-survives : goal.returns-in-Ok-clause-survives
returns-in-Ok-clause-survives g c =
    survives_weaker _ _ _ _ (λ _ db may. add_message_commits (state g.S.Store c.args.conn.now)
    (state g.S.Store c.execute.new.self) c.args.maildrop.now c.args.class.now c.args.k c.args.octets c.schema-schema.ensures.live db may)
    (simp (to_z-of_z, c.ranges.k, c.ranges.octets) at c.execute.ensures.survives)

pub returns-in-Err-clause-err : goal.returns-in-Err-clause-err
returns-in-Err-clause-err g c clean = error_undone (state g.S.Store c.args.conn.now) (state g.S.Store c.execute.new.self) _ _ _ (c.in-Err.ensures.runs clean)

pub returns-in-Err-clause-survives : goal.returns-in-Err-clause-survives
returns-in-Err-clause-survives g c =
    survives_weaker _ _ _ _ (λ _ db may. add_message_commits (state g.S.Store c.args.conn.now)
    (state g.S.Store c.execute.new.self) c.args.maildrop.now c.args.class.now c.args.k c.args.octets c.schema-schema.ensures.live db may)
    (simp (to_z-of_z, c.ranges.k, c.ranges.octets) at c.execute.ensures.survives)

pub returns-in-Err-clause-cause : goal.returns-in-Err-clause-cause
returns-in-Err-clause-cause g c clean = simp (to_z-of_z, c.ranges.k, c.ranges.octets) at (c.in-Err.ensures.runs clean)
