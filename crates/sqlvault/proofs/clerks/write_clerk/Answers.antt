use Rattle.std.proofs.Common.{◌⊎◌, ◌∙◌, subst, rules, to_z, of_z, to_z-of_z, w64, SFits, Ok}
use Rattle.mailsql.specs.declared.rows.Clerk.{Clerk}
use Rattle.mailsql.specs.Changes.{PutsClerk, DropsClerk}
use Rattle.sqlvault.proofs.ClerkLemmas.{row_made}
use Rattle.sqlvault.proofs.HoldsLemmas.{met}
use Rattle.sqlvault.proofs.FrameLemmas.{passed, was_clean, unbegun, rest, written_in, begins_clean}
use Rattle.sqlvault.proofs.FrameLemmas.{concluded_turns, concluded_answer}
use Rattle.sqlvault.proofs.clerks.write_clerk.Goals as goal

pub returns-in_err-begin-clause-written : goal.returns-in_err-begin-clause-written
returns-in_err-begin-clause-written g c = rw (passed c.from_residual.ensures.1) (λ k after clean h keep. rest ((unbegun c.in_err-begin.ensures).rests clean k h))

pub returns-in_err-begin-clause-answer : goal.returns-in_err-begin-clause-answer
returns-in_err-begin-clause-answer g c = rw (passed c.from_residual.ensures.1) (met (Ok tt) c.in_err-begin.field-0.0)

pub returns-in_err-begin-clause-clean : goal.returns-in_err-begin-clause-clean
returns-in_err-begin-clause-clean g c clean = begins_clean c.begin.ensures clean

pub returns-clause-written : goal.returns-clause-written
returns-clause-written g c k after clean h keep =
    let text = c.as_bytes-name.result.now in
    let kind = to_z w64 (of_z w64 c.kind_of.result) in
    let secret = c.secret_of-secret.result.now in
    let row : Clerk = record { name = text; kind = kind; secret = secret } in
    let fits : SFits w64 c.kind_of.result = search rules in
    let row_is = row_made c.args.clerk.now text secret kind c.args.credential.now
    c.as_bytes-name.ensures.value (to_z-of_z fits ∙ c.kind_of.ensures)
    c.secret_of-secret.ensures.value in
    concluded_turns (λ Held. Held after) c.put_clerk-put.result c.conclude.result k c.in_ok-begin.ensures
    (written_in g.S.Store c.begin.new.conn c.put_clerk-put.new.conn (PutsClerk row)
    (λ from to. DropsClerk text from to ⊎ PutsClerk row from to) c.put_clerk-put.result
    c.put_clerk-put.ensures.ok c.put_clerk-put.ensures.err c.put_clerk-put.ensures.survives)
    (λ from to kept change. (
      after,
      keep from to (subst (λ (x : Clerk). PutsClerk x from to) row_is change) kept,
      λ Held held. held,
    ))
    c.conclude.ensures clean h

pub returns-clause-answer : goal.returns-clause-answer
returns-clause-answer g c = concluded_answer c.put_clerk-put.result c.conclude.result c.conclude.ensures

pub returns-clause-clean : goal.returns-clause-clean
returns-clause-clean g c clean = begins_clean c.begin.ensures (was_clean g.S.Store c.begin.new.conn
    c.put_clerk-put.new.conn c.put_clerk-put.ensures.survives (c.conclude.ensures.clean clean))
