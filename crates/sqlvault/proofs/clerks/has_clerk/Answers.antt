use Rattle.std.proofs.Common.{◌∙◌, ap}
use Rattle.std.specs.Prelude.{is_some, Option}
use Rattle.sqlite.specs.Held.{state}
use Rattle.vault.specs.Records.{credential_in}
use Rattle.mailsql.specs.declared.rows.Clerk.{Clerk}
use Rattle.mailsql.specs.Rows.{rows_in}
use Rattle.sqlvault.proofs.FrameLemmas.{passed}
use Rattle.sqlvault.proofs.SeesLemmas.{learns, sees_asked, sees_failed}
use Rattle.sqlvault.proofs.ClerkLemmas.{is_there}
use Rattle.sqlvault.proofs.clerks.has_clerk.Goals as goal

pub returns : goal.returns
returns g c = learns
    (sees_asked g.S.Store c.args.conn.now c.find_clerk.new.conn c.in_ok-found.ensures.same
    c.find_clerk.ensures.survives
    (λ clean tables k keeps.
    c.is_some.ensures
    ∙ ap (λ (o : Option Clerk). is_some o) (c.in_ok-found.ensures.ok clean tables)
    ∙ is_there (rows_in (state g.S.Store c.args.conn.now).now.trees) k c.as_bytes.result.now keeps
    ∙ ap (λ n. is_some (credential_in n k.clerks)) c.as_bytes.ensures.value))

pub returns-in_err-found : goal.returns-in_err-found
returns-in_err-found g c = rw (passed c.from_residual.ensures.1) (learns
    (sees_failed g.S.Store c.args.conn.now c.find_clerk.new.conn c.in_err-found.ensures.err
    c.find_clerk.ensures.survives (λ k. tt)))
