use Rattle.std.proofs.Common.{◌≡◌, ◌∙◌, ap, sym, Bool, true, false, true≢false}
use Rattle.sqlite.specs.Held.{state}
use Rattle.mailsql.specs.Tables.{old_schema}
use Rattle.mailsql.specs.OlderVersions.{is_first}
use Rattle.sqlvault.proofs.carry.has_older_columns.Goals as goal

pub returns-in-First-clause-fits : goal.returns-in-First-clause-fits
returns-in-First-clause-fits g c is = c.has_first_columns.ensures.first (is ∙ ap (λ v. old_schema (is_first v)) c.in-First.is)

pub returns-in-Second-clause-fits : goal.returns-in-Second-clause-fits
returns-in-Second-clause-fits g c is = c.has_second_columns.ensures.second (is ∙ ap (λ v. old_schema (is_first v)) c.in-Second.is)

pub returns-in-First-clause-order : goal.returns-in-First-clause-order
returns-in-First-clause-order g c order is has = go order is
  where
    go : (b : Bool) → (state g.S.Store c.args.conn.now).now.schema ≡ old_schema b → b ≡ is_first c.args.version
    go true e = sym (ap is_first c.in-First.is)
    go false e = absurd (true≢false (sym has ∙ c.has_first_columns.ensures.second e))

pub returns-in-Second-clause-order : goal.returns-in-Second-clause-order
returns-in-Second-clause-order g c order is has = go order is
  where
    go : (b : Bool) → (state g.S.Store c.args.conn.now).now.schema ≡ old_schema b → b ≡ is_first c.args.version
    go false e = sym (ap is_first c.in-Second.is)
    go true e = absurd (true≢false (sym has ∙ c.has_second_columns.ensures.first e))
