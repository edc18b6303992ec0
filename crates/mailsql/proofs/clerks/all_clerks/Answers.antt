use Rattle.std.proofs.Common.{refl, ◌∙◌}
use Rattle.sqlite.specs.Held.{state}
use Rattle.mailsql.proofs.StateLemmas.{never}
use Rattle.mailsql.proofs.ClerkLemmas.{all_clerks_asks, all_clerks_shows}
use Rattle.mailsql.proofs.ErrorLemmas.{asked_ok, asked_same, asked_undone, asked_fails}
use Rattle.mailsql.proofs.HeldLemmas.{clerks_held}
use Rattle.mailsql.proofs.clerks.all_clerks.Goals as goal

pub returns-clause-ok : goal.returns-clause-ok
returns-clause-ok g c clean tables =
    asked_ok _ _ _ _ _ _ _ (c.list.ensures.ok clean) (λ all rows shown e. e ∙ all_clerks_shows (state g.S.Store c.args.conn.now) (state g.S.Store c.list.new.conn) rows tables shown)

pub returns-clause-same : goal.returns-clause-same
returns-clause-same g c clean tables = asked_same _ _ _ _ _ all_clerks_asks (λ _ db. refl) (state g.S.Store c.args.conn.now) (state g.S.Store c.list.new.conn) _ tables _ _ (c.list.ensures.ok clean)

pub returns-clause-err : goal.returns-clause-err
returns-clause-err g c clean tables = asked_undone _ _ _ _ _ all_clerks_asks (λ _ db. refl) (state g.S.Store c.args.conn.now) (state g.S.Store c.list.new.conn) _ tables _ _ (c.list.ensures.err clean)

pub returns-clause-cause : goal.returns-clause-cause
returns-clause-cause g c clean tables =
    asked_fails _ _ _ _ _ all_clerks_asks (λ _ db. refl) (state g.S.Store c.args.conn.now)
    (state g.S.Store c.list.new.conn) _ tables _ _ c.list.ensures.live (λ kept. kept.1.1.0) (λ kept sound. clerks_held _ kept.0 sound) (c.list.ensures.err clean)

pub returns-clause-survives : goal.returns-clause-survives
returns-clause-survives g c = never _ _ (state g.S.Store c.args.conn.now) (state g.S.Store c.list.new.conn) (λ b. (all_clerks_asks b).plain) c.list.ensures.survives
