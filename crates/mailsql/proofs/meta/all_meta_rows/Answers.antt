use Rattle.std.proofs.Common.{refl, ◌∙◌}
use Rattle.sqlite.specs.Held.{state}
use Rattle.mailsql.proofs.StateLemmas.{never, never_old}
use Rattle.mailsql.proofs.MetaLemmas.{all_old_meta_rows_asks, all_old_meta_rows_shows, all_meta_rows_asks, all_meta_rows_shows}
use Rattle.mailsql.proofs.ErrorLemmas.{asked_same_of, asked_undone_of, asked_ok, asked_same, asked_undone, asked_fails}
use Rattle.mailsql.proofs.HeldLemmas.{meta_rows_held}
use Rattle.mailsql.proofs.QueryLemmas.{shown_open}
use Rattle.mailsql.proofs.meta.all_meta_rows.Goals as goal

pub returns-clause-ok : goal.returns-clause-ok
returns-clause-ok g c clean tables =
    asked_ok _ _ _ _ _ _ _ (c.list.ensures.ok clean) (λ all rows shown e. e ∙ all_meta_rows_shows (state g.S.Store c.args.conn.now) (state g.S.Store c.list.new.conn) rows tables shown)

pub returns-clause-same : goal.returns-clause-same
returns-clause-same g c clean tables = asked_same _ _ _ _ _ all_meta_rows_asks (λ _ db. refl) (state g.S.Store c.args.conn.now) (state g.S.Store c.list.new.conn) _ tables _ _ (c.list.ensures.ok clean)

pub returns-clause-err : goal.returns-clause-err
returns-clause-err g c clean tables =
    asked_undone _ _ _ _ _ all_meta_rows_asks (λ _ db. refl) (state g.S.Store c.args.conn.now) (state g.S.Store c.list.new.conn) _ tables _ _ (c.list.ensures.err clean)

pub returns-clause-cause : goal.returns-clause-cause
returns-clause-cause g c clean tables =
    asked_fails _ _ _ _ _ all_meta_rows_asks (λ _ db. refl) (state g.S.Store c.args.conn.now)
    (state g.S.Store c.list.new.conn) _ tables _ _ c.list.ensures.live (λ kept. kept.1.0) (λ kept sound. meta_rows_held _ kept.0 sound) (c.list.ensures.err clean)

pub returns-clause-survives : goal.returns-clause-survives
returns-clause-survives g c = never _ _ (state g.S.Store c.args.conn.now) (state g.S.Store c.list.new.conn) (λ b. (all_meta_rows_asks b).plain) c.list.ensures.survives

pub returns-clause-old_ok : goal.returns-clause-old_ok
returns-clause-old_ok g c clean tables =
    asked_ok _ _ _ _ _ _ _ (c.list.ensures.ok clean)
    (λ all rows shown e. e ∙ all_old_meta_rows_shows (state g.S.Store c.args.conn.now) (state g.S.Store c.list.new.conn) rows (tables (shown_open _ _ _ _ rows shown)) shown)

pub returns-clause-old_same : goal.returns-clause-old_same
returns-clause-old_same g c clean tables =
    asked_same_of _ _ _ _ _ _ (all_old_meta_rows_asks _) (λ db. refl) (state g.S.Store c.args.conn.now) (state g.S.Store c.list.new.conn) _ (λ up. (tables up).0) _ _ (c.list.ensures.ok clean)

pub returns-clause-old_err : goal.returns-clause-old_err
returns-clause-old_err g c clean tables =
    asked_undone_of _ _ _ _ _ _ (all_old_meta_rows_asks _) (λ db. refl) (state g.S.Store c.args.conn.now) (state g.S.Store c.list.new.conn) _ (λ up. (tables up).0) _ _ (c.list.ensures.err clean)

pub returns-clause-old_survives : goal.returns-clause-old_survives
returns-clause-old_survives g c = never_old _ _ (state g.S.Store c.args.conn.now) (state g.S.Store c.list.new.conn) (λ b. (all_old_meta_rows_asks b).plain) c.list.ensures.survives
