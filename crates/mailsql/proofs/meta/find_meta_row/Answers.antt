use Rattle.std.proofs.Common.{refl, ◌∙◌}
use Rattle.sqlite.specs.Held.{state}
use Rattle.mailsql.specs.Rows.{is_meta_row}
use Rattle.mailsql.proofs.StateLemmas.{never, never_old}
use Rattle.mailsql.proofs.OrderLemmas.{first_is}
use Rattle.mailsql.proofs.MetaLemmas.{find_old_meta_row_asks, find_old_meta_row_shows, find_meta_row_asks, find_meta_row_shows}
use Rattle.mailsql.proofs.ErrorLemmas.{asked_same_of, asked_undone_of, asked_ok, asked_same, asked_undone, asked_fails}
use Rattle.mailsql.proofs.HeldLemmas.{meta_rows_held}
use Rattle.mailsql.proofs.QueryLemmas.{shown_open}
use Rattle.mailsql.proofs.MetaTableLemmas.{find_first_asks, find_first_shows, never_first}
use Rattle.mailsql.proofs.meta.find_meta_row.Goals as goal

pub returns-clause-ok : goal.returns-clause-ok
returns-clause-ok g c clean tables =
    asked_ok _ _ _ _ _ _ _ (c.first.ensures.ok clean)
    (λ found rows shown e. e ∙ first_is _ (is_meta_row c.args.name.now) rows _
    (find_meta_row_shows (state g.S.Store c.args.conn.now) (state g.S.Store c.first.new.conn) c.args.name.now rows tables shown c.first.ensures.live))

pub returns-clause-same : goal.returns-clause-same
returns-clause-same g c clean tables =
    asked_same _ _ _ _ _ find_meta_row_asks (λ _ db. refl) (state g.S.Store c.args.conn.now) (state g.S.Store c.first.new.conn) _ tables _ _ (c.first.ensures.ok clean)

pub returns-clause-err : goal.returns-clause-err
returns-clause-err g c clean tables =
    asked_undone _ _ _ _ _ find_meta_row_asks (λ _ db. refl) (state g.S.Store c.args.conn.now) (state g.S.Store c.first.new.conn) _ tables _ _ (c.first.ensures.err clean)

pub returns-clause-cause : goal.returns-clause-cause
returns-clause-cause g c clean tables =
    asked_fails _ _ _ _ _ find_meta_row_asks (λ _ db. refl) (state g.S.Store c.args.conn.now)
    (state g.S.Store c.first.new.conn) _ tables _ _ c.first.ensures.live (λ kept. kept.1.0) (λ kept sound. meta_rows_held _ kept.0 sound) (c.first.ensures.err clean)

pub returns-clause-survives : goal.returns-clause-survives
returns-clause-survives g c = never _ _ (state g.S.Store c.args.conn.now) (state g.S.Store c.first.new.conn) (λ b. (find_meta_row_asks b).plain) c.first.ensures.survives

pub returns-clause-old_ok : goal.returns-clause-old_ok
returns-clause-old_ok g c clean tables =
    asked_ok _ _ _ _ _ _ _ (c.first.ensures.ok clean)
    (λ all rows shown e. e ∙ first_is _ (is_meta_row c.args.name.now) rows _
    (find_old_meta_row_shows (state g.S.Store c.args.conn.now) (state g.S.Store c.first.new.conn) c.args.name.now rows
    (tables (shown_open _ _ _ _ rows shown)) (c.first.ensures.live (shown_open _ _ _ _ rows shown)).0 shown))

pub returns-clause-old_same : goal.returns-clause-old_same
returns-clause-old_same g c clean tables =
    asked_same_of _ _ _ _ _ _ (find_old_meta_row_asks _) (λ db. refl) (state g.S.Store c.args.conn.now) (state g.S.Store c.first.new.conn) _ (λ up. (tables up).0) _ _ (c.first.ensures.ok clean)

pub returns-clause-old_err : goal.returns-clause-old_err
returns-clause-old_err g c clean tables =
    asked_undone_of _ _ _ _ _ _ (find_old_meta_row_asks _) (λ db. refl) (state g.S.Store c.args.conn.now) (state g.S.Store c.first.new.conn) _ (λ up. (tables up).0) _ _ (c.first.ensures.err clean)

pub returns-clause-old_survives : goal.returns-clause-old_survives
returns-clause-old_survives g c = never_old _ _ (state g.S.Store c.args.conn.now) (state g.S.Store c.first.new.conn) (λ b. (find_old_meta_row_asks b).plain) c.first.ensures.survives

pub returns-clause-marked_ok : goal.returns-clause-marked_ok
returns-clause-marked_ok g c clean it =
    asked_ok _ _ _ _ _ _ _ (c.first.ensures.ok clean)
    (λ found rows shown e. e ∙ first_is _ (is_meta_row c.args.name.now) rows _
    (find_first_shows (state g.S.Store c.args.conn.now) (state g.S.Store c.first.new.conn) c.args.name.now rows it (c.first.ensures.live (shown_open _ _ _ _ rows shown)).0 shown))

pub returns-clause-marked_same : goal.returns-clause-marked_same
returns-clause-marked_same g c clean it =
    asked_same_of _ _ _ _ _ _ (find_first_asks _ it.others it.first) (λ db. refl) (state g.S.Store c.args.conn.now) (state g.S.Store c.first.new.conn) _ (λ up. refl) _ _ (c.first.ensures.ok clean)

pub returns-clause-marked_err : goal.returns-clause-marked_err
returns-clause-marked_err g c clean it =
    asked_undone_of _ _ _ _ _ _ (find_first_asks _ it.others it.first) (λ db. refl) (state g.S.Store c.args.conn.now) (state g.S.Store c.first.new.conn) _ (λ up. refl) _ _ (c.first.ensures.err clean)

pub returns-clause-marked_survives : goal.returns-clause-marked_survives
returns-clause-marked_survives g c = never_first _ (state g.S.Store c.args.conn.now) (state g.S.Store c.first.new.conn) c.first.ensures.survives
