use Rattle.std.proofs.Common.{inl, ◌∷◌, to_z-of_z}
use Rattle.sqlite.specs.Held.{state}
use Rattle.mailsql.proofs.ResultLemmas.{on_ok, on_err}
use Rattle.mailsql.proofs.StateLemmas.{query_undone, never}
use Rattle.mailsql.proofs.PlaceLemmas.{members_plain, by_place_same, by_place_shows, by_place_held, reads_members}
use Rattle.mailsql.proofs.ErrorLemmas.{fails_to_read}
use Rattle.mailsql.specs.Rows.{HoldsMember}
use Rattle.sqlite_value.specs.declared.value.Value.TheVariants.{Null}
use Rattle.mailsql.proofs.groups.members.Goals as goal

pub returns-in-Ok-clause-ok : goal.returns-in-Ok-clause-ok
returns-in-Ok-clause-ok g c clean tables =
    reads_members _ _ _ c.as_slice.ensures.value
    (by_place_shows (state g.S.Store c.args.conn.now) (state g.S.Store c.query_all.new.self) c.args.group _ tables
    (simp (to_z-of_z, c.ranges.group) at (c.in-Ok.ensures.ok clean)) c.schema-schema.ensures.live) _ c.read_all.ensures.ok

pub returns-in-Ok-clause-same : goal.returns-in-Ok-clause-same
returns-in-Ok-clause-same g c clean tables =
    on_ok _ _ (by_place_same (state g.S.Store c.args.conn.now) (state g.S.Store c.query_all.new.self) c.args.group _ tables (simp (to_z-of_z, c.ranges.group) at (c.in-Ok.ensures.ok clean)))

pub returns-in-Ok-clause-err : goal.returns-in-Ok-clause-err
returns-in-Ok-clause-err g c clean tables =
    on_err _ _ (inl (by_place_same (state g.S.Store c.args.conn.now) (state g.S.Store c.query_all.new.self) c.args.group _ tables (simp (to_z-of_z, c.ranges.group) at (c.in-Ok.ensures.ok clean))))

pub returns-in-Ok-clause-survives : goal.returns-in-Ok-clause-survives
returns-in-Ok-clause-survives g c = never _ _ (state g.S.Store c.args.conn.now) (state g.S.Store c.query_all.new.self) members_plain c.query_all.ensures.survives

pub returns-in-Err-clause-err : goal.returns-in-Err-clause-err
returns-in-Err-clause-err g c clean tables = query_undone (state g.S.Store c.args.conn.now) (state g.S.Store c.query_all.new.self) _ _ _ (c.in-Err.ensures.err clean)

pub returns-in-Err-clause-survives : goal.returns-in-Err-clause-survives
returns-in-Err-clause-survives g c = never _ _ (state g.S.Store c.args.conn.now) (state g.S.Store c.query_all.new.self) members_plain c.query_all.ensures.survives

pub returns-in-Ok-clause-cause : goal.returns-in-Ok-clause-cause
returns-in-Ok-clause-cause g c clean tables =
    let old = state g.S.Store c.args.conn.now in
    let new = state g.S.Store c.query_all.new.self in
    fails_to_read (λ r. HoldsMember (Null ∷ r)) _ _ old new _ _ c.as_slice.ensures.value
    (simp (to_z-of_z, c.ranges.group) at (c.in-Ok.ensures.ok clean))
    (by_place_held old new c.args.group _ tables (simp (to_z-of_z, c.ranges.group) at (c.in-Ok.ensures.ok clean)) c.schema-schema.ensures.live) _ c.read_all.ensures.memory

pub returns-in-Err-clause-cause : goal.returns-in-Err-clause-cause
returns-in-Err-clause-cause g c clean tables = inl (simp (to_z-of_z, c.ranges.group) at (c.in-Err.ensures.err clean))
