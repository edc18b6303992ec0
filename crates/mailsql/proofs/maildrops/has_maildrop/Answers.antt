use Rattle.std.proofs.Common.{◌≡◌, not, rules, vec_len, length, true, false, Bool, refl, ap, ◌∙◌}
use Rattle.std.specs.Prelude.{◌==◌}
use Rattle.sqlite.specs.Held.{state}
use Rattle.mailsql.proofs.StateLemmas.{query_undone, never}
use Rattle.mailsql.proofs.FindLemmas.{found}
use Rattle.mailsql.proofs.Commands.{find_maildrop_plain}
use Rattle.mailsql.proofs.maildrops.has_maildrop.Goals as goal

not-not : (b : Bool) → not (not b) ≡ b
not-not true = refl
not-not false = refl

pub returns-in-Ok-clause-ok : goal.returns-in-Ok-clause-ok
returns-in-Ok-clause-ok g c clean ours =
    let old = state g.S.Store c.args.conn.now in
    let new = state g.S.Store c.query_all.new.self in
    let it = found old new c.args.name.now _ ours c.schema-schema.ensures.live ((c.in-Ok.ensures.ok clean)) in
    let len : vec_len c.in-Ok.rows ≡ length c.in-Ok.rows.items = search rules in
    ap not (c.is_empty.ensures ∙ ap (λ n. n == 0) len ∙ it.0) ∙ not-not _

pub returns-in-Ok-clause-same : goal.returns-in-Ok-clause-same
returns-in-Ok-clause-same g c clean ours =
    (found (state g.S.Store c.args.conn.now) (state g.S.Store c.query_all.new.self) c.args.name.now _ ours c.schema-schema.ensures.live ((c.in-Ok.ensures.ok clean))).1

pub returns-in-Ok-clause-survives : goal.returns-in-Ok-clause-survives
returns-in-Ok-clause-survives g c = never _ _ (state g.S.Store c.args.conn.now) (state g.S.Store c.query_all.new.self) find_maildrop_plain c.query_all.ensures.survives

pub returns-in-Err-clause-err : goal.returns-in-Err-clause-err
returns-in-Err-clause-err g c clean = query_undone (state g.S.Store c.args.conn.now) (state g.S.Store c.query_all.new.self) _ _ _ (c.in-Err.ensures.err clean)

pub returns-in-Err-clause-survives : goal.returns-in-Err-clause-survives
returns-in-Err-clause-survives g c = never _ _ (state g.S.Store c.args.conn.now) (state g.S.Store c.query_all.new.self) find_maildrop_plain c.query_all.ensures.survives
