use Rattle.std.proofs.Common.{◌≡◌, Ok, Err, Option, Vec, Global, subst, ◌∙◌}
use Rattle.std.specs.Prelude.{IfSome}
use Rattle.sqlite.specs.Held.{state}
use Rattle.policy.specs.Policy.{Group}
use Rattle.mailsql.specs.Rows.{rows_in}
use Rattle.sqlvault.specs.Keeps.{groups_in}
use Rattle.sqlvault.specs.Stands.{Holds}
use Rattle.sqlvault.proofs.HoldsLemmas.{holds_unchanged, seen, refused, holds_undone}
use Rattle.sqlvault.proofs.AskLemmas.{asks_look}
use Rattle.sqlvault.proofs.FrameLemmas.{looks_then, looks_own, passed}
use Rattle.sqlvault.proofs.rules.policy.Goals as goal

pub returns-in-Some-clause-done : goal.returns-in-Some-clause-done
returns-in-Some-clause-done g c held clean2 h =
    let s0 = state g.S.Store c.args.conn.now in
    let s1 = state g.S.Store c.read_groups.new.conn in
    let clean1 = c.policy_with.ensures.looks.clean clean2 in
    let same = c.in_ok-groups.ensures.asks.same clean1 h.tables in
    let keeps = seen s0 s1 held same h in
    let groups = subst (λ (o : Option (Vec Group Global)). IfSome o (λ (v : Vec Group Global). v.items ≡ groups_in (rows_in s0.now.trees))) c.in-Some.is
    (c.in_ok-groups.ensures.rows clean1 h.tables) in
    c.policy_with.ensures.done held clean2 (holds_unchanged s0 s1 held same h) (groups ∙ keeps.groups)

pub returns-in-None-clause-done : goal.returns-in-None-clause-done
returns-in-None-clause-done g c held clean1 h =
    let s1 = state g.S.Store c.read_groups.new.conn in
    refused (Holds s1) held _ _ c.unreadable.result (holds_unchanged (state g.S.Store c.args.conn.now) s1 held (c.in_ok-groups.ensures.asks.same clean1 h.tables) h)

pub returns-in_err-groups-clause-done : goal.returns-in_err-groups-clause-done
returns-in_err-groups-clause-done g c = rw (passed c.from_residual.ensures.1) (λ held clean1 h. let s1 = state g.S.Store c.read_groups.new.conn in
    refused (Holds s1) held _ _ c.in_err-groups.field-0.0 (holds_undone (state g.S.Store c.args.conn.now) s1 held (c.in_err-groups.ensures.asks.err clean1 h.tables) h))

pub returns-in-Some-clause-looks : goal.returns-in-Some-clause-looks
returns-in-Some-clause-looks g c =
    looks_then (asks_look g.S.Store c.args.conn.now c.read_groups.new.conn
    (Ok c.in_ok-groups.field-0) c.in_ok-groups.ensures.asks) c.policy_with.ensures.looks

pub returns-in-None-clause-looks : goal.returns-in-None-clause-looks
returns-in-None-clause-looks g c =
    looks_own (λ _. tt) (asks_look g.S.Store c.args.conn.now c.read_groups.new.conn
    (Ok c.in_ok-groups.field-0) c.in_ok-groups.ensures.asks)

pub returns-in_err-groups-clause-looks : goal.returns-in_err-groups-clause-looks
returns-in_err-groups-clause-looks g c = rw (passed c.from_residual.ensures.1) (asks_look g.S.Store c.args.conn.now c.read_groups.new.conn (Err c.in_err-groups.field-0.0)
    c.in_err-groups.ensures.asks)
