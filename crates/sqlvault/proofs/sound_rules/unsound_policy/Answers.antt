use Rattle.std.proofs.Common.{◌≡◌, true, false, Option, Vec, Global, sym, ap, subst, ◌∙◌}
use Rattle.std.specs.Prelude.{IfSome, IsSomeAnd}
use Rattle.std.specs.List.{list_all}
use Rattle.sqlite.specs.Held.{state}
use Rattle.policy.specs.Policy.{Group}
use Rattle.mailsql.specs.Rows.{rows_in}
use Rattle.sqlvault.specs.Keeps.{groups_in}
use Rattle.sqlvault.specs.Parts.{Finds, PolicyIs, is_named_group}
use Rattle.sqlvault.proofs.FrameLemmas.{passed}
use Rattle.sqlvault.proofs.AdoptLemmas.{tables_on, rows_on}
use Rattle.sqlvault.proofs.RowFormLemmas.{groups_read, no_groups}
use Rattle.sqlvault.proofs.AskLemmas.{asks_ok, asks_err, asks_then}
use Rattle.sqlvault.proofs.sound_rules.unsound_policy.Goals as goal

pub returns-in_default-clause-judged : goal.returns-in_default-clause-judged
returns-in_default-clause-judged g c clean1 tables =
    let s0 = state g.S.Store c.args.conn.now in
    no_groups (rows_in s0.now.trees)
    (λ all. subst (λ (o : Option (Vec Group Global)). IsSomeAnd o (λ (v : Vec Group Global). v.items ≡ groups_in (rows_in s0.now.trees))) c.in_default.is
    (c.in_ok-groups.ensures.all clean1 tables all))

pub returns-clause-judged : goal.returns-clause-judged
returns-clause-judged g c clean2 tables =
    let s0 = state g.S.Store c.args.conn.now in
    let s1 = state g.S.Store c.read_groups.new.conn in
    let clean1 = c.are_rules_with.ensures.asks.clean clean2 in
    let same = c.in_ok-groups.ensures.asks.same clean1 tables in
    let rows = rows_on s0 s1 same in
    let groups = subst (λ (o : Option (Vec Group Global)). IfSome o (λ (v : Vec Group Global). v.items ≡ groups_in (rows_in s0.now.trees))) c.in-Some.is
    (c.in_ok-groups.ensures.rows clean1 tables) in
    let judged = c.in_ok-rules.ensures.judged clean2 (tables_on s0 s1 same tables) (groups ∙ ap groups_in (sym rows)) in
    subst (λ r. Finds (PolicyIs r) true) rows (subst (Finds (PolicyIs (rows_in s1.now.trees))) c.if-not-rules.false judged)

pub returns-then-not-rules-clause-judged : goal.returns-then-not-rules-clause-judged
returns-then-not-rules-clause-judged g c clean2 tables =
    let s0 = state g.S.Store c.args.conn.now in
    let s1 = state g.S.Store c.read_groups.new.conn in
    let clean1 = c.are_rules_with.ensures.asks.clean clean2 in
    let same = c.in_ok-groups.ensures.asks.same clean1 tables in
    let groups = subst (λ (o : Option (Vec Group Global)). IfSome o (λ (v : Vec Group Global). v.items ≡ groups_in (rows_in s0.now.trees))) c.in-Some.is
    (c.in_ok-groups.ensures.rows clean1 tables) in
    let named = subst (λ (o : Option (Vec Group Global)). IfSome o (λ (v : Vec Group Global). list_all is_named_group v.items ≡ true)) c.in-Some.is c.in_ok-groups.ensures.named in
    let judged = c.in_ok-rules.ensures.judged clean2 (tables_on s0 s1 same tables) (groups ∙ ap groups_in (sym (rows_on s0 s1 same))) in (
      groups_read (rows_in s0.now.trees) c.in-Some.groups.items groups named,
      subst (λ r. Finds (PolicyIs r) false) (rows_on s0 s1 same) (subst (Finds (PolicyIs (rows_in s1.now.trees))) c.if-not-rules.true judged),
    )

pub returns-in_default-clause-asks : goal.returns-in_default-clause-asks
returns-in_default-clause-asks g c = asks_ok c.in_ok-groups.ensures.asks

pub returns-in_err-groups-clause-asks : goal.returns-in_err-groups-clause-asks
returns-in_err-groups-clause-asks g c = rw (passed c.from_residual.ensures.1) (asks_err c.in_err-groups.ensures.asks)

pub returns-clause-asks : goal.returns-clause-asks
returns-clause-asks g c = asks_ok (asks_then c.in_ok-groups.ensures.asks c.in_ok-rules.ensures.asks)

pub returns-then-not-rules-clause-asks : goal.returns-then-not-rules-clause-asks
returns-then-not-rules-clause-asks g c = asks_ok (asks_then c.in_ok-groups.ensures.asks c.in_ok-rules.ensures.asks)

pub returns-in_err-rules-clause-asks : goal.returns-in_err-rules-clause-asks
returns-in_err-rules-clause-asks g c = rw (passed c.from_residual-in_err-rules.ensures.1) (asks_err (asks_then c.in_ok-groups.ensures.asks c.in_err-rules.ensures.asks))
