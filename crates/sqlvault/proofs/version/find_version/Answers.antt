use Rattle.std.proofs.Common.{◌≡◌, ◌≢◌, ◌∙◌, ◌⊎◌, Result, Ok, Some, codes, refl, ap, sym, length, rules, SFits, w64, to_z, of_z, to_z-of_z}
use Rattle.std.specs.Prelude.{find}
use Rattle.sqlite.specs.Held.{state}
use Rattle.sqlite.specs.State.{HasCleanDisk}
use Rattle.sqlite.specs.declared.error.Error.{Error}
use Rattle.mailsql.specs.Rows.{HasTables, HasOldTables, is_meta_row, rows_in}
use Rattle.sqlvault.proofs.AskLemmas.{answered, asks_ok, asks_then}
use Rattle.sqlvault.proofs.FrameLemmas.{was_clean}
use Rattle.sqlvault.proofs.OlderLemmas.{looked_older, older_then}
use Rattle.sqlvault.proofs.VersionLemmas.{alone, all_then, found_here, no_version}
use Rattle.sqlvault.specs.Adopts.{IsOfUnknownVersion}
use Rattle.sqlvault.specs.Frame.{Asks}
use Rattle.sqlvault.proofs.version.find_version.Given.{Over}
use Rattle.sqlvault.proofs.version.find_version.Goals.{After-all_meta_rows, In_ok-meta_rows}
use Rattle.sqlvault.proofs.version.find_version.Goals as goal

-- ---- what is known of the version row

clean_before : (g : Over) (c : After-all_meta_rows g) → HasCleanDisk (state g.S.Store c.all_meta_rows.new.conn) → HasCleanDisk (state g.S.Store c.find_meta_row.new.conn)
clean_before g c clean2 = was_clean g.S.Store c.find_meta_row.new.conn c.all_meta_rows.new.conn c.all_meta_rows.ensures.survives clean2

-- its version has 64 bits
value_is : (g : Over) (c : After-all_meta_rows g) → to_z w64 (of_z w64 c.in-Some.meta_row.value) ≡ c.in-Some.meta_row.value
value_is g c = let f : SFits w64 c.in-Some.meta_row.value = search rules in to_z-of_z f

-- the query found it
found : (g : Over) (c : After-all_meta_rows g) → HasCleanDisk (state g.S.Store c.find_meta_row.new.conn)
    → HasTables (state g.S.Store c.args.conn.now) ⊎ HasOldTables (state g.S.Store c.args.conn.now)
    → find (is_meta_row (codes "popbox")) (rows_in (state g.S.Store c.args.conn.now).now.trees).meta_rows ≡ Some c.in-Some.meta_row
found g c clean1 here = found_here (state g.S.Store c.args.conn.now) here _ (c.in_ok-meta_row.ensures.ok clean1) (c.in_ok-meta_row.ensures.old_ok clean1) c.in-Some.is

-- ---- each exit

pub returns-then-len-eq1-clause-told : goal.returns-then-len-eq1-clause-told
returns-then-len-eq1-clause-told g c clean2 here =
    let it = (goal.at.returns-then-len-eq1-clause-told g c).After-all_meta_rows in
    let clean1 = clean_before g it clean2 in
    let all = all_then (state g.S.Store c.args.conn.now) (state g.S.Store c.find_meta_row.new.conn) here c.in_ok-meta_row.ensures.same c.in_ok-meta_row.ensures.old_same clean1
    c.in_ok-meta_rows.meta_rows.items (c.in_ok-meta_rows.ensures.ok clean2) (c.in_ok-meta_rows.ensures.old_ok clean2) in
    let count : length c.in_ok-meta_rows.meta_rows.items ≡ 1 = search rules in (
      alone _ (rows_in (state g.S.Store c.args.conn.now).now.trees).meta_rows c.in-Some.meta_row (found g it clean1 here) (sym (value_is g it))
          (sym (ap length all) ∙ count),
      c.if-not-is_version.ensures.known refl,
    )

pub returns-clause-told : goal.returns-clause-told
returns-clause-told g c clean2 here =
    let it = (goal.at.returns-clause-told g c).After-all_meta_rows in
    let clean1 = clean_before g it clean2 in
    let all = all_then (state g.S.Store c.args.conn.now) (state g.S.Store c.find_meta_row.new.conn) here c.in_ok-meta_row.ensures.same c.in_ok-meta_row.ensures.old_same clean1
    c.in_ok-meta_rows.meta_rows.items (c.in_ok-meta_rows.ensures.ok clean2) (c.in_ok-meta_rows.ensures.old_ok clean2) in
    let count : length c.in_ok-meta_rows.meta_rows.items ≢ 1 = search rules in (
      (c.in-Some.meta_row, found g it clean1 here, sym (value_is g it)),
      (λ one. count (ap length all ∙ one)),
      c.if-not-is_version.ensures.known refl,
    )

-- both queries were answered
asked : (g : Over) (c : In_ok-meta_rows g) → (let done : Result (Unit {0}) Error = Ok tt in Asks g.S.Store c.args.conn.now c.all_meta_rows.new.conn done)
asked g c =
    asks_then (answered {A = Unit {0}} {E = Error} {x = tt} g.S.Store c.args.conn.now c.find_meta_row.new.conn c.in_ok-meta_row.ensures.same c.find_meta_row.ensures.survives)
    (answered g.S.Store c.find_meta_row.new.conn c.all_meta_rows.new.conn c.in_ok-meta_rows.ensures.same c.all_meta_rows.ensures.survives)

pub returns-then-len-eq1-clause-asks : goal.returns-then-len-eq1-clause-asks
returns-then-len-eq1-clause-asks g c = asks_ok (asked g (goal.at.returns-then-len-eq1-clause-asks g c).In_ok-meta_rows)

pub returns-clause-asks : goal.returns-clause-asks
returns-clause-asks g c = asks_ok (asked g (goal.at.returns-clause-asks g c).In_ok-meta_rows)

pub returns-then-len-eq1-clause-asks_older : goal.returns-then-len-eq1-clause-asks_older
returns-then-len-eq1-clause-asks_older g c = older_then g.S.Store c.args.conn.now c.find_meta_row.new.conn c.all_meta_rows.new.conn _
    c.in_ok-meta_row.ensures.old_same c.find_meta_row.ensures.old_survives (looked_older g.S.Store c.find_meta_row.new.conn c.all_meta_rows.new.conn _
    c.in_ok-meta_rows.ensures.old_same c.all_meta_rows.ensures.old_survives)

pub returns-clause-asks_older : goal.returns-clause-asks_older
returns-clause-asks_older g c =
    older_then g.S.Store c.args.conn.now c.find_meta_row.new.conn c.all_meta_rows.new.conn _
    c.in_ok-meta_row.ensures.old_same c.find_meta_row.ensures.old_survives
    (looked_older g.S.Store c.find_meta_row.new.conn c.all_meta_rows.new.conn _ c.in_ok-meta_rows.ensures.old_same c.all_meta_rows.ensures.old_survives)

-- ---- of no version that is known here

known : (g : Over) (c : After-all_meta_rows g) → HasCleanDisk (state g.S.Store c.all_meta_rows.new.conn) → IsOfUnknownVersion (state g.S.Store c.args.conn.now) → ⊥
known g c clean2 it =
    no_version (rows_in (state g.S.Store c.args.conn.now).now.trees) _
    (c.in-Some.meta_row, sym (c.in_ok-meta_row.ensures.marked_ok (clean_before g c clean2) it.table) ∙ c.in-Some.is, sym (value_is g c))
    (c.if-not-is_version.ensures.known refl) it.meta_row

pub returns-then-len-eq1-clause-unknown : goal.returns-then-len-eq1-clause-unknown
returns-then-len-eq1-clause-unknown g c clean2 it settled = absurd (known g (goal.at.returns-then-len-eq1-clause-unknown g c).After-all_meta_rows clean2 it)

pub returns-clause-unknown : goal.returns-clause-unknown
returns-clause-unknown g c clean2 it settled = absurd (known g (goal.at.returns-clause-unknown g c).After-all_meta_rows clean2 it)

pub returns-in_err-meta_rows-clause-unknown : goal.returns-in_err-meta_rows-clause-unknown
returns-in_err-meta_rows-clause-unknown g c clean2 it settled = absurd (known g (goal.at.returns-in_err-meta_rows-clause-unknown g c).After-all_meta_rows clean2 it)
