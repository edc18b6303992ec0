use Rattle.std.proofs.Common.{◌≡◌, ◌≢◌, ◌≤◌, ◌∙◌, true, length, take, take_all, sym, ap, subst, arith, rules, SFits, w64, to_z, of_z}
use Rattle.std.proofs.lemmas.Int.{ints, to_z-of_z}
use Rattle.creds.specs.Names.{is_name, name_of}
use Rattle.vault.proofs.ListLemmas.{all_last}
use Rattle.mailsql.specs.Rows.{same_int}
use Rattle.mailsql.proofs.EqualLemmas.{same_itself}
use Rattle.sqlvault.specs.Keeps.{member_names}
use Rattle.sqlvault.proofs.GroupLemmas.{name_at, name_taken, name_passed, name_form}
use Rattle.sqlvault.proofs.RowFormLemmas.{name_was}
use Rattle.sqlvault.proofs.RuleLemmas.{never, name_read}
use Rattle.sqlvault.proofs.groups.members_of.Goals.{then-row-group+in-Some+in_ok-extend_from_slice, else-row-group}
use Rattle.sqlvault.proofs.SmallLemmas.{int_same, never_true}
use Rattle.sqlvault.proofs.groups.members_of.Goals as goal

pub returns-in_default-clause-all : goal.returns-in_default-clause-all
returns-in_default-clause-all c all =
    let row = c.row-item.result in
    let fits : SFits w64 row.group = search rules in
    let fits_group : SFits w64 c.args.group = search rules in
    let test = c.if-row-group.true in
    let eq : row.group ≡ c.args.group = first_of (search rules, omega (arith, ints), grind (arith, ints, to_z-of_z)) in
    let same = subst (λ n. same_int row.group n ≡ true) eq (same_itself row.group) in
    let named = name_at c.args.group c.args.rows.now c.loop-row.row-index row c.loop-row-test.true c.row-item.is same all in
    never _ c.read.result row.clerk c.in_default.is (c.read.ensures ∙ ap name_of c.as_slice.ensures ∙ name_read row.clerk named)

pub loop-row-preserved : goal.loop-row-preserved
loop-row-preserved c =
    let row = c.row-item.result in
    let i = c.loop-row.row-index in
    let rows = c.args.rows.now in
    let group = to_z w64 (of_z w64 c.args.group) in
    let fits : SFits w64 row.group = search rules in
    let fits_group : SFits w64 c.args.group = search rules in
    let back : group ≡ c.args.group = to_z-of_z w64 c.args.group fits_group in
    let held : c.loop-row.names.items ≡ member_names group (take i rows) = c.loop-row.invariant.0 in
    elim c.if-row-group.branch [
      | then-row-group+in-Some+in_ok-extend_from_slice w ↦
          let test = w.if-row-group.true in
          let eq : row.group ≡ c.args.group = first_of (search rules, omega (arith, ints), grind (arith, ints, to_z-of_z)) in
          let same = subst (λ n. same_int row.group n ≡ true) (eq ∙ sym back) (same_itself row.group) in
          let name = sym w.as_slice.ensures ∙ name_was w.as_slice.result.now w.in-Some.name (sym w.read.ensures ∙ w.in-Some.is) in
          let grown = w.in_ok-extend_from_slice.ensures.items in
          let are = w.names-is in
          let next = name_taken group rows i row c.loop-row-test.true c.row-item.is same in
          let form = name_form w.as_slice.result.now w.in-Some.name (sym w.read.ensures ∙ w.in-Some.is) in
          let all = all_last is_name c.loop-row.names.items w.in-Some.name c.loop-row.invariant.1 form in
          (cc, cc)
      | else-row-group w ↦
          let test = w.if-row-group.false in
          let other : row.group ≢ c.args.group = first_of (search rules, omega (arith, ints), grind (arith, ints, to_z-of_z)) in
          let apart = never_true (same_int row.group group) (λ e. other (int_same row.group group e ∙ back)) in
          let are = w.names-is in
          let next = name_passed group rows i row c.loop-row-test.true c.row-item.is apart in
          let all = c.loop-row.invariant.1 in
          (cc, cc)
    ]

pub returns-clause-names : goal.returns-clause-names
returns-clause-names c =
    let all : length c.args.rows.now ≤ c.loop-row.row-index = c.loop-row-test.false in
    let fits : SFits w64 c.args.group = search rules in
    let held : c.loop-row.names.items ≡ member_names (to_z w64 (of_z w64 c.args.group)) (take c.loop-row.row-index c.args.rows.now) = c.loop-row.invariant.0 in
    rw (to_z-of_z w64 c.args.group fits, take_all) at held

pub returns-clause-all : goal.returns-clause-all
returns-clause-all c named =
    let all : length c.args.rows.now ≤ c.loop-row.row-index = c.loop-row-test.false in
    let fits : SFits w64 c.args.group = search rules in
    let held : c.loop-row.names.items ≡ member_names (to_z w64 (of_z w64 c.args.group)) (take c.loop-row.row-index c.args.rows.now) = c.loop-row.invariant.0 in
    rw (to_z-of_z w64 c.args.group fits, take_all) at held

pub returns-clause-named : goal.returns-clause-named
returns-clause-named c = c.loop-row.invariant.1
