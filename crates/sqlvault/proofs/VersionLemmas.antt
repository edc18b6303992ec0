-- A store whose version row is of no version that is known here.
use Rattle.std.proofs.Common.{◌≡◌, ◌≢◌, ◌⊎◌, inl, inr, Bool, true, false, cond, refl, sym, ap, subst, ◌∙◌, arith}
use Rattle.std.specs.Prelude.{ℤ, List, [], ◌∷◌, length, codes, find, Option, Some, None}
use Rattle.vault.proofs.ListLemmas.{bytes_are}
use Rattle.sqlite.specs.State.{State, HasCleanDisk, IsUnchanged}
use Rattle.vault.specs.declared.fault.VaultFault.TheVariants as fault
use Rattle.mailsql.specs.declared.rows.MetaRow.{MetaRow}
use Rattle.mailsql.specs.Rows.{Rows, rows_in, is_meta_row, HasTables, HasOldTables}
use Rattle.sqlvault.specs.declared.version.StoreVersion.TheVariants.{Beside, Alone}
use Rattle.sqlvault.specs.Keeps.{version}
use Rattle.sqlvault.specs.Carries.{IsOfNoVersion, JudgesOlder}
use Rattle.sqlvault.specs.Adopts.{IsOfAnotherVersion}
use Rattle.sqlvault.specs.Versions.{IsVersion, IsNoVersion, version_row, HasVersion, Tells}
use Rattle.sqlvault.proofs.AdoptLemmas.{tables_on, rows_on}
use Rattle.sqlvault.proofs.CarryLemmas.{old_on}

-- ---- the version row that was found

-- two that were found are one
same_version : (rows : Rows) (a b : ℤ) → HasVersion rows a → HasVersion rows b → a ≡ b
same_version rows a b x y =
    let e : Some x.0 ≡ Some y.0 = sym x.1 ∙ y.1 in
    let m : x.0 ≡ y.0 = cc in
    sym x.2 ∙ ap (λ (r : MetaRow). r.value) m ∙ y.2

-- a version row that is there alone is found
had : (rows : Rows) (value : ℤ) → rows.meta_rows ≡ version_row value ∷ [] → HasVersion rows value
had rows value is = (version_row value, ap (find (is_meta_row (codes "popbox"))) is, refl)

pub alone : (value : ℤ) (meta_rows : List MetaRow) (meta_row : MetaRow)
    → find (is_meta_row (codes "popbox")) meta_rows ≡ Some meta_row → meta_row.value ≡ value
    → length meta_rows ≡ 1 → meta_rows ≡ version_row value ∷ []
alone value [] meta_row found is one = cc
alone value (x ∷ y ∷ more) meta_row found is one = absurd (omega (arith, one))
alone value (x ∷ []) meta_row found is one = at (is_meta_row (codes "popbox") x) refl found
  where
    at : (b : Bool) → is_meta_row (codes "popbox") x ≡ b → cond b (Some x) None ≡ Some meta_row
        → x ∷ [] ≡ version_row value ∷ []
    at true e same =
        let it : x ≡ meta_row = cc in
        let name : x.name ≡ codes "popbox" = bytes_are x.name (codes "popbox") e in
        let v : x.value ≡ value = ap (λ (m : MetaRow). m.value) it ∙ is in
        rw (name, v) refl
    at false e same = cc

-- the row that a query found
pub found_here : (s : State) → HasTables s ⊎ HasOldTables s → (found : Option MetaRow)
    → (HasTables s → found ≡ find (is_meta_row (codes "popbox")) (rows_in s.now.trees).meta_rows)
    → (HasOldTables s → found ≡ find (is_meta_row (codes "popbox")) (rows_in s.now.trees).meta_rows)
    → {meta_row : MetaRow} → found ≡ Some meta_row
    → find (is_meta_row (codes "popbox")) (rows_in s.now.trees).meta_rows ≡ Some meta_row
found_here s (inl ours) found is _ some = sym (is ours) ∙ some
found_here s (inr older) found _ is some = sym (is older) ∙ some

-- every row of `meta`, after a query that changed nothing
pub all_then : (s0 s1 : State) → HasTables s0 ⊎ HasOldTables s0
    → (HasCleanDisk s1 → HasTables s0 → IsUnchanged s0 s1)
    → (HasCleanDisk s1 → HasOldTables s0 → IsUnchanged s0 s1) → HasCleanDisk s1
    → (items : List MetaRow) → (HasTables s1 → items ≡ (rows_in s1.now.trees).meta_rows)
    → (HasOldTables s1 → items ≡ (rows_in s1.now.trees).meta_rows)
    → items ≡ (rows_in s0.now.trees).meta_rows
all_then s0 s1 (inl ours) same _ clean items all _ =
    let u = same clean ours in
    all (tables_on s0 s1 u ours) ∙ ap (λ (r : Rows). r.meta_rows) (rows_on s0 s1 u)
all_then s0 s1 (inr older) _ same clean items _ all =
    let u = same clean older in
    all (old_on s0 s1 u older) ∙ ap (λ (r : Rows). r.meta_rows) (rows_on s0 s1 u)

not_both : (value : ℤ) → IsVersion value → IsNoVersion value → ⊥
not_both value (inl is) none = none.0 true is
not_both value (inr (inl is)) none = none.0 false is
not_both value (inr (inr is)) none = none.1 is

-- what is said of a store of no version that is known here
pub no_version : (rows : Rows) (value : ℤ) → HasVersion rows value → IsVersion value
    → IsOfNoVersion rows → ⊥
no_version rows value has known none = not_both value known
    (subst IsNoVersion (same_version rows none.0.value value (none.0, none.1, refl) has)
    (none.2, none.3))

-- ---- what that says

-- it has another version than ours
pub another_alone : (rows : Rows) (value : ℤ) → Tells rows (Alone value) → value ≢ version
    → IsOfAnotherVersion rows
another_alone rows value told other =
    let has = had rows value told.0 in
    (has.0, has.1, λ is. other (sym has.2 ∙ is))

-- it is no older one
pub older_beside : (rows : Rows) (value : ℤ) → Tells rows (Beside value)
    → JudgesOlder rows fault.NotOurs
older_beside rows value told =
    (no_version rows value told.0 told.2, λ carried one. told.1 (ap length one))

-- ---- what stands after it
