-- What the rows of `meta` say of a store's version.
use Rattle.std.specs.Prelude.{◌≡◌, ◌≢◌, ◌⊎◌, Bool, ℤ, pos, Result, Ok, Err, Some, None, [], ◌∷◌, length, codes}
use Rattle.std.specs.List.{find}
use Rattle.sqlite.specs.declared.error.Error.{Error}
use Rattle.sqlite.specs.State.{State}
use Rattle.mailsql.specs.declared.rows.MetaRow.{MetaRow}
use Rattle.mailsql.specs.Rows.{Rows, is_meta_row}
use Rattle.sqlvault.specs.declared.version.StoreVersion.{StoreVersion}
use Rattle.sqlvault.specs.declared.version.StoreVersion.TheVariants.{Missing, Unknown, Beside, Alone}
use Rattle.sqlvault.specs.Keeps.{version}
use Rattle.sqlvault.specs.Carries.{old_version}
use Rattle.sqlvault.specs.Adopts.{StaysAs, RefusesVersion}
use Rattle.sqlvault.specs.Refusals.{fault_of}
use Rattle.sqlvault.specs.Stands.{LeavesNoMore}

-- the number is one of the versions 1, 2 and 3
abbrev pub IsVersion : ℤ → Type 0
IsVersion value = (value ≡ pos 1) ⊎ (value ≡ pos 2) ⊎ (value ≡ pos 3)

-- the number is none of them
abbrev pub IsNoVersion : ℤ → Type 0
IsNoVersion value = ((carried : Bool) → value ≢ old_version carried) × (value ≢ version)

-- the version row of this version
abbrev pub version_row : ℤ → MetaRow
version_row value = record { name = codes "popbox"; value = value }

-- the version row is there, with this number
abbrev pub HasVersion : Rows → ℤ → Type 0
HasVersion rows value = (meta_row : MetaRow)
    × (find (is_meta_row (codes "popbox")) rows.meta_rows ≡ Some meta_row) × (meta_row.value ≡ value)

-- the rows of `meta` are such a store's
abbrev pub Tells : Rows → StoreVersion → Type 0
Tells rows Missing = find (is_meta_row (codes "popbox")) rows.meta_rows ≡ None
Tells rows (Unknown value) = HasVersion rows value × IsNoVersion value
Tells rows (Beside value) =
    HasVersion rows value × (length rows.meta_rows ≢ 1) × IsVersion value
Tells rows (Alone value) = (rows.meta_rows ≡ version_row value ∷ []) × IsVersion value

-- the version is called unknown, or a statement met an error; the store stays as it was
abbrev pub TellsUnknown : State → State → Result StoreVersion Error → Type 0
TellsUnknown old new (Ok told) =
    ((value : ℤ) × (told ≡ Unknown value)) × (StaysAs old new × LeavesNoMore old new)
TellsUnknown old new (Err e) = RefusesVersion old new (fault_of e)
