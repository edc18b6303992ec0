-- The end of a check and of an export, by what is held.
use Rattle.std.specs.Prelude.{◌≡◌, ℕ, Bool, true, List, [], Option}
use Rattle.vault.specs.declared.fault.VaultFault.{VaultFault}
use Rattle.vault.specs.declared.record.Receipt.{Receipt}
use Rattle.vault.specs.Changes.{Contents}
use Rattle.converse.specs.declared.check_store.StoreFile.{StoreFile}
use Rattle.converse.specs.declared.fault.Fault.{Fault}
use Rattle.converse.specs.declared.fault.Fault.TheVariants as fault
use Rattle.converse.specs.Causes.{IsExportEnd, IsRefused}
use Rattle.converse.specs.Checked.{store_text}
use Rattle.converse.specs.Streams.{Writing, Writes}
use Rattle.converse.specs.Texts.{differing}

-- a fault is told for the same cause where one follows from the other, and so do the refusals
pub exports_still : (D E : Type 0) (put written : Bool) (P Q : VaultFault → Type 0) → (D → E) → ((e : VaultFault) → P e → Q e)
    → (f : Fault) → IsExportEnd D put written P f → IsExportEnd E put written Q f
exports_still D E put written P Q w q fault.CannotRead h = absurd h
exports_still D E put written P Q w q (fault.BadEvent n) h = absurd h
exports_still D E put written P Q w q fault.BadHost h = absurd h
exports_still D E put written P Q w q (fault.Store e) h = q e h
exports_still D E put written P Q w q (fault.Talk e) h = absurd h
exports_still D E put written P Q w q (fault.NoPolicy e) h = absurd h
exports_still D E put written P Q w q fault.NoClock h = absurd h
exports_still D E put written P Q w q fault.CannotPut h = h
exports_still D E put written P Q w q fault.CannotWrite h = h
exports_still D E put written P Q w q fault.Differs h = w h
exports_still D E put written P Q w q fault.OutOfMemory h = tt

-- ---- why a check ends, over whatever was held (`Old`), if the disk is clean (`Clean`)

-- some texts differ from these, and all was printed with these names
abbrev pub Differ : (Old : Contents → Type 0) (Clean : Type 0) → StoreFile → (held holds : Writing) → (rs : Contents → Option (List Receipt)) (names : Contents → List (List ℕ)) → Type 0
Differ Old Clean file held holds rs names =
    (d : Contents) → Old d → Clean → (differing (rs d) d ≡ [] → ⊥) × Writes held holds (store_text file d (names d) (rs d))

-- the store refused a look
abbrev pub Refuses : (Old : Contents → Type 0) (Clean : Type 0) → (grown : Bool) → VaultFault → Type 0
Refuses Old Clean grown e = (d : Contents) → Old d → Clean → IsRefused true grown e
