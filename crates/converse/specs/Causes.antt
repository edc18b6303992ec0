-- Which fault a run reports for the fault that it met.
use Rattle.std.specs.Prelude.{◌≡◌, ◌≤◌, ℕ, ⊤, Bool, true, false, List, Option, Err, IsOk}
use Rattle.creds.specs.Names.{is_host}
use Rattle.policy.specs.declared.fault.PolicyFault.{PolicyFault}
use Rattle.office.specs.declared.office.OpenFault.{OpenFault}
use Rattle.office.specs.declared.office.OpenFault.TheVariants as opening
use Rattle.vault.specs.declared.fault.VaultFault.{VaultFault}
use Rattle.vault.specs.declared.fault.VaultFault.TheVariants as vault
use Rattle.vault.specs.Calls.{has_grown}
use Rattle.vault.specs.Changes.{Contents}
use Rattle.vault.specs.Records.{is_one_of}
use Rattle.converse.specs.declared.script.ScriptFault.{ScriptFault}
use Rattle.converse.specs.declared.script.ScriptFault.TheVariants as script
use Rattle.converse.specs.declared.fault.Fault.{Fault}
use Rattle.converse.specs.declared.fault.Fault.TheVariants.{CannotRead, BadEvent, BadHost, Store}
use Rattle.converse.specs.declared.fault.Fault.TheVariants.{CannotPut, CannotWrite, Differs}
use Rattle.converse.specs.declared.fault.Fault.TheVariants.{NoPolicy, OutOfMemory}
use Rattle.converse.specs.Printed.{PrintsPart}
use Rattle.converse.specs.Script.{script_of}
use Rattle.converse.specs.Told.{fault_line}

-- for that of a script
abbrev pub of_script : ScriptFault → Fault
of_script (script.BadEvent n) = BadEvent n
of_script script.NoMemory = OutOfMemory

-- for that of an office's opening
abbrev pub of_opening : OpenFault → Fault
of_opening opening.BadHost = BadHost
of_opening opening.Store = Store vault.Store
of_opening opening.NoMemory = OutOfMemory

-- why a script isn't begun under a host's name: it can't be read, memory ran out, its first line of no form, or the host
abbrev pub IsWhyNot : (text host : List ℕ) → Fault → Type 0
IsWhyNot text host CannotRead = ⊤
IsWhyNot text host OutOfMemory = ⊤
IsWhyNot text host (BadEvent n) = script_of text ≡ Err n
IsWhyNot text host BadHost = IsOk (script_of text) × (is_host host ≡ false)
IsWhyNot text host _ = ⊥

-- one of these faults is printed: its line, or a beginning of it
abbrev pub Tells : (before after : Option (List ℕ)) → (Fault → Type 0) → Type 0
Tells before after Is = (fault : Fault) × Is fault × PrintsPart before after (fault_line fault)

-- A run ended with status 0, and wrote nothing on standard error; or with status 1, and printed one
-- of these faults there, or a beginning of its line.
pub record Reports {E : Type 0} (contents : E → Option (List ℕ)) (e e' : E) (status : ℕ)
    (Why : Fault → Type 0) : Type 0 where
  pub bound : status ≤ 1
  pub silent : status ≡ 0 → e' ≡ e
  pub why : status ≡ 1 → Tells (contents e) (contents e') Why

-- why a store refuses a look at a maildrop that is there or not: a fault that it counted, or want
-- of memory; or the maildrop isn't there
abbrev pub IsRefused : (there counted : Bool) → VaultFault → Type 0
IsRefused there counted vault.NoMaildrop = there ≡ false
IsRefused there counted vault.Store = counted ≡ true
IsRefused there counted vault.NoMemory = ⊤
IsRefused there counted _ = ⊥

-- a store refuses an export, whatever it held: so it is if the store is clean still
abbrev pub IsRefusedExport : {V : Type 0} (Holds : V → Contents → Type 0) (IsClean : V → Type 0)
    (Faults : V → ℕ) (before now : V) (maildrop : List ℕ) → VaultFault → Type 0
IsRefusedExport Holds IsClean Faults before now maildrop fault =
    (c : Contents) → Holds before c → IsClean now
    → IsRefused (is_one_of maildrop c.maildrops) (has_grown (Faults before) (Faults now)) fault

-- it refuses to read what is there
abbrev pub IsRefusedRead : {V : Type 0} (Holds : V → Contents → Type 0) (IsClean : V → Type 0)
    (Faults : V → ℕ) (before now : V) (IsThere : Contents → Type 0) → VaultFault → Type 0
IsRefusedRead Holds IsClean Faults before now IsThere fault =
    (c : Contents) → Holds before c → IsClean now → IsThere c
    → IsRefused true (has_grown (Faults before) (Faults now)) fault

-- why an export ends: a file can't be put only if a call of the folder failed, and its line
-- can't be written only if one of the writer did; or the store refuses, or memory ran out
abbrev pub IsExportFault : (put written : Bool) (Refuses : VaultFault → Type 0) → Fault → Type 0
IsExportFault put written Refuses CannotPut = put ≡ true
IsExportFault put written Refuses CannotWrite = written ≡ true
IsExportFault put written Refuses (Store fault) = Refuses fault
IsExportFault put written Refuses OutOfMemory = ⊤
IsExportFault put written Refuses _ = ⊥

-- or some messages differ, and then this holds
abbrev pub IsExportEnd : (differ : Type 0) (put written : Bool) (Refuses : VaultFault → Type 0)
    → Fault → Type 0
IsExportEnd differ put written Refuses Differs = differ
IsExportEnd differ put written Refuses fault = IsExportFault put written Refuses fault

-- why the check or the review of policies' texts ends: with the first fault of one; or what is
-- printed can't be written, only if a call of the writer failed; or memory ran out
abbrev pub IsPolicyEnd : (IsFirst : PolicyFault → Type 0) (written : Bool) → Fault → Type 0
IsPolicyEnd IsFirst written (NoPolicy fault) = IsFirst fault
IsPolicyEnd IsFirst written CannotWrite = written ≡ true
IsPolicyEnd IsFirst written OutOfMemory = ⊤
IsPolicyEnd IsFirst written _ = ⊥

-- why a store refuses to tell of clerks, who are known or not: one of them isn't there; or as it
-- refuses a look at what is there
abbrev pub IsRefusedOf : (known : Type 0) (counted : Bool) → VaultFault → Type 0
IsRefusedOf known counted vault.NoClerk = ¬ known
IsRefusedOf known counted fault = IsRefused true counted fault

-- it refuses a check of these
abbrev pub IsRefusedCheck : {V : Type 0} (Holds : V → Contents → Type 0) (IsClean : V → Type 0)
    (Faults : V → ℕ) (before now : V) (AreKnown : Contents → Type 0) → VaultFault → Type 0
IsRefusedCheck Holds IsClean Faults before now AreKnown fault =
    (c : Contents) → Holds before c → IsClean now
    → IsRefusedOf (AreKnown c) (has_grown (Faults before) (Faults now)) fault

-- why a check of a store ends: as an export, but that it puts no file
abbrev pub IsCheckEnd : (differ : Type 0) (written : Bool) (Refuses : VaultFault → Type 0)
    → Fault → Type 0
IsCheckEnd differ written Refuses fault = IsExportEnd differ false written Refuses fault
