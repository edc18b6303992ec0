-- What an export and a check of a store did. The vault was `v` and is `v'`, the folder was `f` and is
-- `f'`, the output was `o` and is `o'`. The deposits with which texts are compared are `rs`.
use Rattle.std.specs.Prelude.{◌≡◌, ◌⊎◌, ℕ, Bool, true, false, List, [], length, Option, Result}
use Rattle.std.specs.Prelude.{IfErr, IfOk, IsErr, IsOk, OnOk}
use Rattle.vault.specs.declared.fault.VaultFault.{VaultFault}
use Rattle.vault.specs.declared.record.Receipt.{Receipt}
use Rattle.vault.specs.declared.vault.Vault as vaults
use Rattle.vault.specs.Calls.{has_grown}
use Rattle.vault.specs.Changes.{Contents}
use Rattle.vault.specs.Records.{is_one_of}
use Rattle.converse.specs.declared.check_store.StoreFile.{StoreFile}
use Rattle.converse.specs.declared.folder.Folder as folders
use Rattle.converse.specs.declared.fault.Fault.{Fault}
use Rattle.converse.specs.declared.streams.Sink as sinks
use Rattle.converse.specs.Causes.{IsCheckEnd, IsExportEnd, IsExportFault, IsRefusedExport}
use Rattle.converse.specs.Checked.{AreKnown, store_text}
use Rattle.converse.specs.Held.{OverHeld}
use Rattle.converse.specs.Exported.{files_of, Takes, TakesFirst, export_line, report_text}
use Rattle.converse.specs.Streams.{Writes, WritesPart, writes_failed}
use Rattle.converse.specs.Texts.{HasNone, differing, differing_in}

-- ---- an export of the maildrop `d`

module _ {V F W : Type 0} (vault : vaults.Ghosts V) (folder : folders.Ghosts F)
    (sink : sinks.Ghosts W) (v v' : V) (f f' : F) (o o' : W) (rs : Contents → Option (List Receipt))
    (d : List ℕ) where
  abbrev pub Over : (Contents → Type 0) → Type 0
  Over Is = OverHeld vault v v' Is

  -- the folder took the file of each message that wasn't left out
  abbrev pub TookAll : Contents → Type 0
  TookAll c = Takes (folder.files f) (folder.files f') (files_of (rs c) d c)

  -- the folder took the first of these files, and no other
  abbrev pub TookFirst : Contents → Type 0
  TookFirst c = TakesFirst (folder.files f) (folder.files f') (files_of (rs c) d c)

  -- the report was printed, or a beginning of it
  abbrev Printed : Contents → Type 0
  Printed c = Writes (sink.seen o) (sink.seen o') (report_text (rs c) d c)

  abbrev pub PrintedPart : Contents → Type 0
  PrintedPart c = WritesPart (sink.seen o) (sink.seen o') (report_text (rs c) d c)

  -- the report if no message was left out: how many were put
  abbrev PrintedCount : Contents → Type 0
  PrintedCount c =
      Writes (sink.seen o) (sink.seen o') (export_line (length (files_of (rs c) d c)))

  -- why it ends with status 1: some messages were left out, and all else was done; or a fault
  abbrev pub WhyNotWhole : Fault → Type 0
  WhyNotWhole =
      IsExportEnd (Over (λ c. ¬ (differing_in (rs c) d c ≡ []) × TookAll c × Printed c))
      (has_grown (folder.faults f) (folder.faults f')) (writes_failed (sink.seen o) (sink.seen o'))
      (IsRefusedExport vault.holds vault.is_clean vault.faults v v' d)

  abbrev pub WhyBroken : Fault → Type 0
  WhyBroken =
      IsExportFault (has_grown (folder.faults f) (folder.faults f'))
      (writes_failed (sink.seen o) (sink.seen o'))
      (IsRefusedExport vault.holds vault.is_clean vault.faults v v' d)

  -- What an export did, by its exit status.
  pub record Exports (status : ℕ) : Type 0 where
    pub whole : status ≡ 0 → Over TookAll
    pub told : status ≡ 0 → Over PrintedCount
    pub intact : status ≡ 0 → Over (λ c. differing_in (rs c) d c ≡ [])
    pub settled : status ≡ 0 → folder.is_settled f' ≡ true
    pub flushed : status ≡ 0 → (sink.seen o').flushed ≡ true
    pub missing : Over (λ c. is_one_of d c.maildrops ≡ false → status ≡ 1)
    -- at each status: the first files were put; nothing is printed before all are, and settled
    pub part : Over TookFirst
    pub last : (o' ≡ o) ⊎ Over (λ c. TookAll c × PrintedPart c)
    pub settled_first : (o' ≡ o) ⊎ (folder.is_settled f' ≡ true)

  -- The same by the answer of `put_maildrop`: whether no message was left out, or a fault.
  pub record PutsMaildrop (answered : Result Bool Fault) : Type 0 where
    pub whole : OnOk answered (Over TookAll)
    pub told : OnOk answered (Over Printed)
    pub intact : IfOk answered (λ intact. Over (λ c. HasNone intact (differing_in (rs c) d c)))
    pub settled : IsOk answered → folder.is_settled f' ≡ true
    pub flushed : OnOk answered ((sink.seen o').flushed ≡ true)
    pub missing : Over (λ c. is_one_of d c.maildrops ≡ false → IsErr answered)
    pub part : Over TookFirst
    pub last : (o' ≡ o) ⊎ Over (λ c. TookAll c × PrintedPart c)
    pub settled_first : (o' ≡ o) ⊎ (folder.is_settled f' ≡ true)
    pub cause : IfErr answered WhyBroken

-- ---- a check

-- of the store in this file, whose clerks have these names; texts are compared with `rs`
module _ {V W : Type 0} (vault : vaults.Ghosts V) (sink : sinks.Ghosts W) (v v' : V) (o o' : W)
    (file : StoreFile) (names : Contents → List (List ℕ)) (rs : Contents → Option (List Receipt))
  where
    abbrev Text : Contents → List ℕ
    Text c = store_text file c (names c) (rs c)

    -- What a check did. `Well` says that it ended with status 0.
    pub record Checks (Well : Type 0) : Type 0 where
      pub told : Well → OverHeld vault v v' (λ c. Writes (sink.seen o) (sink.seen o') (Text c))
      pub flushed : Well → (sink.seen o').flushed ≡ true
      pub intact : Well → OverHeld vault v v' (λ c. differing (rs c) c ≡ [])
      pub known : Well → OverHeld vault v v' (λ c. AreKnown (names c) c)
      pub part : (o' ≡ o)
          ⊎ OverHeld vault v v' (λ c. WritesPart (sink.seen o) (sink.seen o') (Text c))

    -- why it ends with status 1: some texts differ, and all was printed; or a fault
    abbrev pub WhyNotIntact : (Refuses : VaultFault → Type 0) → Fault → Type 0
    WhyNotIntact Refuses =
        IsCheckEnd (OverHeld vault v v'
        (λ c. ¬ (differing (rs c) c ≡ []) × Writes (sink.seen o) (sink.seen o') (Text c)))
        (writes_failed (sink.seen o) (sink.seen o')) Refuses
