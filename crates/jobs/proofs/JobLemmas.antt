-- What a store keeps, from its opening over a job to its closing.
use Rattle.std.proofs.Common.{◌≡◌, ◌∙◌, inl, refl, [], ℕ, Bool, true, false, Result, Ok, Err, subst}
use Rattle.std.proofs.lemmas.Bool.{and_from}
use Rattle.std.specs.Prelude.{IfOk, if◌then◌else◌, is_ok}
use Rattle.sqlite_disk.specs.declared.Disk.{Ghosts}
use Rattle.sqlite_disk.specs.declared.Files.{Files}
use Rattle.sqlite_wal.specs.Reads.{AreClean}
use Rattle.sqlite_wal.specs.Recovery.{Image}
use Rattle.sqlite_trees.proofs.Doubt.{no_doubt}
use Rattle.sqlite_pool.proofs.StateLemmas.{clean_is}
use Rattle.sqlite_store.specs.declared.store.FileStore.{FileStore}
use Rattle.sqlite.specs.declared.error.Error.{Error}
use Rattle.sqlite.specs.Files.{file_state, image_of}
use Rattle.sqlite.specs.Held.{Held}
use Rattle.sqlite.specs.State.{State, HasCleanDisk}
use Rattle.vault.specs.declared.fault.VaultFault.{VaultFault}
use Rattle.vault.specs.Calls.{IsDone}
use Rattle.vault.specs.Changes.{Contents}
use Rattle.vault.specs.Plain.{no_contents}
use Rattle.office.specs.Events.{Trace}
use Rattle.office.specs.Laws.{IsNewOrBegun}
use Rattle.office.specs.Stands.{Keeps}
use Rattle.jobs.specs.Resting.{Rests, IsUnmade}
use Rattle.sqlvault.specs.Stands.{Holds}
use Rattle.jobs.specs.Jobs.{Leaves}
use Rattle.jobs.specs.Sittings.{unused}

-- what one store holds another holds, so it keeps the same traces
pub keeps_on : (H G : Contents → Type 0) (T : Trace) → ((c : Contents) → H c → G c) → Keeps H T → Keeps G T
keeps_on H G T on k = record { contents = k.contents; held = on k.contents k.held; agree = k.agree; sound = k.sound; formed = k.formed; began = k.began }

none_begun : IsNewOrBegun []
unfolding IsNewOrBegun
none_begun = inl refl

-- a store that holds nothing keeps the trace in which nothing was done
pub unused_kept : (s : State) → Holds s no_contents → Keeps (Holds s) unused
unused_kept s h = record {
  contents = no_contents;
  held = h;
  agree = record { clerks = refl; credentials = λ name. refl; maildrops = refl; messages = λ d. refl; receipts = λ d id. refl; counts = λ d class. refl; policy = refl };
  sound = h.sound.records;
  formed = refl;
  began = none_begun;
}

-- ---- disks that tell no lie

pub all_clean : {D : Type 0} {g : Ghosts D} (c : Held (FileStore D g)) → ((d : D) → g.is_clean d ≡ true) → HasCleanDisk (file_state c)
all_clean {D} {g} c honest = no_doubt _ (clean_is c.store.pool ∙ and_from _ _ (honest _) (honest _))

-- ---- a job

module _ {D : Type 0} {g : Ghosts D} (Tells : Type 0) (Does : Trace → Trace → ℕ → ℕ → Type 0) where
  -- a job over the store `old` left the store `now`, which was closed
  pub job_left : (old now : Held (FileStore D g)) (n m : ℕ) (r : Result (Files D) (Error × Files D))
      → (Tells → (T : Trace) → Keeps (Holds (file_state old)) T → HasCleanDisk (file_state now) → (U : Trace) × Does T U n m × Keeps (Holds (file_state now)) U)
      → IfOk r (λ files. (c : Contents) → AreClean g files.log files.db → Holds (file_state now) c → Rests (image_of g files) c)
      → IfOk r (λ files. AreClean g files.log files.db → HasCleanDisk (file_state now))
      → IfOk r (λ files. Tells → AreClean g files.log files.db → (T : Trace) → Keeps (Holds (file_state old)) T → Leaves Does T n (image_of g files))
  job_left old now n m (Ok files) done rests clean = λ tells honest T k.
      let did = done tells T k (clean honest) in
      (did.0, m, did.1, keeps_on (Holds (file_state now)) (Rests (image_of g files)) did.0 (λ c h. rests c honest h) did.2)
  job_left old now n m (Err refused) done rests clean = tt

  pub job_clean : (old now : Held (FileStore D g)) (r : Result (Files D) (Error × Files D))
      → (Tells → HasCleanDisk (file_state now) → HasCleanDisk (file_state old))
      → IfOk r (λ files. AreClean g files.log files.db → HasCleanDisk (file_state now))
      → IfOk r (λ files. Tells → AreClean g files.log files.db → HasCleanDisk (file_state old))
  job_clean old now (Ok files) was clean = λ tells honest. was tells (clean honest)
  job_clean old now (Err refused) was clean = tt

  -- and the store was opened from files that held this image
  pub file_left : (image : Image) (opened : Held (FileStore D g)) (n : ℕ) (r : Result (Files D) (Error × Files D))
      → ((c : Contents) → HasCleanDisk (file_state opened) → Rests image c → Holds (file_state opened) c)
      → n ≡ 0
      → IfOk r (λ files. Tells → AreClean g files.log files.db → (T : Trace) → Keeps (Holds (file_state opened)) T → Leaves Does T n (image_of g files))
      → IfOk r (λ files. Tells → AreClean g files.log files.db → HasCleanDisk (file_state opened))
      → IfOk r (λ files. Tells → AreClean g files.log files.db → (T : Trace) → Keeps (Rests image) T → Leaves Does T 0 (image_of g files))
  file_left image opened n (Ok files) held zero left clean = λ tells honest T k.
      subst (λ first. Leaves Does T first (image_of g files)) zero (left tells honest T (keeps_on (Rests image) (Holds (file_state opened)) T (λ c rests. held c (clean tells honest) rests) k))
  file_left image opened n (Err refused) held zero left clean = tt

  pub new_left : (image : Image) (opened : Held (FileStore D g)) (n : ℕ) (r : Result (Files D) (Error × Files D))
      → (HasCleanDisk (file_state opened) → IsUnmade image → Holds (file_state opened) no_contents)
      → n ≡ 0
      → IfOk r (λ files. Tells → AreClean g files.log files.db → (T : Trace) → Keeps (Holds (file_state opened)) T → Leaves Does T n (image_of g files))
      → IfOk r (λ files. Tells → AreClean g files.log files.db → HasCleanDisk (file_state opened))
      → IfOk r (λ files. Tells → AreClean g files.log files.db → IsUnmade image → Leaves Does unused 0 (image_of g files))
  new_left image opened n (Ok files) new zero left clean = λ tells honest unmade.
      let good = clean tells honest in
      subst (λ first. Leaves Does unused first (image_of g files)) zero (left tells honest unused (unused_kept (file_state opened) (new good unmade)))
  new_left image opened n (Err refused) new zero left clean = tt

-- ---- a call that only looks

either_same : (H : Contents → Type 0) (c : Contents) (b : Bool) → H (if b then c else c) → H c
either_same H c true h = h
either_same H c false h = h

pub looked : {A : Type 0} (H : Contents → Type 0) (c : Contents) (expected answered : Result A VaultFault) → IsDone H c c expected answered → H c
looked H c expected answered done = either_same H c (is_ok answered) done.held
