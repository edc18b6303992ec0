-- A store that was closed, and is opened again.
use Rattle.std.proofs.Common.{◌≡◌, inl, inr, ℕ, List, [], length, IsTrue, Result, Ok, Err, sym, ap, subst, ◌∙◌, arith}
use Rattle.std.specs.Prelude.{IfOk}
use Rattle.std.proofs.Math.Logic.{∥∥₁_elim}
use Rattle.sqlite_disk.specs.declared.Disk.{Ghosts}
use Rattle.sqlite_disk.specs.declared.Files.{Files}
use Rattle.sqlite_wal.specs.Files.{outcomes}
use Rattle.sqlite_wal.specs.Reads.{AreClean}
use Rattle.sqlite_wal.specs.Recovery.{Image, Replays}
use Rattle.sqlite_trees.specs.Tree.{Trees}
use Rattle.sqlite_trees.specs.Props.{Trees-set}
use Rattle.sqlite_trees.specs.Objects.{catalog_tree}
use Rattle.sqlite_catalog.specs.Listing.{Lists}
use Rattle.sqlite_catalog.proofs.ReadLemmas.{lists_once}
use Rattle.sqlite_store.specs.declared.store.FileStore.{FileStore}
use Rattle.sqlite.proofs.ListingLemmas.{empty_is_sound}
use Rattle.sqlite.specs.Closing.{IsCopied}
use Rattle.sqlite.specs.Effect.{Database, IsDatabase}
use Rattle.sqlite.specs.Files.{file_state, image_of, HoldsDatabase, AreFoundIn, Finds, IsOpened}
use Rattle.sqlite.specs.Held.{Held}
use Rattle.sqlite.specs.Start.{FindsIn}
use Rattle.sqlite.specs.State.{State, HasCleanDisk, Opens, IsLive}
use Rattle.vault.specs.declared.fault.VaultFault.{VaultFault}
use Rattle.vault.specs.Changes.{Contents}
use Rattle.vault.specs.Plain.{no_contents}
use Rattle.mailsql.specs.Tables.{no_schema}
use Rattle.mailsql.specs.Rows.{rows_in, IsKept}
use Rattle.sqlvault.specs.Keeps.{Keeps}
use Rattle.sqlvault.specs.Adopts.{IsBlank, IsKnown, IsAdopted, OpensIn, Stores}
use Rattle.sqlvault.specs.Opened.{Opened}
use Rattle.jobs.specs.Resting.{Rests, IsUnmade}
use Rattle.sqlvault.specs.Stands.{Holds}

-- trees list one schema at most, so they are one database at most
pub database_once : (a b : Database) → IsDatabase a → IsDatabase b → a.trees ≡ b.trees → a ≡ b
database_once a b p q e =
    let moved : Lists (b.trees catalog_tree) a.schema = subst (λ (t : Trees). Lists (t catalog_tree) a.schema) e p.lists in
    let same = lists_once (b.trees catalog_tree) a.schema b.schema moved q.lists in
    λ i. record { schema = same i; trees = e i }

-- ---- files that hold a store

found_at_rest : (image : Image) (s : State) (c : Contents) → FindsIn image s → Opens s → IsLive s → (r : Rests image c) → s.committed ≡ r.database
found_at_rest image s c finds opens live r =
    let trees : s.committed.trees ≡ r.database.trees = ∥∥₁_elim r.read (Trees-set _ _) (finds.holds r.database.trees) in
    database_once s.committed r.database (live opens.is_open).1 r.listed trees

pub stores_at_rest : (image : Image) (s : State) (c : Contents) → FindsIn image s → Opens s → IsLive s → Rests image c → Stores s c
stores_at_rest image s c finds opens live r =
    let now : s.now ≡ r.database = opens.clean ∙ found_at_rest image s c finds opens live r in
    (subst IsKept (sym now) r.kept, subst (λ (d : Database). Keeps (rows_in d.trees) c) (sym now) r.rows)

-- ---- files that hold nothing yet

-- no commit stands in an empty log
none_in : (log : List ℕ) → log ≡ [] → (page_size frames : ℕ) → Replays page_size log frames → frames ≡ 0
none_in log empty page_size frames (inl ignored) = ignored.1
none_in log empty page_size frames (inr taken) = absurd (let long = taken.0.long in let none = ap length empty in omega (arith, long, none))

-- two empty files are a store that isn't made
pub unmade : (image : Image) → image.log ≡ [] → image.db ≡ [] → IsUnmade image
unmade image log db = record { empty = db; uncommitted = none_in image.log log }

found_empty : (image : Image) (db : Trees) → IsUnmade image → AreFoundIn image db → db catalog_tree ≡ []
found_empty image db unmade (inl read) =
    let some = read.3.found.present in
    absurd (let none = ap length unmade.empty in omega (arith, some, none))
found_empty image db unmade (inr nothing) = nothing.1.1

pub blank_at_rest : (image : Image) (s : State) → IsUnmade image → FindsIn image s → Opens s → IsLive s → IsBlank s
blank_at_rest image s unmade finds opens live =
    let empty = found_empty image s.committed.trees unmade finds.reads in
    let schema = lists_once (s.committed.trees catalog_tree) s.committed.schema no_schema (live opens.is_open).1.lists (empty_is_sound s.committed.trees empty).lists in
    (ap (λ (d : Database). d.schema) opens.clean ∙ schema, tt)

-- ---- what an opening makes of them

pub held_by : {D : Type 0} {g : Ghosts D} (image : Image) (first : Held (FileStore D g)) (now : Held (FileStore D g)) (c : Contents) → FindsIn image (file_state first) → IsOpened first
    → (IsKnown (file_state first) → IsAdopted (file_state first) (file_state now)) → Rests image c → Holds (file_state now) c
held_by image first now c finds opened adopts rests =
    let stores = stores_at_rest image (file_state first) c finds opened.0 opened.1 rests in
    (adopts (inr stores.0)).kept c stores

pub new_by : {D : Type 0} {g : Ghosts D} (image : Image) (first : Held (FileStore D g)) (now : Held (FileStore D g)) → FindsIn image (file_state first) → IsOpened first
    → (IsKnown (file_state first) → IsAdopted (file_state first) (file_state now)) → IsUnmade image → Holds (file_state now) no_contents
new_by image first now finds opened adopts unmade =
    let blank = blank_at_rest image (file_state first) unmade finds opened.0 opened.1 in
    (adopts (inl blank)).blank blank

-- of the file at a path
module _ {D : Type 0} {g : Ghosts D} (image : Image) where
  pub held_in : (r : Result (Opened (FileStore D g)) VaultFault) → OpensIn image r
      → IfOk r (λ vault. (c : Contents) → HasCleanDisk (file_state vault.conn) → Rests image c → Holds (file_state vault.conn) c)
  held_in (Ok vault) opens = λ c clean rests. let it = opens clean in held_by image it.first vault.conn c it.found it.opened it.adopted rests
  held_in (Err fault) opens = tt

  pub new_in : (r : Result (Opened (FileStore D g)) VaultFault) → OpensIn image r → IfOk r (λ vault. HasCleanDisk (file_state vault.conn) → IsUnmade image → Holds (file_state vault.conn) no_contents)
  new_in (Ok vault) opens = λ clean unmade. let it = opens clean in new_by image it.first vault.conn it.found it.opened it.adopted unmade
  new_in (Err fault) opens = tt

-- ---- closing

-- the database that a connection committed last rests in the files that hold it
pub rests_in : (image : Image) (s : State) (c : Contents) → IsLive s → IsTrue s.is_open → Holds s c → ∥ HoldsDatabase image s.committed.trees ∥₁ → Rests image c
rests_in image s c live up h read = record {
  database = s.committed;
  read = read;
  listed = (live up).1;
  kept = subst IsKept (sym (h.settled up)) (h.tables up);
  rows = subst (λ (d : Database). Keeps (rows_in d.trees) c) (sym (h.settled up)) (h.rows up);
}

-- ---- two files

module _ {D : Type 0} {g : Ghosts D} where
  finds_in : (files : Files D) (conn : Held (FileStore D g)) → Finds files conn → FindsIn (image_of g files) (file_state conn)
  finds_in files conn finds = record { holds = finds.holds; reads = finds.reads }

  pub held_files : (files : Files D) (first : Held (FileStore D g)) (r : Result (Opened (FileStore D g)) VaultFault)
      → (HasCleanDisk (file_state first) → IsOpened first) → (HasCleanDisk (file_state first) → Finds files first)
      → IfOk r (λ vault. HasCleanDisk (file_state vault.conn) → HasCleanDisk (file_state first) × (IsKnown (file_state first) → IsAdopted (file_state first) (file_state vault.conn)))
      → IfOk r (λ vault. (c : Contents) → HasCleanDisk (file_state vault.conn) → Rests (image_of g files) c → Holds (file_state vault.conn) c)
  held_files files first (Ok vault) opened finds adopted = λ c clean rests.
      let a = adopted clean in held_by (image_of g files) first vault.conn c (finds_in files first (finds a.0)) (opened a.0) a.1 rests
  held_files files first (Err fault) opened finds adopted = tt

  pub new_files : (files : Files D) (first : Held (FileStore D g)) (r : Result (Opened (FileStore D g)) VaultFault)
      → (HasCleanDisk (file_state first) → IsOpened first) → (HasCleanDisk (file_state first) → Finds files first)
      → IfOk r (λ vault. HasCleanDisk (file_state vault.conn) → HasCleanDisk (file_state first) × (IsKnown (file_state first) → IsAdopted (file_state first) (file_state vault.conn)))
      → IfOk r (λ vault. HasCleanDisk (file_state vault.conn) → IsUnmade (image_of g files) → Holds (file_state vault.conn) no_contents)
  new_files files first (Ok vault) opened finds adopted = λ clean unmade.
      let a = adopted clean in new_by (image_of g files) first vault.conn (finds_in files first (finds a.0)) (opened a.0) a.1 unmade
  new_files files first (Err fault) opened finds adopted = tt

  pub clean_files : (files : Files D) (first : Held (FileStore D g)) (r : Result (Opened (FileStore D g)) VaultFault) → (HasCleanDisk (file_state first) → Finds files first)
      → IfOk r (λ vault. HasCleanDisk (file_state vault.conn) → HasCleanDisk (file_state first) × (IsKnown (file_state first) → IsAdopted (file_state first) (file_state vault.conn)))
      → IfOk r (λ vault. HasCleanDisk (file_state vault.conn) → AreClean g files.log files.db)
  clean_files files first (Ok vault) finds adopted = λ clean. (finds (adopted clean).0).honest
  clean_files files first (Err fault) finds adopted = tt

  -- closed, the store rests in its files
  pub rests_closed : (conn : Held (FileStore D g)) (files : Files D) (c : Contents) → IsLive (file_state conn) → IsCopied conn files → Holds (file_state conn) c → Rests (image_of g files) c
  rests_closed conn files c live copied h = rests_in (image_of g files) (file_state conn) c live copied.was_open h copied.seen.both

  pub rests_left : (conn : Held (FileStore D g)) (files : Files D) (c : Contents) (image : Image) → IsLive (file_state conn) → IsCopied conn files
      → Holds (file_state conn) c → outcomes g files.log files.db image → Rests image c
  rests_left conn files c image live copied h may = rests_in image (file_state conn) c live copied.was_open h (copied.left image may).both

  -- what rested in the files that a store was closed to is held again
  pub held_again : (old : Held (FileStore D g)) (files : Files D) (r : Result (Opened (FileStore D g)) VaultFault)
      → IfOk r (λ vault. (c : Contents) → HasCleanDisk (file_state vault.conn) → Rests (image_of g files) c → Holds (file_state vault.conn) c)
      → IfOk r (λ vault. HasCleanDisk (file_state vault.conn) → AreClean g files.log files.db)
      → ((c : Contents) → AreClean g files.log files.db → Holds (file_state old) c → Rests (image_of g files) c)
      → IfOk r (λ vault. (c : Contents) → HasCleanDisk (file_state vault.conn) → Holds (file_state old) c → Holds (file_state vault.conn) c)
  held_again old files (Ok vault) held honest rests = λ c clean h. held c clean (rests c (honest clean) h)
  held_again old files (Err fault) held honest rests = tt

  pub clean_again : (old : Held (FileStore D g)) (files : Files D) (r : Result (Opened (FileStore D g)) VaultFault)
      → IfOk r (λ vault. HasCleanDisk (file_state vault.conn) → AreClean g files.log files.db)
      → (AreClean g files.log files.db → HasCleanDisk (file_state old))
      → IfOk r (λ vault. HasCleanDisk (file_state vault.conn) → HasCleanDisk (file_state old))
  clean_again old files (Ok vault) honest was = λ clean. was (honest clean)
  clean_again old files (Err fault) honest was = tt
