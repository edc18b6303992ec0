-- A store whose close failed.
use Rattle.std.proofs.Common.{◌≡◌, sym, subst}
use Rattle.sqlite_disk.specs.declared.Disk.{Ghosts}
use Rattle.sqlite_disk.specs.declared.Files.{Files}
use Rattle.sqlite_wal.proofs.LogLemmas.{SeenMayStay}
use Rattle.sqlite_store.specs.declared.store.FileStore.{FileStore}
use Rattle.sqlite_store.specs.FileStore as store
use Rattle.sqlite_store.specs.Laws.{settled_at}
use Rattle.sqlite.specs.Files.{IsClosed, file_state}
use Rattle.sqlite.specs.Held.{Held}
use Rattle.sqlvault.specs.Closes.{IsLeft}
use Rattle.sqlvault.specs.Stops.{LeavesLast, leaves_last}

module _ {D : Type 0} {g : Ghosts D} where
  -- between two calls a stop leaves the last commit
  leaves_commit : SeenMayStay g → (conn : Held (FileStore D g)) → LeavesLast (file_state conn)
  leaves_commit stays conn db up may = settled_at conn.store stays db up may

  is_left : SeenMayStay g → (conn : Held (FileStore D g)) (last : FileStore D g) (files : Files D) → IsClosed conn last → (files.log, files.db) ≡ store.files last → IsLeft conn files
  is_left stays conn last files closed has = record {
    last = last;
    has = sym has;
    closed = closed;
    kept = λ c up h db may. leaves_last (file_state conn) c (leaves_commit stays conn) up h db (closed.quiet.outcomes db may);
  }

  pub left_by : SeenMayStay g → (conn was : Held (FileStore D g)) (last : FileStore D g) (files : Files D) → was ≡ conn → IsClosed was last
      → (files.log, files.db) ≡ store.files last → IsLeft conn files
  left_by stays conn was last files same closed has =
      subst (λ (h : Held (FileStore D g)). IsLeft h files) same (is_left stays was last files closed has)
