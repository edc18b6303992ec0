-- What a close that fails leaves of a store's two files.
use Rattle.std.specs.Prelude.{◌≡◌, IsTrue}
use Rattle.sqlite_disk.specs.declared.Disk.{Ghosts}
use Rattle.sqlite_disk.specs.declared.Files.{Files}
use Rattle.sqlite_trees.specs.Tree.{Trees}
use Rattle.sqlite_store.specs.declared.store.FileStore.{FileStore}
use Rattle.sqlite_store.specs.FileStore as store
use Rattle.sqlite.specs.Files.{IsClosed, file_state}
use Rattle.sqlite.specs.Held.{Held}
use Rattle.vault.specs.Changes.{Contents}
use Rattle.mailsql.specs.Rows.{rows_in}
use Rattle.sqlvault.specs.Keeps.{Keeps}
use Rattle.sqlvault.specs.Stands.{Holds}

-- The close of this connection failed, and these are its files: those of a store of which a stop
-- leaves nothing that a stop of the connection couldn't leave, and each of that is a database. If
-- the connection was open, that is the rows of what was held.
pub record IsLeft {D : Type 0} {g : Ghosts D} (conn : Held (FileStore D g)) (files : Files D)
    : Type 0 where
  pub last : FileStore D g
  pub has : store.files last ≡ (files.log, files.db)
  pub closed : IsClosed conn last
  pub kept : (c : Contents) → IsTrue (file_state conn).is_open → Holds (file_state conn) c
      → (db : Trees) → store.recovers last db → Keeps (rows_in db) c
