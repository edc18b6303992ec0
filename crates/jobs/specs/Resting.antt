-- What the two files of a store hold while no connection has them open.
use Rattle.std.specs.Prelude.{◌≡◌, ℕ, []}
use Rattle.sqlite_wal.specs.Recovery.{Image, Replays}
use Rattle.sqlite.specs.Effect.{Database, IsDatabase}
use Rattle.sqlite.specs.Files.{HoldsDatabase}
use Rattle.vault.specs.Changes.{Contents}
use Rattle.mailsql.specs.Rows.{rows_in, IsKept}
use Rattle.sqlvault.specs.Keeps.{Keeps}

-- The files hold a whole database: it has just our tables, and their rows are these contents.
pub record Rests (image : Image) (c : Contents) : Type 0 where
  pub database : Database
  pub read : ∥ HoldsDatabase image database.trees ∥₁
  pub listed : IsDatabase database
  pub kept : IsKept database
  pub rows : Keeps (rows_in database.trees) c

-- As before the first opening: the database's file is empty, and no commit stands in its log. An
-- empty file beside a log with commits is what is left of a store whose file was cut or removed.
pub record IsUnmade (image : Image) : Type 0 where
  pub empty : image.db ≡ []
  pub uncommitted : (page_size frames : ℕ) → Replays page_size image.log frames → frames ≡ 0
