-- That a turn tries one file of its spool: the next one after that which was tried last.
use Rattle.std.specs.Prelude.{◌≡◌, ℕ, Bool, false, List, [], ◌∷◌, ◌++◌, Option, Some, None}
use Rattle.std.specs.List.{list_any}
use Rattle.vault.specs.declared.vault.Vault.{Ghosts}
use Rattle.office.specs.History.{Tag}
use Rattle.office.specs.Events.{Event, Tagged, Log, Trace}
use Rattle.office.specs.Events as event
use Rattle.office.specs.Trace.{history}
use Rattle.office.specs.Expected.{shown_at}
use Rattle.office.specs.Stands.{StandsFor, vault_of}
use Rattle.office.specs.declared.office.Office.{Office}
use Rattle.serving.specs.declared.file_name.FileName.{FileName}
use Rattle.serving.specs.declared.server.Server.{Server}
use Rattle.serving.specs.declared.spool.Spool as the_spool
use Rattle.serving.specs.declared.links.Clients.{Clients}
use Rattle.serving.specs.Settings.{settings_of}
use Rattle.serving.specs.declared.files.Disposal.{Disposal}
use Rattle.serving.specs.declared.files.Disposal.TheVariants as disposal
use Rattle.serving.specs.Spools.{FileCall, Next, Read, Removed, Renamed, disposal_of}
use Rattle.serving.specs.Parts.{WasGiven}
use Rattle.serving.specs.Works.{AreDeposits}

-- a file is removed, renamed or left, and whether that was done
abbrev pub disposing : FileName → (is_done : Bool) → Disposal → List FileCall
disposing name is_done disposal.Remove = Removed name is_done ∷ []
disposing name is_done disposal.Rename = Renamed name is_done ∷ []
disposing name is_done disposal.Leave = []

-- the deposit of a file with this text
abbrev pub deposit_of : FileName → (text : List ℕ) → Event
deposit_of name text = event.Deposit name.maildrop name.class name.id text

-- A file is read, and if it could be, its text is deposited, and it is removed, renamed or left by the answer.
pub data IsTrying (name : FileName) (T : Trace) : Log → List FileCall → Type 0 where
  CouldNotRead : IsTrying name T [] (Read name None ∷ [])
  WasTried : (text : List ℕ) (t : Tag) (is_done : Bool)
      → IsTrying name T ((deposit_of name text, Tagged t) ∷ [])
      (Read name (Some text) ∷ disposing name is_done (disposal_of (shown_at T.base T.log (history T) (deposit_of name text) t)))

-- The spool is asked for the next name after that of the last file; the file of this name is tried, and is the last one then.
pub data IsSpoolTurn (last : Option FileName) : (last_then : Option FileName) → Trace → Log → List FileCall → Type 0 where
  NoFileThere : (T : Trace) → IsSpoolTurn last last T [] (Next last None ∷ [])
  TriesOne : (name : FileName) (T : Trace) (given : Log) (calls : List FileCall) → IsTrying name T given calls → IsSpoolTurn last (Some name) T given (Next last (Some name) ∷ calls)

-- a file was removed or renamed
abbrev pub is_dealt : FileCall → Bool
is_dealt (Removed name is_done) = is_done
is_dealt (Renamed name is_done) = is_done
is_dealt _ = false

-- a file was dealt with, so that the next one may be tried at once
abbrev pub has_dealt : List FileCall → Bool
has_dealt calls = list_any is_dealt calls

-- a part of a turn that gives deposits to the office and asks the spool
pub record SpoolPart {V S : Type 0} (vault : Ghosts V) (Asked : S → List FileCall → Type 0)
    (office : Office V) (spool : S) (office_then : Office V) (spool_then : S) (Facts : Trace → Log → List FileCall → Type 0) : Type 0 where
  pub given : Log
  pub calls : List FileCall
  pub was_given : WasGiven vault office office_then given
  pub was_asked : (before : List FileCall) → Asked spool before → Asked spool_then (before ++ calls)
  pub deposits : AreDeposits given
  pub facts : (T : Trace) → StandsFor vault.holds office T → vault.is_clean (vault_of office_then) → Facts T given calls

-- one of a server, which asks the wire nothing, and of which nothing is heard
pub record Tries {V W L S : Type 0} (vault : Ghosts V) (spools : the_spool.Ghosts S) (old : Server V W L) (spool : S) (new : Server V W L) (spool_then : S)
    (Facts : Trace → Log → List FileCall → Type 0) : Type 0 where
  pub wire : new.wire ≡ old.wire
  pub listener : new.listener ≡ old.listener
  pub part : SpoolPart vault spools.asked old.office spool new.office spool_then Facts

-- it keeps how the loop was set, the seats, who hasn't logged in, and whose logins were refused
pub record KeepsClients (links links_then : Clients) : Type 0 where
  pub set : settings_of links_then ≡ settings_of links
  pub seats : links_then.seats ≡ links.seats
  pub newcomers : links_then.newcomers ≡ links.newcomers
  pub guesses : links_then.guesses ≡ links.guesses
