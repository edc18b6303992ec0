-- What a spool tells of its files, what it was asked, and what becomes of a file by the answer to its deposit.
use Rattle.std.specs.Prelude.{◌≡◌, ◌⊎◌, ℕ, Bool, List, [], ◌∷◌, ◌++◌, Option}
use Rattle.office.specs.Outcomes.{Outcome, Answered}
use Rattle.office.specs.Answers as answer
use Rattle.serving.specs.declared.file_name.FileName.{FileName}
use Rattle.serving.specs.declared.files.Disposal.{Disposal}
use Rattle.serving.specs.declared.files.Disposal.TheVariants as disposal

-- what happened to a file
pub data FileAct : Type 0 where
  -- it was read, and had this text
  WasRead : FileName → (text : List ℕ) → FileAct
  WasRemoved : FileName → FileAct
  WasRenamed : FileName → FileAct

-- what a spool was asked, and what it answered
pub data FileCall : Type 0 where
  -- for the next name after this one
  Next : (last next : Option FileName) → FileCall
  -- to read a file, and its text if it was read
  Read : FileName → (text : Option (List ℕ)) → FileCall
  -- to remove a file, and whether it was removed
  Removed : FileName → (is_done : Bool) → FileCall
  -- to rename a file, and whether it was renamed
  Renamed : FileName → (is_done : Bool) → FileCall

-- what a spool was asked about the large file that is coming
pub data PartCall : Type 0 where
  -- to read one more piece of it
  ReadOn : PartCall
  -- to note that no more of its deposit can be prepared
  NotePrepared : PartCall

-- what becomes of a file whose deposit is answered so
abbrev pub disposal_of : Outcome → Disposal
disposal_of (Answered (answer.New uid)) = disposal.Remove
disposal_of (Answered (answer.Known uid)) = disposal.Remove
disposal_of (Answered answer.EmptyText) = disposal.Rename
disposal_of (Answered answer.TextTooLarge) = disposal.Rename
disposal_of (Answered answer.Conflict) = disposal.Rename
disposal_of _ = disposal.Leave

-- it happens
abbrev pub disposed : FileName → Disposal → List FileAct
disposed n disposal.Remove = WasRemoved n ∷ []
disposed n disposal.Rename = WasRenamed n ∷ []
disposed n disposal.Leave = []

-- a file of this text was tried: it was read, and then what was to become of it happened, or couldn't be done
abbrev pub IsFiled : FileName → (text : List ℕ) → Disposal → (before acts : List FileAct) → Type 0
IsFiled n text d before acts = (acts ≡ before ++ WasRead n text ∷ []) ⊎ (acts ≡ (before ++ WasRead n text ∷ []) ++ disposed n d)
