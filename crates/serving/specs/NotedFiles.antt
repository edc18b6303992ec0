-- What the calls of a spool tell of its files.
use Rattle.std.specs.Prelude.{◌≡◌, ℕ, true, List, [], ◌∷◌, ◌++◌, map, Some, None}
use Rattle.std.proofs.Common.{sym, ◌∙◌}
use Rattle.serving.specs.Spools.{FileAct, WasRead, WasRemoved, WasRenamed, FileCall, Next, Read, Removed, Renamed}
use Rattle.notes.specs.declared.Notes.{Notes}
use Rattle.serving.specs.declared.file_notes.FileAsked.{FileAsked}
use Rattle.serving.specs.declared.file_notes.FileAsked.TheVariants as asked

-- after a call
abbrev pub acts_behind : FileCall → List FileAct → List FileAct
acts_behind (Read name (Some text)) acts = acts ++ WasRead name text ∷ []
acts_behind (Removed name true) acts = acts ++ WasRemoved name ∷ []
acts_behind (Renamed name true) acts = acts ++ WasRenamed name ∷ []
acts_behind _ acts = acts

-- after calls, the newest last
abbrev pub acts_since : List FileAct → List FileCall → List FileAct
acts_since acts [] = acts
acts_since acts (c ∷ calls) = acts_since (acts_behind c acts) calls

-- of all calls that were made
abbrev pub acts_of : List FileCall → List FileAct
acts_of calls = acts_since [] calls

-- a call, as it is noted with the octets of a text
abbrev pub call_of : FileAsked → List ℕ → FileCall
call_of (asked.NextBehind last next) text = Next (Some last) (Some next)
call_of (asked.NoneBehind last) text = Next (Some last) None
call_of (asked.First next) text = Next None (Some next)
call_of asked.NoneAtAll text = Next None None
call_of (asked.Read name) text = Read name (Some text)
call_of (asked.NotRead name) text = Read name None
call_of (asked.Remove name is_done) text = Removed name is_done
call_of (asked.Rename name is_done) text = Renamed name is_done

-- what the notes of a spool say
pub record NotedFileCalls : Type 0 where
  pub calls : List FileCall

-- the calls that were noted, each with its text
abbrev pub calls_of : List (FileAsked × Notes ℕ) → List FileCall
calls_of noted = map (λ n. call_of n.0 n.1.items) noted

-- they tell one thing
pub tells_once : (calls : List FileCall) (a b : List FileAct) → a ≡ acts_of calls → b ≡ acts_of calls → a ≡ b
tells_once calls a b h k = h ∙ sym k

-- the spool inside was asked just this and answered so, in what it tells itself
pub record WasAsked {S : Type 0} (Tells : S → List FileAct → Type 0) (Asked : S → List FileCall → Type 0) (spool spool_then : S) (call : FileCall) : Type 0 where
  pub told : (acts : List FileAct) → Tells spool acts → Tells spool_then (acts_behind call acts)
  pub called : (calls : List FileCall) → Asked spool calls → Asked spool_then (calls ++ call ∷ [])

-- the spool inside tells what it told, and was asked what it was asked
pub record StaysAsItWas {S : Type 0} (Tells : S → List FileAct → Type 0) (Asked : S → List FileCall → Type 0) (spool spool_then : S) : Type 0 where
  pub told : (acts : List FileAct) → Tells spool acts → Tells spool_then acts
  pub called : (calls : List FileCall) → Asked spool calls → Asked spool_then calls
