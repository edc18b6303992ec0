-- What a part of a call does to the connection, whatever it answers, in one word: it only looks
-- (`Looks`; `Learns` with what it says; `Sees`, also inside a transaction), it changes records
-- once, as a whole call (`Acts`) or as a part of one (`Turns`), or it is a part of a transaction
-- (`Writes`). Two parts compose: `looks_then`, `learns_then`, `rests_turns` and `writes_then` of
-- proofs/FrameLemmas, `sees_then` of proofs/SeesLemmas. Of rows that may be no contents there are
-- `Asks` and `Reads`.
use Rattle.std.specs.Prelude.{IsTrue, ⊤, Result, Ok, Err, OnOk, OnErr}
use Rattle.sqlite_trees.specs.declared.store.Store.{Ghosts}
use Rattle.sqlite.specs.Held.{Held, state}
use Rattle.sqlite.specs.declared.error.Error.{Error}
use Rattle.sqlite.specs.State.{HasCleanDisk, IsUnchanged}
use Rattle.vault.specs.declared.fault.VaultFault.{VaultFault}
use Rattle.vault.specs.Changes.{Contents}
use Rattle.vault.specs.Stops.{IsOwn}
use Rattle.sqlvault.specs.declared.refusal.Refusal.{Refusal}
use Rattle.sqlvault.specs.declared.refusal.Refusal.TheVariants.{Answered, Met}
use Rattle.mailsql.specs.Rows.{Rows, rows_in, HasTables, IsReady, IsUndone}
use Rattle.sqlvault.specs.Keeps.{Keeps}
use Rattle.sqlvault.specs.Stands.{Holds, WasClean, Makes, LeavesNoMore}
use Rattle.sqlvault.specs.Stops.{LeavesHeld, LeavesOr}
use Rattle.sqlvault.specs.Stored.{Goes}

-- it is done: no error came
abbrev pub IsOk : {A E : Type 0} → Result A E → Type 0
IsOk (Ok _) = ⊤
IsOk (Err _) = ⊥

-- it is answered: no statement met an error
abbrev pub IsMet : {A : Type 0} → Result A Refusal → Type 0
IsMet (Ok _) = ⊤
IsMet (Err (Answered _)) = ⊤
IsMet (Err (Met _)) = ⊥

-- what is held: what was made of the contents if the part is done, else the contents
abbrev pub MadeOr : {A E : Type 0} → Result A E → ((Contents → Type 0) → Type 0) → Contents
    → (Contents → Type 0) → Type 0
MadeOr (Ok _) Made c Held = Made Held
MadeOr (Err _) Made c Held = Held c

module _ {S : Type 0} (store : Ghosts S) (old new : Held S) where
  -- These contents are still held. A connection that was open is still open after an answer of the
  -- call's own, and a stop leaves these contents if it left them before.
  pub record Rests (Own : Type 0) (c : Contents) : Type 0 where
    pub held : Holds (state store new) c
    pub up : IsTrue (state store old).is_open → Own → IsTrue (state store new).is_open
    pub stop : IsTrue (state store old).is_open → LeavesHeld (state store old) c
        → LeavesHeld (state store new) c

  -- A part only looks: a connection that is clean at its end was clean before, and what was held
  -- rests as above.
  pub record Looks (Own : Type 0) : Type 0 where
    pub clean : WasClean (state store old) (state store new)
    pub rests : HasCleanDisk (state store new) → (c : Contents) → Holds (state store old) c
        → Rests Own c

  -- Queries, also inside a transaction: an answer of their own leaves the connection as it was, and
  -- after an error the transaction may be gone. A stop leaves no more than before. This is so of
  -- contents for which the rows stand.
  pub record Sees (Own : Type 0) (Told : Contents → Type 0) : Type 0 where
    pub clean : WasClean (state store old) (state store new)
    pub same : HasCleanDisk (state store new) → HasTables (state store old) → Own
        → IsUnchanged (state store old) (state store new)
    pub undone : HasCleanDisk (state store new) → HasTables (state store old)
        → IsUndone (state store old) (state store new)
    pub told : HasCleanDisk (state store new) → HasTables (state store old) → (c : Contents)
        → (IsTrue (state store old).is_open → Keeps (rows_in (state store old).now.trees) c)
        → Told c
    pub stop : HasCleanDisk (state store new) → IsReady (state store old)
        → LeavesNoMore (state store old) (state store new)

  -- A part only looks, and says this of what was held; the connection is then open.
  pub record Learns (Own : Type 0) (Told : Contents → Type 0) : Type 0 where
    pub sees : Sees Own Told
    pub looks : Looks Own
    pub told : HasCleanDisk (state store new) → (c : Contents) → Holds (state store old) c → Own
        → IsTrue (state store new).is_open × Told c

  -- `Done` says what is held. A connection that was open is still open after an answer of the
  -- call's own, and a stop leaves these contents, or such as `Made` says.
  pub record Turns (Own : Type 0) (Done Made : (Contents → Type 0) → Type 0)
      (c : Contents) : Type 0 where
    pub done : Done (Holds (state store new))
    pub up : IsTrue (state store old).is_open → Own → IsTrue (state store new).is_open
    pub stop : IsTrue (state store old).is_open → LeavesHeld (state store old) c
        → LeavesOr (state store new) c Made

  -- A call: `Done` relates the contents before it, what is held after it, and its answer. It
  -- changes records once, wholly or not at all.
  pub record Acts {A : Type 0}
      (Done : Contents → (Contents → Type 0) → Result A VaultFault → Type 0)
      (answered : Result A VaultFault) : Type 0 where
    pub clean : WasClean (state store old) (state store new)
    pub turns : HasCleanDisk (state store new) → (c : Contents) → Holds (state store old) c
        → Turns (IsOwn answered) (λ Held. Done c Held answered)
        (λ Held. (x : A) × Done c Held (Ok x)) c

  -- a part of a transaction makes this change of the rows, or an error halts the transaction
  pub record Writes {A : Type 0} (Change : A → Rows → Rows → Type 0)
      (result : Result A Error) : Type 0 where
    pub clean : WasClean (state store old) (state store new)
    pub made : HasCleanDisk (state store new)
        → Makes Change (state store old) (state store new) result

  -- Queries of rows that may be no contents. A connection that is clean at their end was clean
  -- before. If our tables are there, it is as it was; after an error its transaction may be
  -- gone. A stop leaves no more than before.
  pub record Asks {A E : Type 0} (result : Result A E) : Type 0 where
    pub clean : WasClean (state store old) (state store new)
    pub same : HasCleanDisk (state store new) → HasTables (state store old)
        → OnOk result (IsUnchanged (state store old) (state store new))
    pub err : HasCleanDisk (state store new) → HasTables (state store old)
        → OnErr result (IsUndone (state store old) (state store new))
    pub stop : HasCleanDisk (state store new) → IsReady (state store old)
        → LeavesNoMore (state store old) (state store new)

  -- A part of such queries, which may be none. A connection that is clean at its end was clean
  -- before; if our tables are there it sees what it saw, or after an error its transaction may
  -- be gone. A stop leaves no more than before.
  pub record Reads {A : Type 0} (result : Result A Error) : Type 0 where
    pub clean : WasClean (state store old) (state store new)
    pub goes : HasCleanDisk (state store new) → HasTables (state store old)
        → Goes (state store old) (state store new) result
    pub stop : HasCleanDisk (state store new) → IsReady (state store old)
        → LeavesNoMore (state store old) (state store new)

-- a change whose end is known: the contents are `after` if it is done, and else what they were
abbrev pub Becomes : {S A E : Type 0} → Ghosts S → (old new : Held S) → Result A E
    → (after c : Contents) → Type 0
Becomes store old new result after c =
    Turns store old new (IsOk result) (MadeOr result (λ Held. Held after) c) (λ Held. Held after) c
