-- What a stop may leave of a store over tables.
use Rattle.std.specs.Prelude.{◌≡◌, ◌⊎◌, IsTrue}
use Rattle.std.proofs.Common.{sym, ap, subst, ◌∙◌}
use Rattle.sqlite_trees.specs.Tree.{Trees}
use Rattle.sqlite.specs.Effect.{Database}
use Rattle.sqlite.specs.State.{State}
use Rattle.vault.specs.Changes.{Contents}
use Rattle.vault.specs.Stops.{SaySame}
use Rattle.mailsql.specs.Rows.{rows_in}
use Rattle.sqlvault.specs.Keeps.{Keeps}
use Rattle.sqlvault.specs.Stands.{Holds, Leaves}

-- These contents may be held after a stop: it may leave rows such that all contents for which they
-- stand say the same as these. If the rows left stand for no contents, any contents may be held.
abbrev pub MayHold : State → Contents → Type 0
MayHold s left = (db : Trees) × s.may_leave db × ((c : Contents) → Keeps (rows_in db) c → SaySame left c)

-- a stop now leaves the rows of these contents
abbrev pub LeavesHeld : State → Contents → Type 0
LeavesHeld s c = Leaves s (λ rows. Keeps rows c)

-- a stop now leaves the rows of these contents, or of contents with `After`
abbrev pub LeavesOr : State → Contents → ((Contents → Type 0) → Type 0) → Type 0
LeavesOr s c After = Leaves s (λ rows. Keeps rows c ⊎ After (Keeps rows))

-- ---- between two calls

-- a stop of an open connection leaves just the last commit: a law of every store
abbrev pub LeavesLast : State → Type 0
LeavesLast s = (db : Trees) → IsTrue s.is_open → s.may_leave db → db ≡ s.committed.trees

-- so a stop leaves the rows of what is held
pub leaves_last : (s : State) (c : Contents) → LeavesLast s → IsTrue s.is_open → Holds s c → LeavesHeld s c
leaves_last s c law up h db may = subst (λ (t : Trees). Keeps (rows_in t) c) (sym (law db up may ∙ ap (λ (d : Database). d.trees) (h.settled up))) (h.rows up)

-- and what may be held after it says the same as what is held
pub settled_at : (s : State) (c : Contents) → Holds s c → IsTrue s.is_open → LeavesLast s → (left : Contents) → MayHold s left → SaySame left c
settled_at s c h up law left may = may.2 c (leaves_last s c law up h may.0 may.1)
