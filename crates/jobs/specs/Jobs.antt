-- What a job leaves in the files of a store.
use Rattle.std.specs.Prelude.{ℕ}
use Rattle.sqlite_wal.specs.Recovery.{Image}
use Rattle.office.specs.Events.{Trace}
use Rattle.office.specs.Stands.{Keeps}
use Rattle.jobs.specs.Resting.{Rests}

-- From a store that kept the trace T, `Does` led to another trace, and the files hold a store that
-- keeps that. `Does` says it of the two traces, and of the counts of faults before and after.
abbrev pub Leaves : (Trace → Trace → ℕ → ℕ → Type 0) → Trace → (first : ℕ) → Image → Type 0
Leaves Does T first image = (U : Trace) × (last : ℕ) × Does T U first last × Keeps (Rests image) U
