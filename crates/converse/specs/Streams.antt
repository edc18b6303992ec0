-- What a source gave and a sink took: their octets, and how many calls failed. The counts stop at 2^64 - 1.
use Rattle.std.specs.Prelude.{◌≡◌, ℕ, ◌<◌, ◌≤◌, Bool, true, false, List, [], ◌++◌, length, take, Option, Result, MatchResult}
use Rattle.std.specs.Io.KnownBytes.{Appends, Consumes, IsAtEnd}
use Rattle.vault.specs.Calls.{has_grown}

-- of a source: what it gave, what it will give, if that is known, and how many of its calls failed
pub record Reading : Type 0 where
  pub given : List ℕ
  pub left : Option (List ℕ)
  pub faults : ℕ

-- of a sink: what it took, whether all of that is flushed, what it holds, if that is known, and
-- how many of its calls failed
pub record Writing : Type 0 where
  pub taken : List ℕ
  pub flushed : Bool
  pub holds : Option (List ℕ)
  pub faults : ℕ

-- a source gave just these octets
pub record Reads (before now : Reading) (octets : List ℕ) : Type 0 where
  pub gave : now.given ≡ before.given ++ octets
  pub told : Consumes before.left now.left octets
  pub kept : before.faults ≤ now.faults

-- a sink took just these octets
pub record Writes (before now : Writing) (octets : List ℕ) : Type 0 where
  pub took : now.taken ≡ before.taken ++ octets
  pub told : Appends before.holds now.holds octets
  pub kept : before.faults ≤ now.faults

-- a sink took a beginning of a text, or all of it
pub record WritesPart (before now : Writing) (text : List ℕ) : Type 0 where
  pub told : List ℕ
  pub rest : List ℕ
  pub is : text ≡ told ++ rest
  pub writes : Writes before now told

-- a call of it failed
abbrev pub reads_failed : (before now : Reading) → Bool
reads_failed before now = has_grown before.faults now.faults

abbrev pub writes_failed : (before now : Writing) → Bool
writes_failed before now = has_grown before.faults now.faults

-- A read gave as many of the room's first octets as it answered, none only at the end or if there was no room; or it failed, and gave none.
abbrev pub HasRead : {E : Type 0} → (before now : Reading) → Result ℕ E → (room : List ℕ) → Type 0
HasRead before now answer room =
    MatchResult answer (λ n. Reads before now (take n room) × (n ≡ 0 → 0 < length room → IsAtEnd now.left)) (λ _. Reads before now [] × (reads_failed before now ≡ true))

-- A write took as many of the first octets as it answered; to take none of some is a failure. Or it failed, and took none.
abbrev pub HasWritten : {E : Type 0} → (before now : Writing) → Result ℕ E → List ℕ → Type 0
HasWritten before now answer octets =
    MatchResult answer (λ n. Writes before now (take n octets) × (n ≡ 0 → 0 < length octets → writes_failed before now ≡ true)) (λ _. Writes before now [] × (writes_failed before now ≡ true))

-- a flush took nothing; it failed, or not
abbrev pub HasFlushed : {E : Type 0} → (before now : Writing) → Result Unit E → Type 0
HasFlushed before now answer = MatchResult answer (λ _. Writes before now []) (λ _. Writes before now [] × (writes_failed before now ≡ true))

-- What a write took is held back until a flush. If it failed, that is as it was before.
abbrev pub HoldsBack : {E : Type 0} → (before now : Writing) → Result ℕ E → Type 0
HoldsBack before now answer =
    MatchResult answer (λ _. now.flushed ≡ false) (λ _. now.flushed ≡ before.flushed)

-- a flush that came out well left nothing held back
abbrev pub HandsOn : {E : Type 0} → (before now : Writing) → Result Unit E → Type 0
HandsOn before now answer =
    MatchResult answer (λ _. now.flushed ≡ true) (λ _. now.flushed ≡ before.flushed)
