-- What is kept of a vault's answers, and when it fits the contents.
use Rattle.std.specs.Prelude.{◌≡◌, ℕ, Bool, true, false, not, List, [], ◌∷◌, length, map}
use Rattle.std.specs.Prelude.{filter, sum_by, ⊤, Option, Some, None, Result, Ok, Err, if◌then◌else◌}
use Rattle.std.specs.Option.{option_map}
use Rattle.std.specs.Str.{bytes_eq}
use Rattle.creds.specs.Names.{by_name}
use Rattle.vault.specs.declared.answer.Head.{Head}
use Rattle.vault.specs.declared.answer.Total.{Total}
use Rattle.vault.specs.declared.fault.VaultFault.{VaultFault}
use Rattle.vault.specs.declared.fault.VaultFault.TheVariants as fault
use Rattle.vault.specs.declared.record.Keyed.{Keyed}
use Rattle.vault.specs.Changes.{Contents}
use Rattle.vault.specs.Calls.{heads_result}
use Rattle.vault.specs.Plain.{capped_total}
use Rattle.recent.specs.declared.totals.KeptTotal.{KeptTotal}

-- ---- the heads of maildrops

-- the heads that were answered for a maildrop
pub record KeptHeads : Type 0 where
  pub maildrop : List ℕ
  pub heads : List Head

-- these heads, of this maildrop
abbrev pub kept_heads : List ℕ → List Head → KeptHeads
kept_heads d hs = record { maildrop = d; heads = hs }

-- all but those of a maildrop
abbrev pub without : List ℕ → List KeptHeads → List KeptHeads
without d kept = filter (λ (k : KeptHeads). not (bytes_eq k.maildrop d)) kept

-- how many heads are kept in all
abbrev pub count : List KeptHeads → ℕ
count kept = sum_by (λ (k : KeptHeads). length k.heads) kept

-- what is kept of each maildrop is what the contents answer for it
abbrev pub Fits : List KeptHeads → Contents → Type 0
Fits [] c = ⊤
Fits (k ∷ kept) c = (heads_result k.maildrop c ≡ Ok k.heads) × Fits kept c

-- ---- the totals of all maildrops

-- a total as it was answered
abbrev pub fresh : Total → KeptTotal
fresh t = record { total = t; is_stale = false }

-- the row, stale if its maildrop changed
abbrev pub stale_if : (has_changed : Bool) → KeptTotal → KeptTotal
stale_if true row = record { total = row.total; is_stale = true }
stale_if false row = row

-- the row, after something changed in this maildrop
abbrev pub changed_in : List ℕ → KeptTotal → KeptTotal
changed_in d row = stale_if (bytes_eq row.total.maildrop d) row

-- the rows that are kept, after something changed in this maildrop
abbrev pub marked : List ℕ → Option (List KeptTotal) → Option (List KeptTotal)
marked d rows = option_map (map (changed_in d)) rows

-- the total that was kept, or the one that was counted
abbrev pub counted_if : (is_stale : Bool) → (kept counted : Total) → Total
counted_if true kept counted = counted
counted_if false kept counted = kept

-- the total that a row stands for: the kept one, or, if that is stale, that of these messages
abbrev pub total_by : List Keyed → KeptTotal → Total
total_by ms row = counted_if row.is_stale row.total (capped_total ms row.total.maildrop)

-- the rows stand for the totals of the contents, whose octets are far below the cap
abbrev pub RowsFit : List KeptTotal → Contents → Type 0
RowsFit rows c =
    map (total_by c.messages) rows ≡ map (capped_total c.messages) (by_name c.maildrops)

-- if rows are kept, they fit
abbrev pub TotalsFit : Option (List KeptTotal) → Contents → Type 0
TotalsFit None c = ⊤
TotalsFit (Some rows) c = RowsFit rows c

-- ---- after a deposit or a removal

-- a deposit with this fault was refused because of what the vault holds
abbrev pub is_of_deposit : VaultFault → Bool
is_of_deposit fault.NoMaildrop = true
is_of_deposit fault.Conflict = true
is_of_deposit fault.Full = true
is_of_deposit e = false

-- the heads that are kept then: after such a fault all, after any other none
abbrev pub heads_after : {A : Type 0} → List ℕ → Result A VaultFault → List KeptHeads
    → List KeptHeads
heads_after d (Ok x) kept = without d kept
heads_after d (Err e) kept = if is_of_deposit e then kept else []

-- the totals that are kept then
abbrev pub totals_after : {A : Type 0} → List ℕ → Result A VaultFault
    → Option (List KeptTotal) → Option (List KeptTotal)
totals_after d (Ok x) rows = marked d rows
totals_after d (Err e) rows = if is_of_deposit e then rows else None

-- ---- a vault, and what is kept of its answers

pub record Recalling (V : Type 0) : Type 0 where
  pub vault : V
  pub kept : List KeptHeads
  pub totals : Option (List KeptTotal)

-- nothing is kept
abbrev pub nothing_kept : {V : Type 0} → V → Recalling V
nothing_kept vault = record { vault = vault; kept = []; totals = None }

-- the vault inside holds the contents, and what is kept fits them
pub record HoldsFitting (Holds : Contents → Type 0) (kept : List KeptHeads)
    (totals : Option (List KeptTotal)) (c : Contents) : Type 0 where
  pub inside : Holds c
  pub fits : Fits kept c
  pub sums : TotalsFit totals c
