-- How kept totals are counted again: what that reads of a vault, and what it promises.
use Rattle.std.specs.Prelude.{◌≡◌, ◌-◌, ◌^◌, ℕ, true, List, length, min, sum_by}
use Rattle.std.specs.Prelude.{Option, Result, Ok, OnOk}
use Rattle.vault.specs.declared.answer.Head.{Head}
use Rattle.vault.specs.declared.answer.Total.{Total}
use Rattle.vault.specs.declared.fault.VaultFault.{VaultFault}
use Rattle.vault.specs.Records.{is_one_of}
use Rattle.vault.specs.Changes.{Contents}
use Rattle.vault.specs.Calls.{IsAnswer}
use Rattle.recent.specs.declared.totals.KeptTotal.{KeptTotal}
use Rattle.recent.specs.Recalling.{total_by, RowsFit, TotalsFit}

-- a maildrop's total, by its heads, its octets capped at 2^64 - 1
abbrev pub summed : List ℕ → List Head → Total
summed d hs = record {
  maildrop = d;
  messages = length hs;
  octets = min (sum_by (λ (h : Head). h.octets) hs) (2 ^ 64 - 1);
}

-- only `Store` and `NoMemory` are faults here, and without one this is so
pub record IsCounted (So : Type 0) (answered : Result (Unit {0}) VaultFault) : Type 0 where
  pub answer : IsAnswer (Ok tt) answered
  pub so : OnOk answered So

-- the row of a maildrop that is there stands for what it stood for
abbrev pub CountsOne : {V : Type 0} → (V → Contents → Type 0) → (V → Type 0)
    → (old new : V) → (row now : KeptTotal) → Result (Unit {0}) VaultFault → Type 0
CountsOne Holds IsClean old new row now answered = (c : Contents) → Holds old c → IsClean new
    → is_one_of row.total.maildrop c.maildrops ≡ true
    → IsCounted (total_by c.messages now ≡ total_by c.messages row) answered

-- rows that fit still do
abbrev pub CountsRows : {V : Type 0} → (V → Contents → Type 0) → (V → Type 0)
    → (old new : V) → (rows now : List KeptTotal) → Result (Unit {0}) VaultFault → Type 0
CountsRows Holds IsClean old new rows now answered = (c : Contents) → Holds old c → IsClean new
    → RowsFit rows c → IsCounted (RowsFit now c) answered

-- the same of rows that may be kept
abbrev pub CountsKept : {V : Type 0} → (V → Contents → Type 0) → (V → Type 0)
    → (old new : V) → (kept now : Option (List KeptTotal)) → Result (Unit {0}) VaultFault → Type 0
CountsKept Holds IsClean old new kept now answered = (c : Contents) → Holds old c → IsClean new
    → TotalsFit kept c → IsCounted (TotalsFit now c) answered
