use Rattle.std.proofs.Common.{◌≡◌, ◌<◌, ◌++◌, length, true}
use Rattle.std.specs.List.{concat}
use Rattle.vault.specs.Sheets.{are_sheets}
use Rattle.vault.proofs.SheetLemmas.{AreWhole}
use Rattle.vault.proofs.sheets.sheets_of.Given as goal

abbrev pub invariant-loop-left : goal.invariant-loop-left
invariant-loop-left l = record {
  octets : concat l.sheets.items ++ l.left ≡ l.octets;
  sheets : are_sheets l.sheets.items ≡ true;
  whole : 0 < length l.left → AreWhole l.sheets.items;
}

abbrev pub decreases-loop-left : goal.decreases-loop-left
decreases-loop-left l = length l.left
