use Rattle.std.proofs.Common.{◌≡◌, ◌<◌, ◌-◌, ◌∙◌, ◌++◌, ◌∷◌, [], ap, length, take, drop, arith, min}
use Rattle.std.proofs.lemmas.Bool.Decides.{nat_tests}
use Rattle.std.specs.List.{concat}
use Rattle.vault.proofs.SheetLemmas.{are_sheets-more, AreWhole-more, concat-more, page_size, page_and_rest, page_is_whole}
use Rattle.vault.proofs.sheets.sheets_of.Goals as goal

pub loop-left-preserved : goal.loop-left-preserved
loop-left-preserved c =
    let sheets = c.loop-left.sheets.items in
    let left = c.loop-left.left.now in
    let n = c.min.result in
    let size : n ≡ min (length left) 4096 = c.min.ensures in
    let sheet = take n left in
    let rest = take (length left - length sheet) (drop (length sheet) left) in
    let some : 0 < length left = grind (arith, nat_tests, c.loop-left-test.ensures) in
    let items : c.push.new.self.items ≡ sheets ++ sheet ∷ [] = rw c.in_ok-copy_of.ensures at c.in_ok-push.ensures.items in
    let len = page_size left n size in
    let whole = c.loop-left.invariant.whole some in
    record {
      octets = ap (λ xs. concat xs ++ rest) items ∙ (concat-more sheets sheet rest
          ∙ (ap (λ xs. concat sheets ++ xs) (page_and_rest left n size) ∙ c.loop-left.invariant.octets));
      sheets = rw items (are_sheets-more sheets sheet whole (omega (arith, len, size, some)) (omega (arith, len, size)));
      whole = λ more. rw items (AreWhole-more sheets sheet whole (page_is_whole left n size more));
    }
