-- A script's fault is reported by the number of its first line of no form.
use Rattle.std.proofs.Common.{◌≡◌, ℕ, ◌+◌, ◌==◌, ◌||◌, Bool, true, false, not, cond, List, [], ◌∷◌, Option, Some, None, Result, Ok, Err, refl, sym, ap, ◌∙◌}
use Rattle.std.proofs.lemmas.Iterator.Adapters.{position_from-zero}
use Rattle.std.specs.Prelude.{option_map, ok_or, is_some}
use Rattle.std.specs.List.{position_from, slice_split}
use Rattle.converse.specs.Script.{ScriptLine, asks_then, has_form, is_skipped, line_of, lines_ask, number_told, AreToldByTheirLine}

abbrev is_bad : List ℕ → Bool
is_bad line = not (has_form line)

asks_by : (b : Bool) (o : Option ScriptLine) (n : ℕ) (rest : Result (List ScriptLine) ℕ)
    → number_told (asks_then (cond b (Ok []) (ok_or (option_map (λ asked. asked ∷ []) o) n)) rest) ≡ cond (not (b || is_some o)) (Some n) (number_told rest)
asks_by true o n (Ok asked) = refl
asks_by true o n (Err m) = refl
asks_by false (Some line) n (Ok asked) = refl
asks_by false (Some line) n (Err m) = refl
asks_by false None n rest = refl

-- the first line has the number n
numbers : (n : ℕ) (lines : List (List ℕ)) → number_told (lines_ask n lines) ≡ position_from is_bad n lines
numbers n [] = refl
numbers n (line ∷ lines) =
    asks_by (is_skipped line) (line_of line) n (lines_ask (n + 1) lines)
    ∙ ap (λ (o : Option ℕ). cond (is_bad line) (Some n) o) (numbers (n + 1) lines)

shift_if : (b : Bool) (i : ℕ) (o p : Option ℕ) → o ≡ option_map (λ at. at + 1) p → cond b (Some (i + 1)) o ≡ option_map (λ at. at + 1) (cond b (Some i) p)
shift_if true i o p e = refl
shift_if false i o p e = e

shifted : (i : ℕ) (lines : List (List ℕ)) → position_from is_bad (i + 1) lines ≡ option_map (λ at. at + 1) (position_from is_bad i lines)
shifted i [] = refl
shifted i (line ∷ lines) = shift_if (is_bad line) i _ _ (shifted (i + 1) lines)

-- the law
pub told_by_their_line : AreToldByTheirLine
told_by_their_line text =
    let lines = slice_split (λ b. b == 10) text in
    numbers 1 lines ∙ (shifted 0 lines ∙ ap (λ (o : Option ℕ). option_map (λ at. at + 1) o) (sym (position_from-zero is_bad lines)))
