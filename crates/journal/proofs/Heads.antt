-- The lines of a head, where a loop over its octets has come.
use Rattle.std.proofs.Common.{◌≡◌, ◌+◌, ◌-◌, ◌<◌, ◌≤◌, ℕ, List, [], ◌∷◌, ◌++◌, length, take, drop, get_or, true, false, refl, sym, ◌∙◌, ap, arith, Bor, option_map, option_copied}
use Rattle.std.proofs.Common.{option_to_list, is_some}
use Rattle.std.specs.Prelude.{filter, Option, Some, None}
use Rattle.std.proofs.lemmas.List.{drop_more, drop-drop, take-append-drop}
use Rattle.std.proofs.lemmas.Bool.{false≢true}
use Rattle.mailtext.specs.Text.{pieces}
use Rattle.mailtext.proofs.LineLemmas.{Unbroken}
use Rattle.mailtext.proofs.ReadingLemmas.{pieces-piece, pieces-unended}
use Rattle.journal.specs.MessageIds.{is_id_line, id_lines, only}

at_newline : (octets : List ℕ) (start i : ℕ) → start ≤ i → i < length octets → get_or octets i 0 ≡ 10
    → drop start octets ≡ take (i - start) (drop start octets) ++ 10 ∷ drop (i + 1) octets
at_newline octets start i le lt e =
    let from_start : start + (i - start) ≡ i = omega arith in
    sym (take-append-drop (i - start) (drop start octets))
    ∙ ap (λ rest. take (i - start) (drop start octets) ++ rest) (drop-drop (i - start) start octets ∙ rw (from_start, drop_more octets i 0 lt, e) refl)

-- the line that ends there, and those behind it
line_first : (octets : List ℕ) (start i : ℕ) → start ≤ i → i < length octets → get_or octets i 0 ≡ 10 → Unbroken (take (i - start) (drop start octets))
    → id_lines (drop start octets) ≡ filter is_id_line (take (i - start) (drop start octets) ∷ pieces (drop (i + 1) octets))
line_first octets start i le lt e u =
    ap id_lines (at_newline octets start i le lt e)
    ∙ ap (λ ls. filter is_id_line ls) (pieces-piece (take (i - start) (drop start octets)) (drop (i + 1) octets) u)

pub id_line_first : (octets : List ℕ) (start i : ℕ) → start ≤ i → i < length octets → get_or octets i 0 ≡ 10 → Unbroken (take (i - start) (drop start octets))
    → is_id_line (take (i - start) (drop start octets)) ≡ true
    → id_lines (drop start octets) ≡ take (i - start) (drop start octets) ∷ id_lines (drop (i + 1) octets)
id_line_first octets start i le lt e u h = line_first octets start i le lt e u ∙ rw h refl

pub other_line_first : (octets : List ℕ) (start i : ℕ) → start ≤ i → i < length octets → get_or octets i 0 ≡ 10 → Unbroken (take (i - start) (drop start octets))
    → is_id_line (take (i - start) (drop start octets)) ≡ false
    → id_lines (drop start octets) ≡ id_lines (drop (i + 1) octets)
other_line_first octets start i le lt e u h = line_first octets start i le lt e u ∙ rw h refl

-- a line that has no end is none
pub no_line : (octets : List ℕ) → Unbroken octets → id_lines octets ≡ []
no_line octets u = ap (λ ls. filter is_id_line ls) (pieces-unended octets u)

-- ---- what was found before

pub none_before : (found : Option (Bor (List ℕ))) → is_some found ≡ false → option_to_list (option_copied found) ≡ []
none_before None h = refl
none_before (Some line) h = absurd (false≢true (sym h))

pub two_lines : (found : Option (Bor (List ℕ))) (line : List ℕ) (lines : List (List ℕ)) → is_some found ≡ true → only (option_to_list (option_copied found) ++ line ∷ lines) ≡ None
two_lines None line lines h = absurd (false≢true h)
two_lines (Some before) line lines h = refl

pub only_before : (found : Option (Bor (List ℕ))) → only (option_to_list (option_copied found) ++ []) ≡ option_map (λ line. line.now) found
only_before None = refl
only_before (Some line) = refl
