-- The sheets of a text, one after the other, as the rows have them.
use Rattle.std.proofs.Common.{◌≡◌, ℕ, ◌+◌, ◌*◌, ◌-◌, ◌<◌, ◌≤◌, min, ℤ, pos, Bool, true, false, List, [], ◌∷◌, ◌++◌, length, take, drop, Option, Some, None, sym, ap, subst, ◌∙◌}
use Rattle.std.proofs.Common.{arith, ⊎_elim, length-append}
use Rattle.std.specs.Prelude.{unwrap_or}
use Rattle.std.specs.Int.{div_ceil}
use Rattle.std.specs.List.{find}
use Rattle.std.proofs.Math.Nat.{eq-or-lt_of_le}
use Rattle.std.proofs.Math.Seq.{drop-append_seam}
use Rattle.std.proofs.lemmas.Bool.{cases_Bool, and_parts}
use Rattle.std.proofs.lemmas.Grind.{div_ceil_times}
use Rattle.std.proofs.lemmas.List.{take-append-le, drop-append-le, take_all}
use Rattle.std.proofs.Common.{length-drop, length-take}
use Rattle.mailsql.specs.declared.rows.Sheet.{Sheet}
use Rattle.mailsql.specs.Columns.{Rows}
use Rattle.mailsql.specs.Rows.{is_sheet, same_int}
use Rattle.mailsql.specs.Sheets.{sheet_count, sheet_at, octets_at}
use Rattle.sqlvault.specs.Stored.{Brings, IsPiece, HasText}
use Rattle.sqlvault.proofs.SmallLemmas.{int_same}

-- what is found passes
pub found_passes : {X : Type 0} (p : X → Bool) (xs : List X) (x : X) → Some x ≡ find p xs → p x ≡ true
found_passes p [] x e = absurd (cc)
found_passes p (y ∷ ys) x e = ⊎_elim
    (λ (t : p y ≡ true). let same : x ≡ y = ap (λ o. unwrap_or o x) (rw t at e) in ap p same ∙ t)
    (λ (f : p y ≡ false). found_passes p ys x (rw f at e))
    (cases_Bool (p y))

-- ---- one sheet

pub piece_found : (rows : Rows) (mail : ℤ) (place size : ℕ) (s : Sheet) → Some s ≡ find (is_sheet mail (pos place)) rows.sheets → length s.octets ≡ size → IsPiece rows mail place size s.octets
piece_found rows mail place size s e long =
    let both = and_parts (same_int s.mail mail) (same_int s.place (pos place)) (found_passes (is_sheet mail (pos place)) rows.sheets s e) in
    let m : s.mail ≡ mail = int_same s.mail mail both.0 in
    let n : s.place ≡ pos place = int_same s.place (pos place) both.1 in
    let same : s ≡ record { mail = mail; place = pos place; octets = s.octets } = λ i. let t : Sheet = record { mail = m i; place = n i; octets = s.octets } in t in
    record { found = sym e ∙ ap Some same; long = long }

-- ---- the first sheets

-- the text as far as the first sheets have it
pub record HasPart (rows : Rows) (mail : ℤ) (octets place : ℕ) (text : List ℕ) : Type 0 where
  pub long : length text ≡ min octets (place * 4096)
  pub sheets : (p : ℕ) → p < place → find (is_sheet mail (pos p)) rows.sheets ≡ Some (sheet_at mail text p)

ends : (n : ℕ) → (n ≤ div_ceil n 4096 * 4096) × (div_ceil n 4096 * 4096 < n + 4096)
ends n = div_ceil_times n 4096 (omega arith)

begins_before : (octets place : ℕ) → place < div_ceil octets 4096 → place * 4096 < octets
begins_before octets place low = let e = ends octets in go (div_ceil octets 4096) low e.1
  where
    go : (count : ℕ) → place < count → count * 4096 < octets + 4096 → place * 4096 < octets
    go count low end = omega (arith, low, end)

-- an earlier sheet stays, and the next is what came
stays_at : (text piece : List ℕ) (p : ℕ) → p * 4096 + 4096 ≤ length text → octets_at (text ++ piece) p ≡ octets_at text p
stays_at text piece p fits =
    let low : p * 4096 ≤ length text = omega (arith, fits) in
    let left : 4096 ≤ length (drop (p * 4096) text) = omega (arith, fits, length-drop (p * 4096) text) in
    ap (take 4096) (drop-append-le (p * 4096) text piece low) ∙ take-append-le 4096 (drop (p * 4096) text) piece left

comes_at : (text piece : List ℕ) (p : ℕ) → length text ≡ p * 4096 → length piece ≤ 4096 → octets_at (text ++ piece) p ≡ piece
comes_at text piece p long fits = ap (λ n. take 4096 (drop n (text ++ piece))) (sym long) ∙ ap (take 4096) (drop-append_seam text piece) ∙ take_all 4096 piece fits

sheet_same : (mail : ℤ) (a b : List ℕ) (p : ℕ) → octets_at a p ≡ octets_at b p → sheet_at mail a p ≡ sheet_at mail b p
sheet_same mail a b p e = λ i. let t : Sheet = record { mail = mail; place = pos p; octets = e i } in t

pub part_more : (rows : Rows) (mail : ℤ) (octets place size : ℕ) (text piece : List ℕ) → HasPart rows mail octets place text → place < div_ceil octets 4096 → size ≡ min 4096 (octets - place * 4096)
    → IsPiece rows mail place size piece → HasPart rows mail octets (place + 1) (text ++ piece)
part_more rows mail octets place size text piece part low is p =
    let begins = begins_before octets place low in
    let long : length text ≡ place * 4096 = omega (arith, part.long, begins) in
    let fits : length piece ≤ 4096 = omega (arith, p.long, is) in
    record {
      long = omega (arith, length-append text piece, long, p.long, is, begins);
      sheets = λ q less. ⊎_elim
          (λ (e : q ≡ place). subst (λ n. find (is_sheet mail (pos n)) rows.sheets ≡ Some (sheet_at mail (text ++ piece) n)) (sym e)
          (p.found ∙ ap Some (λ i. let t : Sheet = record { mail = mail; place = pos place; octets = sym (comes_at text piece place long fits) i } in t)))
          (λ (before : q < place). part.sheets q before ∙ ap Some (sheet_same mail text (text ++ piece) q (sym (stays_at text piece q (omega (arith, before, long))))))
          (eq-or-lt_of_le (let le : q ≤ place = omega (arith, less) in le));
    }

-- if a sheet is missing, there is no such text
pub part_lacks : (rows : Rows) (mail : ℤ) (octets place size : ℕ) → place < div_ceil octets 4096 → size ≡ min 4096 (octets - place * 4096) → ((piece : List ℕ) → IsPiece rows mail place size piece → ⊥)
    → (text : List ℕ) → HasText rows mail octets text → ⊥
part_lacks rows mail octets place size low is none text h =
    let count : sheet_count text ≡ div_ceil octets 4096 = ap (λ n. div_ceil n 4096) h.long in
    none (octets_at text place) (record {
      found = h.sheets place (under (div_ceil octets 4096) (sheet_count text) low count);
      long = length-take 4096 (drop (place * 4096) text) ∙ ap (min 4096) (length-drop (place * 4096) text ∙ ap (λ n. n - place * 4096) h.long) ∙ sym is;
    })
  where
    under : (a b : ℕ) → place < a → b ≡ a → place < b
    under a b l e = omega (arith, l, e)

-- ---- what a query answered

pub text_lacks : (rows rows1 : Rows) (mail mail1 : ℤ) (octets place size count : ℕ) (o : Option Sheet) → rows1 ≡ rows → mail1 ≡ mail → o ≡ None → count ≡ div_ceil octets 4096 → place < count
    → size ≡ min 4096 (octets - place * 4096) → Brings (λ (s : Sheet). s.octets) (IsPiece rows1 mail1 place size) o → (text : List ℕ) → HasText rows mail octets text → ⊥
text_lacks rows rows1 mail mail1 octets place size count o r m e n low is h =
    let h1 = subst (λ q. Brings (λ (s : Sheet). s.octets) (IsPiece rows1 mail1 place size) q) e h in
    let h2 = subst (λ q. (piece : List ℕ) → IsPiece q mail1 place size piece → ⊥) r h1 in
    let h3 = subst (λ q. (piece : List ℕ) → IsPiece rows q place size piece → ⊥) m h2 in
    part_lacks rows mail octets place size (subst (λ q. place < q) n low) is h3

pub text_more : (rows rows1 : Rows) (mail mail1 : ℤ) (octets place size count : ℕ) (o : Option Sheet) (s : Sheet) (text more : List ℕ) → rows1 ≡ rows
    → mail1 ≡ mail → o ≡ Some s → count ≡ div_ceil octets 4096 → place < count
    → size ≡ min 4096 (octets - place * 4096) → Brings (λ (s : Sheet). s.octets) (IsPiece rows1 mail1 place size) o
    → HasPart rows mail octets place text → more ≡ text ++ s.octets → HasPart rows mail octets (place + 1) more
text_more rows rows1 mail mail1 octets place size count o s text more r m e n low is h part made =
    let h1 = subst (λ q. Brings (λ (t : Sheet). t.octets) (IsPiece rows1 mail1 place size) q) e h in
    let h2 = subst (λ q. IsPiece q mail1 place size s.octets) r h1 in
    let h3 = subst (λ q. IsPiece rows q place size s.octets) m h2 in
    subst (λ t. HasPart rows mail octets (place + 1) t) (sym made) (part_more rows mail octets place size text s.octets part (subst (λ q. place < q) n low) is h3)
