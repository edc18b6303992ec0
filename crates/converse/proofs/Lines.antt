-- Lines that act, one after another, and those of a stream that goes on.
use Rattle.std.proofs.Common.{◌≡◌, ℕ, ◌<◌, ◌≤◌, Bool, true, false, ◌&&◌, cond, List, [], ◌∷◌, ◌++◌, length, map, refl, sym, ◌∙◌, ap, arith, slice_get, Some, ◌==◌, drop}
use Rattle.std.proofs.lemmas.List.{map-append, length-map}
use Rattle.std.specs.List.{zip}
use Rattle.popline.specs.Cutting.{Cut, cut_of, cut, pieces, onto_first, has_newline}
use Rattle.vault.specs.Records.{Records}
use Rattle.office.specs.History.{Act, Line, Tag}
use Rattle.office.specs.Told.{told}
use Rattle.converse.specs.Talk.{goes_on, acted_on, spoken, opened_on, tags_fit, are_fit, may_be}

-- ---- a stream that goes on

-- the lines that come with a further piece: none without a LF, and at least one with it
pub record Further (lines : List Cut) (piece : List ℕ) (all : List Cut) : Type 0 where
  pub more : List Cut
  pub is : all ≡ lines ++ more
  pub none : has_newline piece ≡ false → more ≡ []
  pub some : has_newline piece ≡ true → 0 < length more

record FurtherPieces (before : List (List ℕ)) (piece : List ℕ) (all : List (List ℕ)) : Type 0 where
  more : List (List ℕ)
  is : all ≡ before ++ more
  none : has_newline piece ≡ false → more ≡ []
  some : has_newline piece ≡ true → 0 < length more

length_onto : (b : ℕ) (ps : List (List ℕ)) → length (onto_first b ps) ≡ length ps
length_onto b [] = refl
length_onto b (p ∷ ps) = refl

none_onto : (b : ℕ) (ps : List (List ℕ)) → ps ≡ [] → onto_first b ps ≡ []
none_onto b ps e = rw e refl

newline_if : (b : ℕ) (t : Bool) (bs : List ℕ) → cond t true (has_newline bs) ≡ false → (has_newline bs ≡ false → pieces bs ≡ [])
    → cond t ([] ∷ pieces bs) (onto_first b (pieces bs)) ≡ []
newline_if b true bs e rest = cc
newline_if b false bs e rest = none_onto b (pieces bs) (rest e)

pieces_none : (p : List ℕ) → has_newline p ≡ false → pieces p ≡ []
pieces_none [] e = refl
pieces_none (b ∷ bs) e = newline_if b (b == 10) bs e (pieces_none bs)

some_if : (b : ℕ) (t : Bool) (bs : List ℕ) → cond t true (has_newline bs) ≡ true → (has_newline bs ≡ true → 0 < length (pieces bs))
    → 0 < length (cond t ([] ∷ pieces bs) (onto_first b (pieces bs)))
some_if b true bs e rest = omega arith
some_if b false bs e rest = let h = rest e in rw (length_onto b (pieces bs)) h

pieces_some : (p : List ℕ) → has_newline p ≡ true → 0 < length (pieces p)
pieces_some [] e = cc
pieces_some (b ∷ bs) e = some_if b (b == 10) bs e (pieces_some bs)

further_onto : (b : ℕ) (before : List (List ℕ)) (piece : List ℕ) (all : List (List ℕ)) → FurtherPieces before piece all
    → FurtherPieces (onto_first b before) piece (onto_first b all)
further_onto b [] piece all f = record {
  more = onto_first b f.more;
  is = ap (onto_first b) f.is;
  none = λ e. none_onto b f.more (f.none e);
  some = λ e. rw (length_onto b f.more) (f.some e);
}
further_onto b (p ∷ ps) piece all f = record { more = f.more; is = ap (onto_first b) f.is; none = f.none; some = f.some }

further_if : (b : ℕ) (t : Bool) (before : List (List ℕ)) (piece : List ℕ) (all : List (List ℕ)) → FurtherPieces before piece all
    → FurtherPieces (cond t ([] ∷ before) (onto_first b before)) piece (cond t ([] ∷ all) (onto_first b all))
further_if b true before piece all f = record { more = f.more; is = ap (λ (ps : List (List ℕ)). [] ∷ ps) f.is; none = f.none; some = f.some }
further_if b false before piece all f = further_onto b before piece all f

further_pieces : (stream piece : List ℕ) → FurtherPieces (pieces stream) piece (pieces (stream ++ piece))
further_pieces [] piece = record { more = pieces piece; is = refl; none = pieces_none piece; some = pieces_some piece }
further_pieces (b ∷ bs) piece = further_if b (b == 10) (pieces bs) piece (pieces (bs ++ piece)) (further_pieces bs piece)

pub further : (stream piece : List ℕ) → Further (cut stream) piece (cut (stream ++ piece))
further stream piece =
    let f = further_pieces stream piece in
    record {
      more = map cut_of f.more;
      is = ap (map cut_of) f.is ∙ map-append cut_of (pieces stream) f.more;
      none = λ e. ap (map cut_of) (f.none e);
      some = λ e. rw (length-map f.more cut_of) (f.some e);
    }

-- ---- lines beside their tags

zip_front : {A B : Type 0} (xs more : List A) (ts : List B) → length ts ≤ length xs → zip (xs ++ more) ts ≡ zip xs ts
zip_front [] [] [] h = refl
zip_front [] (m ∷ more) [] h = refl
zip_front [] more (t ∷ ts) h = absurd (omega arith)
zip_front (x ∷ xs) more [] h = refl
zip_front (x ∷ xs) more (t ∷ ts) h = ap (λ ps. (x, t) ∷ ps) (zip_front xs more ts (omega arith))

zip_next : {A B : Type 0} (xs : List A) (ts : List B) (x : A) (t : B) → slice_get xs (length ts) ≡ Some x → zip xs (ts ++ t ∷ []) ≡ zip xs ts ++ (x, t) ∷ []
zip_next [] ts x t e = cc
zip_next (a ∷ []) [] x t e = let same : a ≡ x = cc in rw same refl
zip_next (a ∷ b ∷ xs) [] x t e = let same : a ≡ x = cc in rw same refl
zip_next (a ∷ xs) (u ∷ ts) x t e = ap (λ ps. (a, u) ∷ ps) (zip_next xs ts x t e)

zip_append : {A B : Type 0} (xs : List A) (ts more : List B) → length ts ≤ length xs → zip xs (ts ++ more) ≡ zip xs ts ++ zip (drop (length ts) xs) more
zip_append [] [] more h = refl
zip_append (x ∷ xs) [] more h = refl
zip_append [] (t ∷ ts) more h = absurd (omega arith)
zip_append (x ∷ xs) (t ∷ ts) more h = ap (λ ps. (x, t) ∷ ps) (zip_append xs ts more (omega arith))

-- ---- lines that act

abbrev Lines : Type 0
Lines = List (Cut × Tag)

acted_stays : (B : Records) (c : ℕ) (lines : Lines) (H : List (Act × Tag)) → goes_on (told B H) c ≡ false → acted_on B c lines H ≡ H
acted_stays B c [] H e = refl
acted_stays B c ((x, t) ∷ lines) H e = rw e refl

fit_stays : (B : Records) (c : ℕ) (lines : Lines) (H : List (Act × Tag)) → goes_on (told B H) c ≡ false → tags_fit B c lines H ≡ true
fit_stays B c [] H e = refl
fit_stays B c ((x, t) ∷ lines) H e = rw e refl

acted_if : (B : Records) (c : ℕ) (b : Bool) (last : Lines) (H K L : List (Act × Tag)) → (b ≡ false → goes_on (told B H) c ≡ false)
    → L ≡ acted_on B c last K → cond b L H ≡ acted_on B c last (cond b K H)
acted_if B c true last H K L off e = e
acted_if B c false last H K L off e = sym (acted_stays B c last H (off refl))

pub acted_append : (B : Records) (c : ℕ) (lines last : Lines) (H : List (Act × Tag)) → acted_on B c (lines ++ last) H ≡ acted_on B c last (acted_on B c lines H)
acted_append B c [] last H = refl
acted_append B c ((x, t) ∷ lines) last H =
    acted_if B c (goes_on (told B H) c) last H (acted_on B c lines ((Line c x, t) ∷ H)) (acted_on B c (lines ++ last) ((Line c x, t) ∷ H)) (λ e. e)
    (acted_append B c lines last ((Line c x, t) ∷ H))

fit_if : (B : Records) (c : ℕ) (b m f g : Bool) (last : Lines) (H K : List (Act × Tag)) → (b ≡ false → goes_on (told B H) c ≡ false)
    → f ≡ g && tags_fit B c last K → cond b (m && f) true ≡ cond b (m && g) true && tags_fit B c last (cond b K H)
fit_if B c true true f g last H K off e = e
fit_if B c true false f g last H K off e = refl
fit_if B c false m f g last H K off e = sym (fit_stays B c last H (off refl))

pub fit_append : (B : Records) (c : ℕ) (lines last : Lines) (H : List (Act × Tag))
    → tags_fit B c (lines ++ last) H ≡ tags_fit B c lines H && tags_fit B c last (acted_on B c lines H)
fit_append B c [] last H = refl
fit_append B c ((x, t) ∷ lines) last H =
    fit_if B c (goes_on (told B H) c) (may_be B (told B H) c x t) (tags_fit B c (lines ++ last) ((Line c x, t) ∷ H)) (tags_fit B c lines ((Line c x, t) ∷ H)) last H
    (acted_on B c lines ((Line c x, t) ∷ H)) (λ e. e) (fit_append B c lines last ((Line c x, t) ∷ H))

-- ---- those of a stream

module _ (B : Records) (c : ℕ) (octets : List ℕ) (tags : List Tag) (old : List (Act × Tag)) where
  -- octets that come after change nothing of what acted
  pub spoken_on : (piece : List ℕ) → length tags ≤ length (cut octets) → spoken B c (octets ++ piece) tags old ≡ spoken B c octets tags old
  spoken_on piece some =
      let f = further octets piece in
      ap (λ lines. acted_on B c lines (opened_on c old)) (ap (λ xs. zip xs tags) f.is ∙ zip_front (cut octets) f.more tags some)

  pub fit_on : (piece : List ℕ) → length tags ≤ length (cut octets) → are_fit B c (octets ++ piece) tags old ≡ are_fit B c octets tags old
  fit_on piece some =
      let f = further octets piece in
      ap (λ lines. tags_fit B c lines (opened_on c old)) (ap (λ xs. zip xs tags) f.is ∙ zip_front (cut octets) f.more tags some)

  -- the next line acts
  pub spoken_next : (x : Cut) (t : Tag) → slice_get (cut octets) (length tags) ≡ Some x → goes_on (told B (spoken B c octets tags old)) c ≡ true
      → spoken B c octets (tags ++ t ∷ []) old ≡ (Line c x, t) ∷ spoken B c octets tags old
  spoken_next x t there on =
      ap (λ lines. acted_on B c lines (opened_on c old)) (zip_next (cut octets) tags x t there)
      ∙ (acted_append B c (zip (cut octets) tags) ((x, t) ∷ []) (opened_on c old) ∙ rw on refl)

  pub fit_next : (x : Cut) (t : Tag) → slice_get (cut octets) (length tags) ≡ Some x → goes_on (told B (spoken B c octets tags old)) c ≡ true
      → are_fit B c octets tags old ≡ true → may_be B (told B (spoken B c octets tags old)) c x t ≡ true → are_fit B c octets (tags ++ t ∷ []) old ≡ true
  fit_next x t there on fit may =
      ap (λ lines. tags_fit B c lines (opened_on c old)) (zip_next (cut octets) tags x t there)
      ∙ (fit_append B c (zip (cut octets) tags) ((x, t) ∷ []) (opened_on c old) ∙ rw (fit, on, may) refl)

  -- if no line goes on, further tags change nothing
  pub spoken_past : (more : List Tag) → goes_on (told B (spoken B c octets tags old)) c ≡ false → length tags ≤ length (cut octets)
      → spoken B c octets (tags ++ more) old ≡ spoken B c octets tags old
  spoken_past more off some =
      ap (λ lines. acted_on B c lines (opened_on c old)) (zip_append (cut octets) tags more some)
      ∙ (acted_append B c (zip (cut octets) tags) (zip (drop (length tags) (cut octets)) more) (opened_on c old)
      ∙ acted_stays B c (zip (drop (length tags) (cut octets)) more) (spoken B c octets tags old) off)

  pub fit_past : (more : List Tag) → goes_on (told B (spoken B c octets tags old)) c ≡ false → length tags ≤ length (cut octets)
      → are_fit B c octets tags old ≡ true → are_fit B c octets (tags ++ more) old ≡ true
  fit_past more off some fit =
      ap (λ lines. tags_fit B c lines (opened_on c old)) (zip_append (cut octets) tags more some)
      ∙ (fit_append B c (zip (cut octets) tags) (zip (drop (length tags) (cut octets)) more) (opened_on c old)
      ∙ rw (fit, fit_stays B c (zip (drop (length tags) (cut octets)) more) (spoken B c octets tags old) off) refl)
