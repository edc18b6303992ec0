-- A page that is put: what was put and what is still to be put make the whole.
use Rattle.std.proofs.Common.{◌≡◌, ℕ, ◌+◌, ◌≤◌, Bool, List, [], ◌++◌, drop, take, length, refl, sym, ◌∙◌, ap, arith, Option, Some, None, append_assoc, drop-drop, length-append, Result, Ok, Err}
use Rattle.std.specs.Prelude.{is_ok, OnOk}
use Rattle.std.proofs.lemmas.List.{drop_all, take-append-drop}
use Rattle.std.specs.Bool.{if◌then◌else◌}
use Rattle.mailtext.specs.Streams.{Come, stuffed_from}
use Rattle.office.specs.Output.{cut_from, last_line}

-- ---- octets that are put

-- if all is taken, nothing of the piece goes before what follows
pub all_stuffed : (s s' : Bool) (piece out : List ℕ) (taken put : ℕ)
    → ((more : List ℕ) → stuffed_from s (piece ++ more) ≡ take put out ++ stuffed_from s' (drop taken piece ++ more))
    → taken ≡ length piece → (more : List ℕ) → stuffed_from s (piece ++ more) ≡ take put out ++ stuffed_from s' more
all_stuffed s s' piece out taken put sent all more =
    let none : drop taken piece ≡ [] = drop_all taken piece (omega (arith, all)) in
    sent more ∙ ap (λ xs. take put out ++ stuffed_from s' (xs ++ more)) none

-- what was put if there was room
pub on_extended : {E : Type 0} (r : Result (Unit {0}) E) (items old other : List ℕ) (P : Type 0) → items ≡ (if is_ok r then old ++ other else old) → (items ≡ old ++ other → P) → OnOk r P
on_extended (Ok x) items old other P e f = f e
on_extended (Err x) items old other P e f = tt

-- the same, by its length
pub length_extended : {E : Type 0} (r : Result (Unit {0}) E) (items old other : List ℕ) (room : ℕ) → items ≡ (if is_ok r then old ++ other else old)
    → length other ≤ room → length items ≤ length old + room
length_extended (Ok x) items old other room e h = rw e (omega (arith, length-append old other, h))
length_extended (Err x) items old other room e h = rw e (omega arith)

-- ---- a page

none_cut : (k : Option Come) → cut_from k [] ≡ []
none_cut None = refl
none_cut (Some come) = refl

module _ (s s' : Bool) (k k' : Option Come) (page text before after : List ℕ) (place part : ℕ) (is_page : page ≡ take (length page) (drop place text))
    (cuts : (more : List ℕ) → cut_from k (page ++ more) ≡ take part page ++ cut_from k' (drop part page ++ more))
    (stuffs : (more : List ℕ) → before ++ stuffed_from s (take part page ++ more) ≡ after ++ stuffed_from s' more) where
  abbrev rest : List ℕ
  rest = drop (place + length page) text

  rest_is : drop (length page) (drop place text) ≡ rest
  rest_is = drop-drop (length page) place text

  whole_is : drop place text ≡ page ++ rest
  whole_is =
      sym (take-append-drop (length page) (drop place text)) ∙ (ap (λ xs. xs ++ drop (length page) (drop place text)) (sym is_page) ∙ ap (λ xs. page ++ xs) rest_is)

  step : before ++ stuffed_from s (cut_from k (drop place text)) ≡ after ++ stuffed_from s' (cut_from k' (drop part page ++ rest))
  step = ap (λ xs. before ++ stuffed_from s (cut_from k xs)) whole_is ∙ (ap (λ xs. before ++ stuffed_from s xs) (cuts rest) ∙ stuffs (cut_from k' (drop part page ++ rest)))

  with_dot : (still : List ℕ) → stuffed_from s' (cut_from k' (drop part page ++ rest)) ≡ still
      → before ++ (stuffed_from s (cut_from k (drop place text)) ++ last_line) ≡ after ++ (still ++ last_line)
  with_dot still e =
      sym (append_assoc before (stuffed_from s (cut_from k (drop place text))) last_line)
      ∙ (ap (λ xs. xs ++ last_line) (step ∙ ap (λ xs. after ++ xs) e) ∙ append_assoc after still last_line)

  -- all of it belongs
  none_left : part ≡ length page → drop part page ≡ []
  none_left e = drop_all part page (omega (arith, e))

  pub page_on : part ≡ length page
      → before ++ (stuffed_from s (cut_from k (drop place text)) ++ last_line) ≡ after ++ (stuffed_from s' (cut_from k' rest) ++ last_line)
  page_on e = with_dot (stuffed_from s' (cut_from k' rest)) (ap (λ xs. stuffed_from s' (cut_from k' (xs ++ rest))) (none_left e))

  pub page_cut : ((more : List ℕ) → cut_from k' more ≡ []) → before ++ (stuffed_from s (cut_from k (drop place text)) ++ last_line) ≡ after ++ last_line
  page_cut e = with_dot [] (ap (stuffed_from s') (e (drop part page ++ rest)))

  pub page_ends : part ≡ length page → length text ≤ place + length page → before ++ (stuffed_from s (cut_from k (drop place text)) ++ last_line) ≡ after ++ last_line
  page_ends e h =
      let none : rest ≡ [] = drop_all (place + length page) text h in
      with_dot [] (ap (λ xs. stuffed_from s' (cut_from k' (xs ++ rest))) (none_left e) ∙ (ap (λ xs. stuffed_from s' (cut_from k' xs)) none ∙ ap (stuffed_from s') (none_cut k')))
