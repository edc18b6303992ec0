-- Messages on a line, one after the other.
use Rattle.std.proofs.Common.{◌≡◌, ◌+◌, ◌≤◌, ℕ, zero, suc, List, [], ◌∷◌, ◌++◌, length, take, drop, Option, Some, None, slice_get, refl, sym, ◌∙◌, ap, arith, append-nil, append_assoc, zero-add}
use Rattle.std.proofs.lemmas.Bool.{ne_eqb}
use Rattle.std.proofs.lemmas.Option.{slice_get_past}
use Rattle.std.specs.List.{flat_map}
use Rattle.session.specs.declared.removed.RemovedMessage.{RemovedMessage}
use Rattle.journal.specs.Lines.{behind_comma, message_text, messages_text, message_words}

-- ---- places

-- a place after another
pub at_place : {A : Type 0} (xs : List A) (f n : ℕ) → slice_get (drop f xs) n ≡ slice_get xs (f + n)
at_place xs zero n = ap (slice_get xs) (sym (zero-add n))
at_place [] (suc f) n = refl
at_place (x ∷ xs) (suc f) n =
    let next : suc (f + n) ≡ suc f + n = omega arith in
    at_place xs f n ∙ ap (slice_get (x ∷ xs)) next

pub nothing_there : {A : Type 0} (xs : List A) (f n : ℕ) → length xs ≤ f + n → None ≡ slice_get (drop f xs) n
nothing_there xs f n le = sym (at_place xs f n ∙ slice_get_past xs (f + n) le)

-- ---- one more

take_none : {A : Type 0} (n : ℕ) → take {A = A} n [] ≡ []
take_none zero = refl
take_none (suc n) = refl

behind_so : (n : ℕ) (o : Option RemovedMessage) → message_words (suc n) o ≡ message_words 1 o
behind_so n None = refl
behind_so n (Some uid) = let more = ne_eqb (suc n) 0 (λ none. omega arith) in rw more refl

behind_more : (us : List RemovedMessage) (n : ℕ) → flat_map behind_comma (take (suc n) us) ≡ flat_map behind_comma (take n us) ++ message_words 1 (slice_get us n)
behind_more [] n = rw (take_none {A = RemovedMessage} n) refl
behind_more (u ∷ us) zero = append-nil (behind_comma u)
behind_more (u ∷ us) (suc n) =
    ap (λ (text : List ℕ). behind_comma u ++ text) (behind_more us n)
    ∙ sym (append_assoc (behind_comma u) (flat_map behind_comma (take n us)) (message_words 1 (slice_get us n)))

messages_more : (us : List RemovedMessage) (n : ℕ) → messages_text (take (suc n) us) ≡ messages_text (take n us) ++ message_words n (slice_get us n)
messages_more [] n = rw (take_none {A = RemovedMessage} n) refl
messages_more (u ∷ us) zero = append-nil (message_text u)
messages_more (u ∷ us) (suc n) =
    ap (λ (text : List ℕ). message_text u ++ text) (behind_more us n ∙ ap (λ (text : List ℕ). flat_map behind_comma (take n us) ++ text) (sym (behind_so n (slice_get us n))))
    ∙ sym (append_assoc (message_text u) (flat_map behind_comma (take n us)) (message_words (suc n) (slice_get us n)))

pub one_more : (us : List RemovedMessage) (n : ℕ) (text : List ℕ) → text ≡ messages_text (take n us) → text ++ message_words n (slice_get us n) ≡ messages_text (take (n + 1) us)
one_more us n text e =
    let next : suc n ≡ n + 1 = omega arith in
    ap (λ (t : List ℕ). t ++ message_words n (slice_get us n)) e ∙ sym (messages_more us n) ∙ ap (λ (m : ℕ). messages_text (take m us)) next
