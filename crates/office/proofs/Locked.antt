-- A maildrop's lock by its holder.
use Rattle.std.proofs.Common.{◌≡◌, ℕ, Bool, true, false, List, [], ◌∷◌, Option, Some, None, refl, sym, ◌∙◌, ap, true≢false, is_some}
use Rattle.std.specs.Prelude.{cond}
use Rattle.std.specs.List.{find}
use Rattle.vault.specs.Records.{Records}
use Rattle.office.specs.History.{Act, Tag, Entry}
use Rattle.office.specs.Connections.{heard}
use Rattle.office.specs.Sessions.{holds, holder}
use Rattle.office.specs.Told.{told}
use Rattle.office.proofs.Laws.{one_holder, held_heard, none_holds}

-- the connection that holds a maildrop, or that none does
abbrev pub IsLock : List Entry → List ℕ → Option ℕ → Type 0
IsLock G d None = (c : ℕ) → holds G d c ≡ false
IsLock G d (Some c) = holds G d c ≡ true

find_none : (p : ℕ → Bool) (xs : List ℕ) → ((x : ℕ) → p x ≡ false) → find p xs ≡ None
find_none p [] h = refl
find_none p (x ∷ xs) h = let e = h x in rw e (find_none p xs h)

find_some : (p : ℕ → Bool) (xs : List ℕ) (x : ℕ) → find p xs ≡ Some x → p x ≡ true
find_some p [] x e = cc
find_some p (y ∷ ys) x e = at (p y) refl (λ k. find_some p ys x k) e
  where
    at : (b : Bool) → p y ≡ b → (find p ys ≡ Some x → p x ≡ true) → cond b (Some y) (find p ys) ≡ Some x → p x ≡ true
    at true f rest k = let same : y ≡ x = cc in ap p (sym same) ∙ f
    at false f rest k = rest k

module _ (B : Records) (H : List (Act × Tag)) (d : List ℕ) where
  -- who is found holds it, and if none is found none does
  pub lock_found : (o : Option ℕ) → holder (told B H) d ≡ o → IsLock (told B H) d o
  lock_found (Some c) e = find_some (holds (told B H) d) (heard (told B H)) c e
  lock_found None e = λ c. at c (holds (told B H) d c) refl
    where
      at : (c : ℕ) (b : Bool) → holds (told B H) d c ≡ b → b ≡ false
      at c true f = absurd (true≢false (sym f ∙ none_holds (holds (told B H) d) (heard (told B H)) c e (held_heard B H d c f)))
      at c false f = refl

  pub holder_is : (o : Option ℕ) → IsLock (told B H) d o → holder (told B H) d ≡ o
  holder_is None free = find_none (holds (told B H) d) (heard (told B H)) free
  holder_is (Some c) h = at (holder (told B H) d) refl
    where
      at : (o : Option ℕ) → holder (told B H) d ≡ o → o ≡ Some c
      at None e = absurd (true≢false (sym h ∙ lock_found None e c))
      at (Some q) e = ap (λ k. Some k) (one_holder B H d q c (lock_found (Some q) e) h)

  pub is_held : (o : Option ℕ) → IsLock (told B H) d o → is_some (holder (told B H) d) ≡ is_some o
  is_held o h = ap is_some (holder_is o h)
