-- What a guard hands on, one call after the other.
use Rattle.std.proofs.Common.{◌≡◌, Bool, true, false, List, [], ◌∷◌, ◌++◌, subst, Option, Some, None}
use Rattle.serving.specs.Spools.{FileCall, Next}
use Rattle.serving.specs.declared.file_name.FileName.{FileName}
use Rattle.journal.specs.Guards.{names_a_file, IsFileHandedOn, IsNameHandedOn, IsNameKeptBack, AreGuarded}

module _ {S X : Type 0} (Asked : S → List FileCall → Type 0) (Answered : X → List Bool → Type 0) where
  pub file_on : (s s1 : S) (x : X) (call : FileCall) → names_a_file call ≡ false → ((before : List FileCall) → Asked s before → Asked s1 (before ++ call ∷ []))
      → (a : List FileCall) → AreGuarded Asked Answered s x a → AreGuarded Asked Answered s1 x (a ++ call ∷ [])
  file_on s s1 x call none called a g =
      record { inside = g.inside ++ call ∷ []; said = g.said; asked = called g.inside g.asked; answered = g.answered; handed = IsFileHandedOn g.inside g.said a call none g.handed }

  pub name_on : (s s1 : S) (x x1 x2 : X) (last : Option FileName) (name : FileName) (lost : Bool) → lost ≡ false
      → ((before : List FileCall) → Asked s before → Asked s1 (before ++ Next last (Some name) ∷ []))
      → ((said : List Bool) → Answered x said → Answered x1 said) → ((said : List Bool) → Answered x1 said → Answered x2 (said ++ lost ∷ []))
      → (a : List FileCall) → AreGuarded Asked Answered s x a → AreGuarded Asked Answered s1 x2 (a ++ Next last (Some name) ∷ [])
  name_on s s1 x x1 x2 last name lost there called still told a g =
      record {
        inside = g.inside ++ Next last (Some name) ∷ [];
        said = g.said ++ false ∷ [];
        asked = called g.inside g.asked;
        answered =
            subst (λ b. Answered x2 (g.said ++ b ∷ [])) there (told g.said (still g.said g.answered));
        handed = IsNameHandedOn g.inside g.said a last name g.handed;
      }

  pub name_back : (s s1 : S) (x x1 x2 : X) (last : Option FileName) (name : FileName) (lost : Bool) → lost ≡ true
      → ((before : List FileCall) → Asked s before → Asked s1 (before ++ Next last (Some name) ∷ []))
      → ((said : List Bool) → Answered x said → Answered x1 said) → ((said : List Bool) → Answered x1 said → Answered x2 (said ++ lost ∷ []))
      → (a : List FileCall) → AreGuarded Asked Answered s x a → AreGuarded Asked Answered s1 x2 (a ++ Next last None ∷ [])
  name_back s s1 x x1 x2 last name lost gone called still told a g =
      record {
        inside = g.inside ++ Next last (Some name) ∷ [];
        said = g.said ++ true ∷ [];
        asked = called g.inside g.asked;
        answered =
            subst (λ b. Answered x2 (g.said ++ b ∷ [])) gone (told g.said (still g.said g.answered));
        handed = IsNameKeptBack g.inside g.said a last name g.handed;
      }

  -- a call that is in no record
  pub file_still : (s s1 : S) (x : X) → ((before : List FileCall) → Asked s before → Asked s1 before)
      → (a : List FileCall) → AreGuarded Asked Answered s x a → AreGuarded Asked Answered s1 x a
  file_still s s1 x still a g = record { inside = g.inside; said = g.said; asked = still g.inside g.asked; answered = g.answered; handed = g.handed }
