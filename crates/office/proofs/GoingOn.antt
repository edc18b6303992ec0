-- A reply changes marks alike, however they are listed.
use Rattle.std.proofs.Common.{◌≡◌, ℕ, ◌||◌, List, [], ◌∷◌, ◌++◌, refl, sym, ◌∙◌, ap}
use Rattle.std.proofs.lemmas.List.Folds.{list_any-append}
use Rattle.std.specs.Prelude.{◌==◌}
use Rattle.popline.specs.Replies.{MaildropHas, Marked}
use Rattle.session.specs.View.{is_marked}
use Rattle.office.specs.History.{Said, Says}
use Rattle.office.specs.Sessions.{marks_after_line}

module _ (ms ns : List ℕ) (same : (n : ℕ) → is_marked ms n ≡ is_marked ns n) where
  one_more : (k n : ℕ) → is_marked (ms ++ k ∷ []) n ≡ is_marked (ns ++ k ∷ []) n
  one_more k n =
      list_any-append (λ m. m == n) ms (k ∷ [])
      ∙ (ap (λ b. b || is_marked (k ∷ []) n) (same n) ∙ sym (list_any-append (λ m. m == n) ns (k ∷ [])))

  pub marks_alike : (said : Said) (n : ℕ) → is_marked (marks_after_line said ms) n ≡ is_marked (marks_after_line said ns) n
  marks_alike (Says (Marked k)) n = one_more k n
  marks_alike (Says (MaildropHas k m)) n = refl
  marks_alike _ n = same n
