use Rattle.std.proofs.Common.{◌≡◌, ℕ, List, Option, None, subst}
use Rattle.std.specs.Prelude.{⊤, MatchOption}
use Rattle.converse.specs.Script.{line_by}
use Rattle.converse.proofs.form.form_of.Goals as goal

pub returns : goal.returns
returns c = record {
  none = subst (λ (parts : List ℕ × Option (List ℕ)). MatchOption c.form_by.result
      (line_by parts ≡ None) (λ _. ⊤)) c.cut_at.ensures c.form_by.ensures.none;
}
