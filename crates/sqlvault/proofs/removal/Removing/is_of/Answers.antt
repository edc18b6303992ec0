use Rattle.std.proofs.Common.{sym, ap, ◌∙◌}
use Rattle.std.proofs.lemmas.Slice.Eq.{bytes_eq-Decides}
use Rattle.sqlvault.specs.Removals.{Removal}
use Rattle.sqlvault.proofs.removal.Removing.is_of.Goals as goal

pub returns-then-eq : goal.returns-then-eq
returns-then-eq c = λ is. (
  ap (λ (r : Removal). r.maildrop) (sym c.self.view_is)
      ∙ (bytes_eq-Decides _ _).0 (sym c.eq.ensures ∙ c.if-eq.true),
  ap (λ (r : Removal). r.keys) (sym c.self.view_is) ∙ sym c.as_slice.ensures.value
      ∙ (bytes_eq-Decides _ _).0 (sym c.eq-then-eq.ensures ∙ is),
)
