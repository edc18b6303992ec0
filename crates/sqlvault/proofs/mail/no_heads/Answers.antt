use Rattle.std.proofs.Common.{◌∙◌, map, sym, ap}
use Rattle.vault.specs.Changes.{head_of}
use Rattle.vault.specs.Calls.{heads_result}
use Rattle.sqlvault.proofs.FrameLemmas.{passed}
use Rattle.sqlvault.proofs.HoldsLemmas.{met, same_so}
use Rattle.sqlvault.proofs.HeadLemmas.{no_maildrop, shown_heads}
use Rattle.sqlvault.proofs.SeesLemmas.{sees_own}
use Rattle.sqlvault.proofs.TellsLemmas.{tells_said, tells_spared}
use Rattle.sqlvault.proofs.mail.no_heads.Goals as goal

pub returns-clause-sees : goal.returns-clause-sees
returns-clause-sees g c =
    let d = c.args.maildrop.now in
    sees_own (λ _. tt)
    (λ k there none. same_so (heads_result d k) _ (shown_heads d k c.new.result.items (sym there ∙ c.if-not-there.false) (c.new.ensures.items ∙ sym (ap (map head_of) none))))
    c.in_ok-there.ensures.sees

pub returns-then-not-there-clause-sees : goal.returns-then-not-there-clause-sees
returns-then-not-there-clause-sees g c = sees_own (λ _. tt)
    (λ k there none. same_so (heads_result c.args.maildrop.now k) _ (no_maildrop c.args.maildrop.now k (sym there ∙ c.if-not-there.true)))
    c.in_ok-there.ensures.sees

pub returns-in_err-there-clause-sees : goal.returns-in_err-there-clause-sees
returns-in_err-there-clause-sees g c = rw (passed c.from_residual.ensures.1) (sees_own (λ own. own)
    (λ k _ none. met (heads_result c.args.maildrop.now k) c.in_err-there.field-0.0) c.in_err-there.ensures.sees)

pub returns-clause-beside : goal.returns-clause-beside
returns-clause-beside g c =
    tells_said (tells_spared (λ _ _. tt) c.in_ok-there.ensures.beside)
    (λ k sound there none. same_so (heads_result c.args.maildrop.now k) _ (shown_heads c.args.maildrop.now k c.new.result.items
    (sym there ∙ c.if-not-there.false) (c.new.ensures.items ∙ sym (ap (map head_of) none))))

pub returns-then-not-there-clause-beside : goal.returns-then-not-there-clause-beside
returns-then-not-there-clause-beside g c =
    tells_said (tells_spared (λ _ _. tt) c.in_ok-there.ensures.beside)
    (λ k sound there none. same_so (heads_result c.args.maildrop.now k) _ (no_maildrop c.args.maildrop.now k
    (sym there ∙ c.if-not-there.true)))

pub returns-in_err-there-clause-beside : goal.returns-in_err-there-clause-beside
returns-in_err-there-clause-beside g c = rw (passed c.from_residual.ensures.1) (tells_said (tells_spared (λ _ _. tt) c.in_err-there.ensures.beside)
    (λ k sound _ none. met (heads_result c.args.maildrop.now k) c.in_err-there.field-0.0))
