use Rattle.std.proofs.Common.{◌∙◌, ◌++◌, List, ℕ, ap, map}
use Rattle.vault.specs.declared.answer.Head.{Head}
use Rattle.vault.specs.Changes.{head_of}
use Rattle.converse.specs.Texts.{differing_in}
use Rattle.converse.proofs.Exporting.{lines_told}
use Rattle.converse.proofs.check_store.tell_maildrop.Goals as goal

pub returns-in-Ok-clause-told : goal.returns-in-Ok-clause-told
returns-in-Ok-clause-told g c = λ rs are d h k.
    let sifted = c.in_ok-sift.ensures.sifted rs are d h k in
    let heads = c.as_slice.ensures.value ∙ sifted.2 ∙ ap (λ (l : List Head). l ++ map head_of (differing_in rs c.args.maildrop.now d)) c.new-differing.ensures.items in
    c.in-Ok.ensures ∙ ap (λ (l : List ℕ). c.args.text.now.items ++ l) (lines_told rs c.args.maildrop.now d c.as_slice.result.now heads)
