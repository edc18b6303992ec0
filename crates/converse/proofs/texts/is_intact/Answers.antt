use Rattle.std.proofs.Common.{ap, subst, ◌∙◌}
use Rattle.creds.specs.Digests.{text_digest}
use Rattle.converse.specs.Texts.{AreMarks}
use Rattle.converse.proofs.Sifting.{judged}
use Rattle.converse.proofs.texts.is_intact.Goals as goal

pub returns-clause-told : goal.returns-clause-told
returns-clause-told g c = λ rs are d h clean measured.
    judged rs c.in-Some.marks c.args.maildrop.now d c.args.head.now c.text_digest-digest.result c.in_ok-text.text.items c.contains.result
    (subst (λ m. AreMarks rs m) c.in-Some.is are) (c.text_digest-digest.ensures ∙ ap text_digest c.as_slice.ensures.value)
    (c.in_ok-text.ensures.text d h clean measured) c.contains.ensures
