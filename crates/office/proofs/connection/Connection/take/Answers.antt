use Rattle.std.proofs.Common.{◌≡◌, drop, sym, ◌∙◌, ap, ⊎_elim, true≢false}
use Rattle.office.specs.Output.{Output, reads_text}
use Rattle.office.specs.Kept.{Kept}
use Rattle.office.specs.declared.output.Source.TheVariants.{Text}
use Rattle.office.proofs.Obeying.{if_ok_so}
use Rattle.office.proofs.Sending.{not_nothing, owes_text}
use Rattle.vault.proofs.CallLemmas.{looks_none}
use Rattle.vault.specs.Parts.{OnlyLooks}
use Rattle.office.proofs.connection.Connection.take.Given.{Over}
use Rattle.office.proofs.connection.Connection.take.Goals.{After-take, After-send_text}
use Rattle.office.proofs.connection.Connection.take.Goals as goal

-- a reply that is no message's is put without a look at the store
unlooked : (g : Over) (c : After-take g) {Own : Type 0} → OnlyLooks g.V.Vault c.args.vault.now c.args.vault.now Own
unlooked g c = looks_none g.V.Vault c.args.vault.now (g.met.V.Vault.settled c.args.vault.now)

-- what comes of the text that the source reads
source_is : (g : Over) (c : After-send_text g) → c.args.self.now.output.source ≡ Text c.in-Text.text
source_is g c = sym (ap (λ (k : Kept). k.output.source) c.self.view_is) ∙ ⊎_elim (λ a. absurd (not_nothing _ a.0)) (λ b. sym b.0) c.in-Text.ensures.source

pub returns-in-Text-clause-owes : goal.returns-in-Text-clause-owes
returns-in-Text-clause-owes g c = if_ok_so _ c.send_text.result c.send_text.ensures.owes (λ w h yes d owed held clean owes.
    let k : Kept = c.args.self.now in
    let same : c.self.inside.output ≡ k.output = ap (λ (k : Kept). k.output) c.self.view_is in
    let source = source_is g (goal.at.returns-in-Text-clause-owes g c).After-send_text in
    owes_text d k.session k.output c.take.new.self c.send_text.new.self c.in-Text.text c.args.octets owed source
    (c.in-Text.ensures.ready ∙ ap (λ (o : Output). drop c.args.octets o.ready) same) c.requires owes (λ s coming reads. h yes d s coming held clean reads))

pub returns-in-Text-clause-unasked : goal.returns-in-Text-clause-unasked
returns-in-Text-clause-unasked g c none =
    let source = source_is g (goal.at.returns-in-Text-clause-unasked g c).After-send_text in
    absurd (true≢false (sym (ap reads_text source) ∙ none))

pub returns-in_err-send_sizes-in-Sizes-clause-looks : goal.returns-in_err-send_sizes-in-Sizes-clause-looks
returns-in_err-send_sizes-in-Sizes-clause-looks g c = unlooked g (goal.at.returns-in_err-send_sizes-in-Sizes-clause-looks g c).After-take

pub returns-in_err-send_uids-in-Uids-clause-looks : goal.returns-in_err-send_uids-in-Uids-clause-looks
returns-in_err-send_uids-in-Uids-clause-looks g c = unlooked g (goal.at.returns-in_err-send_uids-in-Uids-clause-looks g c).After-take

pub returns-in-Nothing-clause-looks : goal.returns-in-Nothing-clause-looks
returns-in-Nothing-clause-looks g c = unlooked g (goal.at.returns-in-Nothing-clause-looks g c).After-take

pub returns-in_ok-send_sizes-in-Sizes-clause-looks : goal.returns-in_ok-send_sizes-in-Sizes-clause-looks
returns-in_ok-send_sizes-in-Sizes-clause-looks g c = unlooked g (goal.at.returns-in_ok-send_sizes-in-Sizes-clause-looks g c).After-take

pub returns-in_default-clause-looks : goal.returns-in_default-clause-looks
returns-in_default-clause-looks g c = unlooked g (goal.at.returns-in_default-clause-looks g c).After-take

pub returns-in_ok-send_uids-in-Uids-clause-looks : goal.returns-in_ok-send_uids-in-Uids-clause-looks
returns-in_ok-send_uids-in-Uids-clause-looks g c = unlooked g (goal.at.returns-in_ok-send_uids-in-Uids-clause-looks g c).After-take

pub returns-in_default-session-clause-looks : goal.returns-in_default-session-clause-looks
returns-in_default-session-clause-looks g c = unlooked g (goal.at.returns-in_default-session-clause-looks g c).After-take
