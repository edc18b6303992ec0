use Rattle.std.proofs.Common.{◌≡◌, ◌++◌, sym, ◌∙◌, ap, subst, refl, Some}
use Rattle.vault.specs.Changes.{AreSound}
use Rattle.office.specs.Output.{Output, Owes}
use Rattle.office.specs.declared.reading.Reading.{Reading}
use Rattle.office.specs.declared.output.Source.{Source}
use Rattle.office.specs.declared.output.Source.TheVariants.{Nothing}
use Rattle.office.proofs.Sending.{text_goes_on, text_ended, begun_under}
use Rattle.office.proofs.output.Output.send_text.Goals as goal

pub returns-in-More-clause-owes : goal.returns-in-More-clause-owes
returns-in-More-clause-owes g c = λ yes d s coming held clean reads.
    let sound : AreSound d = g.met.V.Vault.sound c.args.vault.now d held (c.fill.ensures.puts.looks.clean clean) in
    let t : Reading = c.args.text in
    let front : c.remove_front.new.octets.items ≡ c.args.self.now.ready = c.remove_front.ensures.is ∙ ap (λ (o : Output). o.ready) c.self.view_is in
    text_goes_on d sound s t coming reads c.fill.new.self c.args.self.now.ready c.remove_front.new.octets.items c.fill.new.ready.items front c.fill.ensures.puts.key c.fill.ensures.puts.octets
    ((rw c.in-More.is at c.in_ok-fill.ensures.more) refl reads.begun.left) ((rw c.in-More.is at c.in_ok-fill.ensures.full) refl)
    ((rw c.in-More.is at c.in_ok-fill.ensures.puts).put d held clean (begun_under d sound s t coming reads))

pub returns-in-Last-clause-owes : goal.returns-in-Last-clause-owes
returns-in-Last-clause-owes g c = λ yes d s coming held clean reads.
    let sound : AreSound d = g.met.V.Vault.sound c.args.vault.now d held (c.fill.ensures.puts.looks.clean clean) in
    let t : Reading = c.args.text in
    let front : c.remove_front.new.octets.items ≡ c.args.self.now.ready = c.remove_front.ensures.is ∙ ap (λ (o : Output). o.ready) c.self.view_is in
    let none : c.self.inside.source ≡ Nothing = ap (λ (o : Output). o.source) c.self.view_is ∙ c.requires in
    subst (λ (x : Source). Owes d (Some s) (record { ready = c.fill.new.ready.items; source = x }) (c.args.self.now.ready ++ coming)) (sym none)
    (text_ended d sound s t coming reads c.fill.new.self c.args.self.now.ready c.remove_front.new.octets.items c.fill.new.ready.items front c.fill.ensures.puts.key c.fill.ensures.puts.octets
    ((rw c.in-Last.is at c.in_ok-fill.ensures.puts).put d held clean (begun_under d sound s t coming reads)))

pub returns-in-Refused-clause-cause : goal.returns-in-Refused-clause-cause
returns-in-Refused-clause-cause g c = λ no d s coming held clean reads.
    let sound : AreSound d = g.met.V.Vault.sound c.args.vault.now d held (c.fill.ensures.puts.looks.clean clean) in
    (rw c.in-Refused.is at c.in_ok-fill.ensures.puts).cause refl d held clean (begun_under d sound s c.args.text coming reads)
