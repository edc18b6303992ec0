use Rattle.std.proofs.Common.{◌++◌, ◌∙◌, sym, subst, Some}
use Rattle.popline.specs.Replies.{Reply}
use Rattle.office.specs.Output.{OwesReply, text_coming}
use Rattle.office.proofs.Texts.{found, form, size, begins, sent, sending_denied, sending_found}
use Rattle.office.proofs.Obeying.{if_ok_so, if_ok_both}
use Rattle.vault.proofs.CallLemmas.{looks_none}
use Rattle.office.proofs.message.send.Goals as goal

pub returns-in_ok-text-in-Ok-clause-done : goal.returns-in_ok-text-in-Ok-clause-done
returns-in_ok-text-in-Ok-clause-done g c = if_ok_so _ c.serve.result c.serve.ensures.served (λ w h p s d kept is held clean lies.
    let head = c.in-Ok.readable.head in
    let n = c.args.n in
    let f = found d p s kept lies n c.in-Ok.readable (sym c.in-Ok.is ∙ is) in
    let sound = g.met.V.Vault.sound c.args.vault.now d held (c.serve.ensures.looks.clean clean) in
    let r = c.in_ok-text-in-Ok.text in
    let t = f.stored.message.text in
    let whole = c.in_ok-text-in-Ok.ensures.coming t (form d sound p s kept lies n head f).kept (size d sound p s kept lies n head f) in
    sent d sound p s kept lies n head f _ _ _ c.args.lines w (c.begin.new.output.ready ++ text_coming r t) whole
    (h d s (text_coming r t) held clean (begins d sound p s kept lies n head f r c.in_ok-text-in-Ok.ensures.begun)))

pub returns-in-Err-clause-done : goal.returns-in-Err-clause-done
returns-in-Err-clause-done g c = if_ok_both _ c.say.result c.say.ensures.outcome c.say.ensures.owed (λ w e said p s d kept is held clean lies.
    let n = c.args.n in
    let why = c.in-Err.why in
    let put = subst (λ (r : Reply). OwesReply d (Some s) c.say.new.output r) c.refused.ensures (said d (Some s)) in
    sending_denied d p s kept lies n why (sym c.in-Err.is ∙ is) _ _ _ c.args.lines w e put held)

pub returns-in_err-text-in-Ok-clause-unasked : goal.returns-in_err-text-in-Ok-clause-unasked
returns-in_err-text-in-Ok-clause-unasked g c = λ p s d kept is lies none. absurd (sending_found d p s kept lies c.args.n c.args.lines c.in-Ok.readable (sym c.in-Ok.is ∙ is) none)

pub returns-in_ok-text-in-Ok-clause-unasked : goal.returns-in_ok-text-in-Ok-clause-unasked
returns-in_ok-text-in-Ok-clause-unasked g c = λ p s d kept is lies none. absurd (sending_found d p s kept lies c.args.n c.args.lines c.in-Ok.readable (sym c.in-Ok.is ∙ is) none)

pub returns-in-Err-clause-looks : goal.returns-in-Err-clause-looks
returns-in-Err-clause-looks g c =
    looks_none g.V.Vault c.args.vault.now (g.met.V.Vault.settled c.args.vault.now)

pub returns-in_err-text-in-Ok-clause-looks : goal.returns-in_err-text-in-Ok-clause-looks
returns-in_err-text-in-Ok-clause-looks g c =
    looks_none g.V.Vault c.args.vault.now (g.met.V.Vault.settled c.args.vault.now)
