use Rattle.std.proofs.Common.{◌≡◌, length, ap, ◌∙◌}
use Rattle.mailtext.specs.Text.{kept_form, lines_of, ended, top_part}
use Rattle.mailtext.proofs.PartLemmas.{take-top_part, lines_of-top_part}
use Rattle.mailtext.proofs.kept.MailText.top.Goals as goal

pub returns-clause-part : goal.returns-clause-part
returns-clause-part c =
    let text = c.args.self.now in
    let kept : kept_form text ≡ text = rw c.self.view_is at c.self.invariant.kept in
    let octets : c.deref.result.now ≡ text = c.deref.ensures.value ∙ c.self.view_is in
    let len : c.top_end.result ≡ length (ended (top_part (lines_of text) c.args.n)) = rw (c.deref-2.ensures.value, c.self.view_is) at c.top_end.ensures.value in
    rw (octets, len) (take-top_part text c.args.n kept)

pub returns-clause-lines : goal.returns-clause-lines
returns-clause-lines c = ap lines_of (returns-clause-part c) ∙ lines_of-top_part c.args.self.now c.args.n
