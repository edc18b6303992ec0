use Rattle.std.proofs.Common.{◌≡◌, ◌∙◌, ◌==◌}
use Rattle.std.specs.Prelude.{count_by}
use Rattle.mailtext.specs.Text.{kept_form}
use Rattle.mailtext.proofs.PartLemmas.{count_by-newlines}
use Rattle.mailtext.proofs.kept.MailText.lines.Goals as goal

pub returns : goal.returns
returns c =
    let text = c.args.self.now in
    let kept : kept_form text ≡ text = rw c.self.view_is at c.self.invariant.kept in
    let count : c.line_ends.result ≡ count_by (λ b. b == 10) text = rw (c.deref.ensures.value, c.self.view_is) at c.line_ends.ensures in
    count ∙ count_by-newlines text kept
