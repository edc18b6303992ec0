use Rattle.std.proofs.Common.{rules, ◌≡◌, true, length, refl, sym, ◌∙◌}
use Rattle.std.specs.Prelude.{is_ok}
use Rattle.serving.proofs.Scripting.{accepted_told}
use Rattle.serving.proofs.script_links.ScriptLinks.accept.Goals as goal

pub returns : goal.returns
returns c = λ t h.
    (let number : c.in_ok-number.number ≡ length c.args.self.now.accepted.items = search rules in
    let done : is_ok c.push.result ≡ true = search rules in (
      number ∙ sym h.accepted,
      accepted_told c.args.self.now.accepted.items c.reserve.new.self.items c.push.new.self.items (is_ok c.push.result) c.args.self.now.strayed t _
          c.push.ensures.items done c.reserve.ensures.items refl c.new.ensures.items refl h,
    ))
