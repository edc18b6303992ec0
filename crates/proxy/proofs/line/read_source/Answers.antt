use Rattle.std.proofs.Common.{rules, ◌≡◌, codes, sym, ◌∙◌}
use Rattle.proxy.proofs.Saying.{no_source_v4, no_source_v6}
use Rattle.proxy.proofs.line.read_source.Goals as goal

pub returns-in-None : goal.returns-in-None
returns-in-None c =
    let is : c.split_word.result.0.now ≡ codes "TCP4" = search rules in
    no_source_v4 c.args.text.now (sym c.split_word.ensures.word ∙ is) (λ a e. c.in-None.ensures a (rw c.split_word.ensures.rest e))

pub returns-in-None-source_v6 : goal.returns-in-None-source_v6
returns-in-None-source_v6 c =
    let is : c.split_word.result.0.now ≡ codes "TCP6" = search rules in
    no_source_v6 c.args.text.now (sym c.split_word.ensures.word ∙ is) (λ a e. c.in-None-source_v6.ensures a (rw c.split_word.ensures.rest e))
