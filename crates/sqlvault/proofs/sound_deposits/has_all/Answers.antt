use Rattle.std.proofs.Common.{◌≡◌, ◌+◌, ◌<◌, true, false, sym, ◌∙◌, arith, rules}
use Rattle.sqlvault.proofs.HasNumberLemmas.{has_more, has_not}
use Rattle.sqlvault.proofs.sound_deposits.has_all.Goals as goal

pub returns-then-not-contains : goal.returns-then-not-contains
returns-then-not-contains c ns set =
    let none : c.contains.result ≡ false = search rules in
    let lt : c.loop-before.before < c.args.count = omega arith in
    sym (has_not ns c.args.maildrop.now c.args.class.now c.loop-before.before c.args.count lt
    (sym (set (c.args.maildrop.now, c.args.class.now, c.loop-before.before + 1)) ∙ sym c.contains.ensures ∙ none))

pub loop-before-preserved : goal.loop-before-preserved
loop-before-preserved c ns set =
    let there : c.contains.result ≡ true = search rules in
    has_more ns c.args.maildrop.now c.args.class.now c.loop-before.before (c.loop-before.invariant ns set)
    (sym (set (c.args.maildrop.now, c.args.class.now, c.loop-before.before + 1)) ∙ sym c.contains.ensures ∙ there)

pub loop-before-init : goal.loop-before-init
loop-before-init c = search rules

pub returns : goal.returns
returns c = search rules
