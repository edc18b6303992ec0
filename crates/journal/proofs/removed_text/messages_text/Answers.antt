use Rattle.std.proofs.Common.{◌≡◌, ℕ, ◌++◌, Option, ◌∙◌, ap, arith, take, drop}
use Rattle.std.specs.Prelude.{string_bytes}
use Rattle.session.specs.declared.removed.RemovedMessage.{RemovedMessage}
use Rattle.journal.specs.Lines.{message_words, messages_text}
use Rattle.journal.proofs.Uids.{one_more}
use Rattle.journal.proofs.removed_text.messages_text.Goals as goal

pub loop-n-preserved : goal.loop-n-preserved
loop-n-preserved c =
    c.in_ok-put_message.ensures ∙ (ap (λ (o : Option RemovedMessage). string_bytes c.loop-n.text ++ message_words c.loop-n.n o) c.message_at.ensures
    ∙ one_more (drop c.args.from c.args.removed.now) c.loop-n.n (string_bytes c.loop-n.text) c.loop-n.invariant)

pub returns : goal.returns
returns c =
    let end : c.loop-n.n ≡ 32 = omega (arith, c.loop-n-test.false, c.loop-n.auto.n-end) in
    c.loop-n.invariant ∙ ap (λ (n : ℕ). messages_text (take n (drop c.args.from c.args.removed.now))) end
