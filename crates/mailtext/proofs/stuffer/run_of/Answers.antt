use Rattle.std.proofs.Common.{◌+◌, length, sym, ◌∙◌, arith}
use Rattle.mailtext.proofs.StreamLemmas.{sent_before, sent_found}
use Rattle.mailtext.proofs.stuffer.run_of.Goals as goal

pub returns-in-Some-clause-sent : goal.returns-in-Some-clause-sent
returns-in-Some-clause-sent c =
    let found = c.in-Some.ensures in
    sent_found c.args.at_front c.args.octets.now c.in-Some.newline (sym c.wants_dot.ensures ∙ c.if-wants_dot.false) found.0.before found.1

pub returns-in-None-clause-sent : goal.returns-in-None-clause-sent
returns-in-None-clause-sent c =
    let octets = c.args.octets.now in
    rw c.is_front_behind.ensures
    (sent_before c.args.at_front octets (length octets + 1) (length octets) (sym c.wants_dot.ensures ∙ c.if-wants_dot.false) c.in-None.ensures (omega arith) (omega arith))
