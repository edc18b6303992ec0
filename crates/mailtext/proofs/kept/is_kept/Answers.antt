use Rattle.std.proofs.Common.{◌<◌, length, ap, arith, rules}
use Rattle.std.proofs.lemmas.Bool.Decides.{nat_tests}
use Rattle.mailtext.proofs.kept.is_kept.Goals as goal

pub returns : goal.returns
returns c =
    let text = c.args.octets.now in
    let some : 0 < length text = search (rules, nat_tests) in (
      (λ yes. record {
        nonempty = λ e. absurd (omega (arith, ap length e, some));
        kept = c.are_ended_lines.ensures.0 yes;
        within = search (rules, nat_tests);
      }),
      (λ kept. c.are_ended_lines.ensures.1 kept.kept),
    )
