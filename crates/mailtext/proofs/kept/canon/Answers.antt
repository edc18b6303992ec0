use Rattle.std.proofs.Common.{length, ap, arith, ◌≡◌, ◌<◌, rules}
use Rattle.std.proofs.lemmas.Bool.Decides.{nat_tests}
use Rattle.mailtext.specs.Text.{kept_form}
use Rattle.mailtext.proofs.LineLemmas.{kept_form-kept_form, lines_of-kept_form}
use Rattle.mailtext.proofs.Writing.{kept_form-nonempty}
use Rattle.mailtext.proofs.kept.canon.Goals as goal

pub invariant_of-result : goal.invariant_of-result
invariant_of-result c =
    let text = c.args.text.now in
    let is : c.write_lines.new.out.items ≡ kept_form text = rw c.in_ok-kept.ensures.items at c.write_lines.ensures in
    let some : 0 < length text = search (rules, nat_tests) in
    rw is (record {
      nonempty = λ e. absurd (omega (arith, ap length e, kept_form-nonempty text some));
      kept = kept_form-kept_form text;
      within = omega (arith, c.in-Some.ensures, c.if-octets-le-MAX_OCTETS.true);
    })

pub returns-clause-lines : goal.returns-clause-lines
returns-clause-lines c =
    let text = c.args.text.now in
    let is : c.write_lines.new.out.items ≡ kept_form text = rw c.in_ok-kept.ensures.items at c.write_lines.ensures in
    rw is (lines_of-kept_form text)
