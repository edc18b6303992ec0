use Rattle.std.proofs.Common.{rules, min, ◌≡◌, ◌∙◌}
use Rattle.policy.specs.declared.key.Key.{Key}
use Rattle.policy.specs.declared.rule.Clerks.{Clerks}
use Rattle.policy.specs.declared.rule.Clerks.TheVariants as clerks
use Rattle.policy.specs.declared.rule.Pattern.{Pattern}
use Rattle.policy.specs.declared.rule.Pattern.TheVariants.{Any, Is}
use Rattle.policy.proofs.FourKeys.{first_of_four}
use Rattle.policy.proofs.walk.first_by_name.Goals as goal

key : Clerks → Pattern → Key
key clerk maildrop = record { clerk = clerk; maildrop = maildrop }

pub returns : goal.returns
unfolding key
returns c = λ clerk maildrop s.
    let a = c.first_of_key.ensures (key (clerks.Is clerk) (Is maildrop)) s.both in
    let b = c.first_of_key-2.ensures (key (clerks.Is clerk) Any) s.one_clerk in
    let d = c.first_of_key-3.ensures (key clerks.Any (Is maildrop)) s.one_maildrop in
    let e = c.first_of_key-4.ensures (key clerks.Any Any) s.all in
    let m : c.min-3.result ≡ min (min (min c.first_of_key.result c.first_of_key-2.result) c.first_of_key-3.result) c.first_of_key-4.result = search rules in
    m ∙ rw (a, b, d, e) (first_of_four clerk maildrop c.args.class.now c.args.action c.args.rules.now)
