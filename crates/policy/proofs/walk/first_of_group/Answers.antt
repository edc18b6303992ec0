use Rattle.std.proofs.Common.{rules, min, ap, ◌≡◌, ◌∙◌}
use Rattle.policy.specs.declared.group_starts.GroupStart.{GroupStart}
use Rattle.policy.specs.declared.key.Key.{Key}
use Rattle.policy.specs.declared.rule.Clerks.{Clerks}
use Rattle.policy.specs.declared.rule.Clerks.TheVariants as clerks
use Rattle.policy.specs.declared.rule.Pattern.{Pattern}
use Rattle.policy.specs.declared.rule.Pattern.TheVariants.{Any, Is}
use Rattle.policy.specs.Lane.{is_about_action}
use Rattle.policy.proofs.FourKeys.{first_of_two}
use Rattle.policy.proofs.walk.first_of_group.Goals as goal

key : Clerks → Pattern → Key
key clerks maildrop = record { clerk = clerks; maildrop = maildrop }

pub returns : goal.returns
unfolding key
returns c = λ maildrop group start.
    let a = c.first_of_key.ensures (key (clerks.MembersOf group) (Is maildrop)) (ap (λ (s : GroupStart). s.maildrop) start) in
    let b = c.first_of_key-2.ensures (key (clerks.MembersOf group) Any) (ap (λ (s : GroupStart). s.all) start) in
    let m : c.min.result ≡ min c.first_of_key.result c.first_of_key-2.result = search rules in
    m ∙ rw (a, b) (first_of_two group maildrop (is_about_action c.args.action c.args.class.now) c.args.rules.now)
