use Rattle.std.proofs.Common.{◌≡◌, ◌∙◌, sym, refl, true, is_some, rules}
use Rattle.toml.specs.View.{view}
use Rattle.policy.proofs.SoundRules.{clerks_of-some, rule_name_of-some, pattern_of-some, is_sound_subject-by}
use Rattle.toml.specs.Data.{Members}
use Rattle.policy.specs.PolicyText.{clerks_of, pattern_of, rule_name_of, seen, subject_of}
use Rattle.policy.specs.Places.{AreValuesOf, in_rule}
use Rattle.policy.specs.declared.fault.PolicyFault.TheVariants.{BadName}
use Rattle.policy.specs.declared.place.Place.TheVariants.{Name, Clerk, Maildrop, Class}
use Rattle.policy.proofs.Placed.{name_lies, clerk_lies, maildrop_lies, class_lies}
use Rattle.policy.specs.declared.read.Subject.{Subject}
use Rattle.policy.proofs.read.read_subject.Goals as goal

pub returns-clause-sound : goal.returns-clause-sound
returns-clause-sound c =
    let settings = c.args.settings.now in
    let subject : Subject = record { name = c.in_ok-name.name; clerk = c.in_ok-clerk.clerk; maildrop = c.in_ok-maildrop.maildrop; class = c.in_ok-class.class } in
    let name = rule_name_of-some (view settings.name.now) subject.name (sym c.read_rule_name.ensures ∙ c.in_ok-name.ensures.ok_part) in
    let clerk = clerks_of-some (view settings.clerk.now) subject.clerk (sym c.read_clerks.ensures ∙ c.in_ok-clerk.ensures.ok_part) in
    let maildrop = pattern_of-some (view settings.maildrop.now) subject.maildrop (sym c.read_pattern.ensures ∙ c.in_ok-maildrop.ensures.ok_part) in
    let class = pattern_of-some (view settings.class.now) subject.class (sym c.read_pattern-2.ensures ∙ c.in_ok-class.ensures.ok_part) in
    is_sound_subject-by subject name.0 name.1 clerk maildrop class

pub returns-clause-ok : goal.returns-clause-ok
unfolding subject_of
returns-clause-ok c = search rules

pub returns-clause-own_name : goal.returns-clause-own_name
returns-clause-own_name c = search rules

pub returns-in_err-name-clause-place : goal.returns-in_err-name-clause-place
returns-in_err-name-clause-place c =
    let lies : (ms : Members) → AreValuesOf ms (seen c.args.settings.now) → in_rule ms (BadName c.args.n) ≡ Name = λ ms are.
    name_lies c.args.n ms (seen c.args.settings.now) are (sym c.read_rule_name.ensures ∙ c.in_err-name.ensures.ok_part) in
    search rules

pub returns-in_err-clerk-clause-place : goal.returns-in_err-clerk-clause-place
returns-in_err-clerk-clause-place c =
    let name : is_some (rule_name_of (view c.args.settings.now.name.now)) ≡ true = rw (sym c.read_rule_name.ensures ∙ c.in_ok-name.ensures.ok_part) refl in
    let lies : (ms : Members) → AreValuesOf ms (seen c.args.settings.now) → in_rule ms (BadName c.args.n) ≡ Clerk = λ ms are.
    clerk_lies c.args.n ms (seen c.args.settings.now) are name (sym c.read_clerks.ensures ∙ c.in_err-clerk.ensures.ok_part) in
    search rules

pub returns-in_err-maildrop-clause-place : goal.returns-in_err-maildrop-clause-place
returns-in_err-maildrop-clause-place c =
    let name : is_some (rule_name_of (view c.args.settings.now.name.now)) ≡ true = rw (sym c.read_rule_name.ensures ∙ c.in_ok-name.ensures.ok_part) refl in
    let clerk : is_some (clerks_of (view c.args.settings.now.clerk.now)) ≡ true = rw (sym c.read_clerks.ensures ∙ c.in_ok-clerk.ensures.ok_part) refl in
    let lies : (ms : Members) → AreValuesOf ms (seen c.args.settings.now) → in_rule ms (BadName c.args.n) ≡ Maildrop = λ ms are.
    maildrop_lies c.args.n ms (seen c.args.settings.now) are name clerk (sym c.read_pattern.ensures ∙ c.in_err-maildrop.ensures.ok_part) in
    search rules

pub returns-in_err-class-clause-place : goal.returns-in_err-class-clause-place
returns-in_err-class-clause-place c =
    let name : is_some (rule_name_of (view c.args.settings.now.name.now)) ≡ true = rw (sym c.read_rule_name.ensures ∙ c.in_ok-name.ensures.ok_part) refl in
    let clerk : is_some (clerks_of (view c.args.settings.now.clerk.now)) ≡ true = rw (sym c.read_clerks.ensures ∙ c.in_ok-clerk.ensures.ok_part) refl in
    let maildrop : is_some (pattern_of (view c.args.settings.now.maildrop.now)) ≡ true = rw (sym c.read_pattern.ensures ∙ c.in_ok-maildrop.ensures.ok_part) refl in
    let lies : (ms : Members) → AreValuesOf ms (seen c.args.settings.now) → in_rule ms (BadName c.args.n) ≡ Class = λ ms are.
    class_lies c.args.n ms (seen c.args.settings.now) are name clerk maildrop in
    search rules
