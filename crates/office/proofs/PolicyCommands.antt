-- What the policy's commands come to.
use Rattle.std.proofs.Common.{◌≡◌, Bool, true, length, Result, Ok, Err, refl, ap}
use Rattle.std.specs.Prelude.{is_ok, if◌then◌else◌}
use Rattle.policy.specs.Policy.{Policy, is_sound_policy}
use Rattle.vault.specs.declared.fault.VaultFault.{VaultFault}
use Rattle.vault.specs.declared.fault.VaultFault.TheVariants as fault
use Rattle.vault.specs.Records.{Agree}
use Rattle.vault.specs.Changes.{Contents, records_of, with_policy}
use Rattle.vault.specs.Calls.{IsPolicySet}
use Rattle.office.specs.Answers.{ShowPolicy, SetPolicy, ListGroups}
use Rattle.office.specs.Answers as answer
use Rattle.office.specs.History.{Tag, Done, Failed, NoMemory, in_force}
use Rattle.office.specs.Sessions.{records}
use Rattle.office.specs.Events.{Trace, Tagged, given}
use Rattle.office.specs.Events as event
use Rattle.office.specs.Trace.{history}
use Rattle.office.specs.Outcomes as outcome
use Rattle.office.specs.Outcomes.{event_tag_of}
use Rattle.office.specs.Stands.{Keeps}
use Rattle.office.specs.VaultAnswers as by_vault
use Rattle.office.proofs.Quiet.{Became, Carries, called, done, lacked, keeps_with, keeps_same}

-- ---- the policy shown

pub policy_shown : {Before : Contents → Type 0} (T : Trace) (k : Keeps Before T) (grown : Bool) (p : Policy) → p ≡ in_force T.base (history T)
    → Became Before k.contents T (event.Admin ShowPolicy) grown (outcome.Answered (answer.PolicyIs p))
policy_shown T k grown p e =
    done T (event.Admin ShowPolicy) grown _ (ap (λ x. outcome.Answered (answer.PolicyIs x)) e) (keeps_same T (event.Admin ShowPolicy) Done k k.held refl refl)

pub policy_show_lacked : {Before : Contents → Type 0} (T : Trace) (k : Keeps Before T) (grown : Bool) → Became Before k.contents T (event.Admin ShowPolicy) grown outcome.NoMemory
policy_show_lacked T k grown = lacked T (event.Admin ShowPolicy) grown tt refl k k.held

-- ---- its groups listed

pub groups_listed : {Before : Contents → Type 0} (T : Trace) (k : Keeps Before T) (grown : Bool) (p : Policy) → p ≡ in_force T.base (history T)
    → Became Before k.contents T (event.Admin ListGroups) grown (outcome.Answered (answer.GroupsOf p))
groups_listed T k grown p e =
    done T (event.Admin ListGroups) grown _ (ap (λ x. outcome.Answered (answer.GroupsOf x)) e) (keeps_same T (event.Admin ListGroups) Done k k.held refl refl)

pub groups_lacked : {Before : Contents → Type 0} (T : Trace) (k : Keeps Before T) (grown : Bool) → Became Before k.contents T (event.Admin ListGroups) grown outcome.NoMemory
groups_lacked T k grown = lacked T (event.Admin ListGroups) grown tt refl k k.held

-- ---- the policy set

module _ {Before : Contents → Type 0} (After : Contents → Type 0) (T : Trace) (k : Keeps Before T) (grown : Bool) (p : Policy) (sound : is_sound_policy p ≡ true) where
  abbrev set_command : event.Event
  set_command = event.Admin (SetPolicy p)

  agree_set : Agree (records_of (with_policy p k.contents)) (records T.base (history (given T set_command (Tagged Done))))
  agree_set = record {
    clerks = k.agree.clerks;
    credentials = k.agree.credentials;
    maildrops = k.agree.maildrops;
    messages = k.agree.messages;
    receipts = k.agree.receipts;
    counts = k.agree.counts;
    policy = refl;
  }

  pub keep_set : After (with_policy p k.contents) → Carries After k.contents T set_command Done
  keep_set h = keeps_with T set_command Done (with_policy p k.contents) k (λ x i. i) h agree_set sound

  pub policy_set : (answered : Result (Unit {0}) VaultFault) → IsPolicySet After k.contents p answered → (answered ≡ Err fault.Store → grown ≡ true)
      → Became After k.contents T set_command grown (by_vault.policy_set (length p.rules) answered)
  policy_set answered did cause =
      called T set_command grown tt sound k (by_vault.policy_set (length p.rules)) (λ r. After (if is_ok r then with_policy p k.contents else k.contents)) (Ok tt) answered
      did.answer did.held (λ h. h) (λ h. h) refl refl refl keep_set cause

  pub policy_set_lacked : After k.contents → Became After k.contents T set_command grown outcome.NoMemory
  policy_set_lacked held = lacked T set_command grown tt sound k held

-- a refusal isn't done
refused_mark : (f : VaultFault) → event_tag_of (by_vault.refused f) ≡ Tagged Done → ⊥
refused_mark fault.Store e = cc
refused_mark fault.NoMemory e = cc
refused_mark fault.NoMaildrop e = cc
refused_mark fault.Conflict e = cc
refused_mark fault.Full e = cc
refused_mark fault.NotEmpty e = cc
refused_mark fault.NotOurs e = cc
refused_mark fault.OldVersion e = cc
refused_mark fault.NoClerk e = cc

-- what isn't done leaves the rules in force
pub refused_rules : (T : Trace) (p : Policy) (f : VaultFault) (t : Tag) → event_tag_of (by_vault.refused f) ≡ Tagged t
    → in_force T.base (history (given T (event.Admin (SetPolicy p)) (Tagged t))) ≡ in_force T.base (history T)
refused_rules T p f Done e = absurd (refused_mark f e)
refused_rules T p f Failed e = refl
refused_rules T p f NoMemory e = refl

-- a policy that is set is in force
pub set_rules : (T : Trace) (p : Policy) (t : Tag) → Tagged Done ≡ Tagged t → p ≡ in_force T.base (history (given T (event.Admin (SetPolicy p)) (Tagged t)))
set_rules T p Done e = refl
set_rules T p Failed e = cc
set_rules T p NoMemory e = cc
