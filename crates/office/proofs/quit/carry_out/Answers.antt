use Rattle.std.proofs.Common.{◌≡◌, None, length, sym, ◌∙◌, ap, subst, rules, vec_len, Err}
use Rattle.popline.specs.Replies.{Reply, RemovalFailed}
use Rattle.popline.specs.Seen.{reply_seen}
use Rattle.policy.specs.Policy.{Policy}
use Rattle.vault.specs.Changes.{Contents}
use Rattle.vault.specs.declared.fault.VaultFault.{VaultFault}
use Rattle.vault.specs.declared.fault.VaultFault.TheVariants as fault
use Rattle.office.proofs.Quitting.{nothing_removed, store_refused, quit_done, quit_failed, none_left, some_left}
use Rattle.office.specs.Output.{OwesReply}
use Rattle.office.specs.Transaction.{without_marked}
use Rattle.office.proofs.Owing.{owes_put}
use Rattle.vault.proofs.CallLemmas.{looks_none}
use Rattle.office.proofs.Frames.{acts_looking, acts_once}
use Rattle.office.proofs.Stopping.{removal_left}
use Rattle.office.specs.Stopping.{ActsOnce}
use Rattle.office.proofs.quit.carry_out.Given.{Over}
use Rattle.office.proofs.quit.carry_out.Goals.{Start}
use Rattle.office.proofs.quit.carry_out.Goals as goal

pub returns-then-is_empty-clause-done : goal.returns-then-is_empty-clause-done
returns-then-is_empty-clause-done g c = λ p d kept plan held clean lies.
    let len : vec_len c.args.plan.now.keys ≡ length c.args.plan.now.keys.items = search rules in
    let none = none_left c.args.plan.now.keys.items (vec_len c.args.plan.now.keys) len (sym c.is_empty.ensures ∙ c.if-is_empty.true) in
    let put = owes_put d None c.reserve.new.self c.say.new.self (reply_seen c.farewell.result) (c.reserve.ensures ∙ c.requires) c.in_ok-say.ensures in
    let said = subst (λ (r : Reply). OwesReply d None c.say.new.self r) c.farewell.ensures put in
    let same = nothing_removed p c.args.session.now d (sym plan.keys ∙ none) in
    quit_done d p c.args.session.now kept lies _ _ _ c.args.plan.now.denied plan.denied said
    (subst (λ (x : Contents). g.V.Vault.holds c.args.vault.now x) (sym same) held)

pub returns-in-Ok-clause-done : goal.returns-in-Ok-clause-done
returns-in-Ok-clause-done g c = λ p d kept plan held clean lies.
    let keys = c.deref.ensures.value ∙ plan.keys in
    let put = owes_put d None c.reserve.new.self c.say.new.self (reply_seen c.farewell.result) (c.reserve.ensures ∙ c.requires) c.in_ok-say.ensures in
    let said = subst (λ (r : Reply). OwesReply d None c.say.new.self r) c.farewell.ensures put in
    quit_done d p c.args.session.now kept lies _ _ _ c.args.plan.now.denied plan.denied said
    (rw (c.maildrop.ensures, keys) at (c.in-Ok.ensures.done d held clean).held)

pub returns-in_ok-say-in-Err-clause-done : goal.returns-in_ok-say-in-Err-clause-done
returns-in_ok-say-in-Err-clause-done g c = λ p d kept plan held clean lies.
    let did = c.in-Err.ensures.done d held clean in
    let n : (c.in-Err.field-0 ≡ fault.NoMemory → ⊥) = search rules in
    let store = store_refused c.in-Err.field-0 did.answer n in
    let len : vec_len c.args.plan.now.keys ≡ length c.args.plan.now.keys.items = search rules in
    let some = some_left c.args.plan.now.keys.items (vec_len c.args.plan.now.keys) len (sym c.is_empty.ensures ∙ c.if-is_empty.false) in
    let said = owes_put d None c.clear.new.self c.say-in-Err.new.self RemovalFailed c.clear.ensures c.in_ok-say-in-Err.ensures in
    quit_failed d p c.args.session.now kept lies _ _ _ said (λ e. some (plan.keys ∙ e)) did.held
    (c.in-Err.ensures.commits.counted.cause (ap (λ (e : VaultFault). Err e) store))

pub returns-in_err-reserve-clause-done : goal.returns-in_err-reserve-clause-done
returns-in_err-reserve-clause-done g c = search rules

pub returns-in_err-reserve-clause-err : goal.returns-in_err-reserve-clause-err
returns-in_err-reserve-clause-err g c = search rules

pub returns-in_err-reserve-clause-unasked : goal.returns-in_err-reserve-clause-unasked
returns-in_err-reserve-clause-unasked g c = search rules

pub returns-in_err-say-clause-done : goal.returns-in_err-say-clause-done
returns-in_err-say-clause-done g c = search rules

pub returns-in_err-say-clause-err : goal.returns-in_err-say-clause-err
returns-in_err-say-clause-err g c = search rules

pub returns-in_err-say-clause-unasked : goal.returns-in_err-say-clause-unasked
returns-in_err-say-clause-unasked g c = search rules

pub returns-in_err-say-in-Err : goal.returns-in_err-say-in-Err
returns-in_err-say-in-Err g c = search rules

pub returns-in-Err-NoMemory-clause-err : goal.returns-in-Err-NoMemory-clause-err
returns-in-Err-NoMemory-clause-err c = search rules

-- the store wasn't asked yet
unasked : (g : Over) (c : Start g) {Own : Type 0} → (p : Policy) → ActsOnce g.V.Vault c.args.vault.now c.args.vault.now Own (without_marked p c.args.session.now)
unasked g c p = acts_looking (without_marked p c.args.session.now) (looks_none g.V.Vault c.args.vault.now (g.met.V.Vault.settled c.args.vault.now))

pub returns-in_err-reserve-clause-acts : goal.returns-in_err-reserve-clause-acts
returns-in_err-reserve-clause-acts g c = λ p plan. unasked g (goal.at.returns-in_err-reserve-clause-acts g c).Start p

pub returns-in_err-say-clause-acts : goal.returns-in_err-say-clause-acts
returns-in_err-say-clause-acts g c = λ p plan. unasked g (goal.at.returns-in_err-say-clause-acts g c).Start p

pub returns-then-is_empty-clause-acts : goal.returns-then-is_empty-clause-acts
returns-then-is_empty-clause-acts g c = λ p plan. unasked g (goal.at.returns-then-is_empty-clause-acts g c).Start p

pub returns-in-Ok-clause-acts : goal.returns-in-Ok-clause-acts
returns-in-Ok-clause-acts g c = λ p plan. acts_once g.V.Vault (without_marked p c.args.session.now) c.in-Ok.ensures.commits (λ own. tt)
    (λ left d. removal_left left d p c.args.session.now _ _ c.maildrop.ensures (c.deref.ensures.value ∙ plan.keys))

pub returns-in-Err-NoMemory-clause-acts : goal.returns-in-Err-NoMemory-clause-acts
returns-in-Err-NoMemory-clause-acts g c = λ p plan. acts_once g.V.Vault (without_marked p c.args.session.now) c.in-Err-NoMemory.ensures.commits (λ none. absurd none)
    (λ left d. removal_left left d p c.args.session.now _ _ c.maildrop.ensures (c.deref.ensures.value ∙ plan.keys))

pub returns-in_ok-say-in-Err-clause-acts : goal.returns-in_ok-say-in-Err-clause-acts
returns-in_ok-say-in-Err-clause-acts g c = λ p plan. acts_once g.V.Vault (without_marked p c.args.session.now) c.in-Err.ensures.commits (λ none. absurd none)
    (λ left d. removal_left left d p c.args.session.now _ _ c.maildrop.ensures (c.deref.ensures.value ∙ plan.keys))
