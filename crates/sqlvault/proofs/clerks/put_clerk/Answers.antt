use Rattle.std.proofs.Common.{Ok, Err, refl, Bool}
use Rattle.vault.specs.declared.record.Clerk as vault
use Rattle.vault.specs.Changes.{with_clerk, with_clerks, put_clerk_answer}
use Rattle.vault.specs.Calls.{put_result, IsClerkPut}
use Rattle.sqlvault.specs.Refusals.{told}
use Rattle.sqlvault.proofs.HoldsLemmas.{refusal_any}
use Rattle.sqlvault.proofs.ClerkLemmas.{keeps_put}
use Rattle.sqlvault.proofs.SeesLemmas.{own_met}
use Rattle.sqlvault.proofs.FrameLemmas.{looks_whole, looks_turns, turns_said, passed}
use Rattle.sqlvault.proofs.StopLemmas.{refusal_not_own}
use Rattle.sqlvault.proofs.clerks.put_clerk.Goals as goal

pub returns : goal.returns
returns g c =
    let x : vault.Clerk =
    record { name = c.args.clerk.now; credential = c.args.credential.now } in
    looks_turns _ _ c.in_ok-is_new.ensures.looks c.write_clerk.ensures.clean (λ _. tt) (λ clean k h held.
    let judged = c.in_ok-is_new.ensures.judged k (c.write_clerk.ensures.clean clean) h in
    let keeps = keeps_put k x (Ok c.in_ok-is_new.is_new) c.write_clerk.ensures.name c.write_clerk.ensures.form judged refl in
    turns_said (λ Held. IsClerkPut Held k x.name x.credential (Ok c.in_ok-is_new.is_new)) (λ Held. (y : Bool) × IsClerkPut Held k x.name x.credential (Ok y)) k
    (c.in_ok-write_clerk.ensures.written k
    (with_clerks (with_clerk x.name x.credential k.clerks) k) clean held keeps)
    (λ Held made. record { answer = judged; held = made }) (λ Held made. (c.in_ok-is_new.is_new, record { answer = judged; held = made })))

pub returns-in_err-write_clerk : goal.returns-in_err-write_clerk
returns-in_err-write_clerk g c = rw (passed c.from_residual-in_err-write_clerk.ensures.1) (let x : vault.Clerk =
    record { name = c.args.clerk.now; credential = c.args.credential.now } in
    let f = told c.in_err-write_clerk.field-0.0 in
    let is = c.in_err-write_clerk.ensures.answer in
    looks_turns _ _ c.in_ok-is_new.ensures.looks c.write_clerk.ensures.clean (refusal_not_own Bool f is)
    (λ clean k h held.
    let judged = c.in_ok-is_new.ensures.judged k (c.write_clerk.ensures.clean clean) h in
    let keeps = keeps_put k x (Ok c.in_ok-is_new.is_new) c.write_clerk.ensures.name
    c.write_clerk.ensures.form judged refl in
    let after = with_clerks (with_clerk x.name x.credential k.clerks) k in
    turns_said (λ Held. IsClerkPut Held k x.name x.credential (Err f))
    (λ Held. (y : Bool) × IsClerkPut Held k x.name x.credential (Ok y)) k
    (c.in_err-write_clerk.ensures.written k after clean held keeps)
    (λ Held was. record { answer = refusal_any (put_result (put_clerk_answer x.name k.clerks)) f is; held = was })
    (λ Held made. (c.in_ok-is_new.is_new, record { answer = judged; held = made }))))

pub returns-in_err-is_new : goal.returns-in_err-is_new
returns-in_err-is_new g c = rw (passed c.from_residual.ensures.1) (looks_whole _ _ c.in_err-is_new.ensures.looks (own_met {A = Bool} (Err c.in_err-is_new.field-0.0))
    (λ clean k h held. record { answer = c.in_err-is_new.ensures.judged k clean h; held = held }))
