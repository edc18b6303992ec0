use Rattle.std.proofs.Common.{◌≡◌, true, false, sym, ◌∙◌, subst, refl, rules, Option, Some, None}
use Rattle.office.specs.History.{Says}
use Rattle.office.specs.Connections.{reading, is_quit}
use Rattle.office.specs.Accounts.{transaction_account, named_in}
use Rattle.creds.specs.declared.login_name.LoginName.{LoginName}
use Rattle.office.specs.Sessions.{logs_in}
use Rattle.office.specs.Answered.{SessionAfter}
use Rattle.office.proofs.Remembering.{transaction_no_login}
use Rattle.office.proofs.Accounts.{state_told}
use Rattle.office.specs.Output.{OwesReply}
use Rattle.office.specs.Transaction.{Transaction, transaction_of, GoesOn, session_if, transaction_reply, transaction_asks}
use Rattle.office.proofs.AfterLines.{err_or_not}
use Rattle.vault.specs.Changes.{Contents}
use Rattle.office.specs.Kept.{asks}
use Rattle.office.specs.Answered.{HasTransaction}
use Rattle.office.proofs.lines.transaction_answer.Given.{Over}
use Rattle.office.proofs.lines.transaction_answer.Goals.{After-answer}
use Rattle.office.proofs.lines.transaction_answer.Goals as goal

pub same-session : goal.same-session
same-session g c = search rules

-- nothing is asked, if the line asks nothing
unasked : (g : Over) (c : After-answer g) (d : Contents) (v : Transaction) → HasTransaction d (Some c.args.session) (Some v)
    → asks c.args.context.policy.now c.args.state.now (Some v) (reading c.args.line.now) ≡ false → c.answer.new.vault ≡ c.args.vault.now
unasked g c d v sits none =
    c.answer.ensures.unasked d sits.0 sits.1 (subst (λ (w : Transaction). transaction_asks c.args.context.policy.now w (reading c.args.line.now) ≡ false) sits.2 none)

pub returns-then-is_quit-clause-answered : goal.returns-then-is_quit-clause-answered
returns-then-is_quit-clause-answered g c d v held clean sits =
    let w = c.in_ok-answered.answered.outcome in
    let did = c.in_ok-answered.ensures in
    let p = c.args.context.policy.now in
    let x = c.args.line.now in
    let s = c.args.session in
    let q : is_quit (reading x) ≡ true = sym c.is_quit.ensures ∙ c.if-is_quit.true in
    let so = did.answered d sits.0 held clean sits.1 in
    record {
      owed = subst (λ (v : Transaction). OwesReply d (session_if true c.answer.new.session) c.answer.new.output (transaction_reply w p v x)) (sym sits.2)
          (subst (λ b. OwesReply d (session_if b c.answer.new.session) c.answer.new.output (transaction_reply w p (transaction_of s sits.0) x)) q so.owed);
      state = search rules;
      session = subst (λ b. SessionAfter b (logs_in (reading x) (Says (transaction_reply w p v x)) c.args.state.now.user) d p c.args.state.now.removals (transaction_reply w p v x) (Some s) None)
          (sym q) refl;
      held = so.held;
      may = λ failed. subst (λ (v : Transaction). transaction_asks p v (reading x) ≡ true) (sym sits.2) (so.may failed);
      cause = so.cause;
      account = state_told d p s v w c.args.state.now.user x _ sits (λ failed. subst (λ (v : Transaction). transaction_asks p v (reading x) ≡ true) (sym sits.2) (so.may failed))
          (subst (λ (v : Transaction). c.in_ok-answered.answered.account ≡ transaction_account w p s (reading x) (Says (transaction_reply w p v x)) (named_in v (reading x))) (sym sits.2)
          (did.account d sits.0 sits.1));
    }

pub returns-clause-answered : goal.returns-clause-answered
returns-clause-answered g c d v held clean sits =
    let w = c.in_ok-answered.answered.outcome in
    let did = c.in_ok-answered.ensures in
    let p = c.args.context.policy.now in
    let x = c.args.line.now in
    let s = c.args.session in
    let q : is_quit (reading x) ≡ false = sym c.is_quit.ensures ∙ c.if-is_quit.false in
    let so = did.answered d sits.0 held clean sits.1 in
    record {
      owed = subst (λ (v : Transaction). OwesReply d (session_if false c.answer.new.session) c.answer.new.output (transaction_reply w p v x)) (sym sits.2)
          (subst (λ b. OwesReply d (session_if b c.answer.new.session) c.answer.new.output (transaction_reply w p (transaction_of s sits.0) x)) q so.owed);
      state = search rules;
      session = subst (λ (name : Option LoginName). SessionAfter (is_quit (reading x)) name d p c.args.state.now.removals (transaction_reply w p v x) (Some s) (Some c.answer.new.session))
          (sym (transaction_no_login p v w x c.args.state.now.user))
          (subst (λ b. SessionAfter b None d p c.args.state.now.removals (transaction_reply w p v x) (Some s) (Some c.answer.new.session)) (sym q)
          (subst (λ (v : Transaction). GoesOn (transaction_reply w p v x) s c.answer.new.session) (sym sits.2) so.session));
      held = so.held;
      may = λ failed. subst (λ (v : Transaction). transaction_asks p v (reading x) ≡ true) (sym sits.2) (so.may failed);
      cause = so.cause;
      account = state_told d p s v w c.args.state.now.user x _ sits (λ failed. subst (λ (v : Transaction). transaction_asks p v (reading x) ≡ true) (sym sits.2) (so.may failed))
          (subst (λ (v : Transaction). c.in_ok-answered.answered.account ≡ transaction_account w p s (reading x) (Says (transaction_reply w p v x)) (named_in v (reading x))) (sym sits.2)
          (did.account d sits.0 sits.1));
    }

pub returns-in_err-answered-clause-err : goal.returns-in_err-answered-clause-err
returns-in_err-answered-clause-err g c = err_or_not c.from_residual.result (record { held = c.in_err-answered.ensures.err; locks = λ d. refl })

pub returns-then-is_quit-clause-locks : goal.returns-then-is_quit-clause-locks
returns-then-is_quit-clause-locks g c = search rules

pub returns-in_err-answered-clause-unasked : goal.returns-in_err-answered-clause-unasked
returns-in_err-answered-clause-unasked g c = unasked g (goal.at.returns-in_err-answered-clause-unasked g c).After-answer

pub returns-then-is_quit-clause-unasked : goal.returns-then-is_quit-clause-unasked
returns-then-is_quit-clause-unasked g c = unasked g (goal.at.returns-then-is_quit-clause-unasked g c).After-answer

pub returns-clause-unasked : goal.returns-clause-unasked
returns-clause-unasked g c = unasked g (goal.at.returns-clause-unasked g c).After-answer
