use Rattle.std.proofs.Common.{◌≡◌, ◌++◌, ◌∙◌, true, None, refl, rules}
use Rattle.popline.specs.Replies.{bytes_of}
use Rattle.office.specs.History.{Says}
use Rattle.office.specs.Connections.{reading}
use Rattle.office.specs.Accounts.{line_account, let_in_by}
use Rattle.office.specs.declared.login_state.LineOutcome.TheVariants as outcome
use Rattle.office.specs.Kept.{LineContext, authorization_asks}
use Rattle.office.specs.Answered.{context_over, reply_of}
use Rattle.office.proofs.Accounts.{authorization_told}
use Rattle.office.proofs.Failing.{begins_none, refused_login}
use Rattle.office.proofs.Owing.{owes_put}
use Rattle.vault.proofs.CallLemmas.{looks_once}
use Rattle.office.specs.Stopping.{WasDone}
use Rattle.office.proofs.Frames.{not_ok}
use Rattle.office.proofs.AfterLines.{err_or_not}
use Rattle.office.proofs.lines.authorization_answer.Goals as goal
use Rattle.office.proofs.lines.authorization_answer.Goals.{in-Ok, in-Err}

pub returns-clause-answered : goal.returns-clause-answered
returns-clause-answered g c d held clean =
    let x = c.args.line.now in
    let t = c.args.state.now in
    let p = c.args.context.policy.now in
    let j : LineContext = context_over d c.args.context c.args.locks.now in
    elim c.match-reply_to.branch [
      | in-Ok w ↦
          let put : c.say.new.self ≡ record c.args.output.now { ready = c.args.output.now.ready ++ bytes_of (reply_of c.match-reply_to.reply.3 j t None x) } = search rules in
          record {
            owed = owes_put d c.match-reply_to.reply.1 c.args.output.now c.say.new.self _ c.requires put;
            state = search rules;
            session = search rules;
            held = c.reply_to.ensures.looks.held d clean held;
            may = search rules;
            cause = search rules;
            account =
                let reply = reply_of c.match-reply_to.reply.3 j t None x in
                let told : c.of_line-account.result ≡ line_account (reading x) (Says reply) (let_in_by p (reading x) t.user reply) t.user None = search rules in
                told ∙ authorization_told c.match-reply_to.reply.3 p (reading x) reply t.user;
          }
      | in-Err w ↦
          let failed : c.match-reply_to.reply.3 ≡ outcome.Failed = search rules in
          let asked : authorization_asks t (reading x) ≡ true = search rules in
          let told = refused_login j t x asked in
          let nobody : c.match-reply_to.reply.1 ≡ None = search rules in
          let none = begins_none (reading x) t.user d p t.removals in
          let put : c.say.new.self ≡ record c.args.output.now { ready = c.args.output.now.ready ++ bytes_of (reply_of c.match-reply_to.reply.3 j t None x) } = rw (failed, told) (search rules) in
          record {
            owed = owes_put d c.match-reply_to.reply.1 c.args.output.now c.say.new.self _ c.requires put;
            state = rw (failed, told) (search rules);
            session = rw (failed, nobody, told) none;
            held = c.reply_to.ensures.looks.held d clean held;
            may = λ f. asked;
            cause = search rules;
            account =
                let reply = reply_of c.match-reply_to.reply.3 j t None x in
                let said : c.of_line-account.result ≡ line_account (reading x) (Says reply) (let_in_by p (reading x) t.user reply) t.user None = rw (failed, told) (search rules) in
                said ∙ authorization_told c.match-reply_to.reply.3 p (reading x) reply t.user;
          }
    ]

pub returns-in-Err-NoMemory-clause-err : goal.returns-in-Err-NoMemory-clause-err
returns-in-Err-NoMemory-clause-err g c = record { held = λ d held clean. c.reply_to.ensures.looks.held d clean held; locks = search rules }

pub returns-in_err-say-clause-err : goal.returns-in_err-say-clause-err
returns-in_err-say-clause-err g c = err_or_not c.from_residual.result (record { held = λ d held clean. c.reply_to.ensures.looks.held d clean held; locks = λ d. refl })

pub returns-in_err-lock-clause-err : goal.returns-in_err-lock-clause-err
returns-in_err-lock-clause-err g c = err_or_not c.from_residual-in_err-lock.result
    (record { held = λ d held clean. c.reply_to.ensures.looks.held d clean held; locks = c.in_err-lock.ensures.err })

pub returns-in-Err-NoMemory-clause-looks : goal.returns-in-Err-NoMemory-clause-looks
returns-in-Err-NoMemory-clause-looks g c =
    looks_once g.V.Vault c.reply_to.ensures.looks (λ none. absurd none)

pub returns-in_err-say-clause-looks : goal.returns-in_err-say-clause-looks
returns-in_err-say-clause-looks g c = looks_once g.V.Vault c.reply_to.ensures.looks
    (λ own. absurd (not_ok c.from_residual.result _ (λ r. WasDone r.0.outcome) c.from_residual.ensures.1 own))

pub returns-in_err-lock-clause-looks : goal.returns-in_err-lock-clause-looks
returns-in_err-lock-clause-looks g c = looks_once g.V.Vault c.reply_to.ensures.looks
    (λ own. absurd (not_ok c.from_residual-in_err-lock.result _ (λ r. WasDone r.0.outcome)
    c.from_residual-in_err-lock.ensures.1 own))

pub returns-clause-looks : goal.returns-clause-looks
returns-clause-looks g c = elim c.match-reply_to.branch [
  | in-Ok w ↦ looks_once g.V.Vault c.reply_to.ensures.looks (λ own. search rules)
  | in-Err w ↦
      let failed : c.match-reply_to.reply.3 ≡ outcome.Failed = search rules in
      looks_once g.V.Vault c.reply_to.ensures.looks (λ own. absurd (rw failed at own))
]
