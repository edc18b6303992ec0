use Rattle.std.proofs.Common.{◌≡◌, false, true, sym, ◌∙◌, refl, subst, rules}
use Rattle.office.specs.Answers.{EndSession}
use Rattle.office.specs.Answers as answer
use Rattle.office.specs.Events.{Admin}
use Rattle.office.specs.History.{Done}
use Rattle.office.specs.Locks.{Released}
use Rattle.office.specs.Outcomes as outcome
use Rattle.office.specs.Sessions.{live}
use Rattle.office.specs.Stands.{seen}
use Rattle.office.specs.Trace.{history}
use Rattle.office.proofs.Ending.{ended_stands, end_ends, state_as, nobody_at, nobody_stands}
use Rattle.office.proofs.AfterEvents.{unasked_after}
use Rattle.office.proofs.office.Office.end_session.Goals as goal

pub returns-in-None-clause-after : goal.returns-in-None-clause-after
returns-in-None-clause-after g c =
    unasked_after g.V.Vault c.args.self.now _ (Admin (EndSession c.args.c)) (outcome.Answered answer.NoSuchSession) (g.met.V.Vault.settled _) refl tt
    (λ T st clean.
    let out : live (history T) c.args.c ≡ false = nobody_at st.keeps.contents (seen T c.args.c) _ (st.connections c.args.c) (sym c.login_at.ensures ∙ c.in-None.is) in
    nobody_stands T c.args.c g.V.Vault.holds c.args.self.now _ out st (λ k h. h) refl refl refl refl refl (λ q. refl) (λ d. refl))
    (λ T st.
    let out : live (history T) c.args.c ≡ false = nobody_at st.keeps.contents (seen T c.args.c) _ (st.connections c.args.c) (sym c.login_at.ensures ∙ c.in-None.is) in
    record { tag = Done; may = refl; is = rw out refl })

pub returns-in-Some-clause-after : goal.returns-in-Some-clause-after
returns-in-Some-clause-after g c =
    unasked_after g.V.Vault c.args.self.now _ (Admin (EndSession c.args.c)) (outcome.Answered answer.Ended) (g.met.V.Vault.settled _) refl tt
    (λ T st clean.
    let has_transaction = state_as st.keeps.contents (seen T c.args.c) _ c.in-Some.name (st.connections c.args.c) (sym c.login_at.ensures ∙ c.in-Some.is) in
    ended_stands g.V.Vault.holds c.args.self.now _ T _ _ c.args.c (end_ends T c.args.c has_transaction.alive) st has_transaction.kept has_transaction.is (λ k h. h) refl refl refl refl refl
    c.remove.ensures.updates (subst (λ m. Released m c.args.self.now.locks c.release.new.locks) (sym has_transaction.maildrop) c.release.ensures))
    (λ T st.
    let alive : live (history T) c.args.c ≡ true = (state_as st.keeps.contents (seen T c.args.c) _ c.in-Some.name (st.connections c.args.c) (sym c.login_at.ensures ∙ c.in-Some.is)).alive in
    record { tag = Done; may = refl; is = rw alive refl })

pub returns-in-Some-clause-unasked : goal.returns-in-Some-clause-unasked
returns-in-Some-clause-unasked c = search rules
