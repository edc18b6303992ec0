use Rattle.std.proofs.Common.{◌≡◌, ◌∙◌, ap}
use Rattle.policy.specs.Policy.{Policy, decide}
use Rattle.office.specs.Answers.{Explain}
use Rattle.office.specs.Events.{Admin}
use Rattle.office.specs.History.{in_force}
use Rattle.office.specs.Trace.{history}
use Rattle.office.proofs.AfterEvents.{answered_after}
use Rattle.office.proofs.VaultCalls.{explained}
use Rattle.office.proofs.office.Office.explain.Goals as goal

pub returns : goal.returns
returns g c =
    let clerk = c.args.clerk.now in
    let d = c.args.maildrop.now in
    let class = c.args.class.now in
    answered_after g.V.Vault c.args.self.now (Admin (Explain clerk d class c.args.action)) _ tt (g.met.V.Vault.settled _)
    (λ T st.
    let e : c.decide-decision.result ≡ decide (in_force T.base (history T)) clerk d class c.args.action =
    c.decide-decision.ensures ∙ ap (λ (p : Policy). decide p clerk d class c.args.action) st.policy in
    rw e (explained T st.keeps _ clerk d class c.args.action))
