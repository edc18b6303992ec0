use Rattle.std.proofs.Common.{◌∙◌, ap, map}
use Rattle.office.specs.Answers.{ListSessions}
use Rattle.office.specs.Events.{Admin}
use Rattle.office.specs.Seen.{session_seen}
use Rattle.office.proofs.SessionList.{kept_sessions, sessions_listed, list_lacked}
use Rattle.office.proofs.AfterEvents.{answered_after}
use Rattle.office.proofs.office.Office.list_sessions.Goals as goal

pub returns-in-Ok-clause-after : goal.returns-in-Ok-clause-after
returns-in-Ok-clause-after g c =
    answered_after g.V.Vault c.args.self.now (Admin ListSessions) _ tt (g.met.V.Vault.settled _) (λ T st. sessions_listed T st.keeps _ (map session_seen c.new.result)
    (ap (map session_seen) c.new.ensures ∙ (c.in-Ok.ensures.rows ∙ kept_sessions _ c.args.self.now T st c.sessions_of.ensures.ordered)))

pub returns-in-Err-clause-after : goal.returns-in-Err-clause-after
returns-in-Err-clause-after g c = answered_after g.V.Vault c.args.self.now (Admin ListSessions) _ tt (g.met.V.Vault.settled _) (λ T st. list_lacked T st.keeps _)
