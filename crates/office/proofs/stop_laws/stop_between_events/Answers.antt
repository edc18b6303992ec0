use Rattle.office.proofs.Stopping.{settled_leaves}
use Rattle.office.proofs.stop_laws.stop_between_events.Goals as goal

pub returns : goal.returns
returns g c T st clean up = settled_leaves T st.keeps (λ d. g.met.V.Vault.settled _ d clean up)
