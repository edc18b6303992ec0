use Rattle.office.specs.Seen.{event_seen, outcome_seen}
use Rattle.office.specs.Stopping.{with_it_done}
use Rattle.office.proofs.Obeying.{if_ok_so}
use Rattle.office.proofs.StoppingLines.{keeps_left, keeps_with_it, either_so}
use Rattle.office.proofs.stop_laws.step_and_open.Goals as goal

pub returns : goal.returns
returns g c = if_ok_so _ c.open-opened.result c.open-opened.ensures.opened (λ o opens T left st clean up may held fresh.
    let w = outcome_seen c.step-outcome.result in
    let e = event_seen c.args.event in
    either_so w
    (λ says. opens T (keeps_left left T st.keeps held says) fresh)
    (λ says. opens (with_it_done T e w) (keeps_with_it left T e w (c.step-outcome.ensures.stands T st clean).keeps held says) fresh)
    (c.step-outcome.ensures.stop T st clean up left may))
