use Rattle.std.proofs.Common.{sym, ◌∙◌}
use Rattle.office.specs.Kept.{Kept}
use Rattle.office.proofs.SmallLemmas.{no_some}
use Rattle.office.proofs.MeetingLocks.{waits_so}
use Rattle.office.proofs.AfterEvents.{kept_at, closed_at}
use Rattle.office.proofs.office.Office.waits.Goals as goal

pub returns-in-Some : goal.returns-in-Some
returns-in-Some g c T piece st is =
    let n = c.args.c in
    let k : Kept = c.in-Some.connection.now in
    let o = c.args.self.now in
    let m = kept_at T n st k (sym c.in-Some.ensures.value) in
    c.may_wait.ensures ∙ waits_so st.keeps.contents T n piece k m c.args.login.now is o.locks st.locks o.moment c.args.seconds st.moment

pub returns-in-None : goal.returns-in-None
returns-in-None g c T piece st is =
    let closed = closed_at T c.args.c st (sym c.in-None.ensures.value) in
    absurd (no_some c.args.login.now (rw closed at is))
