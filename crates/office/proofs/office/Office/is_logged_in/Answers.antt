use Rattle.std.proofs.Common.{◌≡◌, None, sym, ◌∙◌, subst, nat_cmp}
use Rattle.std.specs.BTreeMap.{get}
use Rattle.office.specs.Kept.{Kept}
use Rattle.office.specs.Stands.{IsOver, IsKeptFor, seen}
use Rattle.office.proofs.MeetingLocks.{session_live}
use Rattle.office.proofs.AfterEvents.{kept_at}
use Rattle.office.proofs.office.Office.is_logged_in.Goals as goal

pub returns-in-Some : goal.returns-in-Some
returns-in-Some g c T st =
    let n = c.args.c in
    let s = seen T n in
    let k : Kept = c.in-Some.connection.now in
    let ct = st.keeps.contents in
    let m = kept_at T n st k (sym c.in-Some.ensures.value) in
    c.is_in_session.ensures ∙ session_live ct s k.session m.session

pub returns-in-None : goal.returns-in-None
returns-in-None g c T st =
    let n = c.args.c in
    let ct = st.keeps.contents in
    let found : get nat_cmp c.args.self.now.connections n ≡ None = sym c.in-None.ensures.value in
    let over : IsOver (seen T n) = subst (IsKeptFor ct (seen T n)) found (st.connections n) in
    sym over.authorization
