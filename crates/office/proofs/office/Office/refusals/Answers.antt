use Rattle.std.proofs.Common.{◌≡◌, true, sym, ◌∙◌, refl}
use Rattle.office.specs.Kept.{Kept}
use Rattle.office.specs.Trace.{is_open}
use Rattle.office.specs.Stands.{seen}
use Rattle.office.proofs.AfterEvents.{kept_at, closed_at}
use Rattle.office.proofs.office.Office.refusals.Goals as goal

pub returns-in-Some : goal.returns-in-Some
returns-in-Some g c T st =
    let n = c.args.c in
    let s = seen T n in
    let k : Kept = c.in-Some.connection.now in
    let ct = st.keeps.contents in
    let m = kept_at T n st k (sym c.in-Some.ensures.value) in
    let opened : is_open T n ≡ true = m.opened in
    let counted = c.refusals.ensures ∙ m.failures in
    rw opened counted

pub returns-in-None : goal.returns-in-None
returns-in-None g c T st =
    let closed = closed_at T c.args.c st (sym c.in-None.ensures.value) in
    rw closed refl
