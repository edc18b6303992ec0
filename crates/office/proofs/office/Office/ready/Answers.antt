use Rattle.std.proofs.Common.{◌≡◌, true, sym}
use Rattle.office.specs.Replying.{is_empty}
use Rattle.office.specs.Kept.{Kept}
use Rattle.office.specs.Trace.{is_open}
use Rattle.office.specs.Stands.{seen, untaken_of}
use Rattle.office.proofs.Owing.{same_empty}
use Rattle.office.proofs.AfterEvents.{kept_at}
use Rattle.office.proofs.office.Office.ready.Goals as goal

pub returns-in-Some : goal.returns-in-Some
returns-in-Some g c T st =
    let n = c.args.c in
    let s = seen T n in
    let k : Kept = c.in-Some.connection.now in
    let ct = st.keeps.contents in
    let m = kept_at T n st k (sym c.in-Some.ensures.value) in
    let opened : is_open T n ≡ true = m.opened in
    let same : c.owes_nothing.result ≡ is_empty (untaken_of s) = same_empty ct k.session k.output (untaken_of s) m.owed c.owes_nothing.result
    (sym c.owes_nothing.ensures.value) c.owes_nothing.ensures.nothing in
    rw opened same
