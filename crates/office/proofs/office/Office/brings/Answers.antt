use Rattle.std.proofs.Common.{◌≡◌, true, false, sym, ◌∙◌, refl}
use Rattle.office.specs.Replying.{is_empty}
use Rattle.office.specs.Kept.{Kept}
use Rattle.office.specs.Trace.{is_open}
use Rattle.office.specs.Stands.{seen, untaken_of}
use Rattle.office.proofs.Owing.{some_owed}
use Rattle.office.proofs.MeetingLocks.{brought_so}
use Rattle.office.proofs.AfterEvents.{kept_at, closed_at}
use Rattle.office.proofs.office.Office.brings.Goals as goal

pub returns : goal.returns
returns g c T st =
    let n = c.args.c in
    let k : Kept = c.in-Some.connection.now in
    let ct = st.keeps.contents in
    let m = kept_at T n st k (sym c.in-Some.ensures.value) in
    let nothing = c.owes_nothing.ensures.nothing c.if-not-owes_nothing.false in
    let p = c.args.piece.now in
    c.brings.ensures ∙ brought_so ct T n p k m nothing

pub returns-in_default : goal.returns-in_default
returns-in_default g c T st =
    let closed = closed_at T c.args.c st (sym c.in_default.ensures.value) in
    rw closed refl

pub returns-then-not-owes_nothing : goal.returns-then-not-owes_nothing
returns-then-not-owes_nothing g c T st =
    let n = c.args.c in
    let s = seen T n in
    let k : Kept = c.in-Some.connection.now in
    let ct = st.keeps.contents in
    let m = kept_at T n st k (sym c.in-Some.ensures.value) in
    let opened : is_open T n ≡ true = m.opened in
    let owes = sym c.owes_nothing.ensures.value ∙ c.if-not-owes_nothing.true in
    let some : is_empty (untaken_of s) ≡ false =
    some_owed ct k.session k.output (untaken_of s) m.owed owes in
    rw (opened, some) refl
