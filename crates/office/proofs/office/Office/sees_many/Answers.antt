use Rattle.std.proofs.Common.{length, sym, ◌∙◌, subst}
use Rattle.office.specs.Kept.{Kept}
use Rattle.office.specs.Stands.{IsKeptFor, IsOver, seen}
use Rattle.office.specs.Quitting.{are_many}
use Rattle.office.proofs.Many.{none_live, sees_alike}
use Rattle.office.proofs.AfterEvents.{kept_at}
use Rattle.office.proofs.office.Office.sees_many.Goals as goal

pub returns-in-None : goal.returns-in-None
returns-in-None g c T st =
    let s = seen T c.args.c in
    let over : IsOver s = subst (IsKeptFor st.keeps.contents s) (sym c.in-None.ensures.value) (st.connections c.args.c) in
    none_live s.live (are_many (length s.view)) over.authorization

pub returns-in-Some : goal.returns-in-Some
returns-in-Some g c T st =
    let k : Kept = c.in-Some.connection.now in
    let m = kept_at T c.args.c st k (sym c.in-Some.ensures.value) in
    c.sees_many.ensures ∙ sees_alike st.keeps.contents (seen T c.args.c) k.session m.session
