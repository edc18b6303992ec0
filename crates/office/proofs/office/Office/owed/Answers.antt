use Rattle.std.proofs.Common.{◌≡◌, true, Some, length, min, sym, ◌∙◌, ap, subst, refl, arith, nat_cmp}
use Rattle.std.proofs.lemmas.List.{length-take}
use Rattle.std.specs.BTreeMap.{get}
use Rattle.office.specs.Trace.{most_lent, rest, is_open, IsLent}
use Rattle.office.specs.Kept.{Kept}
use Rattle.office.specs.Events.{Trace}
use Rattle.office.specs.Stands.{Matches, StandsFor, seen, untaken_of, length_of_lent}
use Rattle.office.proofs.Owing.{lent_is, lent_exactly}
use Rattle.office.proofs.AfterEvents.{kept_at, closed_at}
use Rattle.office.proofs.office.Office.owed.Given.{Over}
use Rattle.office.proofs.office.Office.owed.Goals.{After-owed}
use Rattle.office.proofs.office.Office.owed.Goals as goal

-- what is kept of the connection matches the trace
matches : (g : Over) (c : After-owed g) (T : Trace) (st : StandsFor g.V.Vault.holds c.args.self.now T) → Matches st.keeps.contents (seen T c.args.c) c.in-Some.connection.now
matches g c T st = kept_at T c.args.c st c.in-Some.connection.now (sym c.in-Some.ensures.value)

-- all that is owed isn't taken yet
untaken : (g : Over) (c : After-owed g) (T : Trace) → StandsFor g.V.Vault.holds c.args.self.now T → rest T c.args.c ≡ untaken_of (seen T c.args.c)
untaken g c T st = let opened : is_open T c.args.c ≡ true = (matches g c T st).opened in rw opened refl

pub returns-in-Some-clause-lent : goal.returns-in-Some-clause-lent
returns-in-Some-clause-lent g c T st =
    let it = (goal.at.returns-in-Some-clause-lent g c).After-owed in
    let s = seen T c.args.c in
    let k : Kept = c.in-Some.connection.now in
    subst (λ xs. IsLent xs c.owed.result.now) (sym (untaken g it T st)) (subst (λ xs. IsLent (untaken_of s) xs) (sym c.owed.ensures)
    (lent_is st.keeps.contents k.session k.output (untaken_of s) (matches g it T st).owed))

pub returns-in-Some-clause-count : goal.returns-in-Some-clause-count
returns-in-Some-clause-count g c =
    let found : get nat_cmp c.args.self.now.connections c.args.c ≡ Some c.in-Some.connection.now = sym c.in-Some.ensures.value in
    ap length c.owed.ensures ∙ sym (ap length_of_lent found)

pub returns-in-Some-clause-most : goal.returns-in-Some-clause-most
returns-in-Some-clause-most g c =
    let size = ap length c.owed.ensures ∙ length-take most_lent c.in-Some.connection.now.output.ready in
    omega (arith, size)

pub returns-in-Some-clause-exact : goal.returns-in-Some-clause-exact
returns-in-Some-clause-exact g c T st =
    let it = (goal.at.returns-in-Some-clause-exact g c).After-owed in
    let here = c.in-Some.connection.now in
    ap length c.owed.ensures ∙ (lent_exactly st.keeps.contents here.session here.output (untaken_of (seen T c.args.c)) (matches g it T st).owed
    ∙ ap (λ xs. min (length xs) most_lent) (sym (untaken g it T st)))

pub returns-in-None-clause-exact : goal.returns-in-None-clause-exact
returns-in-None-clause-exact g c T st =
    let closed = closed_at T c.args.c st (sym c.in-None.ensures.value) in
    rw closed refl
