use Rattle.std.proofs.Common.{◌≡◌, ◌*◌, ◌-◌, ℕ, ℤ, List, [], ◌∷◌, take, drop, pos, subst, to_z, to_z-of_z, w64, arith}
use Rattle.std.proofs.lemmas.Int.{ints}
use Rattle.std.specs.Prelude.{IfErr}
use Rattle.sqlite_value.specs.declared.value.Value.TheVariants.{Int, Blob}
use Rattle.sqlite.specs.Held.{state}
use Rattle.sqlite.specs.State.{Survives}
use Rattle.mailsql.specs.Rows.{Changes, MayLeave}
use Rattle.mailsql.specs.Changes.{AddsSheet}
use Rattle.mailsql.specs.Sheets.{octets_at}
use Rattle.mailsql.specs.Statements.{add_sheet_text}
use Rattle.mailsql.specs.Errors.{FailsToRun}
use Rattle.mailsql.proofs.ResultLemmas.{on_ok_then}
use Rattle.mailsql.proofs.CutLemmas.{cut_short}
use Rattle.mailsql.proofs.sheets.add_sheet_at.Goals as goal

pub returns-clause-ok : goal.returns-clause-ok
returns-clause-ok g c clean ready =
    let cast : to_z w64 c.args.place ≡ pos c.args.place = omega (arith, ints) in
    let octets = cut_short c.args.text.now (c.args.place * 4096) 4096 c.min-end.result c.min-end.ensures in
    let Is : ℤ → List ℕ → Type 0 = λ p o. Changes (AddsSheet (record { mail = c.args.mail; place = p; octets = o })) (state g.S.Store c.args.conn.now) (state g.S.Store c.add_sheet.new.conn) in
    on_ok_then _ (λ (does : Is (to_z w64 c.args.place) (take (c.min-end.result - c.args.place * 4096) (drop (c.args.place * 4096) c.args.text.now))). subst
    (λ (p : ℤ). Is p (octets_at c.args.text.now c.args.place)) cast (subst (λ (o : List ℕ). Is (to_z w64 c.args.place) o) octets does))
    (simp (to_z-of_z, c.ranges.mail) at (c.add_sheet.ensures.ok clean ready))

pub returns-clause-survives : goal.returns-clause-survives
returns-clause-survives g c =
    let cast : to_z w64 c.args.place ≡ pos c.args.place = omega (arith, ints) in
    let octets = cut_short c.args.text.now (c.args.place * 4096) 4096 c.min-end.result c.min-end.ensures in
    let Is : ℤ → List ℕ → Type 0 = λ p o. Survives (state g.S.Store c.args.conn.now) (state g.S.Store c.add_sheet.new.conn)
    (MayLeave (AddsSheet (record { mail = c.args.mail; place = p; octets = o })) (state g.S.Store c.args.conn.now)) in
    subst (λ (p : ℤ). Is p (octets_at c.args.text.now c.args.place)) cast
    (subst (λ (o : List ℕ). Is (to_z w64 c.args.place) o) octets (simp (to_z-of_z, c.ranges.mail) at c.add_sheet.ensures.survives))

pub returns-clause-cause : goal.returns-clause-cause
returns-clause-cause g c clean =
    let cast : to_z w64 c.args.place ≡ pos c.args.place = omega (arith, ints) in
    let octets = cut_short c.args.text.now (c.args.place * 4096) 4096 c.min-end.result c.min-end.ensures in
    let Is : ℤ → List ℕ → Type 0 = λ p o. IfErr c.add_sheet.result
    (FailsToRun add_sheet_text (Int c.args.mail ∷ Int p ∷ Blob o ∷ []) (state g.S.Store c.args.conn.now) (state g.S.Store c.add_sheet.new.conn)) in
    subst (λ (p : ℤ). Is p (octets_at c.args.text.now c.args.place)) cast
    (subst (λ (o : List ℕ). Is (to_z w64 c.args.place) o) octets (simp (to_z-of_z, c.ranges.mail) at (c.add_sheet.ensures.cause clean)))
