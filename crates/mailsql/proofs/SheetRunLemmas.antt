-- The sheets of a text, added one after the other.
use Rattle.std.proofs.Common.{◌≡◌, ℕ, ◌+◌, ◌-◌, ◌<◌, ◌≤◌, ℤ, pos, subst, List, [], ◌∷◌, ◌++◌, Bool, true, false, cond, refl, sym, ap, ◌∙◌, arith, append_assoc, append-nil}
use Rattle.sqlite_value.specs.declared.value.Value.TheVariants.{Int, Blob}
use Rattle.sqlite_trees.specs.Tree.{Trees}
use Rattle.sqlite_trees.specs.declared.store.Store.{Ghosts}
use Rattle.sqlite.specs.declared.error.Error.{Error}
use Rattle.sqlite.specs.Held.{Held}
use Rattle.sqlite.specs.State.{State, HasCleanDisk, Survives}
use Rattle.sqlite.proofs.StateLemmas.{survives_then}
use Rattle.mailsql.specs.Rows.{Rows, rows_in, IsReady, Changes, MayLeave}
use Rattle.mailsql.specs.Changes.{AddsSheet, AddsSheets, AddsFirstSheets, AddsSomeSheets, AddsSheetsFrom, AddsRest, AddsSomeRest}
use Rattle.mailsql.specs.Sheets.{sheet_count, sheet_at, octets_at, sheets_from}
use Rattle.mailsql.specs.Statements.{add_sheet_text}
use Rattle.mailsql.specs.Errors.{FailsAfter, FailsToAddRest, FailsToAddSheets}
use Rattle.mailsql.proofs.ChainLemmas.{changes_then}
use Rattle.mailsql.proofs.CutLemmas.{one_more_from}

-- what a connection commits by itself is what it sees
committed_seen : (b : Bool) (s : State) → s.in_transaction ≡ b → (s.in_transaction ≡ false → s.now ≡ s.committed) → s.committed ≡ cond s.in_transaction s.committed s.now
committed_seen true s is settled = rw is refl
committed_seen false s is settled = rw is (sym (settled is))

-- the sheets from one place up to another were added, one after the other
pub record HasAdded (mail : ℤ) (text : List ℕ) (from place : ℕ) (first now : State) : Type 0 where
  pub low : from ≤ place
  pub high : place - from ≤ sheet_count text - from
  pub survives : Survives first now (MayLeave (AddsSomeRest from mail text) first)
  pub does : HasCleanDisk now → IsReady first → Changes (AddsSheetsFrom from (place - from) mail text) first now

module _ (mail : ℤ) (text : List ℕ) (from : ℕ) where
  pub none_added : (none : ℕ) → none ≡ 0 → (s : State) → IsReady s → (s.in_transaction ≡ false → s.now ≡ s.committed) → Changes (AddsSheetsFrom from none mail text) s s
  none_added none zero s ready settled =
      record {
        change = ap (λ l. let r : Rows = record (rows_in s.now.trees) { sheets = l } in r)
            (sym (append-nil (rows_in s.now.trees).sheets) ∙ ap (λ n. (rows_in s.now.trees).sheets ++ sheets_from from n mail text) (sym zero));
        kept = ready.1;
        shown = record { was_open = ready.0; is_open = ready.0; now_is = refl; committed_is = committed_seen s.in_transaction s refl settled; mode = refl };
      }

  one_more : (n next place : ℕ) → n + 1 ≡ next → from + n ≡ place → (a b c : Rows) → AddsSheetsFrom from n mail text a b → AddsSheet (sheet_at mail text place) b c
      → AddsSheetsFrom from next mail text a c
  one_more n next place is at a b c p q =
      q ∙ ap (λ (r : Rows). let w : Rows = record r { sheets = r.sheets ++ sheet_at mail text place ∷ [] } in w) p
      ∙ ap (λ l. let w : Rows = record a { sheets = l } in w)
      (append_assoc a.sheets (sheets_from from n mail text) (sheet_at mail text place ∷ [])
      ∙ ap (λ l. a.sheets ++ l) (sym (one_more_from mail text from n place at) ∙ ap (λ k. sheets_from from k mail text) is))

  module _ (first mid last : State) (n next place : ℕ) (is : n + 1 ≡ next) (at : from + n ≡ place) (low : place < sheet_count text) where
    pub added : Changes (AddsSheetsFrom from n mail text) first mid → (IsReady mid → Changes (AddsSheet (sheet_at mail text place)) mid last) → Changes (AddsSheetsFrom from next mail text) first last
    added = changes_then (AddsSheetsFrom from n mail text) (AddsSheet (sheet_at mail text place)) (AddsSheetsFrom from next mail text) (one_more n next place is at) first mid last

    pub stops_between : (HasCleanDisk mid → IsReady first → Changes (AddsSheetsFrom from n mail text) first mid)
        → Survives first mid (MayLeave (AddsSomeRest from mail text) first) → Survives mid last (MayLeave (AddsSheet (sheet_at mail text place)) mid)
        → Survives first last (MayLeave (AddsSomeRest from mail text) first)
    stops_between does one two =
        survives_then first mid last _ _ _ (λ _ db may. may)
        (λ clean db may ready.
        let clean1 : HasCleanDisk mid = omega (arith, two.clean) in
        let p = does clean1 ready in
        let it = may (p.shown.is_open, p.kept) in
        (sym p.shown.mode ∙ it.0, (next, omega arith, one_more n next place is at _ _ _ p.change it.1))) one two

-- the sheet at the place was added after those before it
pub added_at : (mail : ℤ) (text : List ℕ) (from place : ℕ) (first mid last : State) → place < sheet_count text → HasAdded mail text from place first mid
    → Survives mid last (MayLeave (AddsSheet (sheet_at mail text place)) mid)
    → (HasCleanDisk last → IsReady mid → Changes (AddsSheet (sheet_at mail text place)) mid last)
    → HasAdded mail text from (place + 1) first last
added_at mail text from place first mid last below has stop made =
    let n = place - from in
    let is : n + 1 ≡ place + 1 - from = omega (arith, has.low) in
    let at : from + n ≡ place = omega (arith, has.low) in
    record {
      low = omega (arith, has.low);
      high = omega (arith, has.low);
      survives = stops_between mail text from first mid last n (place + 1 - from) place is at below has.does has.survives stop;
      does = λ clean ready.
          let clean1 : HasCleanDisk mid = omega (arith, stop.clean, clean) in
          added mail text from first mid last n (place + 1 - from) place is at below (has.does clean1 ready) (made clean);
    }

-- ---- all of them, from place 0 on

module _ (mail : ℤ) (text : List ℕ) where
  pub rest_is_all : (count : ℕ) → count - 0 ≡ count
  rest_is_all count = omega arith

  pub all_of_rest : (a b : Rows) → AddsRest 0 mail text a b → AddsSheets mail text a b
  all_of_rest a b it = rw (rest_is_all (sheet_count text)) at it

  pub some_of_rest : (s : State) (db : Trees) → MayLeave (AddsSomeRest 0 mail text) s db → MayLeave (AddsSomeSheets mail text) s db
  some_of_rest s db may ready =
      let it = may ready in
      (it.0, (it.1.0, subst (λ (n : ℕ). it.1.0 ≤ n) (rest_is_all (sheet_count text)) it.1.1, it.1.2))

  pub all_changed : (first last : State) → Changes (AddsRest 0 mail text) first last → Changes (AddsSheets mail text) first last
  all_changed first last it = record { change = all_of_rest _ _ it.change; kept = it.kept; shown = it.shown }

  pub fails_from_first : {S : Type 0} (g : Ghosts S) (old new : Held S) (e : Error) → FailsToAddRest g mail text 0 old new e → FailsToAddSheets g mail text old new e
  fails_from_first g old new e it =
      let n = it.0 in
      let zero : 0 + n ≡ n = omega arith in (
        n,
        subst (λ (k : ℕ). k < sheet_count text) zero it.1,
        subst (λ (k : ℕ). FailsAfter g (AddsFirstSheets n mail text) add_sheet_text (Int mail ∷ Int (pos k) ∷ Blob (octets_at text k) ∷ []) old new e) zero it.2,
      )
