-- What is found of the rows after queries that changed nothing is so of the rows before them.
use Rattle.std.proofs.Common.{◌≡◌, List, Result, Ok, sym, subst}
use Rattle.sqlite_trees.specs.declared.store.Store.{Ghosts}
use Rattle.sqlite.specs.Held.{Held, state}
use Rattle.sqlite.specs.State.{State, HasCleanDisk}
use Rattle.vault.specs.declared.record.Receipt.{Receipt}
use Rattle.mailsql.specs.Apart.{AreApart}
use Rattle.mailsql.specs.Rows.{Rows, HasTables, rows_in}
use Rattle.sqlvault.specs.Frame.{Asks}
use Rattle.sqlvault.specs.Parts.{DepositsAre}
use Rattle.sqlvault.specs.Stored.{Stays}
use Rattle.sqlvault.proofs.AdoptLemmas.{tables_on, rows_on}
use Rattle.sqlvault.proofs.StayLemmas.{tables_stay, rows_stay}

-- whatever is said of them
pub said_behind : {S A E : Type 0} {store : Ghosts S} {old new : Held S} {x : A}
    (P : Rows → Type 0) → (let r : Result A E = Ok x in Asks store old new r)
    → HasCleanDisk (state store new) → HasTables (state store old)
    → AreApart (rows_in (state store old).now.trees)
    → (HasTables (state store new) → AreApart (rows_in (state store new).now.trees)
    → P (rows_in (state store new).now.trees)) → P (rows_in (state store old).now.trees)
said_behind {store = store} {old = old} {new = new} P a clean tables apart said =
    let same = a.same clean tables in
    let rows = rows_on (state store old) (state store new) same in
    subst P rows (said (tables_on (state store old) (state store new) same tables)
    (subst AreApart (sym rows) apart))

-- what is said of rows and their deposits after parts that changed nothing is so of the rows before
-- them; `x` was answered, and tested to be `y`
pub told_behind : {A : Type 0} (P : Rows → A → Type 0) (old new : State) (deposits : List Receipt)
    {x y : A} → x ≡ y → Stays old new → HasTables old
    → DepositsAre (rows_in old.now.trees) deposits
    → (HasTables new → DepositsAre (rows_in new.now.trees) deposits → P (rows_in new.now.trees) x)
    → P (rows_in old.now.trees) y
told_behind P old new deposits {x = x} is a h d told =
    let same = rows_stay old new a in
    subst (P (rows_in old.now.trees)) is (subst (λ r. P r x) same (told (tables_stay old new a h)
    (subst (λ r. DepositsAre r deposits) (sym same) d)))
