-- What queries tell beside a deposit: of one query, and of two.
use Rattle.std.specs.Prelude.{⊤, IfOk}
use Rattle.std.proofs.Common.{Result, Ok, Err, subst, sym}
use Rattle.sqlite_trees.specs.declared.store.Store.{Ghosts}
use Rattle.sqlite.specs.Held.{Held, state}
use Rattle.sqlite.specs.Effect.{Database}
use Rattle.sqlite.specs.declared.error.Error.{Error}
use Rattle.sqlite.specs.State.{HasCleanDisk}
use Rattle.vault.specs.Changes.{Contents, AreSound}
use Rattle.mailsql.specs.Rows.{Rows, HasTables, rows_in}
use Rattle.sqlvault.specs.Frame.{Sees}
use Rattle.sqlvault.specs.Arrivals.{Arrival, ShowsPart}
use Rattle.sqlvault.specs.UnderWay.{TellsBeside}
use Rattle.sqlvault.proofs.AdoptLemmas.{tables_on}

-- a query tells of the contents what it tells of the rows
pub tells_learnt : {S A : Type 0} (store : Ghosts S) (old new : Held S) (r : Result A Error)
    (Spared : Arrival → Type 0) (Seen : Rows → A → Type 0) (Told : Contents → A → Type 0)
    → (HasCleanDisk (state store new) → HasTables (state store old)
    → IfOk r (Seen (rows_in (state store old).now.trees)))
    → ((a : Arrival) (c : Contents) (rows : Rows) (shown : ShowsPart a c rows) (x : A) → Spared a
    → Seen rows x → Told c x)
    → TellsBeside store old new Spared (λ c. IfOk r (Told c))
tells_learnt store old new (Ok x) Spared Seen Told seen tell = record {
  told = λ clean tables a c spared shown. tell a c (rows_in (state store old).now.trees) shown x spared
      (seen clean tables);
}
tells_learnt store old new (Err e) Spared Seen Told seen tell = record {
  told = λ clean tables a c spared shown. tt;
}

-- what was told, in other words
pub tells_said : {S : Type 0} {store : Ghosts S} {old new : Held S} {Spared : Arrival → Type 0}
    {Told Said : Contents → Type 0} → TellsBeside store old new Spared Told
    → ((c : Contents) → AreSound c → Told c → Said c) → TellsBeside store old new Spared Said
tells_said a say = record {
  told = λ clean tables x c spared shown. say c shown.keeps.sound
      (a.told clean tables x c spared shown);
}

-- a deposit that is spared more
pub tells_spared : {S : Type 0} {store : Ghosts S} {old new : Held S} {Spared Less : Arrival → Type 0}
    {Told : Contents → Type 0} → ((a : Arrival) → Less a → Spared a)
    → TellsBeside store old new Spared Told → TellsBeside store old new Less Told
tells_spared less a = record {
  told = λ clean tables x c spared shown. a.told clean tables x c (less x spared) shown;
}

-- two queries, of which the first has its answer
pub tells_then : {S : Type 0} {store : Ghosts S} {old mid new : Held S} {Spared : Arrival → Type 0}
    {Own : Type 0} {Told More : Contents → Type 0} → Sees store old mid ⊤ Told
    → TellsBeside store old mid Spared Told → Sees store mid new Own More
    → TellsBeside store mid new Spared More
    → TellsBeside store old new Spared (λ c. Told c × More c)
tells_then {store = store} {old = old} {mid = mid} sees a later b = record {
  told = λ clean tables x c spared shown.
      let before = later.clean clean in
      let first = sees.same before tables tt in (
        a.told before tables x c spared shown,
        b.told clean (tables_on (state store old) (state store mid) first tables) x c spared
            (subst (λ (d : Database). ShowsPart x c (rows_in d.trees)) (sym first.0.now_is) shown),
      );
}
