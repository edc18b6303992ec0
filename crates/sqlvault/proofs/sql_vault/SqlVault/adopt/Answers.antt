use Rattle.std.proofs.Common.{inl, inr, sym, subst}
use Rattle.sqlite.specs.Held.{state}
use Rattle.sqlvault.specs.Adopts.{IsRefused}
use Rattle.sqlvault.specs.Carries.{IsUncarried}
use Rattle.sqlvault.proofs.AdoptLemmas.{given_back, not_given}
use Rattle.sqlvault.proofs.sql_vault.SqlVault.adopt.Goals as goal

-- ---- a store that is known

pub returns-in-Ok-clause-adopted : goal.returns-in-Ok-clause-adopted
returns-in-Ok-clause-adopted g c clean known = (c.in-Ok.ensures.known clean known).adopts

pub returns-in-Err-clause-adopted : goal.returns-in-Err-clause-adopted
returns-in-Err-clause-adopted g c clean known =
    subst (λ f. IsRefused (state g.S.Store c.args.conn) f) (sym c.fault_of.ensures)
    (c.in-Err.ensures.known clean known).adopts

pub returns-in-Err-clause-stays : goal.returns-in-Err-clause-stays
returns-in-Err-clause-stays g c clean known = (c.in-Err.ensures.known clean known).stays

pub returns-in-Ok-clause-stop : goal.returns-in-Ok-clause-stop
returns-in-Ok-clause-stop g c clean known = (c.in-Ok.ensures.known clean known).stop

pub returns-in-Err-clause-stop : goal.returns-in-Err-clause-stop
returns-in-Err-clause-stop g c clean known = (c.in-Err.ensures.known clean known).stop

-- ---- a store that isn't ours

pub returns-in-Ok-clause-inside : goal.returns-in-Ok-clause-inside
returns-in-Ok-clause-inside g c inside = absurd (not_given (c.in-Ok.ensures.foreign (inl inside)).0)

pub returns-in-Err-clause-inside : goal.returns-in-Err-clause-inside
returns-in-Err-clause-inside g c inside =
    let it = c.in-Err.ensures.foreign (inl inside) in
    given_back c.in-Err.refusal c.fault_of.result it.0 c.fault_of.ensures it.1

pub returns-in-Ok-clause-taken : goal.returns-in-Ok-clause-taken
returns-in-Ok-clause-taken g c out taken meta_rows =
    absurd (not_given (c.in-Ok.ensures.foreign (inr (out, taken, meta_rows))).0)

pub returns-in-Err-clause-taken : goal.returns-in-Err-clause-taken
returns-in-Err-clause-taken g c out taken meta_rows =
    let it = c.in-Err.ensures.foreign (inr (out, taken, meta_rows)) in
    given_back c.in-Err.refusal c.fault_of.result it.0 c.fault_of.ensures it.1

-- ---- an older store

pub returns-in-Ok-clause-carried : goal.returns-in-Ok-clause-carried
returns-in-Ok-clause-carried g c clean older out =
    (c.in-Ok.ensures.older clean older out).carried

pub returns-in-Err-clause-carried : goal.returns-in-Err-clause-carried
returns-in-Err-clause-carried g c clean older out =
    subst (λ f. IsUncarried (state g.S.Store c.args.conn) f) (sym c.fault_of.ensures)
    (c.in-Err.ensures.older clean older out).carried

pub returns-in-Err-clause-carried_stays : goal.returns-in-Err-clause-carried_stays
returns-in-Err-clause-carried_stays g c clean older out =
    (c.in-Err.ensures.older clean older out).stays

pub returns-in-Ok-clause-carried_stop : goal.returns-in-Ok-clause-carried_stop
returns-in-Ok-clause-carried_stop g c clean older out =
    (c.in-Ok.ensures.older clean older out).stop

pub returns-in-Err-clause-carried_stop : goal.returns-in-Err-clause-carried_stop
returns-in-Err-clause-carried_stop g c clean older out =
    (c.in-Err.ensures.older clean older out).stop
