-- The report of a session's line that was answered so: what is known of the answer is known of the report.
use Rattle.std.proofs.Common.{◌≡◌, Result, Ok, Err, refl, sym, subst}
use Rattle.std.specs.Prelude.{IfOk, IsOkAnd}
use Rattle.vault.specs.Changes.{Contents}
use Rattle.vault.specs.Parts.{OnlyLooks}
use Rattle.vault.specs.declared.vault.Vault.{Ghosts}
use Rattle.office.specs.Accounts.{reported, told_if_done}
use Rattle.office.specs.Stopping.{ActsOnce, WasDone}
use Rattle.office.specs.declared.account.Account.{Account}
use Rattle.office.specs.declared.account.Account.TheVariants as account
use Rattle.office.specs.declared.account.LineReport.{LineReport}
use Rattle.office.specs.declared.login_state.LineOutcome.{LineOutcome}
use Rattle.office.specs.declared.login_state.LineOutcome.TheVariants as outcome

pub reported_ok : {E : Type 0} (P : LineOutcome → Type 0) (told : Account) (a : Result LineOutcome E) → IfOk a P → IfOk (reported a told) (λ (r : LineReport). P r.outcome)
reported_ok P told (Ok w) it = it
reported_ok P told (Err e) it = tt

-- what holds of each outcome, with what is then told
pub reported_so : {E : Type 0} (P : LineReport → Type 0) (told : Account) (a : Result LineOutcome E)
    → ((w : LineOutcome) → P (record { outcome = w; account = told_if_done w told })) → IfOk (reported a told) P
reported_so P told (Ok w) f = f w
reported_so P told (Err e) f = tt

-- what holds of a line that was done and tells nothing, with what else is known of its answer
pub reported_done : {E : Type 0} {Q : LineOutcome → Type 0} (P : LineReport → Type 0) (a : Result LineOutcome E) → IfOk a (λ w. w ≡ outcome.Done) → IfOk a Q
    → ((w : LineOutcome) → Q w → P (record { outcome = outcome.Done; account = account.Nothing })) → IfOk (reported a account.Nothing) P
reported_done P (Ok w) e known it = subst (λ (w : LineOutcome). P (record { outcome = w; account = told_if_done w account.Nothing })) (sym e) (it w known)
reported_done P (Err e) f known it = tt

-- the same, with nothing else
pub reported_quiet : {E : Type 0} (P : LineReport → Type 0) (a : Result LineOutcome E) → IfOk a (λ w. w ≡ outcome.Done) → P (record { outcome = outcome.Done; account = account.Nothing })
    → IfOk (reported a account.Nothing) P
reported_quiet P (Ok w) e it = subst (λ (w : LineOutcome). P (record { outcome = w; account = told_if_done w account.Nothing })) (sym e) it
reported_quiet P (Err e) f it = tt

-- the store keeps what it kept
pub reported_acts : {V E : Type 0} (vault : Ghosts V) {old new : V} {after : Contents → Contents} (told : Account) (a : Result LineOutcome E) → ActsOnce vault old new (IsOkAnd a WasDone) after
    → ActsOnce vault old new (IsOkAnd (reported a told) (λ (r : LineReport). WasDone r.outcome)) after
reported_acts vault told (Ok w) it = it
reported_acts vault told (Err e) it = it

pub reported_looks : {V E : Type 0} (vault : Ghosts V) {old new : V} (told : Account) (a : Result LineOutcome E) → OnlyLooks vault old new (IsOkAnd a WasDone)
    → OnlyLooks vault old new (IsOkAnd (reported a told) (λ (r : LineReport). WasDone r.outcome))
reported_looks vault told (Ok w) it = it
reported_looks vault told (Err e) it = it

-- if nothing is told, nothing is told whether the store fails or not
pub nothing_told : (w : LineOutcome) → told_if_done w account.Nothing ≡ account.Nothing
nothing_told outcome.Done = refl
nothing_told outcome.Failed = refl
