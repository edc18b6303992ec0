-- What a store may hold when it is opened again after its device stopped (a crash, the power gone).
use Rattle.std.specs.Prelude.{◌≡◌, ◌⊎◌, ⊤, Result, Ok, Err, refl}
use Rattle.std.proofs.Common.{subst}
use Rattle.vault.specs.declared.fault.VaultFault.{VaultFault}
use Rattle.vault.specs.declared.fault.VaultFault.TheVariants as fault
use Rattle.vault.specs.Records.{Agree}
use Rattle.vault.specs.Changes.{Contents, records_of}

-- the two contents have records that agree
abbrev pub SaySame : Contents → Contents → Type 0
SaySame a b = Agree (records_of a) (records_of b)

-- an answer of the call's own is any but `Store` and `NoMemory`
abbrev pub IsOwn : {A : Type 0} → Result A VaultFault → Type 0
IsOwn (Ok x) = ⊤
IsOwn (Err fault.Store) = ⊥
IsOwn (Err fault.NoMemory) = ⊥
IsOwn (Err e) = ⊤

-- a device that was up before the call is up after an answer of the call's own
abbrev pub StaysUp : {A : Type 0} → (was_up is_up : Type 0) → Result A VaultFault → Type 0
StaysUp was_up is_up answered = was_up → IsOwn answered → is_up

-- a stop leaves just these contents, as far as records tell
abbrev pub LeavesBefore : (Contents → Type 0) → Contents → Type 0
LeavesBefore MayLeave c = (left : Contents) → MayLeave left → SaySame left c

-- a stop leaves these contents or what the call makes of them, as far as records tell
abbrev pub LeavesEither : {A : Type 0} → (Contents → Type 0) → Contents → ((Contents → Type 0) → Result A VaultFault → Type 0) → Type 0
LeavesEither {A} MayLeave c Done = (left : Contents) → MayLeave left → SaySame left c ⊎ ((x : A) × Done (SaySame left) (Ok x))

-- equal contents say the same
pub says_same : (a b : Contents) → a ≡ b → SaySame a b
says_same a b e = subst (λ (x : Contents). SaySame a x) e (record {
  clerks = refl;
  credentials = λ _. refl;
  maildrops = refl;
  messages = λ _. refl;
  receipts = λ _ _. refl;
  counts = λ _ _. refl;
  policy = refl;
})
