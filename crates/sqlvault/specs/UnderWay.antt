-- Work in parts, in one open transaction. Nothing of it is committed before its end, so that the
-- store holds what it held, and a stop leaves just this.
use Rattle.std.specs.Prelude.{◌≡◌, ◌⊎◌, ◌==◌, ⊤, ℕ, List, IsTrue, Option, Some, None, false}
use Rattle.std.specs.Prelude.{bytes_eq}
use Rattle.std.specs.Prelude.{Result, Ok, Err, refl}
use Rattle.std.proofs.Common.{inl, inr}
use Rattle.std.specs.Coded.{Coded, code_by, coded×, coded⊎, coded_option}
use Rattle.sqlite_trees.specs.declared.store.Store.{Ghosts}
use Rattle.sqlite.specs.Held.{Held, state}
use Rattle.sqlite.specs.State.{State, HasCleanDisk}
use Rattle.vault.specs.declared.fault.VaultFault.{VaultFault}
use Rattle.vault.specs.Changes.{Contents, AreSound, is_named}
use Rattle.vault.specs.Calls.{CountsFaults, IsRefusal}
use Rattle.vault.specs.Stops.{SaySame, IsOwn}
use Rattle.mailsql.specs.Rows.{Rows, rows_in, HasTables}
use Rattle.sqlvault.specs.Keeps.{Keeps}
use Rattle.sqlvault.specs.Stands.{Holds, WasClean, Within, Halted}
use Rattle.sqlvault.specs.Stops.{MayHold, LeavesHeld, LeavesLast, settled_at}
use Rattle.sqlvault.specs.Frame.{Turns}
use Rattle.sqlvault.specs.Opened.{Opened, opened_code}
use Rattle.sqlvault.specs.Removals.{Removal, removal_code, removed_so_far}
use Rattle.sqlvault.specs.Arrivals.{Arrival, ShowsPart, arrival_code}
use Rattle.sqlvault.specs.declared.work.Work.{Work}
use Rattle.sqlvault.specs.declared.work.Work.TheVariants as works

-- what the rows are in its transaction, over these contents
abbrev pub Shows : Work → Contents → Rows → Type 0
Shows (works.Removal r) c rows = Keeps rows (removed_so_far r c)
Shows (works.Deposit a) c rows = ShowsPart a c rows

-- the contents are those of the last commit; an open transaction shows what was done so far
pub record HoldsUnder (s : State) (work : Work) (c : Contents) : Type 0 where
  pub rows : Rows
  pub within : Within s c rows
  pub shown : Shows work c rows

-- the connection holds these contents, also if work is under way in it
abbrev pub HoldsBeside : State → Option Work → Contents → Type 0
HoldsBeside s None c = Holds s c
HoldsBeside s (Some work) c = HoldsUnder s work c

-- the work doesn't touch the message under this key
abbrev pub SparesKey : Work → (key : ℕ) → Type 0
SparesKey (works.Removal r) key = is_named r.keys key ≡ false
SparesKey (works.Deposit a) key = (key == a.key) ≡ false

-- the work doesn't touch this maildrop
abbrev pub SparesMaildrop : Work → (maildrop : List ℕ) → Type 0
SparesMaildrop (works.Removal r) d = bytes_eq r.maildrop d ≡ false
SparesMaildrop (works.Deposit a) d = bytes_eq a.maildrop d ≡ false

-- the work that is under way after a step of it; none after an error
abbrev pub under_way : {A E : Type 0} → Result A E → Work → Option Work
under_way (Ok _) work = Some work
under_way (Err _) work = None

-- the deposit that is under way after its beginning, if one is
abbrev pub begun : {E : Type 0} → Result (Option Arrival) E → Option Work
begun (Ok (Some a)) = Some (works.Deposit a)
begun (Ok None) = None
begun (Err _) = None

-- a step has an answer, or is refused by the store or as memory ran out
abbrev pub IsStep : {A : Type 0} → Result A VaultFault → Type 0
IsStep (Ok _) = ⊤
IsStep (Err e) = IsRefusal {A = Unit {0}} (Ok tt) e

module _ {S : Type 0} (store : Ghosts S) (old new : Held S) where
  -- A step of the work only looks: what was held is held. A connection that was open is still open
  -- after an answer of the step's own, and a stop leaves what it left before.
  pub record Prepares (before after : Option Work) (Own : Type 0) : Type 0 where
    pub clean : WasClean (state store old) (state store new)
    pub held : HasCleanDisk (state store new) → (c : Contents)
        → HoldsBeside (state store old) before c → HoldsBeside (state store new) after c
    pub up : HasCleanDisk (state store new) → (c : Contents)
        → HoldsBeside (state store old) before c → IsTrue (state store old).is_open → Own
        → IsTrue (state store new).is_open
    pub stop : HasCleanDisk (state store new) → (c : Contents)
        → HoldsBeside (state store old) before c → IsTrue (state store old).is_open
        → LeavesHeld (state store old) c → LeavesHeld (state store new) c

  -- A transaction that is under way, or that an error left, is given up: what was last committed is
  -- held. The connection is open after an answer of the step's own, and a stop leaves what it left
  -- before.
  pub record GivesUp (Own : Type 0) : Type 0 where
    pub clean : WasClean (state store old) (state store new)
    pub held : HasCleanDisk (state store new) → (c : Contents) → Halted (state store old) c
        → Holds (state store new) c
    pub up : HasCleanDisk (state store new) → (c : Contents) → Halted (state store old) c → Own
        → IsTrue (state store new).is_open
    pub stop : HasCleanDisk (state store new) → (c : Contents) → Halted (state store old) c
        → LeavesHeld (state store old) c → LeavesHeld (state store new) c

  -- A query inside the transaction of a deposit that it spares says this of the contents.
  pub record TellsBeside (Spared : Arrival → Type 0) (Told : Contents → Type 0) : Type 0 where
    pub told : HasCleanDisk (state store new) → HasTables (state store old) → (a : Arrival)
        (c : Contents) → Spared a → ShowsPart a c (rows_in (state store old).now.trees) → Told c

  -- the end of the work, which changes records once, wholly or not at all, as a call does (`Acts`)
  pub record Finishes {A : Type 0} (work : Work)
      (Done : Contents → (Contents → Type 0) → Result A VaultFault → Type 0)
      (answered : Result A VaultFault) : Type 0 where
    pub clean : WasClean (state store old) (state store new)
    pub turns : HasCleanDisk (state store new) → (c : Contents)
        → HoldsUnder (state store old) work c
        → Turns store old new (IsOwn answered) (λ Held. Done c Held answered)
        (λ Held. (x : A) × Done c Held (Ok x)) c

-- ---- a store in which work may be under way

-- the store over tables, and the work
pub record Prepared (S : Type 0) : Type 0 where
  pub vault : Opened S
  pub under_way : Option Work

-- how work is coded
abbrev split_work : Work → Removal ⊎ Arrival
split_work (works.Removal r) = inl r
split_work (works.Deposit a) = inr a

abbrev join_work : Removal ⊎ Arrival → Work
join_work (inl r) = works.Removal r
join_work (inr a) = works.Deposit a

pub join-split_work : (work : Work) → join_work (split_work work) ≡ work
join-split_work (works.Removal r) = refl
join-split_work (works.Deposit a) = refl

abbrev pub work_code : Coded Work
work_code = code_by (Removal ⊎ Arrival) (coded⊎ removal_code arrival_code) split_work join_work
    join-split_work

-- how such a store is coded
abbrev pub prepared_code : {S : Type 0} → Coded S → Coded (Prepared S)
prepared_code {S} store = code_by (Opened S × Option Work)
    (coded× (opened_code store) (coded_option work_code)) (λ v. (v.vault, v.under_way))
    (λ p. record { vault = p.0; under_way = p.1 }) (λ _. refl)

-- The work is given up after a query inside its transaction was answered by a fault. That fault is
-- answered, or a refusal that giving it up met.
pub record EndsBeside {S : Type 0} (store : Ghosts S) (old new : Prepared S)
    (fault answered : VaultFault) : Type 0 where
  pub gives_up : let r : Result (Unit {0}) VaultFault = Err answered in
      GivesUp store old.vault.conn new.vault.conn (IsOwn r)
  pub none : new.under_way ≡ None
  pub counted : (n : ℕ) → (let r : Result (Unit {0}) VaultFault = Err fault in
      CountsFaults n old.vault.faults r)
      → (let r : Result (Unit {0}) VaultFault = Err answered in CountsFaults n new.vault.faults r)
  pub answer : (answered ≡ fault) ⊎ (let r : Result (Unit {0}) VaultFault = Ok tt in
      IsRefusal r answered)

-- no work is under way
abbrev pub nothing_prepared : {S : Type 0} → Opened S → Prepared S
nothing_prepared vault = record { vault = vault; under_way = None }

module _ {S : Type 0} (store : Ghosts S) (v : Prepared S) where
  -- it holds these contents
  abbrev pub holds_in : Contents → Type 0
  holds_in c = HoldsBeside (state store v.vault.conn) v.under_way c

  -- its disk is clean
  abbrev pub clean_in : Type 0
  clean_in = HasCleanDisk (state store v.vault.conn)

  -- its connection is open
  abbrev pub up_in : Type 0
  up_in = IsTrue (state store v.vault.conn).is_open

  -- a stop may leave these contents
  abbrev pub leave_in : Contents → Type 0
  leave_in c = MayHold (state store v.vault.conn) c

-- how many faults it counted
abbrev pub faults_in : {S : Type 0} → Prepared S → ℕ
faults_in v = v.vault.faults

-- the contents are sound
pub sound_beside : (s : State) (under : Option Work) (c : Contents) → HoldsBeside s under c
    → AreSound c
sound_beside s None c h = h.sound
sound_beside s (Some work) c h = h.within.base_is.sound

-- what may be held after a stop says the same as what is held
pub settled_beside : (s : State) (under : Option Work) (c : Contents) → HoldsBeside s under c
    → IsTrue s.is_open → LeavesLast s → (left : Contents) → MayHold s left → SaySame left c
settled_beside s None c h up law left may = settled_at s c h up law left may
settled_beside s (Some work) c h up law left may = may.2 c (h.within.stop may.0 may.1)
