-- Queries one after the other, of rows that may be no contents.
use Rattle.std.proofs.Common.{inl, Result, Ok, Err}
use Rattle.std.specs.Prelude.{IsTrue, OnOk, OnErr, IsErrAnd}
use Rattle.sqlite_trees.specs.declared.store.Store.{Ghosts}
use Rattle.sqlite.specs.Held.{Held, state}
use Rattle.sqlite.specs.declared.error.Error.{Error}
use Rattle.sqlite.specs.State.{State, HasCleanDisk, IsUnchanged, Survives}
use Rattle.mailsql.specs.Rows.{IsOurs, HasTables, IsUndone}
use Rattle.sqlvault.specs.Stored.{Stays, Goes}
use Rattle.sqlvault.specs.Frame.{IsOk, Looks, Asks, Reads}
use Rattle.sqlvault.proofs.AdoptLemmas.{unchanged_on, undone_on, tables_on}
use Rattle.sqlvault.proofs.FrameLemmas.{was_clean}
use Rattle.sqlvault.proofs.HoldsLemmas.{holds_undone}
use Rattle.sqlvault.proofs.StayLemmas.{asked, leaves_on, tables_of, stays_unchanged}
use Rattle.sqlvault.proofs.StayLemmas.{unchanged_stays, undone_stays, stays_self, stays_or_back}
use Rattle.sqlvault.proofs.StayLemmas.{stays_more, or_back_after, tables_stay}

-- a query that was answered
pub answered : {S A E : Type 0} {x : A} (store : Ghosts S) (old new : Held S)
    → (HasCleanDisk (state store new) → HasTables (state store old)
    → IsUnchanged (state store old) (state store new))
    → Survives (state store old) (state store new) (λ _. IsOurs (state store old).now → ⊥)
    → (let r : Result A E = Ok x in Asks store old new r)
answered store old new same s = record {
  clean = was_clean store old new s;
  same = λ clean tables. same clean tables;
  err = λ clean tables. tt;
  stop = λ clean ready. asked (state store old) (state store new) clean s ready;
}

-- a query that met an error
pub unanswered : {S A E : Type 0} {e : E} (store : Ghosts S) (old new : Held S)
    → (HasCleanDisk (state store new) → HasTables (state store old)
    → IsUndone (state store old) (state store new))
    → Survives (state store old) (state store new) (λ _. IsOurs (state store old).now → ⊥)
    → (let r : Result A E = Err e in Asks store old new r)
unanswered store old new undone s = record {
  clean = was_clean store old new s;
  same = λ clean tables. tt;
  err = λ clean tables. undone clean tables;
  stop = λ clean ready. asked (state store old) (state store new) clean s ready;
}

-- what was answered may be answered otherwise, or be a refusal
pub asks_ok : {S A B E F : Type 0} {store : Ghosts S} {old new : Held S} {x : A} {y : B}
    → (let r : Result A E = Ok x in Asks store old new r)
    → (let r : Result B F = Ok y in Asks store old new r)
asks_ok a = record {
  clean = a.clean;
  same = λ clean tables. a.same clean tables;
  err = λ clean tables. tt;
  stop = a.stop;
}

pub asks_refused : {S A B E F : Type 0} {store : Ghosts S} {old new : Held S} {x : A} {f : F}
    → (let r : Result A E = Ok x in Asks store old new r)
    → (let r : Result B F = Err f in Asks store old new r)
asks_refused a = record {
  clean = a.clean;
  same = λ clean tables. tt;
  err = λ clean tables. inl (a.same clean tables);
  stop = a.stop;
}

pub asks_err : {S A B E F : Type 0} {store : Ghosts S} {old new : Held S} {e : E} {f : F}
    → (let r : Result A E = Err e in Asks store old new r)
    → (let r : Result B F = Err f in Asks store old new r)
asks_err a = record {
  clean = a.clean;
  same = λ clean tables. tt;
  err = λ clean tables. a.err clean tables;
  stop = a.stop;
}

-- an error that came after it is passed on
pub asks_passed : {S A B E F : Type 0} {store : Ghosts S} {old new : Held S} {x : A}
    (r : Result B F) (P : F → Type 0) → IsErrAnd r P
    → (let q : Result A E = Ok x in Asks store old new q) → Asks store old new r
asks_passed (Ok y) P failed a = absurd failed
asks_passed (Err f) P failed a = asks_refused a

same_behind : {A E : Type 0} (s0 s1 s2 : State) (r : Result A E) → IsUnchanged s0 s1
    → OnOk r (IsUnchanged s1 s2) → OnOk r (IsUnchanged s0 s2)
same_behind s0 s1 s2 (Ok x) a b = unchanged_on s0 s1 s2 a b
same_behind s0 s1 s2 (Err e) a b = tt

err_behind : {A E : Type 0} (s0 s1 s2 : State) (r : Result A E) → IsUnchanged s0 s1
    → OnErr r (IsUndone s1 s2) → OnErr r (IsUndone s0 s2)
err_behind s0 s1 s2 (Ok x) a b = tt
err_behind s0 s1 s2 (Err e) a b = undone_on s0 s1 s2 a b

-- two parts, of which the first was answered
pub asks_then : {S A B E F : Type 0} {store : Ghosts S} {old mid new : Held S} {x : A}
    {r : Result B F} → (let q : Result A E = Ok x in Asks store old mid q)
    → Asks store mid new r → Asks store old new r
asks_then {store = store} {old = old} {mid = mid} {new = new} {r = r} a b = record {
  clean = λ clean. a.clean (b.clean clean);
  same = λ clean tables.
      let first = a.same (b.clean clean) tables in
      same_behind (state store old) (state store mid) (state store new) r first
      (b.same clean (tables_on (state store old) (state store mid) first tables));
  err = λ clean tables.
      let first = a.same (b.clean clean) tables in
      err_behind (state store old) (state store mid) (state store new) r first
      (b.err clean (tables_on (state store old) (state store mid) first tables));
  stop = λ clean ready.
      let before = b.clean clean in
      let first = a.same before (tables_of (state store old) ready) in
      leaves_on (state store old) (state store mid) (state store new)
      (stays_unchanged (state store old) (state store mid) first) ready (a.stop before ready)
      (b.stop clean);
}

-- ---- parts of queries, which may be none

pub reads_none : {S A : Type 0} {x : A} (store : Ghosts S) (conn : Held S)
    → (let r : Result A Error = Ok x in Reads store conn conn r)
reads_none store conn = record {
  clean = λ clean. clean;
  goes = λ clean tables. stays_self (state store conn);
  stop = λ clean ready db may. may;
}

pub read : {S A : Type 0} {x : A} (store : Ghosts S) (old new : Held S)
    → (HasCleanDisk (state store new) → HasTables (state store old)
    → IsUnchanged (state store old) (state store new))
    → Survives (state store old) (state store new) (λ _. IsOurs (state store old).now → ⊥)
    → (let r : Result A Error = Ok x in Reads store old new r)
read store old new same s = record {
  clean = was_clean store old new s;
  goes = λ clean tables. stays_unchanged (state store old) (state store new) (same clean tables);
  stop = λ clean ready. asked (state store old) (state store new) clean s ready;
}

pub unread : {S A : Type 0} {e : Error} (store : Ghosts S) (old new : Held S)
    → (HasCleanDisk (state store new) → HasTables (state store old)
    → IsUndone (state store old) (state store new))
    → Survives (state store old) (state store new) (λ _. IsOurs (state store old).now → ⊥)
    → (let r : Result A Error = Err e in Reads store old new r)
unread store old new undone s = record {
  clean = was_clean store old new s;
  goes = λ clean tables. stays_or_back (state store old) (state store new) (undone clean tables);
  stop = λ clean ready. asked (state store old) (state store new) clean s ready;
}

-- what was read may be answered otherwise
pub reads_ok : {S A B : Type 0} {store : Ghosts S} {old new : Held S} {x : A} {y : B}
    → (let r : Result A Error = Ok x in Reads store old new r)
    → (let r : Result B Error = Ok y in Reads store old new r)
reads_ok a = record { clean = a.clean; goes = λ clean tables. a.goes clean tables; stop = a.stop }

pub reads_err : {S A B : Type 0} {store : Ghosts S} {old new : Held S} {e f : Error}
    → (let r : Result A Error = Err e in Reads store old new r)
    → (let r : Result B Error = Err f in Reads store old new r)
reads_err a = record { clean = a.clean; goes = λ clean tables. a.goes clean tables; stop = a.stop }

-- an error that came after it is passed on
pub reads_passed : {S A B : Type 0} {store : Ghosts S} {old new : Held S} {x : A}
    (r : Result B Error) (P : Error → Type 0) → IsErrAnd r P
    → (let q : Result A Error = Ok x in Reads store old new q) → Reads store old new r
reads_passed (Ok y) P failed a = absurd failed
reads_passed (Err f) P failed a = record {
  clean = a.clean;
  goes = λ clean tables. inl (a.goes clean tables);
  stop = a.stop;
}

goes_behind : {A : Type 0} (s0 s1 s2 : State) (r : Result A Error) → Stays s0 s1
    → Goes s1 s2 r → Goes s0 s2 r
goes_behind s0 s1 s2 (Ok x) a b = stays_more s0 s1 s2 a b
goes_behind s0 s1 s2 (Err e) a b = or_back_after s0 s1 s2 a b

-- two parts, of which the first was answered
pub reads_then : {S A B : Type 0} {store : Ghosts S} {old mid new : Held S} {x : A}
    {r : Result B Error} → (let q : Result A Error = Ok x in Reads store old mid q)
    → Reads store mid new r → Reads store old new r
reads_then {store = store} {old = old} {mid = mid} {new = new} {r = r} a b = record {
  clean = λ clean. a.clean (b.clean clean);
  goes = λ clean tables.
      let first = a.goes (b.clean clean) tables in
      goes_behind (state store old) (state store mid) (state store new) r first
      (b.goes clean (tables_stay (state store old) (state store mid) first tables));
  stop = λ clean ready.
      let before = b.clean clean in
      let first = a.goes before (tables_of (state store old) ready) in
      leaves_on (state store old) (state store mid) (state store new) first ready
      (a.stop before ready) (b.stop clean);
}

-- after a query that was answered
same_gone : {A : Type 0} (s0 s1 s2 : State) (r : Result A Error) → IsUnchanged s0 s1
    → Goes s1 s2 r → OnOk r (IsUnchanged s0 s2)
same_gone s0 s1 s2 (Ok x) a b = unchanged_stays s0 s1 s2 a b
same_gone s0 s1 s2 (Err e) a b = tt

err_gone : {A : Type 0} (s0 s1 s2 : State) (r : Result A Error) → IsUnchanged s0 s1
    → Goes s1 s2 r → OnErr r (IsUndone s0 s2)
err_gone s0 s1 s2 (Ok x) a b = tt
err_gone s0 s1 s2 (Err e) a b = undone_stays s0 s1 s2 a b

pub asks_reads : {S A B E : Type 0} {store : Ghosts S} {old mid new : Held S} {x : A}
    {r : Result B Error} → (let q : Result A E = Ok x in Asks store old mid q)
    → Reads store mid new r → Asks store old new r
asks_reads {store = store} {old = old} {mid = mid} {new = new} {r = r} a b = record {
  clean = λ clean. a.clean (b.clean clean);
  same = λ clean tables.
      let first = a.same (b.clean clean) tables in
      same_gone (state store old) (state store mid) (state store new) r first
      (b.goes clean (tables_on (state store old) (state store mid) first tables));
  err = λ clean tables.
      let first = a.same (b.clean clean) tables in
      err_gone (state store old) (state store mid) (state store new) r first
      (b.goes clean (tables_on (state store old) (state store mid) first tables));
  stop = λ clean ready.
      let before = b.clean clean in
      let first = a.same before (tables_of (state store old) ready) in
      leaves_on (state store old) (state store mid) (state store new)
      (stays_unchanged (state store old) (state store mid) first) ready (a.stop before ready)
      (b.stop clean);
}

-- ---- of contents

undone_either : {A E : Type 0} (s0 s1 : State) (r : Result A E) → OnOk r (IsUnchanged s0 s1)
    → OnErr r (IsUndone s0 s1) → IsUndone s0 s1
undone_either s0 s1 (Ok x) a b = inl a
undone_either s0 s1 (Err e) a b = b

still_open : {A E : Type 0} (s0 s1 : State) (r : Result A E) → IsOk r → OnOk r (IsUnchanged s0 s1)
    → IsTrue s1.is_open
still_open s0 s1 (Ok x) own a = a.0.is_open
still_open s0 s1 (Err e) own a = absurd own

-- such queries only look
pub asks_look : {S A E : Type 0} (store : Ghosts S) (old new : Held S) (r : Result A E)
    → Asks store old new r → Looks store old new (IsOk r)
asks_look store old new r a = record {
  clean = a.clean;
  rests = λ clean c h. record {
    held = holds_undone (state store old) (state store new) c (undone_either (state store old)
        (state store new) r (a.same clean h.tables) (a.err clean h.tables)) h;
    up = λ up own. still_open (state store old) (state store new) r own (a.same clean h.tables);
    stop = λ up left db may. left db (a.stop clean (up, h.tables up) db may);
  };
}
