-- Parts of the transaction that carries a store over, one after the other; and the messages of version 1 that come into the tables of ours.
use Rattle.std.proofs.Common.{◌≡◌, inl, inr, IsTrue, ℕ, zero, suc, ◌+◌, ◌<◌, ◌≤◌, ℤ, ◌<ℤ◌, Bool, true, false, cond, List, [], ◌∷◌, ◌++◌, length, map, take, take_all, get_or, Some}
use Rattle.std.proofs.Common.{None, Less, int_cmp, is_eq, refl, sym, ap, ap₂, subst, ◌∙◌, true≢false, arith}
use Rattle.std.specs.Prelude.{Result, Ok, Err, flat_map, OnOk, OnErr}
use Rattle.std.specs.List.{find, AllByRecursion}
use Rattle.std.proofs.lemmas.Bool.Decides.{nat_tests}
use Rattle.std.proofs.lemmas.Int.{ints}
use Rattle.std.proofs.lemmas.List.{append_assoc, append-nil, map-append, length-map}
use Rattle.std.proofs.lemmas.Grind.{flat_map-append}
use Rattle.sqlite.specs.declared.error.Error.{Error}
use Rattle.sqlite.specs.Effect.{Database}
use Rattle.sqlite.specs.State.{State, HasCleanDisk, Survives, IsUnchanged}
use Rattle.sqlite.proofs.StateLemmas.{survives_weaker}
use Rattle.sqlite_trees.specs.Tree.{Trees}
use Rattle.mailsql.specs.Apart.{AreRising}
use Rattle.mailsql.specs.declared.rows.Message.{Message}
use Rattle.mailsql.specs.declared.rows.Body.{Body}
use Rattle.mailsql.specs.Changes.{AddsMessage, AddsKeyed, AddsSheets, AddsSomeSheets, ClearsBodies}
use Rattle.mailsql.specs.Rows.{Rows, rows_in, bodies_at, is_carried, is_body, completed, IsOurs, IsKept, IsHalted, IsUndone, GoesOn, Changes, MayLeave, CompletesTables}
use Rattle.mailsql.proofs.EqualLemmas.{same_itself}
use Rattle.sqlvault.specs.Moves.{Moves, MovesBody, MovesKey, MovesAll, MovesOld, AreBelow, body_head, body_sheets, IsInside, IsUnmoved, HasHeads, DoesPart, HaltsPart, Part}
use Rattle.sqlvault.specs.Stands.{LeavesNoMore}
use Rattle.sqlvault.proofs.CarryLemmas.{goes_then, halted_then, more_then, changed_on, looked_on, no_more_in}
use Rattle.mailsql.proofs.CreateLemmas.{stops_making}

-- ---- a part

inside_stays : (s : State) → IsInside s → GoesOn s s
inside_stays s i = record { was_open = i.is_open; is_open = i.is_open; now_is = refl; committed_is = refl; mode = i.inside }

pub inside_on : (Change : Rows → Rows → Type 0) (a b : State) → DoesPart Change a b → IsInside b
inside_on Change a b d = record { is_open = d.on.is_open; inside = d.on.mode; tables = d.tables }

-- one statement
pub part_of : (Change Other : Rows → Rows → Type 0) (a b : State) (r : Result (Unit {0}) Error) → HasCleanDisk b → IsInside a
    → OnOk r (Changes Change a b) → OnErr r (IsUndone a b) → Survives a b (MayLeave Other a) → Part Change a b r
part_of Change Other a b (Ok x) clean i ok err s = record {
  on = changed_on Change a b i.inside ok;
  tables = ok.kept;
  change = ok.change;
  stop = no_more_in Other a b i.inside
      (i.is_open, i.tables) clean s;
}
part_of Change Other a b (Err e) clean i ok err s = record { halted = stops_making a a b (inside_stays a i) err; stop = no_more_in Other a b i.inside (i.is_open, i.tables) clean s }

-- several
pub parts_of : (Change Other : Rows → Rows → Type 0) (a b : State) (r : Result (Unit {0}) Error) → HasCleanDisk b → IsInside a
    → OnOk r (Changes Change a b) → OnErr r (IsHalted a b) → Survives a b (MayLeave Other a) → Part Change a b r
parts_of Change Other a b (Ok x) clean i ok err s = record {
  on = changed_on Change a b i.inside ok;
  tables = ok.kept;
  change = ok.change;
  stop = no_more_in Other a b i.inside
      (i.is_open, i.tables) clean s;
}
parts_of Change Other a b (Err e) clean i ok err s = record { halted = err; stop = no_more_in Other a b i.inside (i.is_open, i.tables) clean s }

-- none
pub part_none : (s : State) → IsInside s → DoesPart (λ old new. new ≡ old) s s
part_none s i = record { on = inside_stays s i; tables = i.tables; change = refl; stop = λ db may. may }

pub part_old : (carried : Bool) (s : State) → IsInside s → carried ≡ false → DoesPart (MovesOld carried) s s
part_old true s i e = absurd (true≢false e)
part_old false s i e = part_none s i

-- a query
pub part_looked : (a b : State) → IsInside a → IsUnchanged a b → LeavesNoMore a b → DoesPart (λ old new. new ≡ old) a b
part_looked a b i same stop = record {
  on = looked_on a a b (inside_stays a i) same;
  tables = subst IsKept (sym same.0.now_is) i.tables;
  change = ap (λ (d : Database). rows_in d.trees) same.0.now_is;
  stop = stop;
}

pub part_refused : (a b : State) → IsInside a → IsUndone a b → LeavesNoMore a b → HaltsPart a b
part_refused a b i undone stop = record { halted = stops_making a a b (inside_stays a i) undone; stop = stop }

-- a query of the messages of version 1 commits nothing
pub asked_carried : (a b : State) → IsInside a → is_carried a.now.trees ≡ true → HasCleanDisk b → Survives a b (λ _. IsTrue (is_carried a.now.trees) → ¬ IsOurs a.now) → LeavesNoMore a b
asked_carried a b i carried clean s db may = elim (s.crash clean db may) [ inl was ↦ was | inr none ↦ absurd (none carried i.tables.0) ]

-- ---- one after another

pub part_then : (First Then Both : Rows → Rows → Type 0) (a b c : State) → ((from mid to : Rows) → First from mid → Then mid to → Both from to)
    → DoesPart First a b → DoesPart Then b c → DoesPart Both a c
part_then First Then Both a b c both p q = record {
  on = goes_then a b c p.on q.on;
  tables = q.tables;
  change = both (rows_in a.now.trees) (rows_in b.now.trees) (rows_in c.now.trees) p.change q.change;
  stop = more_then a b c p.stop q.stop;
}

pub halts_behind : (First : Rows → Rows → Type 0) (a b c : State) → DoesPart First a b → HaltsPart b c → HaltsPart a c
halts_behind First a b c p q = record { halted = halted_then a b c p.on q.halted; stop = more_then a b c p.stop q.stop }

pub then_part : (First Then Both : Rows → Rows → Type 0) (a b c : State) (r : Result (Unit {0}) Error)
    → ((from mid to : Rows) → First from mid → Then mid to → Both from to) → DoesPart First a b → Part Then b c r → Part Both a c r
then_part First Then Both a b c (Ok x) both p q = part_then First Then Both a b c both p q
then_part First Then Both a b c (Err e) both p q = halts_behind First a b c p q

-- ---- messages of version 1

-- a message's row, and then its sheets
pub one_moved : (body : Body) (from mid to : Rows) → AddsMessage body.head from mid → AddsSheets body.head.key body.body mid to → Moves (body ∷ []) from to
one_moved body from mid to row sheets =
    sheets ∙ ap (λ (r : Rows). let w : Rows = record r { sheets = r.sheets ++ body_sheets body } in w) row.added
    ∙ ap (λ ss. let w : Rows = record from { messages = from.messages ++ body.head ∷ []; sheets = from.sheets ++ ss } in w) (sym (append-nil (body_sheets body)))

pub same_head : (m : Message) (key : ℤ) (maildrop class : List ℕ) (k octets : ℤ) → key ≡ m.key → maildrop ≡ m.maildrop → class ≡ m.class → k ≡ m.k → octets ≡ m.octets
    → (let h : Message = record { key = key; maildrop = maildrop; class = class; k = k; octets = octets } in h) ≡ m
same_head m key maildrop class k octets a b c d e = rw (a, b, c, d, e) refl

pub body_put : (body : Body) (a b c : State) (r : Result (Unit {0}) Error) → HasCleanDisk c → DoesPart (AddsKeyed body.head) a b
    → OnOk r (Changes (AddsSheets body.head.key body.body) b c) → OnErr r (IsHalted b c) → Survives b c (MayLeave (AddsSomeSheets body.head.key body.body) b)
    → Part (MovesBody body) a c r
body_put body a b c r clean row ok err s =
    then_part (AddsKeyed body.head) (AddsSheets body.head.key body.body) (MovesBody body) a b c r (λ from mid to adds sheets above. one_moved body from mid to (adds above) sheets) row
    (parts_of (AddsSheets body.head.key body.body) (AddsSomeSheets body.head.key body.body) b c r clean (inside_on (AddsKeyed body.head) a b row) ok err s)

-- the one that was found
abbrev SeesBody : ℤ → Body → Rows → Rows → Type 0
SeesBody key found old new = (new ≡ old) × (find (is_body key) old.bodies ≡ Some found)

sees_moves : (key : ℤ) (found : Body) (from mid to : Rows) → SeesBody key found from mid → MovesBody found mid to → MovesKey key from to
sees_moves key found from mid to sees moves asked here above =
    let one : Some found ≡ Some asked = sym sees.1 ∙ here in
    let is : found ≡ asked = cc in
    let low = subst (λ (x : Body). AreBelow x.head.key mid) (sym is) (subst (λ (x : Rows). AreBelow asked.head.key x) (sym sees.0) above) in
    subst (λ (x : Rows). Moves (asked ∷ []) x to) sees.0 (subst (λ (x : Body). Moves (x ∷ []) mid to) is (moves low))

pub found_put : (key : ℤ) (found : Body) (a b c : State) (r : Result (Unit {0}) Error) → DoesPart (λ old new. new ≡ old) a b
    → find (is_body key) (rows_in a.now.trees).bodies ≡ Some found → Part (MovesBody found) b c r → Part (MovesKey key) a c r
found_put key found a b c r looked is put =
    then_part (SeesBody key found) (MovesBody found) (MovesKey key) a b c r (sees_moves key found)
    (record { on = looked.on; tables = looked.tables; change = (looked.change, is); stop = looked.stop }) put

none_moved : (rows : Rows) → Moves [] rows rows
none_moved rows = ap₂ (λ ms ss. let w : Rows = record rows { messages = ms; sheets = ss } in w) (sym (append-nil rows.messages)) (sym (append-nil rows.sheets))

more_moved : (done : List Body) (body : Body) (from mid to : Rows) → Moves done from mid → Moves (body ∷ []) mid to → Moves (done ++ body ∷ []) from to
more_moved done body from mid to is one =
    one ∙ ap (λ (r : Rows). let w : Rows = record r { messages = r.messages ++ map body_head (body ∷ []); sheets = r.sheets ++ flat_map body_sheets (body ∷ []) } in w) is
    ∙ ap₂ (λ ms ss. let w : Rows = record from { messages = ms; sheets = ss } in w)
    (append_assoc from.messages (map body_head done) (map body_head (body ∷ [])) ∙ ap (λ ms. from.messages ++ ms) (sym (map-append body_head done (body ∷ []))))
    (append_assoc from.sheets (flat_map body_sheets done) (flat_map body_sheets (body ∷ [])) ∙ ap (λ ss. from.sheets ++ ss) (sym (flat_map-append body_sheets done (body ∷ []))))

same_bodies : (moved : List Body) (from to : Rows) → Moves moved from to → to.bodies ≡ from.bodies
same_bodies moved from to is = ap (λ (r : Rows). r.bodies) is

pub all_moved : (from same mid to : Rows) → same ≡ from → Moves same.bodies same mid → ClearsBodies mid to → MovesAll from to
all_moved from same mid to is moves clears =
    clears ∙ ap (λ (r : Rows). let w : Rows = record r { bodies = [] } in w) moves
    ∙ ap (λ (r : Rows). let w : Rows = record r { messages = r.messages ++ map body_head r.bodies; sheets = r.sheets ++ flat_map body_sheets r.bodies; bodies = [] } in w) is

-- what a query found is moved
abbrev pub MovesFound : Rows → Rows → Type 0
MovesFound from to = (same : Rows) × (same ≡ from) × Moves same.bodies same to

pub moved_found : (a b c : State) → DoesPart (λ old new. new ≡ old) a b → DoesPart (λ from to. Moves from.bodies from to) b c → DoesPart MovesFound a c
moved_found a b c = part_then (λ old new. new ≡ old) (λ from to. Moves from.bodies from to) MovesFound a b c (λ from same to is moves. (same, is, moves))

-- and gone from where it was
pub moved_cleared : (a b c : State) (r : Result (Unit {0}) Error) → HasCleanDisk c → DoesPart MovesFound a b → is_carried b.now.trees ≡ true
    → OnOk r (Changes ClearsBodies b c) → OnErr r (IsUndone b c)
    → Survives b c (λ db. IsTrue (is_carried b.now.trees) → MayLeave ClearsBodies b db) → Part MovesAll a c r
moved_cleared a b c r clean moved carried ok err s =
    then_part MovesFound ClearsBodies MovesAll a b c r (λ from mid to m clears. all_moved from m.0 mid to m.1 m.2 clears) moved
    (part_of ClearsBodies ClearsBodies b c r clean (inside_on MovesFound a b moved) ok err (survives_weaker _ _ _ _ (λ _ db may. may carried) s))

-- ---- the next of them

less_is : (a b : ℤ) → a <ℤ b → int_cmp a b ≡ Less
less_is a b h = grind (arith, ints, nat_tests)

-- The message at a place is the first under its key, and those before it have keys below it.
pub record IsNext (bodies : List Body) (i : ℕ) (head : Message) : Type 0 where
  pub body : Body
  pub is : head ≡ body.head
  pub taken : take (suc i) bodies ≡ take i bodies ++ body ∷ []
  pub found : find (is_body body.head.key) bodies ≡ Some body
  pub above : AllByRecursion (λ (m : Message). m.key <ℤ body.head.key) (map body_head (take i bodies))
  pub later : (a : ℤ) → AllByRecursion (λ (x : Body). a <ℤ x.head.key) bodies → a <ℤ body.head.key

next_at : (bodies : List Body) (i : ℕ) (head : Message) → i < length bodies → AreRising bodies → head ≡ get_or (map body_head bodies) i head → IsNext bodies i head
next_at [] i head low rising is = absurd (omega (arith, low))
next_at (b ∷ bodies) zero head low rising is = record {
  body = b;
  is = is;
  taken = refl;
  found = ap (λ t. cond t (Some b) (find (is_body b.head.key) bodies)) (same_itself b.head.key);
  above = tt;
  later = λ a all. all.0;
}
next_at (b ∷ bodies) (suc i) head low rising is =
    let n = next_at bodies i head (omega (arith, low)) rising.1 is in
    let lower = n.later b.head.key rising.0 in
    record {
      body = n.body;
      is = n.is;
      taken = ap (λ l. b ∷ l) n.taken;
      found = ap (λ t. cond t (Some b) (find (is_body n.body.head.key) bodies)) (ap is_eq (less_is b.head.key n.body.head.key lower)) ∙ n.found;
      above = (lower, n.above);
      later = λ a all. n.later a all.1;
    }

pub next_body : (bodies : List Body) (heads : List Message) (i : ℕ) (head : Message) → heads ≡ map body_head bodies → AreRising bodies
    → i < length heads → head ≡ get_or heads i head → IsNext bodies i head
next_body bodies heads i head are rising low is =
    let same : length heads ≡ length bodies = ap length are ∙ length-map bodies body_head in
    next_at bodies i head (omega (arith, low, same)) rising (is ∙ ap (λ hs. get_or hs i head) are)

-- if a message of version 1 is found, the store was carried over from it
carried_by : (db : Trees) (key : ℤ) (body : Body) → find (is_body key) (rows_in db).bodies ≡ Some body → is_carried db ≡ true
carried_by db key body found = go (is_carried db) found
  where
    go : (c : Bool) → find (is_body key) (bodies_at c db) ≡ Some body → c ≡ true
    go true h = refl
    go false h = let e : None ≡ Some body = h in cc

-- ---- the loop

-- the first of them are moved, and the store is one that was carried over from version 1
abbrev pub MovesFirst : ℕ → State → State → Type 0
MovesFirst i old new = DoesPart (λ from to. Moves (take i from.bodies) from to) old new × (is_carried new.now.trees ≡ true)

pub moved_none : (s : State) → IsInside s → is_carried s.now.trees ≡ true → MovesFirst 0 s s
moved_none s i carried = (record { on = inside_stays s i; tables = i.tables; change = none_moved (rows_in s.now.trees); stop = λ db may. may }, carried)

module _ (s0 s1 : State) (i : ℕ) (head : Message) (n : IsNext (rows_in s0.now.trees).bodies i head) (first : MovesFirst i s0 s1) where
  abbrev from : Rows
  from = rows_in s0.now.trees

  found_next : find (is_body head.key) (rows_in s1.now.trees).bodies ≡ Some n.body
  found_next = ap (find (is_body head.key)) (same_bodies (take i from.bodies) from (rows_in s1.now.trees) first.0.change) ∙ ap (λ (m : Message). find (is_body m.key) from.bodies) n.is ∙ n.found

  above_next : from.messages ≡ [] → AllByRecursion (λ (m : Message). m.key <ℤ n.body.head.key) (rows_in s1.now.trees).messages
  above_next none = subst (AllByRecursion (λ (m : Message). m.key <ℤ n.body.head.key))
      (sym (ap (λ (r : Rows). r.messages) first.0.change ∙ ap (λ ms. ms ++ map body_head (take i from.bodies)) none)) n.above

  pub moved_next : (s2 : State) (key : ℤ) → key ≡ head.key → from.messages ≡ [] → DoesPart (MovesKey key) s1 s2 → MovesFirst (i + 1) s0 s2
  moved_next s2 key same none one =
      let p = first.0 in
      let moves : Moves (n.body ∷ []) (rows_in s1.now.trees) (rows_in s2.now.trees) =
      one.change n.body (ap (λ z. find (is_body z) (rows_in s1.now.trees).bodies) same ∙ found_next) (above_next none) in
      let on : i + 1 ≡ suc i = omega arith in
      let taken : take (i + 1) from.bodies ≡ take i from.bodies ++ n.body ∷ [] = ap (λ k. take k from.bodies) on ∙ n.taken in
      let mid = rows_in s1.now.trees in
      let to = rows_in s2.now.trees in (
        record {
          on = goes_then s0 s1 s2 p.on one.on;
          tables = one.tables;
          change = subst (λ l. Moves l from to) (sym taken) (more_moved (take i from.bodies) n.body from mid to p.change moves);
          stop = more_then s0 s1 s2 p.stop one.stop;
        },
        carried_by s2.now.trees head.key n.body (ap (find (is_body head.key)) (same_bodies (n.body ∷ []) mid to moves) ∙ found_next),
      )

-- all of them are
pub moved_whole : (s0 s1 : State) (i : ℕ) → length (rows_in s0.now.trees).bodies ≤ i → MovesFirst i s0 s1 → DoesPart (λ from to. Moves from.bodies from to) s0 s1
moved_whole s0 s1 i all first =
    let from = rows_in s0.now.trees in
    record { on = first.0.on; tables = first.0.tables; change = subst (λ l. Moves l from (rows_in s1.now.trees)) (take_all i from.bodies all) first.0.change; stop = first.0.stop }

-- the heads were read, and nothing was changed
pub looked_heads : (heads : List Message) (a b : State) → IsUnmoved true a → IsUnchanged a b → DoesPart (λ old new. new ≡ old) a b
    → AreRising (rows_in b.now.trees).bodies → heads ≡ map body_head (rows_in a.now.trees).bodies → HasHeads heads b
looked_heads heads a b u same looked rising are =
    let rows = looked.change in
    record {
      unmoved = record {
        of = record { under = inside_on (λ old new. new ≡ old) a b looked; order = ap (λ (d : Database). is_carried d.trees) same.0.now_is ∙ u.of.order };
        none = λ is. ap (λ (r : Rows). r.messages) rows ∙ u.none is;
      };
      rising = rising;
      are = are ∙ ap (λ (r : Rows). map body_head r.bodies) (sym rows);
    }

-- the tables that were made have no message
pub none_made : (carried : Bool) (old made : Rows) → made ≡ completed carried old → IsTrue carried → made.messages ≡ []
none_made true old made is e = ap (λ (r : Rows). r.messages) is
none_made false old made is e = absurd (true≢false (sym e))

pub completed_inside : (a b : State) → CompletesTables a b → IsInside b
completed_inside a b m = record { is_open = m.on.is_open; inside = m.on.mode; tables = m.kept }
