-- What a piece of a connection brings, and whether a login in it waits for a lock, by what is kept
-- and by the trace.
use Rattle.std.proofs.Common.{◌≡◌, ℕ, ◌+◌, Bool, true, false, not, ◌&&◌, List, [], ◌∷◌, ◌++◌, drop, map}
use Rattle.std.proofs.Common.{Option, Some, None, is_some, slice_get, append-nil, nat_le}
use Rattle.std.proofs.Common.{refl, sym, ◌∙◌, ap, ap₂}
use Rattle.std.specs.Bool.{if◌then◌else◌}
use Rattle.std.specs.BTreeMap.{BTreeMap, get}
use Rattle.creds.specs.declared.login_name.LoginName.{LoginName}
use Rattle.popline.specs.Cutting.{Cut, cut_of, cut, begun, prefixed, fed, whole_line, coming}
use Rattle.popline.specs.Cutting.{through_newline, has_newline}
use Rattle.popline.proofs.Cuts.{coming-fed}
use Rattle.vault.specs.Changes.{Contents}
use Rattle.session.specs.Session.{Session}
use Rattle.office.specs.Connections.{reading}
use Rattle.office.specs.Sessions.{holder}
use Rattle.office.specs.Events.{Trace}
use Rattle.office.specs.Log.{clock, moment}
use Rattle.office.specs.Trace.{history, is_open, is_ready, next_line, untaken}
use Rattle.office.specs.Output.{nothing_owed}
use Rattle.office.specs.Idle.{is_idle}
use Rattle.office.specs.Kept.{Kept, line_after}
use Rattle.office.specs.Answered.{name_cmp, is_locked_by}
use Rattle.office.specs.Stands.{Seen, Matches, IsSession, seen, untaken_of}
use Rattle.office.specs.Waiting.{brought_by, next_brings, login_in, is_held_for, brings, waits, line_with}
use Rattle.office.specs.declared.brought.Brought.TheVariants.{Nothing}
use Rattle.office.proofs.Hearing.{at_drop, at_end, pieces_none}
use Rattle.office.proofs.Owing.{none_owed}

-- ---- by what is kept

-- the line that is whole with a piece
abbrev line_if : Bool → Kept → List ℕ → Option Cut
line_if b k p = if b then Some (line_after k p) else None

-- what it brings
module _ (live : Bool) (user : Option LoginName) (k : Kept) (p : List ℕ) where
  pub brings_line : (x : Cut) → has_newline p ≡ true → x ≡ line_after k p → brought_by live user (reading x) ≡ next_brings live user (line_with k p)
  brings_line x h e = ap (λ y. next_brings live user (Some y)) e ∙ ap (λ (b : Bool). next_brings live user (line_if b k p)) (sym h)

  pub brings_none : has_newline p ≡ false → Nothing ≡ next_brings live user (line_with k p)
  brings_none h = ap (λ (b : Bool). next_brings live user (line_if b k p)) (sym h)

-- ---- by the trace

module _ (c : Contents) (s : Seen) (k : Kept) (p : List ℕ) (m : Matches c s k) (o : k.output ≡ nothing_owed) where
  abbrev lines : List Cut
  lines = cut (s.stream ++ p)

  -- the lines that are left with this piece
  left : drop s.acted lines ≡ coming k.held p
  left =
      let none = none_owed c k.session k.output (untaken_of s) m.owed o in
      m.lines p ∙ ap (λ q. coming k.held (q ++ p)) (m.cut_whole none)

  next_none : has_newline p ≡ false → slice_get lines s.acted ≡ None
  next_none h =
      at_end s.acted lines (left ∙ ap (λ ps. map cut_of (prefixed (begun k.held) ps)) (pieces_none p h))

  next_some : has_newline p ≡ true → slice_get lines s.acted ≡ Some (line_after k p)
  next_some h =
      let w = fed k.held p in
      let n = through_newline p in
      let rest = coming w (drop n p ++ []) in
      let through : coming k.held p ≡ whole_line w ++ rest =
      ap (λ q. coming k.held q) (sym (append-nil p)) ∙ coming-fed k.held w p n refl refl [] in
      let first : whole_line w ++ rest ≡ line_after k p ∷ rest =
      ap (λ b. (if b then cut_of w.octets ∷ [] else []) ++ rest) h in
      (at_drop s.acted lines (line_after k p) rest (left ∙ (through ∙ first))).0

  next_is : (b : Bool) → has_newline p ≡ b → line_if b k p ≡ slice_get lines s.acted
  next_is true h = sym (next_some h)
  next_is false h = sym (next_none h)

pub session_live : (c : Contents) (s : Seen) (o : Option Session) → IsSession c s o → is_some o ≡ s.live
session_live c s None h = sym h
session_live c s (Some k) h = sym h.live

ready_so : (T : Trace) (n : ℕ) → is_open T n ≡ true → untaken T.log (history T) n ≡ []
    → is_ready T n ≡ true
ready_so T n o r = rw (o, r) refl

-- what is kept of a connection that owes nothing says what its next line brings
pub brought_so : (c : Contents) (T : Trace) (n : ℕ) (p : List ℕ) (k : Kept) → Matches c (seen T n) k → k.output ≡ nothing_owed
    → next_brings (is_some k.session) k.state.user (line_with k p) ≡ brings T n p
brought_so c T n p k m o =
    let s = seen T n in
    let ready : is_ready T n ≡ true = ready_so T n m.opened (none_owed c k.session k.output (untaken_of s) m.owed o) in
    let next : line_with k p ≡ next_line T.log (history T) n p = next_is c s k p m o (has_newline p) refl in
    let live = session_live c s k.session m.session in
    ap₂ (λ b u. next_brings b u (line_with k p)) live m.user
    ∙ (ap (λ x. next_brings s.live s.user x) next
    ∙ sym (ap (λ (b : Bool). if b then next_brings s.live s.user (next_line T.log (history T) n p) else Nothing) ready))

-- whether the login that it brings waits
pub waits_so : (c : Contents) (T : Trace) (n : ℕ) (p : List ℕ) (k : Kept) → Matches c (seen T n) k → (name : LoginName) → login_in (brings T n p) ≡ Some name
    → (locks : BTreeMap (List ℕ) ℕ) → ((d : List ℕ) → get name_cmp locks d ≡ holder (history T) d) → (now seconds : ℕ) → now ≡ moment T.log
    → (is_locked_by locks name.maildrop && not (is_idle now seconds k)) ≡ waits T n p seconds
waits_so c T n p k m name is locks held now seconds at =
    let late = nat_le (clock T.log n + seconds) (moment T.log) in
    let idle : is_idle now seconds k ≡ late = ap₂ (λ x y. nat_le (x + seconds) y) m.clock at in
    ap₂ (λ x y. x && not y) (ap is_some (held name.maildrop)) idle
    ∙ ap (λ (o : Option LoginName). is_held_for (λ d. is_some (holder (history T) d)) o && not late) (sym is)
