-- Octets that go over a wire in memory.
use Rattle.std.proofs.Common.{◌≡◌, ℕ, zero, suc, ◌+◌, ◌<◌, ◌≤◌, ◌==◌, nat_lt, lt-ltb, le-ltb, Bool, true, false, not, ◌&&◌, ◌||◌, true≢false, List, [], ◌∷◌, ◌++◌, length, take}
use Rattle.std.proofs.Common.{drop, refl, sym, ◌∙◌, ap, arith, None, Some, Option, ⊎_elim, subst, slice_get, set, get_or, length-append, eq-eqb, ne_eqb}
use Rattle.std.specs.Bool.{if◌then◌else◌}
use Rattle.std.specs.Prelude.{vec_items}
use Rattle.std.proofs.lemmas.Bool.{cases_eq}
use Rattle.std.proofs.lemmas.Bool.Decides.{nat_tests}
use Rattle.std.proofs.Math.Seq.{take-add}
use Rattle.std.proofs.lemmas.List.{length-set, length-take, take-take, take-append-le}
use Rattle.serving.specs.declared.script_links.ScriptLink.{ScriptLink}
use Rattle.serving.specs.declared.wire.Io.{Io}
use Rattle.serving.specs.declared.wire.Io.TheVariants.{Broken}
use Rattle.serving.specs.Wires.{Told, more_at, over_at, is_fault, is_live, has_read, has_written, has_accepted, has_closed, ToldOfPorts, IsAccepted}
use Rattle.serving.specs.declared.wire.Link.{Link}
use Rattle.serving.specs.declared.wire.Port.TheVariants.{Pop, Admin}
use Rattle.std.specs.Prelude.{MatchOption}
use Rattle.serving.specs.Scripts.{taken_of, read_by, written_by, is_over_by, TellsOf}
use Rattle.serving.proofs.Keeping.{more_same, more_other, more_none}

or_true : (b : Bool) → (b || true) ≡ true
or_true true = refl
or_true false = refl

or_false : (b : Bool) → (b || false) ≡ b
or_false true = refl
or_false false = refl

set_same : (xs : List ScriptLink) (i : ℕ) (x y : ScriptLink) → slice_get xs i ≡ Some x → slice_get (set xs i y) i ≡ Some y
set_same [] i x y e = cc
set_same (z ∷ xs) zero x y e = refl
set_same (z ∷ xs) (suc i) x y e = set_same xs i x y e

set_other : (xs : List ScriptLink) (i j : ℕ) (x : ScriptLink) → (j ≡ i → ⊥) → slice_get (set xs i x) j ≡ slice_get xs j
set_other [] i j x h = refl
set_other (z ∷ xs) zero zero x h = absurd (h refl)
set_other (z ∷ xs) zero (suc j) x h = refl
set_other (z ∷ xs) (suc i) zero x h = refl
set_other (z ∷ xs) (suc i) (suc j) x h = set_other xs i j x (λ (e : j ≡ i). h (ap suc e))

-- a view of a link stays, or has octets more, if the link is another
view_more : (view : Option ScriptLink → List ℕ) (f : ℕ → List ℕ) (xs : List ScriptLink) (i : ℕ) (x y : ScriptLink) (more : List ℕ)
    → ((k : ℕ) → f k ≡ view (slice_get xs k)) → slice_get xs i ≡ Some x → view (Some y) ≡ view (Some x) ++ more
    → (k : ℕ) → more_at i more f k ≡ view (slice_get (set xs i y) k)
view_more view f xs i x y more h at is k =
    ⊎_elim
    (λ (e : k ≡ i).
    (let a : more_at k more f k ≡ view (Some y) = more_same k more f ∙ (ap (λ s. s ++ more) (h k ∙ ap view (ap (slice_get xs) e ∙ at)) ∙ sym is) in
    let b : slice_get (set xs i y) k ≡ Some y = ap (slice_get (set xs i y)) e ∙ set_same xs i x y at in
    subst (λ j. more_at j more f k ≡ view (slice_get (set xs i y) k)) e (a ∙ sym (ap view b))))
    (λ (ne : k ≡ i → ⊥). more_other i k more f ne ∙ (h k ∙ sym (ap view (set_other xs i k y ne))))
    (cases_eq k i)

view_same : (view : Option ScriptLink → List ℕ) (f : ℕ → List ℕ) (xs : List ScriptLink) (i : ℕ) (x y : ScriptLink)
    → ((k : ℕ) → f k ≡ view (slice_get xs k)) → slice_get xs i ≡ Some x → view (Some y) ≡ view (Some x)
    → (k : ℕ) → f k ≡ view (slice_get (set xs i y) k)
view_same view f xs i x y h at is k =
    ⊎_elim
    (λ (e : k ≡ i).
    (let b : slice_get (set xs i y) k ≡ Some y = ap (slice_get (set xs i y)) e ∙ set_same xs i x y at in
    h k ∙ (ap view (ap (slice_get xs) e ∙ at) ∙ (sym is ∙ sym (ap view b)))))
    (λ (ne : k ≡ i → ⊥). h k ∙ sym (ap view (set_other xs i k y ne)))
    (cases_eq k i)

-- ---- links that are over

over_if : (now same before after : Bool) → (same ≡ true → after ≡ (before || now)) → (same ≡ false → after ≡ before) → (if now && same then true else before) ≡ after
over_if true true before after h n = sym (h refl ∙ or_true before)
over_if true false before after h n = sym (n refl)
over_if false true before after h n = sym (h refl ∙ or_false before)
over_if false false before after h n = sym (n refl)

-- a link may be over from now on
over_then : (over : ℕ → Bool) (xs : List ScriptLink) (i : ℕ) (x y : ScriptLink) (now : Bool) → ((k : ℕ) → k < length xs → over k ≡ is_over_by (slice_get xs k)) → slice_get xs i ≡ Some x
    → y.is_over ≡ (x.is_over || now) → (k : ℕ) → k < length xs → over_at i now over k ≡ is_over_by (slice_get (set xs i y) k)
over_then over xs i x y now h at is k w =
    ⊎_elim
    (λ (e : k ≡ i).
    (let b : slice_get (set xs i y) k ≡ Some y = ap (slice_get (set xs i y)) e ∙ set_same xs i x y at in
    let o : over k ≡ x.is_over = h k w ∙ ap is_over_by (ap (slice_get xs) e ∙ at) in
    over_if now (k == i) (over k) (is_over_by (slice_get (set xs i y) k)) (λ q. ap is_over_by b ∙ (is ∙ ap (λ z. z || now) (sym o))) (λ q. absurd (true≢false (sym (eq-eqb k i e) ∙ q)))))
    (λ (ne : k ≡ i → ⊥).
    over_if now (k == i) (over k) (is_over_by (slice_get (set xs i y) k)) (λ q. absurd (true≢false (sym q ∙ ne_eqb k i ne))) (λ q. ap is_over_by (set_other xs i k y ne) ∙ sym (h k w)))
    (cases_eq k i)

-- of a link that was never accepted nothing is said
over_none : (over : ℕ → Bool) (i k n : ℕ) (now : Bool) → n ≤ i → k < n → over_at i now over k ≡ over k
over_none over i k n now h w =
    over_if now (k == i) (over k) (over k) (λ q. absurd (true≢false (sym q ∙ ne_eqb k i (λ (e : k ≡ i). (let z : ⊥ = omega (arith, h, w, e) in z))))) (λ q. refl)

astray_if : (s strayed within over o : Bool) → s ≡ strayed → within ≡ true → over ≡ o → (s || not (within && not over)) ≡ (strayed || o)
astray_if s strayed within over true e w q = rw (e, w, q) refl
astray_if s strayed within over false e w q = rw (e, w, q) refl

astray_none : (s within over : Bool) → within ≡ false → (s || not (within && not over)) ≡ true
astray_none s within over w = rw w (or_true s)

module _ (xs : List ScriptLink) (strayed : Bool) (t : Told) (i : ℕ) where
  length_there : (x y : ScriptLink) (k : ℕ) → k < length (set xs i y) → k < length xs
  length_there x y k w = subst (λ n. k < n) (length-set xs i y) w

  astray_at : (x : ScriptLink) → TellsOf xs strayed t → slice_get xs i ≡ Some x → i < length xs → (t.strayed || not (is_live t i)) ≡ (strayed || x.is_over)
  astray_at x h at w =
      astray_if t.strayed strayed (nat_lt i t.accepted) (t.over i) x.is_over h.astray (lt-ltb i t.accepted (subst (λ n. i < n) (sym h.accepted) w)) (h.over i w ∙ ap is_over_by at)

  -- a link was read from
  pub read_more : (x y : ScriptLink) (io : Io) (more : List ℕ) → TellsOf xs strayed t → slice_get xs i ≡ Some x → i < length xs → taken_of y ≡ taken_of x ++ more → y.written ≡ x.written
      → y.is_over ≡ (x.is_over || is_fault io) → TellsOf (set xs i y) (strayed || x.is_over) (has_read t i io more)
  read_more x y io more h at w r s o = record {
    accepted = h.accepted ∙ sym (length-set xs i y);
    read = view_more read_by t.read xs i x y more h.read at r;
    written = view_same written_by t.written xs i x y h.written at (ap vec_items s);
    over = λ k l. over_then t.over xs i x y (is_fault io) h.over at o k (length_there x y k l);
    astray = astray_at x h at w;
  }

  -- it was written on
  pub write_more : (x y : ScriptLink) (io : Io) (more : List ℕ) → TellsOf xs strayed t → slice_get xs i ≡ Some x → i < length xs → taken_of y ≡ taken_of x → y.written.items ≡ x.written.items ++ more
      → y.is_over ≡ (x.is_over || is_fault io) → TellsOf (set xs i y) (strayed || x.is_over) (has_written t i io more)
  write_more x y io more h at w r s o = record {
    accepted = h.accepted ∙ sym (length-set xs i y);
    read = view_same read_by t.read xs i x y h.read at r;
    written = view_more written_by t.written xs i x y more h.written at s;
    over = λ k l. over_then t.over xs i x y (is_fault io) h.over at o k (length_there x y k l);
    astray = astray_at x h at w;
  }

  -- it was closed
  pub close_one : (x y : ScriptLink) → TellsOf xs strayed t → slice_get xs i ≡ Some x → taken_of y ≡ taken_of x → y.written ≡ x.written
      → y.is_over ≡ true → TellsOf (set xs i y) strayed (has_closed t i)
  close_one x y h at r s o = record {
    accepted = h.accepted ∙ sym (length-set xs i y);
    read = view_same read_by t.read xs i x y h.read at r;
    written = view_same written_by t.written xs i x y h.written at (ap vec_items s);
    over = λ k l. over_then t.over xs i x y true h.over at (o ∙ sym (or_true x.is_over)) k (length_there x y k l);
    astray = h.astray;
  }

  beyond : TellsOf xs strayed t → length xs ≤ i → nat_lt i t.accepted ≡ false
  beyond h l = le-ltb i t.accepted (subst (λ n. n ≤ i) (sym h.accepted) l)

  -- it was never accepted
  pub read_astray : TellsOf xs strayed t → length xs ≤ i → TellsOf xs true (has_read t i Broken [])
  read_astray h l = record {
    accepted = h.accepted;
    read = λ k. more_none i k t.read ∙ h.read k;
    written = h.written;
    over = λ k w. over_none t.over i k (length xs) true l w ∙ h.over k w;
    astray = astray_none t.strayed (nat_lt i t.accepted) (t.over i) (beyond h l);
  }

  pub write_astray : TellsOf xs strayed t → length xs ≤ i → TellsOf xs true (has_written t i Broken [])
  write_astray h l = record {
    accepted = h.accepted;
    read = h.read;
    written = λ k. more_none i k t.written ∙ h.written k;
    over = λ k w. over_none t.over i k (length xs) true l w ∙ h.over k w;
    astray = astray_none t.strayed (nat_lt i t.accepted) (t.over i) (beyond h l);
  }

  pub close_none : TellsOf xs strayed t → length xs ≤ i → TellsOf xs strayed (has_closed t i)
  close_none h l = record {
    accepted = h.accepted;
    read = h.read;
    written = h.written;
    over = λ k w. over_none t.over i k (length xs) true l w ∙ h.over k w;
    astray = h.astray;
  }

-- ---- a link more

view_push : {X : Type 0} (view : Option ScriptLink → X) (x : ScriptLink) → view (Some x) ≡ view None → (xs : List ScriptLink) (k : ℕ) → view (slice_get (xs ++ x ∷ []) k) ≡ view (slice_get xs k)
view_push view x s [] zero = s
view_push view x s [] (suc k) = refl
view_push view x s (z ∷ xs) zero = refl
view_push view x s (z ∷ xs) (suc k) = view_push view x s xs k

none_behind : (xs : List ScriptLink) (k : ℕ) → length xs ≤ k → slice_get xs k ≡ None
none_behind [] k h = refl
none_behind (x ∷ xs) zero h = absurd (omega (arith, h))
none_behind (x ∷ xs) (suc k) h = none_behind xs k (omega (arith, h))

begun_if : (same before after : Bool) → (same ≡ true → after ≡ false) → (same ≡ false → before ≡ after) → (if same then false else before) ≡ after
begun_if true before after h n = sym (h refl)
begun_if false before after h n = n refl

length_push : (xs : List ScriptLink) (x : ScriptLink) → length (xs ++ x ∷ []) ≡ length xs + 1
length_push xs x = omega (arith, length-append xs (x ∷ []))

within_old : (n k m l : ℕ) → m ≡ n → l ≡ n + 1 → k < l → (k ≡ m → ⊥) → k < n
within_old n k m l e f h ne = grind (arith, nat_tests)

pub accepts_one : (xs : List ScriptLink) (strayed : Bool) (t : Told) (x : ScriptLink) → TellsOf xs strayed t → read_by (Some x) ≡ [] → written_by (Some x) ≡ [] → x.is_over ≡ false
    → TellsOf (xs ++ x ∷ []) strayed (has_accepted t)
accepts_one xs strayed t x h r w o = record {
  accepted = (let a = h.accepted in omega (arith, a, length-append xs (x ∷ [])));
  read = λ k. h.read k ∙ sym (view_push read_by x r xs k);
  written = λ k. h.written k ∙ sym (view_push written_by x w xs k);
  over = λ k l.
      (let p = view_push is_over_by x o xs k in
      ⊎_elim
      (λ (e : k ≡ t.accepted).
      (let b : length xs ≤ k = omega (arith, e, h.accepted) in
      begun_if (k == t.accepted) (t.over k) (is_over_by (slice_get (xs ++ x ∷ []) k)) (λ q. p ∙ ap is_over_by (none_behind xs k b)) (λ q. absurd (true≢false (sym (eq-eqb k t.accepted e) ∙ q)))))
      (λ (ne : k ≡ t.accepted → ⊥).
      begun_if (k == t.accepted) (t.over k) (is_over_by (slice_get (xs ++ x ∷ []) k)) (λ q. absurd (true≢false (sym q ∙ ne_eqb k t.accepted ne)))
      (λ q. h.over k (within_old (length xs) k t.accepted (length (xs ++ x ∷ [])) h.accepted (length_push xs x) l ne) ∙ sym p))
      (cases_eq k t.accepted));
  astray = h.astray;
}

pub link_found : (xs : List ScriptLink) (i : ℕ) (l : ScriptLink) → i < length xs → l ≡ get_or xs i l → slice_get xs i ≡ Some l
link_found [] i l h e = absurd (omega (arith, h))
link_found (z ∷ xs) zero l h e = ap Some (sym e)
link_found (z ∷ xs) (suc i) l h e = link_found xs i l (omega (arith, h)) e

-- so many octets more were taken of what comes
pub read_on : (xs : List ℕ) (at n : ℕ) (piece buffer : List ℕ) → piece ≡ take n (drop at xs) → n ≤ length (drop at xs) → take (at + n) xs ≡ take at xs ++ take n (piece ++ buffer)
read_on xs at n piece buffer is within =
    let ys = drop at xs in
    let long : n ≤ length piece = omega (arith, within, ap length is, length-take n ys) in
    let same : take n (piece ++ buffer) ≡ take n ys = take-append-le n piece buffer long ∙ (ap (take n) is ∙ take-take n n ys (omega arith)) in
    take-add at n xs ∙ ap (λ zs. take at xs ++ zs) (sym same)

-- ---- what the calls of the wire leave

module _ (xs ys : List ScriptLink) (strayed s : Bool) (t : Told) (i n : ℕ) (l x y : ScriptLink) (io : Io) (more : List ℕ) where
  over_of : i < length ys → l ≡ get_or ys i l → x ≡ get_or ys i x → x.is_over ≡ l.is_over
  over_of w fl fx = ap is_over_by (sym (link_found ys i x w fx) ∙ link_found ys i l w fl)

  told_there : ys ≡ xs → s ≡ strayed → TellsOf xs strayed t → TellsOf ys s t
  told_there e b h = subst (λ zs. TellsOf zs s t) (sym e) (subst (λ q. TellsOf xs q t) (sym b) h)

  pub read_told : ys ≡ xs → s ≡ strayed → i < length ys → i ≡ n → l ≡ get_or ys i l → x ≡ get_or ys i x → taken_of y ≡ taken_of x ++ more → y.written ≡ x.written
      → y.is_over ≡ (x.is_over || is_fault io) → TellsOf xs strayed t → TellsOf (set ys i y) (s || l.is_over) (has_read t n io more)
  read_told e b w k fl fx r v o h =
      subst (λ q. TellsOf (set ys i y) (s || q) (has_read t n io more)) (over_of w fl fx)
      (subst (λ m. TellsOf (set ys i y) (s || x.is_over) (has_read t m io more)) k (read_more ys s t i x y io more (told_there e b h) (link_found ys i x w fx) w r v o))

  pub write_told : ys ≡ xs → s ≡ strayed → i < length ys → i ≡ n → l ≡ get_or ys i l → x ≡ get_or ys i x → taken_of y ≡ taken_of x → y.written.items ≡ x.written.items ++ more
      → y.is_over ≡ (x.is_over || is_fault io) → TellsOf xs strayed t → TellsOf (set ys i y) (s || l.is_over) (has_written t n io more)
  write_told e b w k fl fx r v o h =
      subst (λ q. TellsOf (set ys i y) (s || q) (has_written t n io more)) (over_of w fl fx)
      (subst (λ m. TellsOf (set ys i y) (s || x.is_over) (has_written t m io more)) k (write_more ys s t i x y io more (told_there e b h) (link_found ys i x w fx) w r v o))

pub accepted_told : (xs ys zs : List ScriptLink) (ok strayed : Bool) (t : Told) (x : ScriptLink) → zs ≡ (if ok then ys ++ x ∷ [] else ys) → ok ≡ true → ys ≡ xs
    → taken_of x ≡ [] → x.written.items ≡ [] → x.is_over ≡ false → TellsOf xs strayed t → TellsOf zs strayed (has_accepted t)
accepted_told xs ys zs ok strayed t x p k e r w o h =
    let all : zs ≡ xs ++ x ∷ [] = p ∙ (ap (λ b. if b then ys ++ x ∷ [] else ys) k ∙ ap (λ q. q ++ x ∷ []) e) in
    subst (λ q. TellsOf q strayed (has_accepted t)) (sym all) (accepts_one xs strayed t x h r w o)

-- a link was accepted at one port
pub accepts_pop : (P Q : Told → Type 0) (t : ToldOfPorts) (r : Option Link) → MatchOption r (P t.pop) (λ link. (link.number ≡ t.pop.accepted) × P (has_accepted t.pop)) → Q t.admin
    → IsAccepted (λ u. P u.pop × Q u.admin) Pop t r
accepts_pop P Q t None h q = (h, q)
accepts_pop P Q t (Some link) h q = (h.0, (h.1, q))

pub accepts_admin : (P Q : Told → Type 0) (t : ToldOfPorts) (r : Option Link) → P t.pop → MatchOption r (Q t.admin) (λ link. (link.number ≡ t.admin.accepted) × Q (has_accepted t.admin))
    → IsAccepted (λ u. P u.pop × Q u.admin) Admin t r
accepts_admin P Q t None p h = (p, h)
accepts_admin P Q t (Some link) p h = (h.0, (p, h.1))
