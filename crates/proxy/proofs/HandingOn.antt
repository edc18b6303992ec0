-- What is asked inside follows what is asked outside.
use Rattle.std.proofs.Common.{◌≡◌, ◌≤◌, ◌<◌, ℕ, ◌⊎◌, inl, inr, ⊎_elim, Bool, true, false, true≢false, ◌&&◌, ◌||◌, ◌==◌, List, [], ◌∷◌, ◌++◌, length, take, get_or, append-nil}
use Rattle.std.proofs.Common.{append_assoc, refl, sym, ◌∙◌, ap, subst, arith, eq-eqb, ne_eqb, Option, Some, None, is_some}
use Rattle.std.specs.Bool.{if◌then◌else◌}
use Rattle.std.specs.List.{list_any}
use Rattle.std.proofs.lemmas.Bool.{cases_eq}
use Rattle.std.proofs.lemmas.List.Folds.{list_any-append}
use Rattle.std.specs.declared.net.ip_addr.IpAddr.{IpAddr}
use Rattle.serving.specs.Wires.{is_fault, counted, IsWithin}
use Rattle.serving.specs.Calls.{Call, Waited, Accepted, Looked, Read, Wrote, Closed}
use Rattle.serving.specs.declared.wire.Link.{Link}
use Rattle.serving.specs.declared.wire.Io.{Io}
use Rattle.serving.specs.declared.wire.Io.TheVariants.{Later, Broken, Count}
use Rattle.serving.specs.declared.wire.Port.TheVariants.{Pop, Admin}
use Rattle.proxy.specs.declared.wire.Progress.{Progress}
use Rattle.proxy.specs.declared.wire.Progress.TheVariants.{Whole, Open}
use Rattle.proxy.specs.Proxied.{has_line, behind_line, io_of, IsAsFarAs}
use Rattle.proxy.specs.Behind.{octets_on, read_on, ends_on, IsLineWhole, IsLineAwaited, IsOnLine, AreOnLine, is_read, ends_line, IsBehindLine, NoCall}
use Rattle.proxy.specs.Behind.{IsHandedOn, IsHurried, IsKeptBack, IsOfLine, IsSo, AskedBehind, TakesLine, AskedAmid}
use Rattle.proxy.proofs.Telling.{nothing_behind_so_far, whole_has, IsPut, one_front, counted_none}

-- ---- octets and lines

or_line : (x : ℕ) (xs ys : List ℕ) → has_line (xs ++ ys) ≡ (has_line xs || has_line ys) → (if x == 10 then true else has_line (xs ++ ys)) ≡ ((if x == 10 then true else has_line xs) || has_line ys)
or_line x xs ys e = or_if (x == 10) (has_line (xs ++ ys)) (has_line xs) (has_line ys) e
  where
    or_if : (b l m n : Bool) → l ≡ (m || n) → (if b then true else l) ≡ ((if b then true else m) || n)
    or_if true l m n e = refl
    or_if false l m n e = e

pub has_append : (xs ys : List ℕ) → has_line (xs ++ ys) ≡ (has_line xs || has_line ys)
has_append [] ys = refl
has_append (x ∷ xs) ys = or_line x xs ys (has_append xs ys)

or_true : (b : Bool) → (b || true) ≡ true
or_true true = refl
or_true false = refl

or_false : (b : Bool) → (b || false) ≡ b
or_false true = refl
or_false false = refl

pub read_append : (k : ℕ) (xs ys : List Call) → read_on k (xs ++ ys) ≡ read_on k xs ++ read_on k ys
read_append k [] ys = refl
read_append k (x ∷ xs) ys = ap (λ o. octets_on k x ++ o) (read_append k xs ys) ∙ sym (append_assoc (octets_on k x) (read_on k xs) (read_on k ys))

has_both : (k : ℕ) (xs ys : List Call) → has_line (read_on k (xs ++ ys)) ≡ (has_line (read_on k xs) || has_line (read_on k ys))
has_both k xs ys = ap has_line (read_append k xs ys) ∙ has_append (read_on k xs) (read_on k ys)

-- a line that is whole stays whole
pub whole_still : (k : ℕ) (xs ys : List Call) → IsLineWhole k xs → IsLineWhole k (xs ++ ys)
whole_still k xs ys e = has_both k xs ys ∙ ap (λ b. b || has_line (read_on k ys)) e

pub whole_now : (k : ℕ) (xs ys : List Call) → has_line (read_on k ys) ≡ true → IsLineWhole k (xs ++ ys)
whole_now k xs ys e = has_both k xs ys ∙ (ap (λ b. has_line (read_on k xs) || b) e ∙ or_true (has_line (read_on k xs)))

-- an awaited one is awaited still if no LF came
pub awaited_still : (k : ℕ) (xs ys : List Call) → has_line (read_on k ys) ≡ false → IsLineAwaited k xs → IsLineAwaited k (xs ++ ys)
awaited_still k xs ys none (inl e) = inl (has_both k xs ys ∙ (ap (λ b. has_line (read_on k xs) || b) none ∙ (or_false (has_line (read_on k xs)) ∙ e)))
awaited_still k xs ys none (inr e) = inr (list_any-append (ends_on k) xs ys ∙ ap (λ b. b || list_any (ends_on k) ys) e)

pub awaited_over : (k : ℕ) (xs ys : List Call) → list_any (ends_on k) ys ≡ true → IsLineAwaited k (xs ++ ys)
awaited_over k xs ys e = inr (list_any-append (ends_on k) xs ys ∙ (ap (λ b. list_any (ends_on k) xs || b) e ∙ or_true (list_any (ends_on k) xs)))

-- ---- calls on one link's line

pub on_append : (link : Link) (least : ℕ) (xs ys : List Call) → AreOnLine link least xs → AreOnLine link least ys → AreOnLine link least (xs ++ ys)
on_append link least [] ys a b = b
on_append link least (x ∷ xs) ys a b = (a.0, on_append link least xs ys a.1 b)

less_on : (link : Link) (least less : ℕ) (x : Call) → less ≤ least → IsOnLine link least x → IsOnLine link less x
less_on link least less (Waited millis) le h = h
less_on link least less (Accepted port came) le h = h
less_on link least less (Looked Pop of io octets) le h = h
less_on link least less (Looked Admin of io octets) le h = h
less_on link least less (Read Pop of room io octets) le h = (h.0, h.1, omega (arith, le, h.2), h.3)
less_on link least less (Read Admin of room io octets) le h = h
less_on link least less (Wrote port of offered io octets) le h = h
less_on link least less (Closed Pop of) le h = h
less_on link least less (Closed Admin of) le h = h

-- room for more is room for less
pub less_room : (link : Link) (least less : ℕ) (xs : List Call) → less ≤ least → AreOnLine link least xs → AreOnLine link less xs
less_room link least less [] le a = a
less_room link least less (x ∷ xs) le a = (less_on link least less x le a.0, less_room link least less xs le a.1)

none_at : (b : Bool) (octets : List ℕ) → b ≡ false → (if b then octets else []) ≡ []
none_at b octets e = rw e refl

none_on : (link : Link) (least k : ℕ) (x : Call) → IsOnLine link least x → (k ≡ link.number → ⊥) → octets_on k x ≡ []
none_on link least k (Waited millis) h ne = refl
none_on link least k (Accepted port came) h ne = refl
none_on link least k (Looked port of io octets) h ne = refl
none_on link least k (Read Pop of room io octets) h ne = none_at (of.number == k) octets (ne_eqb of.number k (λ e. ne (sym e ∙ ap (λ (l : Link). l.number) h.0)))
none_on link least k (Read Admin of room io octets) h ne = refl
none_on link least k (Wrote port of offered io octets) h ne = refl
none_on link least k (Closed port of) h ne = refl

-- they read nothing on another one
pub others_unread : (link : Link) (least k : ℕ) (xs : List Call) → AreOnLine link least xs → (k ≡ link.number → ⊥) → read_on k xs ≡ []
others_unread link least k [] a ne = refl
others_unread link least k (x ∷ xs) a ne = ap (λ o. o ++ read_on k xs) (none_on link least k x a.0 ne) ∙ others_unread link least k xs a.1 ne

-- ---- lines that came to their ends

pub ends_append : (b : Bool) (xs ys : List Call) → ends_line b (xs ++ ys) ≡ ends_line (ends_line b xs) ys
ends_append b [] ys = refl
ends_append b (Waited millis ∷ xs) ys = ends_append false xs ys
ends_append b (Accepted port came ∷ xs) ys = ends_append b xs ys
ends_append b (Looked port of io octets ∷ xs) ys = ends_append b xs ys
ends_append b (Read port of room io octets ∷ xs) ys = ends_append (b || has_line octets) xs ys
ends_append b (Wrote port of offered io octets ∷ xs) ys = ends_append b xs ys
ends_append b (Closed port of ∷ xs) ys = ends_append b xs ys

-- reads on a line wait for nothing
pub ends_still : (link : Link) (least : ℕ) (xs : List Call) → AreOnLine link least xs → ends_line true xs ≡ true
ends_still link least [] a = refl
ends_still link least (Waited millis ∷ xs) a = absurd a.0
ends_still link least (Accepted port came ∷ xs) a = absurd a.0
ends_still link least (Looked port of io octets ∷ xs) a = ends_still link least xs a.1
ends_still link least (Read port of room io octets ∷ xs) a = ends_still link least xs a.1
ends_still link least (Wrote port of offered io octets ∷ xs) a = absurd a.0
ends_still link least (Closed port of ∷ xs) a = ends_still link least xs a.1

some_at : (c : Bool) (octets rest : List ℕ) → has_line ((if c then octets else []) ++ rest) ≡ true → (has_line octets ≡ true) ⊎ (has_line rest ≡ true)
some_at true octets rest e = some_of (has_line octets) (has_line rest) (sym (has_append octets rest) ∙ e)
  where
    some_of : (a b : Bool) → (a || b) ≡ true → (a ≡ true) ⊎ (b ≡ true)
    some_of true b e = inl refl
    some_of false b e = inr e
some_at false octets rest e = inr e

-- an LF among what they read is one since the wait
pub ends_now : (link : Link) (least : ℕ) (b : Bool) (xs : List Call) → AreOnLine link least xs → has_line (read_on link.number xs) ≡ true → ends_line b xs ≡ true
ends_now link least b [] a e = absurd (true≢false (sym e))
ends_now link least b (Waited millis ∷ xs) a e = absurd a.0
ends_now link least b (Accepted port came ∷ xs) a e = absurd a.0
ends_now link least b (Looked port of io octets ∷ xs) a e = ends_now link least b xs a.1 e
ends_now link least b (Read Admin of room io octets ∷ xs) a e = absurd a.0
ends_now link least b (Read Pop of room io octets ∷ xs) a e = ⊎_elim
    (λ (here : has_line octets ≡ true). (let on : (b || has_line octets) ≡ true = ap (λ c. b || c) here ∙ or_true b in subst (λ c. ends_line c xs ≡ true) (sym on) (ends_still link least xs a.1)))
    (λ (later : has_line (read_on link.number xs) ≡ true). ends_now link least (b || has_line octets) xs a.1 later)
    (some_at (of.number == link.number) octets (read_on link.number xs) e)
ends_now link least b (Wrote port of offered io octets ∷ xs) a e = absurd a.0
ends_now link least b (Closed port of ∷ xs) a e = ends_now link least b xs a.1 e

-- ---- one call handed on

so_still : (o : Option (Option IpAddr)) (k : ℕ) (xs ys : List Call) → ((o ≡ None) → has_line (read_on k ys) ≡ false) → IsSo o k xs → IsSo o k (xs ++ ys)
so_still (Some source) k xs ys none a = whole_still k xs ys a
so_still None k xs ys none a = awaited_still k xs ys (none refl) a

same_number : (link : Link) (k : ℕ) (inside : List Call) → link.number ≡ k → IsLineWhole link.number inside → has_line (read_on k inside) ≡ false → ⊥
same_number link k inside e whole none = true≢false (sym whole ∙ (ap (λ j. has_line (read_on j inside)) e ∙ none))

-- if a line is awaited, what is handed on reads nothing on its link
unread : (k : ℕ) (inside : List Call) (call : Call) → IsBehindLine inside call → has_line (read_on k inside) ≡ false → has_line (read_on k (call ∷ [])) ≡ false
unread k inside (Waited millis) b e = refl
unread k inside (Accepted port came) b e = refl
unread k inside (Looked port of io octets) b e = refl
unread k inside (Read Admin of room io octets) b e = refl
unread k inside (Read Pop of room io octets) b e = ⊎_elim
    (λ (q : of.number ≡ k). absurd (same_number of k inside q b e))
    (λ (ne : of.number ≡ k → ⊥). ap (λ o. has_line (o ++ [])) (none_at (of.number == k) octets (ne_eqb of.number k ne)))
    (cases_eq of.number k)
unread k inside (Wrote port of offered io octets) b e = refl
unread k inside (Closed port of) b e = refl

so_on : (o : Option (Option IpAddr)) (k : ℕ) (inside : List Call) (call : Call) → IsBehindLine inside call → IsSo o k inside → IsSo o k (inside ++ call ∷ [])
so_on (Some source) k inside call b a = whole_still k inside (call ∷ []) a
so_on None k inside call b (inl e) = awaited_still k inside (call ∷ []) (unread k inside call b e) (inl e)
so_on None k inside call b (inr e) = inr (list_any-append (ends_on k) inside (call ∷ []) ∙ ap (λ c. c || list_any (ends_on k) (call ∷ [])) e)

abbrev pub is_wait : Call → Bool
is_wait (Waited millis) = true
is_wait _ = false

one_more : (call : Call) → is_wait call ≡ false → ends_line true (call ∷ []) ≡ true
one_more (Waited millis) e = absurd (true≢false e)
one_more (Accepted port came) e = refl
one_more (Looked port of io octets) e = refl
one_more (Read port of room io octets) e = refl
one_more (Wrote port of offered io octets) e = refl
one_more (Closed port of) e = refl

pressed_on : (inside : List Call) (call : Call) → is_wait call ≡ false → ends_line false inside ≡ true → ends_line false (inside ++ call ∷ []) ≡ true
pressed_on inside call w e = ends_append false inside (call ∷ []) ∙ (ap (λ b. ends_line b (call ∷ [])) e ∙ one_more call w)

-- a source that is known was named by a whole line
pub known_whole : (o : Option (Option IpAddr)) (k : ℕ) (inside : List Call) → is_some o ≡ true → IsSo o k inside → IsLineWhole k inside
known_whole (Some source) k inside e so = so
known_whole None k inside e so = absurd (true≢false (sym e))

pub none_known : (o : Option (Option IpAddr)) → is_some o ≡ false → o ≡ None
none_known (Some source) e = absurd (true≢false e)
none_known None e = refl

module _ {W : Type 0} (Asked : W → List Call → Type 0) where
  -- a wire from which nothing was asked
  pub nothing_asked : (w : W) (known : ℕ → Option (Option IpAddr)) → Asked w [] → ((k : ℕ) → known k ≡ None) → AskedBehind Asked w known false []
  nothing_asked w known asked none = record {
    inside = [];
    asked = asked;
    behind = NoCall;
    known_so = λ k. subst (λ o. IsSo o k []) (sym (none k)) (inl refl);
    pressed = λ e. absurd (true≢false (sym e));
  }

  pub hands_on : (w w' : W) (known : ℕ → Option (Option IpAddr)) (hurries : Bool) (calls : List Call) (call : Call) → is_wait call ≡ false
      → ((inside : List Call) → ((k : ℕ) → IsSo (known k) k inside) → IsBehindLine inside call) → ((before : List Call) → Asked w before → Asked w' (before ++ call ∷ []))
      → AskedBehind Asked w known hurries calls → AskedBehind Asked w' known hurries (calls ++ call ∷ [])
  hands_on w w' known hurries calls call wait free called a =
      let b = free a.inside a.known_so in
      record {
        inside = a.inside ++ call ∷ [];
        asked = called a.inside a.asked;
        behind = IsHandedOn a.inside calls call b a.behind;
        known_so = λ k. so_on (known k) k a.inside call b (a.known_so k);
        pressed = λ e. pressed_on a.inside call wait (a.pressed e);
      }

  pub hands_wait : (w w' : W) (known : ℕ → Option (Option IpAddr)) (hurries : Bool) (calls : List Call) (millis : ℕ)
      → ((before : List Call) → Asked w before → Asked w' (before ++ Waited (if hurries then 0 else millis) ∷ []))
      → AskedBehind Asked w known hurries calls → AskedBehind Asked w' known false (calls ++ Waited millis ∷ [])
  hands_wait w w' known true calls millis called a = record {
    inside = a.inside ++ Waited 0 ∷ [];
    asked = called a.inside a.asked;
    behind = IsHurried a.inside calls millis (a.pressed refl) a.behind;
    known_so = λ k. so_on (known k) k a.inside (Waited 0) tt (a.known_so k);
    pressed = λ e. absurd (true≢false (sym e));
  }
  hands_wait w w' known false calls millis called a = record {
    inside = a.inside ++ Waited millis ∷ [];
    asked = called a.inside a.asked;
    behind = IsHandedOn a.inside calls (Waited millis) tt a.behind;
    known_so = λ k. so_on (known k) k a.inside (Waited millis) tt (a.known_so k);
    pressed = λ e. absurd (true≢false (sym e));
  }

  pub hands_close : (w w' : W) (known known' : ℕ → Option (Option IpAddr)) (hurries : Bool) (calls : List Call) (link : Link) → IsPut known link.number None known'
      → ((before : List Call) → Asked w before → Asked w' (before ++ Closed Pop link ∷ []))
      → AskedBehind Asked w known hurries calls → AskedBehind Asked w' known' hurries (calls ++ Closed Pop link ∷ [])
  hands_close w w' known known' hurries calls link put called a = record {
    inside = a.inside ++ Closed Pop link ∷ [];
    asked = called a.inside a.asked;
    behind = IsHandedOn a.inside calls (Closed Pop link) tt a.behind;
    known_so = λ k. ⊎_elim
        (λ (e : k ≡ link.number). subst (λ j. IsSo (known' j) j (a.inside ++ Closed Pop link ∷ [])) (sym e)
        (subst (λ o. IsSo o link.number (a.inside ++ Closed Pop link ∷ [])) (sym put.there) (awaited_over link.number a.inside (Closed Pop link ∷ []) (closes_it link))))
        (λ (ne : k ≡ link.number → ⊥). subst (λ o. IsSo o k (a.inside ++ Closed Pop link ∷ [])) (sym (put.others k ne)) (so_on (known k) k a.inside (Closed Pop link) tt (a.known_so k)))
        (cases_eq k link.number);
    pressed = λ e. pressed_on a.inside (Closed Pop link) refl (a.pressed e);
  }
    where
      closes_it : (link : Link) → list_any (ends_on link.number) (Closed Pop link ∷ []) ≡ true
      closes_it link = ap (λ b. b || false) (eq-eqb link.number link.number refl)

  pub keeps_back : (w : W) (known : ℕ → Option (Option IpAddr)) (hurries : Bool) (calls : List Call) (link : Link) → known link.number ≡ None
      → AskedBehind Asked w known hurries calls → AskedBehind Asked w known hurries (calls ++ Looked Pop link Later [] ∷ [])
  keeps_back w known hurries calls link none a = record {
    inside = a.inside;
    asked = a.asked;
    behind = IsKeptBack a.inside calls link (subst (λ o. IsSo o link.number a.inside) none (a.known_so link.number)) a.behind;
    known_so = a.known_so;
    pressed = a.pressed;
  }

  -- ---- a line that is read

  octets_same : (link : Link) (room : ℕ) (io : Io) (octets : List ℕ) → read_on link.number (Read Pop link room io octets ∷ []) ≡ octets
  octets_same link room io octets = ap (λ b. (if b then octets else []) ++ []) (eq-eqb link.number link.number refl) ∙ append-nil octets

  ends_same : (link : Link) (room : ℕ) (io : Io) (octets : List ℕ) → list_any (ends_on link.number) (Read Pop link room io octets ∷ []) ≡ is_fault io
  ends_same link room io octets = ap (λ b. (is_fault io && b) || false) (eq-eqb link.number link.number refl) ∙ and_true (is_fault io)
    where
      and_true : (b : Bool) → ((b && true) || false) ≡ b
      and_true true = refl
      and_true false = refl

  -- one read
  pub one_read : (w : W) (link : Link) (room : ℕ) (io : Io) (octets : List ℕ) (p : Progress) (before : List Call)
      → Asked w (before ++ Read Pop link room io octets ∷ []) → length octets ≤ room → room ≤ 1 → IsAsFarAs p octets
      → is_fault io ≡ is_fault (io_of p) → TakesLine Asked w link room p before
  one_read w link room io octets p before asked short one far fault = record {
    taken = Read Pop link room io octets ∷ [];
    asked = asked;
    are = record {
      own = ((refl, short, omega arith, one), tt);
      reads = refl;
      far = subst (IsAsFarAs p) (sym (octets_same link room io octets)) far;
      over = ends_same link room io octets ∙ fault;
    };
  }

  -- one into no room
  pub none_taken : (w : W) (link : Link) (io : Io) (buffer : List ℕ) (before : List Call) → IsWithin 0 io
      → Asked w (before ++ Read Pop link 0 io (counted io buffer) ∷ []) → TakesLine Asked w link 0 (Open io) before
  none_taken w link io buffer before within asked =
      one_read w link 0 io [] (Open io) before (subst (λ o. Asked w (before ++ Read Pop link 0 io o ∷ [])) (counted_none io buffer within) asked) (omega arith) (omega arith) refl refl

  -- one that gave an octet
  pub octet_read : (w : W) (link : Link) (n x : ℕ) (one : List ℕ) (p : Progress) (before : List Call)
      → Asked w (before ++ Read Pop link 1 (Count n) (take n one) ∷ []) → 0 < n → n ≤ 1 → length one ≡ 1 → x ≡ get_or one 0 x
      → IsAsFarAs p (x ∷ []) → is_fault (io_of p) ≡ false → TakesLine Asked w link 1 p before
  octet_read w link n x one p before asked lt le single is far fine =
      one_read w link 1 (Count n) (x ∷ []) p before
      (subst (λ o. Asked w (before ++ Read Pop link 1 (Count n) o ∷ [])) (one_front n x one lt le single is) asked) (omega arith) (omega arith) far (sym fine)

  far_then : (q : Progress) (xs ys : List ℕ) → has_line xs ≡ false → IsAsFarAs q ys → IsAsFarAs q (xs ++ ys)
  far_then Whole xs ys none (front, e, open_yet) =
      (xs ++ front, ap (λ zs. xs ++ zs) e ∙ sym (append_assoc xs front (10 ∷ [])), has_append xs front ∙ (ap (λ b. b || has_line front) none ∙ open_yet))
  far_then (Open io) xs ys none h = has_append xs ys ∙ (ap (λ b. b || has_line ys) none ∙ h)

  -- reads after one that gave an octet
  pub reads_then : (mid now : W) (link : Link) (p : Progress) (io : Io) (q : Progress) (before : List Call) → p ≡ Open io → is_fault io ≡ false → TakesLine Asked mid link 1 p before
      → ((calls : List Call) → Asked mid calls → TakesLine Asked now link 1 q calls) → TakesLine Asked now link 1 q before
  reads_then mid now link p io q before same fine start others =
      let first : TakesLine Asked mid link 1 (Open io) before = subst (λ r. TakesLine Asked mid link 1 r before) same start in
      let next = others (before ++ first.taken) first.asked in
      let k = link.number in
      record {
        taken = first.taken ++ next.taken;
        asked = subst (Asked now) (append_assoc before first.taken next.taken) next.asked;
        are = record {
          own = on_append link 1 first.taken next.taken first.are.own next.are.own;
          reads = list_any-append is_read first.taken next.taken ∙ ap (λ b. b || list_any is_read next.taken) first.are.reads;
          far = subst (IsAsFarAs q) (sym (read_append k first.taken next.taken)) (far_then q (read_on k first.taken) (read_on k next.taken) first.are.far next.are.far);
          over = list_any-append (ends_on k) first.taken next.taken ∙ (ap (λ b. b || list_any (ends_on k) next.taken) (first.are.over ∙ fine) ∙ next.are.over);
        };
      }

  -- reads after a look
  pub looked_first : (w : W) (link : Link) (io : Io) (octets : List ℕ) (q : Progress) (before : List Call)
      → TakesLine Asked w link 1 q (before ++ Looked Pop link io octets ∷ []) → TakesLine Asked w link 1 q before
  looked_first w link io octets q before a = record {
    taken = Looked Pop link io octets ∷ a.taken;
    asked = subst (Asked w) (append_assoc before (Looked Pop link io octets ∷ []) a.taken) a.asked;
    are = record { own = (refl, a.are.own); reads = a.are.reads; far = a.are.far; over = a.are.over };
  }

  pub amid : (w w' : W) (known : ℕ → Option (Option IpAddr)) (hurries : Bool) (link : Link) (least : ℕ) (p : Progress) (calls : List Call)
      → AskedBehind Asked w known hurries calls → known link.number ≡ None
      → ((before : List Call) → Asked w before → TakesLine Asked w' link least p before) → AskedAmid Asked w' known hurries link least p calls
  amid w w' known hurries link least p calls a none takes = record {
    inside = a.inside;
    takes = takes a.inside a.asked;
    behind = a.behind;
    known_so = a.known_so;
    pressed = a.pressed;
    unknown = none;
  }

  -- sources are known as before
  pub same_known : (w : W) (known known' : ℕ → Option (Option IpAddr)) (hurries : Bool) (link : Link) (p : Progress) (calls : List Call) → ((j : ℕ) → known' j ≡ known j)
      → AskedAmid Asked w known hurries link 1 p calls → AskedAmid Asked w known' hurries link 1 p calls
  same_known w known known' hurries link p calls same a = record {
    inside = a.inside;
    takes = a.takes;
    behind = a.behind;
    known_so = λ k. subst (λ o. IsSo o k a.inside) (sym (same k)) (a.known_so k);
    pressed = a.pressed;
    unknown = same link.number ∙ a.unknown;
  }

  -- what other links' lines are stays so
  others_so : (link : Link) (least : ℕ) (o : Option (Option IpAddr)) (k : ℕ) (inside taken : List Call) → AreOnLine link least taken
      → (k ≡ link.number → ⊥) → IsSo o k inside → IsSo o k (inside ++ taken)
  others_so link least o k inside taken own ne so = so_still o k inside taken (λ e. ap has_line (others_unread link least k taken own ne)) so

  pressed_still : (link : Link) (least : ℕ) (inside taken : List Call) → AreOnLine link least taken → ends_line false inside ≡ true → ends_line false (inside ++ taken) ≡ true
  pressed_still link least inside taken own e = ends_append false inside taken ∙ (ap (λ b. ends_line b taken) e ∙ ends_still link least taken own)

  awaits : (w : W) (known : ℕ → Option (Option IpAddr)) (hurries : Bool) (link : Link) (least : ℕ) (p : Progress) (calls : List Call) (a : AskedAmid Asked w known hurries link least p calls)
      → IsLineAwaited link.number a.inside
  awaits w known hurries link least p calls a = subst (λ o. IsSo o link.number a.inside) a.unknown (a.known_so link.number)

  -- a line that isn't whole yet
  pub line_open : (w : W) (known : ℕ → Option (Option IpAddr)) (hurries : Bool) (link : Link) (least : ℕ) (was : Io) (room : ℕ) (io : Io) (calls : List Call)
      → is_fault was ≡ is_fault io → (if is_fault io then 0 else 1) ≤ least → AskedAmid Asked w known hurries link least (Open was) calls
      → AskedBehind Asked w known hurries (calls ++ Read Pop link room io [] ∷ [])
  line_open w known hurries link least was room io calls same le a =
      let k = link.number in
      let t = a.takes in
      record {
        inside = a.inside ++ t.taken;
        asked = t.asked;
        behind = IsOfLine a.inside t.taken calls link room io
            (record {
              awaited = awaits w known hurries link least (Open was) calls a;
              own =
                  less_room link least (if is_fault io then 0 else 1) t.taken le t.are.own;
              reads = t.are.reads;
              line = nothing_behind_so_far (Open was) (read_on k t.taken) t.are.far;
              over = t.are.over
                  ∙ same;
            }) a.behind;
        known_so = λ j. ⊎_elim
            (λ (e : j ≡ k). so_still (known j) j a.inside t.taken (λ n. subst (λ i. has_line (read_on i t.taken) ≡ false) (sym e) t.are.far) (a.known_so j))
            (λ (ne : j ≡ k → ⊥). others_so link least (known j) j a.inside t.taken t.are.own ne (a.known_so j))
            (cases_eq j k);
        pressed = λ e. pressed_still link least a.inside t.taken t.are.own (a.pressed e);
      }

  -- one that is, and names a source
  pub line_whole : (w : W) (known known' : ℕ → Option (Option IpAddr)) (hurries : Bool) (link : Link) (source : Option IpAddr) (room : ℕ) (calls : List Call)
      → IsPut known link.number (Some source) known'
      → AskedAmid Asked w known hurries link 1 Whole calls → AskedBehind Asked w known' true (calls ++ Read Pop link room Later [] ∷ [])
  line_whole w known known' hurries link source room calls put a =
      let k = link.number in
      let t = a.takes in
      let has : has_line (read_on k t.taken) ≡ true = ap has_line t.are.far.1 ∙ whole_has t.are.far.0 in
      record {
        inside = a.inside ++ t.taken;
        asked = t.asked;
        behind = IsOfLine a.inside t.taken calls link room Later
            (record {
              awaited = awaits w known hurries link 1 Whole calls a;
              own = t.are.own;
              reads = t.are.reads;
              line =
                  nothing_behind_so_far Whole (read_on k t.taken) t.are.far;
              over = t.are.over;
            }) a.behind;
        known_so = λ j. ⊎_elim
            (λ (e : j ≡ k). subst (λ i. IsSo (known' i) i (a.inside ++ t.taken)) (sym e) (subst (λ o. IsSo o k (a.inside ++ t.taken)) (sym put.there) (whole_now k a.inside t.taken has)))
            (λ (ne : j ≡ k → ⊥). subst (λ o. IsSo o j (a.inside ++ t.taken)) (sym (put.others j ne)) (others_so link 1 (known j) j a.inside t.taken t.are.own ne (a.known_so j)))
            (cases_eq j k);
        pressed = λ e. ends_append false a.inside t.taken ∙ ends_now link 1 (ends_line false a.inside) t.taken t.are.own has;
      }

  -- its link is closed
  pub line_broken : (w w' : W) (known : ℕ → Option (Option IpAddr)) (hurries : Bool) (link : Link) (least : ℕ) (p : Progress) (room : ℕ) (calls : List Call)
      → ((before : List Call) → Asked w before → Asked w' (before ++ Closed Pop link ∷ []))
      → AskedAmid Asked w known hurries link least p calls → AskedBehind Asked w' known hurries (calls ++ Read Pop link room Broken [] ∷ [])
  line_broken w w' known hurries link least p room calls called a =
      let k = link.number in
      let t = a.takes in
      let taken = t.taken ++ Closed Pop link ∷ [] in
      let closes : list_any (ends_on k) (Closed Pop link ∷ []) ≡ true = ap (λ b. b || false) (eq-eqb k k refl) in
      let over : list_any (ends_on k) taken ≡ true = list_any-append (ends_on k) t.taken (Closed Pop link ∷ [])
      ∙ (ap (λ b. list_any (ends_on k) t.taken || b) closes ∙ or_true (list_any (ends_on k) t.taken)) in
      let own = on_append link 0 t.taken (Closed Pop link ∷ []) (less_room link least 0 t.taken (omega arith) t.are.own) (refl, tt) in
      let same : read_on k taken ≡ read_on k t.taken = read_append k t.taken (Closed Pop link ∷ []) ∙ append-nil (read_on k t.taken) in
      record {
        inside = a.inside ++ taken;
        asked = subst (Asked w') (append_assoc a.inside t.taken (Closed Pop link ∷ [])) (called (a.inside ++ t.taken) t.asked);
        behind = IsOfLine a.inside taken calls link room Broken
            (record {
              awaited = awaits w known hurries link least p calls a;
              own = own;
              reads = list_any-append is_read t.taken (Closed Pop link ∷ []) ∙ ap (λ b. b || false) t.are.reads;
              line = ap behind_line same ∙ nothing_behind_so_far p (read_on k t.taken) t.are.far;
              over = over;
            }) a.behind;
        known_so = λ j. ⊎_elim
            (λ (e : j ≡ k). subst (λ i. IsSo (known i) i (a.inside ++ taken)) (sym e) (subst (λ o. IsSo o k (a.inside ++ taken)) (sym a.unknown) (awaited_over k a.inside taken over)))
            (λ (ne : j ≡ k → ⊥). others_so link 0 (known j) j a.inside taken own ne (a.known_so j))
            (cases_eq j k);
        pressed = λ e. pressed_still link 0 a.inside taken own (a.pressed e);
      }
