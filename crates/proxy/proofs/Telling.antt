-- What is recorded outside follows what is recorded inside.
use Rattle.std.proofs.Common.{◌≡◌, ℕ, ◌+◌, ◌<◌, ◌≤◌, ◌⊎◌, inl, inr, ⊎_elim, Bool, true, false, true≢false, not, ◌&&◌, ◌||◌, ◌==◌, List, [], ◌∷◌, ◌++◌, length, take, get_or}
use Rattle.std.proofs.Common.{append-nil, suc, refl, sym, ◌∙◌, ap, subst, arith, eqb, eq-eqb, ne_eqb, nat_cmp, Option, Some, None, IfSome, is_some}
use Rattle.std.specs.Bool.{if◌then◌else◌}
use Rattle.std.proofs.lemmas.Bool.{cases_eq}
use Rattle.std.proofs.lemmas.Bool.Decides.{nat_tests}
use Rattle.std.specs.Map.{lookup}
use Rattle.std.specs.BTreeMap.{is_at, get, Updates, BTreeMap}
use Rattle.std.specs.declared.net.ip_addr.IpAddr.{IpAddr}
use Rattle.serving.specs.declared.wire.Io.{Io}
use Rattle.serving.specs.declared.wire.Io.TheVariants.{Later, Broken, End, Count}
use Rattle.serving.specs.declared.wire.Port.TheVariants.{Pop}
use Rattle.serving.specs.Wires.{Told, ToldOfPorts, at_port, more_at, is_fault, is_live, has_read, has_accepted, has_closed, counted, IsWithin}
use Rattle.proxy.specs.declared.wire.Begun.{Begun}
use Rattle.proxy.specs.Lines.{IsProxyLine}
use Rattle.proxy.specs.Proxied.{first_line, behind_line, has_line, TellsBehind, IsBegun, IsKnown, TellsProxied, HasGone, IsLineRead, IsAsFarAs, io_of}
use Rattle.proxy.specs.declared.wire.Progress.{Progress}
use Rattle.proxy.specs.declared.wire.Progress.TheVariants.{Whole, Open}

-- ---- one number's octets

pub more_same : (k j : ℕ) (more : List ℕ) (f : ℕ → List ℕ) → j ≡ k → more_at k more f j ≡ f j ++ more
more_same k j more f e = let q = eq-eqb j k e in rw q refl

pub more_other : (k j : ℕ) (more : List ℕ) (f : ℕ → List ℕ) → (j ≡ k → ⊥) → more_at k more f j ≡ f j
more_other k j more f h = let q = ne_eqb j k h in rw q refl

none_if : (b : Bool) (xs : List ℕ) → (if b then xs ++ [] else xs) ≡ xs
none_if true xs = append-nil xs
none_if false xs = refl

pub more_none : (k j : ℕ) (f : ℕ → List ℕ) → more_at k [] f j ≡ f j
more_none k j f = none_if (j == k) (f j)

twice_if : (b : Bool) (xs ys zs : List ℕ) → (if b then (if b then xs ++ ys else xs) ++ zs else (if b then xs ++ ys else xs)) ≡ (if b then xs ++ (ys ++ zs) else xs)
twice_if true xs ys zs = append_assoc_here xs ys zs
  where
    append_assoc_here : (xs ys zs : List ℕ) → (xs ++ ys) ++ zs ≡ xs ++ (ys ++ zs)
    append_assoc_here [] ys zs = refl
    append_assoc_here (x ∷ xs) ys zs = ap (λ r. x ∷ r) (append_assoc_here xs ys zs)
twice_if false xs ys zs = refl

-- ---- lines

-- what has no LF has nothing after a line
pub nothing_behind : (xs : List ℕ) → has_line xs ≡ false → behind_line xs ≡ []
nothing_behind [] h = refl
nothing_behind (x ∷ xs) h = behind_by (x == 10) xs h (nothing_behind xs)
  where
    behind_by : (b : Bool) (xs : List ℕ) → (if b then true else has_line xs) ≡ false → (has_line xs ≡ false → behind_line xs ≡ []) → (if b then xs else behind_line xs) ≡ []
    behind_by true xs h f = absurd (true≢false h)
    behind_by false xs h f = f h

-- nor has a line that ends in its LF
pub nothing_behind_end : (xs : List ℕ) → has_line xs ≡ false → behind_line (xs ++ 10 ∷ []) ≡ []
nothing_behind_end [] h = refl
nothing_behind_end (x ∷ xs) h = end_by (x == 10) xs h (nothing_behind_end xs)
  where
    end_by : (b : Bool) (xs : List ℕ) → (if b then true else has_line xs) ≡ false → (has_line xs ≡ false → behind_line (xs ++ 10 ∷ []) ≡ [])
        → (if b then xs ++ 10 ∷ [] else behind_line (xs ++ 10 ∷ [])) ≡ []
    end_by true xs h f = absurd (true≢false h)
    end_by false xs h f = f h

-- which is its own first line
pub whole_first : (xs : List ℕ) → has_line xs ≡ false → first_line (xs ++ 10 ∷ []) ≡ xs ++ 10 ∷ []
whole_first [] h = refl
whole_first (x ∷ xs) h = first_by (x == 10) x xs h (whole_first xs)
  where
    first_by : (b : Bool) (x : ℕ) (xs : List ℕ) → (if b then true else has_line xs) ≡ false
        → (has_line xs ≡ false → first_line (xs ++ 10 ∷ []) ≡ xs ++ 10 ∷ []) → (if b then x ∷ [] else x ∷ first_line (xs ++ 10 ∷ [])) ≡ x ∷ (xs ++ 10 ∷ [])
    first_by true x xs h f = absurd (true≢false h)
    first_by false x xs h f = ap (λ r. x ∷ r) (f h)

pub whole_has : (xs : List ℕ) → has_line (xs ++ 10 ∷ []) ≡ true
whole_has [] = refl
whole_has (x ∷ xs) = has_by (x == 10) xs (whole_has xs)
  where
    has_by : (b : Bool) (xs : List ℕ) → has_line (xs ++ 10 ∷ []) ≡ true → (if b then true else has_line (xs ++ 10 ∷ [])) ≡ true
    has_by true xs e = refl
    has_by false xs e = e

-- an octet more that is no LF makes no line
pub still_open : (xs : List ℕ) (c : ℕ) → has_line xs ≡ false → (c ≡ 10 → ⊥) → has_line (xs ++ c ∷ []) ≡ false
still_open [] c h ne = let q = ne_eqb c 10 ne in rw q refl
still_open (x ∷ xs) c h ne = open_by (x == 10) xs c h (λ e. still_open xs c e ne)
  where
    open_by : (b : Bool) (xs : List ℕ) (c : ℕ) → (if b then true else has_line xs) ≡ false → (has_line xs ≡ false → has_line (xs ++ c ∷ []) ≡ false)
        → (if b then true else has_line (xs ++ c ∷ [])) ≡ false
    open_by true xs c h f = absurd (true≢false h)
    open_by false xs c h f = f h

-- what comes after a line changes neither the line nor that there is one
pub behind_more : (xs ys : List ℕ) → has_line xs ≡ true → behind_line (xs ++ ys) ≡ behind_line xs ++ ys
behind_more [] ys h = absurd (true≢false (sym h))
behind_more (x ∷ xs) ys h = more_by (x == 10) xs ys h (behind_more xs ys)
  where
    more_by : (b : Bool) (xs ys : List ℕ) → (if b then true else has_line xs) ≡ true
        → (has_line xs ≡ true → behind_line (xs ++ ys) ≡ behind_line xs ++ ys) → (if b then xs ++ ys else behind_line (xs ++ ys)) ≡ (if b then xs else behind_line xs) ++ ys
    more_by true xs ys h f = refl
    more_by false xs ys h f = f h

pub first_more : (xs ys : List ℕ) → has_line xs ≡ true → first_line (xs ++ ys) ≡ first_line xs
first_more [] ys h = absurd (true≢false (sym h))
first_more (x ∷ xs) ys h = more_by (x == 10) x xs ys h (first_more xs ys)
  where
    more_by : (b : Bool) (x : ℕ) (xs ys : List ℕ) → (if b then true else has_line xs) ≡ true
        → (has_line xs ≡ true → first_line (xs ++ ys) ≡ first_line xs) → (if b then x ∷ [] else x ∷ first_line (xs ++ ys)) ≡ (if b then x ∷ [] else x ∷ first_line xs)
    more_by true x xs ys h f = refl
    more_by false x xs ys h f = ap (λ r. x ∷ r) (f h)

pub has_more : (xs ys : List ℕ) → has_line xs ≡ true → has_line (xs ++ ys) ≡ true
has_more [] ys h = absurd (true≢false (sym h))
has_more (x ∷ xs) ys h = more_by (x == 10) xs ys h (has_more xs ys)
  where
    more_by : (b : Bool) (xs ys : List ℕ) → (if b then true else has_line xs) ≡ true → (has_line xs ≡ true → has_line (xs ++ ys) ≡ true) → (if b then true else has_line (xs ++ ys)) ≡ true
    more_by true xs ys h f = refl
    more_by false xs ys h f = f h

-- ---- what reads gave

pub gone_one : (k : ℕ) (io : Io) (octets : List ℕ) (t : Told) → HasGone k (is_fault io) octets t (has_read t k io octets)
gone_one k io octets t = record {
  accepted = refl;
  read = λ j. refl;
  written = λ j. refl;
  over = λ j. refl;
  strayed = refl;
}

or_twice : (a b : Bool) → ((a || b) || b) ≡ (a || b)
or_twice true true = refl
or_twice true false = refl
or_twice false true = refl
or_twice false false = refl

pub gone_then : (k : ℕ) (fault : Bool) (xs ys : List ℕ) (t t' t'' : Told) → HasGone k false xs t t' → HasGone k fault ys t' t'' → HasGone k fault (xs ++ ys) t t''
gone_then k fault xs ys t t' t'' a b = record {
  accepted = b.accepted ∙ a.accepted;
  read = λ j. b.read j ∙ (ap (λ zs. if j == k then zs ++ ys else zs) (a.read j) ∙ twice_if (j == k) (t.read j) xs ys);
  written = λ j. b.written j ∙ a.written j;
  over = λ j. b.over j ∙ ap (λ o. if fault && j == k then true else o) (a.over j);
  strayed = b.strayed ∙ (let live : is_live t' k ≡ is_live t k = rw (a.accepted, a.over k) refl in rw (a.strayed, live) (or_twice t.strayed (not (is_live t k))));
}

-- ---- a port after its lines

pub behind_gone : (t t' u : Told) (k : ℕ) (io : Io) (octets outs : List ℕ) → TellsBehind t u → HasGone k (is_fault io) octets t t'
    → behind_line (t.read k ++ octets) ≡ behind_line (t.read k) ++ outs → (t.accepted ≤ k → octets ≡ [])
    → ((u.read k ++ outs ≡ []) ⊎ ((source : Option IpAddr) × IsProxyLine (first_line (t.read k ++ octets)) source)) → TellsBehind t' (has_read u k io outs)
behind_gone t t' u k io octets outs a h behind early line = record {
  accepted = a.accepted ∙ sym h.accepted;
  read = λ j. ⊎_elim
      (λ (e : j ≡ k). more_same k j outs u.read e
      ∙ (ap (λ xs. xs ++ outs) (a.read j)
      ∙ (subst (λ i. behind_line (t.read i) ++ outs ≡ behind_line (t.read i ++ octets)) (sym e) (sym behind) ∙ sym (ap behind_line (h.read j ∙ more_same k j octets t.read e)))))
      (λ (ne : j ≡ k → ⊥). more_other k j outs u.read ne ∙ (a.read j ∙ sym (ap behind_line (h.read j ∙ more_other k j octets t.read ne))))
      (cases_eq j k);
  written = λ j. a.written j ∙ sym (h.written j);
  over = λ j. ap (λ o. if is_fault io && j == k then true else o) (a.over j) ∙ sym (h.over j);
  strayed = (let live : is_live u k ≡ is_live t k = rw (a.accepted, a.over k) refl in rw (a.strayed, live) (sym h.strayed));
  later = λ j w. (let here : t.accepted ≤ j = subst (λ n. n ≤ j) h.accepted w in
      ⊎_elim
      (λ (e : j ≡ k). h.read j ∙ (more_same k j octets t.read e ∙ (ap (λ xs. xs ++ octets) (a.later j here) ∙ early (subst (λ i. t.accepted ≤ i) e here))))
      (λ (ne : j ≡ k → ⊥). h.read j ∙ (more_other k j octets t.read ne ∙ a.later j here))
      (cases_eq j k));
  proxied = λ j. ⊎_elim
      (λ (e : j ≡ k). ⊎_elim
      (λ (none : u.read k ++ outs ≡ []). inl (more_same k j outs u.read e ∙ (ap (λ i. u.read i ++ outs) e ∙ none)))
      (λ (some : (source : Option IpAddr) × IsProxyLine (first_line (t.read k ++ octets)) source). inr
      (some.0, subst (λ xs. IsProxyLine (first_line xs) some.0) (ap (λ i. t.read i ++ octets) (sym e) ∙ sym (h.read j ∙ more_same k j octets t.read e)) some.1))
      line)
      (λ (ne : j ≡ k → ⊥). ⊎_elim
      (λ (none : u.read j ≡ []). inl (more_other k j outs u.read ne ∙ none))
      (λ (some : (source : Option IpAddr) × IsProxyLine (first_line (t.read j)) source). inr
      (some.0, subst (λ xs. IsProxyLine (first_line xs) some.0) (sym (h.read j ∙ more_other k j octets t.read ne)) some.1))
      (a.proxied j))
      (cases_eq j k);
}

-- ---- maps of lines and sources

-- a map has another value at one number
pub record IsPut {X : Type 0} (before : ℕ → Option X) (k : ℕ) (value : Option X) (now : ℕ → Option X) : Type 0 where
  pub there : now k ≡ value
  pub others : (j : ℕ) → (j ≡ k → ⊥) → now j ≡ before j

-- a fact of each value carries over to others
pub each_kept : {X : Type 0} (o : Option X) (P Q : X → Type 0) → ((x : X) → P x → Q x) → IfSome o P → IfSome o Q
each_kept None P Q f h = h
each_kept (Some x) P Q f h = f x h

pub put_kept : {X : Type 0} (before now : ℕ → Option X) (k : ℕ) (value : Option X) (P : ℕ → X → Type 0) → IsPut before k value now
    → IfSome value (P k) → ((j : ℕ) → IfSome (before j) (P j)) → (j : ℕ) → IfSome (now j) (P j)
put_kept before now k value P put here h j = ⊎_elim
    (λ (e : j ≡ k). subst (λ i. IfSome (now i) (P i)) (sym e) (subst (λ o. IfSome o (P k)) (sym put.there) here))
    (λ (ne : j ≡ k → ⊥). subst (λ o. IfSome o (P j)) (sym (put.others j ne)) (h j))
    (cases_eq j k)

-- ---- both ports

-- a line is begun, or read so far
pub begins : (b b' : ℕ → Option Begun) (known : ℕ → Option (Option IpAddr)) (t u : ToldOfPorts) (k : ℕ) (line : Begun) → TellsProxied b known t u
    → IsPut b k (Some line) b' → IsBegun t.pop k line.line.items → TellsProxied b' known t u
begins b b' known t u k line a put so = record {
  pop = a.pop;
  admin = a.admin;
  begun_so = put_kept b b' k (Some line) (λ j x. IsBegun t.pop j x.line.items) put so a.begun_so;
  known_so = a.known_so;
}

-- a source is known
pub learns : (b : ℕ → Option Begun) (known known' : ℕ → Option (Option IpAddr)) (t u : ToldOfPorts) (k : ℕ) (source : Option IpAddr)
    → TellsProxied b known t u → IsPut known k (Some source) known' → IsKnown t.pop k source → TellsProxied b known' t u
learns b known known' t u k source a put so = record {
  pop = a.pop;
  admin = a.admin;
  begun_so = a.begun_so;
  known_so = put_kept known known' k (Some source) (λ j x. IsKnown t.pop j x) put so a.known_so;
}

begun_gone : (t t' : Told) (k : ℕ) (fault : Bool) (octets : List ℕ) (j : ℕ) (line : List ℕ) → HasGone k fault octets t t' → (j ≡ k → octets ≡ []) → IsBegun t j line → IsBegun t' j line
begun_gone t t' k fault octets j line h none a = record {
  came = subst (λ n. j < n) (sym h.accepted) a.came;
  is = h.read j ∙ (⊎_elim
      (λ (e : j ≡ k). more_same k j octets t.read e ∙ (ap (λ xs. t.read j ++ xs) (none e) ∙ append-nil (t.read j)))
      (λ (ne : j ≡ k → ⊥). more_other k j octets t.read ne)
      (cases_eq j k) ∙ a.is);
  open_yet = a.open_yet;
}

known_gone : (t t' : Told) (k : ℕ) (fault : Bool) (octets : List ℕ) (j : ℕ) (source : Option IpAddr) → HasGone k fault octets t t' → IsKnown t j source → IsKnown t' j source
known_gone t t' k fault octets j source h a = ⊎_elim
    (λ (e : j ≡ k).
    (let is : t'.read j ≡ t.read j ++ octets = h.read j ∙ more_same k j octets t.read e in
    record {
      came = subst (λ n. j < n) (sym h.accepted) a.came;
      whole = ap has_line is ∙ has_more (t.read j) octets a.whole;
      says = subst (λ xs. IsProxyLine xs source) (sym (ap first_line is ∙ first_more (t.read j) octets a.whole)) a.says;
    }))
    (λ (ne : j ≡ k → ⊥).
    (let is : t'.read j ≡ t.read j = h.read j ∙ more_other k j octets t.read ne in
    record {
      came = subst (λ n. j < n) (sym h.accepted) a.came;
      whole = ap has_line is ∙ a.whole;
      says = subst (λ xs. IsProxyLine xs source) (sym (ap first_line is)) a.says;
    }))
    (cases_eq j k)

-- the octets of a first line came, of a link that is begun no more
pub line_read : (b b' : ℕ → Option Begun) (known : ℕ → Option (Option IpAddr)) (t t' u : ToldOfPorts) (k : ℕ) (io : Io) (octets line : List ℕ)
    → TellsProxied b known t u → IsBegun t.pop k line → IsPut b k None b'
    → HasGone k (is_fault io) octets t.pop t'.pop → t'.admin ≡ t.admin → behind_line (line ++ octets) ≡ [] → TellsProxied b' known t' (at_port Pop (λ of. has_read of k io []) u)
line_read b b' known t t' u k io octets line a so put h admin nothing =
    let none : behind_line line ≡ [] = nothing_behind line so.open_yet in
    let before : u.pop.read k ≡ [] = a.pop.read k ∙ (ap behind_line so.is ∙ none) in
    record {
      pop = behind_gone t.pop t'.pop u.pop k io octets [] a.pop h
          (ap (λ xs. behind_line (xs ++ octets)) so.is ∙ (nothing ∙ sym (append-nil (behind_line (t.pop.read k)) ∙ (ap behind_line so.is ∙ none))))
          (λ w. absurd (below t.pop.accepted k so.came w)) (inl (append-nil (u.pop.read k) ∙ before));
      admin = a.admin ∙ sym admin;
      begun_so = λ j. ⊎_elim
          (λ (e : j ≡ k). subst (λ i. IfSome (b' i) (λ x. IsBegun t'.pop i x.line.items)) (sym e) (subst (λ o. IfSome o (λ x. IsBegun t'.pop k x.line.items)) (sym put.there) tt))
          (λ (ne : j ≡ k → ⊥). subst (λ o. IfSome o (λ x. IsBegun t'.pop j x.line.items)) (sym (put.others j ne))
          (each_kept (b j) (λ x. IsBegun t.pop j x.line.items) (λ x. IsBegun t'.pop j x.line.items)
          (λ x. begun_gone t.pop t'.pop k (is_fault io) octets j x.line.items h (λ e. absurd (ne e))) (a.begun_so j)))
          (cases_eq j k);
      known_so = λ j. each_kept (known j) (λ x. IsKnown t.pop j x) (λ x. IsKnown t'.pop j x) (λ x. known_gone t.pop t'.pop k (is_fault io) octets j x h) (a.known_so j);
    }
  where
    below : (n k : ℕ) → k < n → n ≤ k → ⊥
    below n k lt le = omega arith

-- nothing came on a link
pub none_read : (b : ℕ → Option Begun) (known : ℕ → Option (Option IpAddr)) (t u : ToldOfPorts) (k : ℕ) (io : Io) → TellsProxied b known t u
    → TellsProxied b known (at_port Pop (λ of. has_read of k io []) t) (at_port Pop (λ of. has_read of k io []) u)
none_read b known t u k io a =
    let h = gone_one k io [] t.pop in
    record {
      pop = behind_gone t.pop (has_read t.pop k io []) u.pop k io [] [] a.pop h (ap behind_line (append-nil (t.pop.read k)) ∙ sym (append-nil (behind_line (t.pop.read k)))) (λ w. refl)
          (⊎_elim
          (λ (none : u.pop.read k ≡ []). inl (append-nil (u.pop.read k) ∙ none))
          (λ (some : (source : Option IpAddr) × IsProxyLine (first_line (t.pop.read k)) source). inr
          (some.0, subst (λ xs. IsProxyLine (first_line xs) some.0) (sym (append-nil (t.pop.read k))) some.1))
          (a.pop.proxied k));
      admin = a.admin;
      begun_so = λ j. each_kept (b j) (λ x. IsBegun t.pop j x.line.items) (λ x. IsBegun (has_read t.pop k io []) j x.line.items)
          (λ x. begun_gone t.pop (has_read t.pop k io []) k (is_fault io) [] j x.line.items h (λ e. refl)) (a.begun_so j);
      known_so = λ j. each_kept (known j) (λ x. IsKnown t.pop j x) (λ x. IsKnown (has_read t.pop k io []) j x) (λ x. known_gone t.pop (has_read t.pop k io []) k (is_fault io) [] j x h) (a.known_so j);
    }

-- octets came after a line
pub known_read : (b : ℕ → Option Begun) (known : ℕ → Option (Option IpAddr)) (t u : ToldOfPorts) (k : ℕ) (io : Io) (octets : List ℕ) (source : Option IpAddr)
    → TellsProxied b known t u → IsKnown t.pop k source
    → TellsProxied b known (at_port Pop (λ of. has_read of k io octets) t) (at_port Pop (λ of. has_read of k io octets) u)
known_read b known t u k io octets source a so =
    let h = gone_one k io octets t.pop in
    record {
      pop = behind_gone t.pop (has_read t.pop k io octets) u.pop k io octets octets a.pop h (behind_more (t.pop.read k) octets so.whole) (λ w. absurd (below t.pop.accepted k so.came w))
          (inr (source, subst (λ xs. IsProxyLine xs source) (sym (first_more (t.pop.read k) octets so.whole)) so.says));
      admin = a.admin;
      begun_so = λ j. each_kept (b j) (λ x. IsBegun t.pop j x.line.items) (λ x. IsBegun (has_read t.pop k io octets) j x.line.items)
          (λ x w. begun_gone t.pop (has_read t.pop k io octets) k (is_fault io) octets j x.line.items h
          (λ e. absurd (true≢false (sym so.whole ∙ (ap (λ i. has_line (t.pop.read i)) (sym e) ∙ (ap has_line w.is ∙ w.open_yet))))) w) (a.begun_so j);
      known_so = λ j. each_kept (known j) (λ x. IsKnown t.pop j x) (λ x. IsKnown (has_read t.pop k io octets) j x)
          (λ x. known_gone t.pop (has_read t.pop k io octets) k (is_fault io) octets j x h) (a.known_so j);
    }
  where
    below : (n k : ℕ) → k < n → n ≤ k → ⊥
    below n k lt le = omega arith

-- a link was closed
pub closed : (b b' : ℕ → Option Begun) (known known' : ℕ → Option (Option IpAddr)) (t u : ToldOfPorts) (k : ℕ) → TellsProxied b known t u → IsPut b k None b' → IsPut known k None known'
    → TellsProxied b' known' (at_port Pop (λ of. has_closed of k) t) (at_port Pop (λ of. has_closed of k) u)
closed b b' known known' t u k a put put' = record {
  pop = record {
    accepted = a.pop.accepted;
    read = a.pop.read;
    written = a.pop.written;
    over = λ j. ap (λ o. if true && j == k then true else o) (a.pop.over j);
    strayed = a.pop.strayed;
    later = a.pop.later;
    proxied = a.pop.proxied;
  };
  admin = a.admin;
  begun_so = λ j. each_kept (b' j) (λ x. IsBegun t.pop j x.line.items) (λ x. IsBegun (has_closed t.pop k) j x.line.items) (λ x w. record { came = w.came; is = w.is; open_yet = w.open_yet })
      (put_kept b b' k None (λ i x. IsBegun t.pop i x.line.items) put tt a.begun_so j);
  known_so = λ j. each_kept (known' j) (λ x. IsKnown t.pop j x) (λ x. IsKnown (has_closed t.pop k) j x) (λ x w. record { came = w.came; whole = w.whole; says = w.says })
      (put_kept known known' k None (λ i x. IsKnown t.pop i x) put' tt a.known_so j);
}

-- a link was accepted
pub accepts : (b : ℕ → Option Begun) (known : ℕ → Option (Option IpAddr)) (t u : ToldOfPorts) → TellsProxied b known t u
    → TellsProxied b known (at_port Pop has_accepted t) (at_port Pop has_accepted u)
accepts b known t u a = record {
  pop = record {
    accepted = ap (λ n. n + 1) a.pop.accepted;
    read = a.pop.read;
    written = a.pop.written;
    over = λ j. rw (a.pop.accepted, a.pop.over j) refl;
    strayed = a.pop.strayed;
    later = λ j w. a.pop.later j (before t.pop.accepted j w);
    proxied = a.pop.proxied;
  };
  admin = a.admin;
  begun_so = λ j. each_kept (b j) (λ x. IsBegun t.pop j x.line.items) (λ x. IsBegun (has_accepted t.pop) j x.line.items)
      (λ x w. record { came = after t.pop.accepted j w.came; is = w.is; open_yet = w.open_yet }) (a.begun_so j);
  known_so = λ j. each_kept (known j) (λ x. IsKnown t.pop j x) (λ x. IsKnown (has_accepted t.pop) j x)
      (λ x w. record { came = after t.pop.accepted j w.came; whole = w.whole; says = w.says }) (a.known_so j);
}
  where
    before : (n j : ℕ) → n + 1 ≤ j → n ≤ j
    before n j w = omega arith

    after : (n j : ℕ) → j < n → j < n + 1
    after n j w = omega arith

-- ---- what a map's calls promise

is_apart : (k j : ℕ) → (j ≡ k → ⊥) → is_at (nat_cmp k) j ≡ false
is_apart k j ne = let e : eqb k j ≡ false = ne_eqb k j (λ q. ne (sym q)) in grind (arith, nat_tests, e)

pub updated_put : {X : Type 0} (m n : BTreeMap ℕ X) (k : ℕ) (value : Option X) → Updates nat_cmp m n k value → IsPut (get nat_cmp m) k value (get nat_cmp n)
updated_put m n k value u = record {
  there = u.1;
  others = λ j ne. u.2 j (is_apart k j ne);
}

pub entries_same : {X : Type 0} (m n : BTreeMap ℕ X) → n.entries ≡ m.entries → (j : ℕ) → get nat_cmp n j ≡ get nat_cmp m j
entries_same m n e j = ap (λ es. lookup (is_at (nat_cmp j)) es) e

pub empty_none : {X : Type 0} (m : BTreeMap ℕ X) → m.entries ≡ [] → (j : ℕ) → get nat_cmp m j ≡ None
empty_none m e j = ap (λ es. lookup (is_at (nat_cmp j)) es) e

-- ---- a line that is read

pub nothing_came : {W : Type 0} (Tells : W → ToldOfPorts → Type 0) (wire : W) (k : ℕ) (io : Io) (line : List ℕ) (t : ToldOfPorts)
    → Tells wire (at_port Pop (λ of. has_read of k io []) t) → IsLineRead Tells wire k line line (Open io) t
nothing_came Tells wire k io line t h = record {
  told = at_port Pop (λ of. has_read of k io []) t;
  octets = [];
  tells = h;
  gone = gone_one k io [] t.pop;
  admin = refl;
  is = sym (append-nil line);
}

-- the front of a list of one
pub one_front : (n x : ℕ) (xs : List ℕ) → 0 < n → n ≤ 1 → length xs ≡ 1 → x ≡ get_or xs 0 x → take n xs ≡ x ∷ []
one_front n x [] lt le e is = absurd (let q : ◌≡◌ {A = ℕ} 0 1 = e in omega arith)
one_front n x (y ∷ []) lt le e is = let one : n ≡ 1 = omega arith in subst (λ m. take m (y ∷ []) ≡ x ∷ []) (sym one) (ap (λ z. z ∷ []) (sym is))
one_front n x (y ∷ z ∷ xs) lt le e is = absurd (let q : suc (suc (length xs)) ≡ 1 = e in omega arith)

pub octet_came : {W : Type 0} (Tells : W → ToldOfPorts → Type 0) (wire : W) (k n x : ℕ) (one line : List ℕ) (p : Progress) (t : ToldOfPorts)
    → Tells wire (at_port Pop (λ of. has_read of k (Count n) (take n one)) t)
    → 0 < n → n ≤ 1 → length one ≡ 1 → x ≡ get_or one 0 x → is_fault (io_of p) ≡ false → IsLineRead Tells wire k line (line ++ x ∷ []) p t
octet_came Tells wire k n x one line p t h lt le e is fault = record {
  told = at_port Pop (λ of. has_read of k (Count n) (take n one)) t;
  octets = x ∷ [];
  tells = h;
  gone = subst (λ f. HasGone k f (x ∷ []) t.pop (has_read t.pop k (Count n) (take n one))) (sym fault)
      (subst (λ xs. HasGone k false xs t.pop (has_read t.pop k (Count n) (take n one))) (one_front n x one lt le e is) (gone_one k (Count n) (take n one) t.pop));
  admin = refl;
  is = refl;
}

-- reads after one that gave an octet
pub line_read_on : {W : Type 0} (Tells : W → ToldOfPorts → Type 0) (mid now : W) (k : ℕ) (a b c : List ℕ) (p q : Progress) (t : ToldOfPorts)
    → IsLineRead Tells mid k a b p t → is_fault (io_of p) ≡ false
    → ((u : ToldOfPorts) → Tells mid u → IsLineRead Tells now k b c q u) → IsLineRead Tells now k a c q t
line_read_on Tells mid now k a b c p q t first fine others =
    let next = others first.told first.tells in
    record {
      told = next.told;
      octets = first.octets ++ next.octets;
      tells = next.tells;
      gone = gone_then k (is_fault (io_of q)) first.octets next.octets t.pop first.told.pop next.told.pop (subst (λ f. HasGone k f first.octets t.pop first.told.pop) fine first.gone) next.gone;
      admin = next.admin ∙ first.admin;
      is = next.is ∙ (ap (λ xs. xs ++ next.octets) first.is ∙ assoc a first.octets next.octets);
    }
  where
    assoc : (xs ys zs : List ℕ) → (xs ++ ys) ++ zs ≡ xs ++ (ys ++ zs)
    assoc [] ys zs = refl
    assoc (x ∷ xs) ys zs = ap (λ r. x ∷ r) (assoc xs ys zs)

-- the line that was read so far has nothing after it
pub nothing_behind_so_far : (p : Progress) (line : List ℕ) → IsAsFarAs p line → behind_line line ≡ []
nothing_behind_so_far Whole line (front, e, open_yet) = ap behind_line e ∙ nothing_behind_end front open_yet
nothing_behind_so_far (Open io) line h = nothing_behind line h

-- a line is begun no more
pub forgets : (b b' : ℕ → Option Begun) (known : ℕ → Option (Option IpAddr)) (t u : ToldOfPorts) (k : ℕ) → TellsProxied b known t u → IsPut b k None b' → TellsProxied b' known t u
forgets b b' known t u k a put = record {
  pop = a.pop;
  admin = a.admin;
  begun_so = put_kept b b' k None (λ j x. IsBegun t.pop j x.line.items) put tt a.begun_so;
  known_so = a.known_so;
}

-- the line of a link was read further
pub reads_on : {W : Type 0} (Tells : W → ToldOfPorts → Type 0) (wire : W) (b b' : ℕ → Option Begun) (known : ℕ → Option (Option IpAddr)) (k : ℕ)
    (before now : List ℕ) (p p' : Progress) (t u : ToldOfPorts) → p ≡ p' → TellsProxied b known t u
    → IsBegun t.pop k before → IsPut b k None b' → IsLineRead Tells wire k before now p t → IsAsFarAs p now
    → (t' : ToldOfPorts) × Tells wire t' × TellsProxied b' known t' (at_port Pop (λ of. has_read of k (io_of p') []) u) × (k < t'.pop.accepted) × (t'.pop.read k ≡ now)
reads_on Tells wire b b' known k before now p p' t u e a so put read far =
    let nothing : behind_line (before ++ read.octets) ≡ [] = ap behind_line (sym read.is) ∙ nothing_behind_so_far p now far in (
      read.told,
      read.tells,
      subst (λ q. TellsProxied b' known read.told (at_port Pop (λ of. has_read of k (io_of q) []) u)) e
          (line_read b b' known t read.told u k (io_of p) read.octets before a so put read.gone read.admin nothing),
      subst (λ n. k < n) (sym read.gone.accepted) so.came,
      read.gone.read k ∙ (more_same k k read.octets t.pop.read refl ∙ (ap (λ xs. xs ++ read.octets) so.is ∙ sym read.is)),
    )

-- ---- reads that gave nothing

-- into no room
pub counted_none : (io : Io) (xs : List ℕ) → IsWithin 0 io → counted io xs ≡ []
counted_none (Count n) xs h = absurd (none n h.0 h.1)
  where
    none : (n : ℕ) → 0 < n → n ≤ 0 → ⊥
    none n lt le = omega arith
counted_none Later xs h = refl
counted_none End xs h = refl
counted_none Broken xs h = refl

pub within_any : (io : Io) (n : ℕ) → IsWithin 0 io → IsWithin n io
within_any (Count m) n h = absurd (none m h.0 h.1)
  where
    none : (m : ℕ) → 0 < m → m ≤ 0 → ⊥
    none m lt le = omega arith
within_any Later n h = tt
within_any End n h = tt
within_any Broken n h = tt

-- what is no fault is as if nothing came yet
pub as_later : (b : ℕ → Option Begun) (known : ℕ → Option (Option IpAddr)) (t u : ToldOfPorts) (k : ℕ) (io : Io) → is_fault io ≡ false
    → TellsProxied b known t (at_port Pop (λ of. has_read of k io []) u) → TellsProxied b known t (at_port Pop (λ of. has_read of k Later []) u)
as_later b known t u k (Count n) e a = a
as_later b known t u k Later e a = a
as_later b known t u k End e a = absurd (true≢false e)
as_later b known t u k Broken e a = absurd (true≢false e)

-- a value that is there has what each has
pub some_there : {X : Type 0} (o : Option X) (P : X → Type 0) → is_some o ≡ true → IfSome o P → (x : X) × P x
some_there None P e h = absurd (true≢false (sym e))
some_there (Some x) P e h = (x, h)
