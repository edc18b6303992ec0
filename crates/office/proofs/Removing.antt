-- What a QUIT removes by keys is what it removes by messages.
use Rattle.std.proofs.Common.{◌≡◌, ℕ, ◌+◌, Bool, true, false, not, ◌&&◌, List, [], ◌∷◌, refl, sym, ◌∙◌, ap, subst, inl, inr, ⊎_elim, true≢false}
use Rattle.std.proofs.lemmas.Bool.{and_parts, or_left, or_right, eq-eqb, eqb-true, false_from_ne_true}
use Rattle.std.proofs.lemmas.Slice.Eq.{bytes_eq-Decides}
use Rattle.std.specs.Prelude.{map, filter, cond, ◌==◌}
use Rattle.std.specs.List.{list_any}
use Rattle.std.specs.Str.{bytes_eq}
use Rattle.creds.specs.declared.login_name.LoginName.{LoginName}
use Rattle.policy.specs.Policy.{Policy, are_distinct}
use Rattle.vault.specs.declared.record.Keyed.{Keyed}
use Rattle.vault.specs.declared.record.Message.{Message}
use Rattle.vault.specs.Records as records
use Rattle.vault.specs.Records.{Records, Agree, same_message, in_maildrop, without}
use Rattle.vault.specs.Changes.{Contents, AreSound, records_of, head_of, is_named, without_keys}
use Rattle.session.specs.Session.{Session}
use Rattle.session.specs.Session as head
use Rattle.session.specs.View.{is_marked, marked, may_remove, numbered, numbered_from, to_remove}
use Rattle.office.specs.Laws.{In}
use Rattle.office.specs.Transaction.{LiesIn, keys_to_remove, without_marked}
use Rattle.office.proofs.AgreeLists.{in_maildrop-without}
use Rattle.office.proofs.Bounds.{any_witness}
use Rattle.office.proofs.Snapshot.{in_filter}
use Rattle.office.proofs.UniqueIds.{any_in}
use Rattle.vault.proofs.ListLemmas.{filter-map, not_true, distinct-map}
use Rattle.office.proofs.Alike.{to_remove-map}

-- ---- lists

-- tests that agree on the elements
pub filter_same : {A : Type 0} (p q : A → Bool) (xs : List A) → ((x : A) → In x xs → p x ≡ q x) → filter p xs ≡ filter q xs
filter_same p q [] h = refl
filter_same {A} p q (x ∷ xs) h =
    let e : p x ≡ q x = h x (inl refl) in
    let r : filter p xs ≡ filter q xs = filter_same p q xs (λ y i. h y (inr i)) in
    ap (λ b. cond b (x ∷ filter p xs) (filter p xs)) e ∙ ap (λ ys. cond (q x) (x ∷ ys) ys) r

pub map-map : {A B C : Type 0} (f : A → B) (g : B → C) (xs : List A) → map g (map f xs) ≡ map (λ x. g (f x)) xs
map-map f g [] = refl
map-map f g (x ∷ xs) = ap (λ ys. g (f x) ∷ ys) (map-map f g xs)

pub in_map : {A B : Type 0} (f : A → B) (xs : List A) (y : B) → In y (map f xs) → (x : A) × In x xs × (y ≡ f x)
in_map f [] y h = absurd h
in_map f (x ∷ xs) y h = ⊎_elim (λ e. (x, inl refl, e)) (λ k. let p = in_map f xs y k in (p.0, inr p.1, p.2)) h

pub map_in : {A B : Type 0} (f : A → B) (xs : List A) (x : A) → In x xs → In (f x) (map f xs)
map_in f [] x h = absurd h
map_in f (y ∷ ys) x h = ⊎_elim (λ e. inl (ap f e)) (λ k. inr (map_in f ys x k)) h

pub any_of : {A : Type 0} (p : A → Bool) (xs : List A) (x : A) → In x xs → p x ≡ true → list_any p xs ≡ true
any_of p [] x h t = absurd h
any_of p (y ∷ ys) x h t =
    ⊎_elim
    (λ e. or_left (p y) (list_any p ys) (ap p (sym e) ∙ t))
    (λ k. or_right (p y) (list_any p ys) (any_of p ys x k t)) h

-- elements of a list in which none are the same, whatever comes first
pub same_element : {A : Type 0} (same : A → A → Bool) → ((a b : A) → same a b ≡ true → same b a ≡ true) → (xs : List A) → are_distinct same xs ≡ true
    → (x y : A) → In x xs → In y xs → same x y ≡ true → x ≡ y
same_element same turned [] d x y i j t = absurd i
same_element {A} same turned (z ∷ zs) d x y i j t =
    let p = and_parts (not (list_any (same z) zs)) (are_distinct same zs) d in
    let none = not_true (list_any (same z) zs) p.0 in
    ⊎_elim
    (λ (e : x ≡ z). ⊎_elim
    (λ (f : y ≡ z). e ∙ sym f)
    (λ k. absurd (any_in (same z) zs y none k (subst (λ w. same w y ≡ true) e t))) j)
    (λ k. ⊎_elim
    (λ (f : y ≡ z). absurd (any_in (same z) zs x none k (subst (λ w. same w x ≡ true) f (turned x y t))))
    (λ l. same_element same turned zs p.1 x y k l t) j) i

both_ways : (b c : Bool) → (b ≡ true → c ≡ true) → (c ≡ true → b ≡ true) → b ≡ c
both_ways true c f g = sym (f refl)
both_ways false c f g = sym (false_from_ne_true c (λ e. true≢false (sym (g e))))

-- ---- what is removed, of any rows

in_numbered : {A : Type 0} (n : ℕ) (xs : List A) (row : ℕ × A) → In row (numbered_from n xs) → In row.1 xs
in_numbered n [] row h = absurd h
in_numbered {A} n (x ∷ xs) row h = ⊎_elim (λ e. inl (ap (λ (r : ℕ × A). r.1) e)) (λ k. inr (in_numbered (n + 1) xs row k)) h

-- what is removed is in the view
pub in_view : {A : Type 0} (class_of : A → List ℕ) (p : Policy) (name : LoginName) (marks : List ℕ) (xs : List A) (x : A)
    → In x (to_remove class_of p name marks xs) → In x xs
in_view {A} class_of p name marks xs x h =
    let a = in_filter (λ y. may_remove p name (class_of y)) (map (λ (row : ℕ × A). row.1) (marked marks xs)) x h in
    let b = in_map (λ (row : ℕ × A). row.1) (marked marks xs) x a.0 in
    let c = in_filter (λ (row : ℕ × A). is_marked marks row.0) (numbered xs) b.0 b.1 in
    subst (λ y. In y xs) (sym b.2) (in_numbered 1 xs b.0 c.0)

-- ---- the messages under the keys

abbrev key_in : Keyed → ℕ
key_in x = x.key

abbrev text_in : Keyed → Message
text_in x = x.message

-- of the messages of a session, those that a QUIT removes
abbrev pub chosen : Policy → Session → List Keyed → List Keyed
chosen p s kept = to_remove (λ (x : Keyed). x.message.class) p s.name s.marks kept

pub chosen_messages : (p : Policy) (s : Session) (kept : List Keyed)
    → to_remove records.class_of p s.name s.marks (map (λ (x : Keyed). x.message) kept) ≡ map (λ (x : Keyed). x.message) (chosen p s kept)
chosen_messages p s kept = to_remove-map text_in records.class_of p s.name s.marks kept

pub chosen_keys : (p : Policy) (s : Session) (kept : List Keyed) → s.view ≡ map head_of kept → keys_to_remove p s ≡ map (λ (x : Keyed). x.key) (chosen p s kept)
chosen_keys p s kept e =
    ap (λ view. map head.key_of (to_remove head.class_of p s.name s.marks view)) e
    ∙ (ap (λ hs. map head.key_of hs) (to_remove-map head_of head.class_of p s.name s.marks kept)
    ∙ map-map head_of head.key_of (chosen p s kept))

same_parts : (a b : Message) → same_message a b ≡ true → (a.maildrop ≡ b.maildrop) × (a.class ≡ b.class) × (a.k ≡ b.k)
same_parts a b h =
    let p = and_parts (bytes_eq a.maildrop b.maildrop && bytes_eq a.class b.class) (a.k == b.k) h in
    let q = and_parts (bytes_eq a.maildrop b.maildrop) (bytes_eq a.class b.class) p.0 in
    ((bytes_eq-Decides a.maildrop b.maildrop).0 q.0, (bytes_eq-Decides a.class b.class).0 q.1, eqb-true a.k b.k p.1)

same_from : (a b : Message) → a.maildrop ≡ b.maildrop → a.class ≡ b.class → a.k ≡ b.k → same_message a b ≡ true
same_from a b d c k =
    let e = (bytes_eq-Decides a.maildrop b.maildrop).1 d in
    let f = (bytes_eq-Decides a.class b.class).1 c in
    let g = eq-eqb a.k b.k k in
    rw (e, f, g) refl

same_turned : (a b : Message) → same_message a b ≡ true → same_message b a ≡ true
same_turned a b h = let p = same_parts a b h in same_from b a (sym p.0) (sym p.1) (sym p.2)

module _ (c : Contents) (s : Session) (kept : List Keyed) (p : Policy) (a : AreSound c) (l : LiesIn c s kept) where
  abbrev keys : List ℕ
  keys = map key_in (chosen p s kept)

  abbrev gone : List Message
  gone = map text_in (chosen p s kept)

  one_key : (x y : Keyed) → In x c.messages → In y c.messages → x.key ≡ y.key → x ≡ y
  one_key x y i j e =
      same_element (λ (v w : Keyed). v.key == w.key) (λ v w t. eq-eqb w.key v.key (sym (eqb-true v.key w.key t))) c.messages a.keys x y i j (eq-eqb x.key y.key e)

  one_message : (x y : Keyed) → In x c.messages → In y c.messages → same_message x.message y.message ≡ true → x ≡ y
  one_message x y i j t =
      same_element (λ (v w : Keyed). same_message v.message w.message) (λ v w u. same_turned v.message w.message u) c.messages
      (sym (distinct-map text_in same_message c.messages) ∙ a.records.messages_apart) x y i j t

  chosen_there : (y : Keyed) → In y (chosen p s kept) → In y c.messages × (y.message.maildrop ≡ s.name.maildrop)
  chosen_there y i =
      let k = in_view (λ (x : Keyed). x.message.class) p s.name s.marks kept y i in
      (l.there y k, l.within y k)

  by_key : (x : Keyed) → In x c.messages → (bytes_eq x.message.maildrop s.name.maildrop && is_named keys x.key) ≡ true → list_any (same_message x.message) gone ≡ true
  by_key x i t =
      let n = (and_parts (bytes_eq x.message.maildrop s.name.maildrop) (is_named keys x.key) t).1 in
      let w = any_witness (λ k. k == x.key) keys n in
      let m = in_map key_in (chosen p s kept) w.0 w.1 in
      let e : m.0 ≡ x = one_key m.0 x (chosen_there m.0 m.1).0 i (sym m.2 ∙ eqb-true w.0 x.key w.2) in
      let there : In x (chosen p s kept) = subst (λ y. In y (chosen p s kept)) e m.1 in
      any_of (same_message x.message) gone x.message (map_in text_in (chosen p s kept) x there) (same_from x.message x.message refl refl refl)

  by_message : (x : Keyed) → In x c.messages → list_any (same_message x.message) gone ≡ true → (bytes_eq x.message.maildrop s.name.maildrop && is_named keys x.key) ≡ true
  by_message x i t =
      let w = any_witness (same_message x.message) gone t in
      let m = in_map text_in (chosen p s kept) w.0 w.1 in
      let h = chosen_there m.0 m.1 in
      let e : x ≡ m.0 = one_message x m.0 i h.0 (subst (λ y. same_message x.message y ≡ true) m.2 w.2) in
      let d : bytes_eq x.message.maildrop s.name.maildrop ≡ true = (bytes_eq-Decides x.message.maildrop s.name.maildrop).1 (ap (λ (y : Keyed). y.message.maildrop) e ∙ h.1) in
      let k : is_named keys x.key ≡ true = any_of (λ k. k == x.key) keys m.0.key (map_in key_in (chosen p s kept) m.0 m.1) (eq-eqb m.0.key x.key (ap key_in (sym e))) in
      rw (d, k) refl

  -- the messages without those keys are the messages without those messages
  without_alike : map text_in (without_keys s.name.maildrop keys c.messages) ≡ without (map text_in c.messages) gone
  without_alike =
      ap (λ ms. map text_in ms) (filter_same (λ (x : Keyed). not (bytes_eq x.message.maildrop s.name.maildrop && is_named keys x.key))
      (λ (x : Keyed). not (list_any (same_message x.message) gone)) c.messages
      (λ x i. ap not (both_ways (bytes_eq x.message.maildrop s.name.maildrop && is_named keys x.key) (list_any (same_message x.message) gone) (by_key x i) (by_message x i))))
      ∙ sym (filter-map text_in (λ (m : Message). not (list_any (same_message m) gone)) c.messages)

  pub left_by_quit : (records_of (without_marked p s c)).messages ≡ without (records_of c).messages (to_remove records.class_of p s.name s.marks (map (λ (x : Keyed). x.message) kept))
  left_by_quit =
      ap (λ ks. map text_in (without_keys s.name.maildrop ks c.messages)) (chosen_keys p s kept l.heads)
      ∙ (without_alike ∙ ap (λ ms. without (map text_in c.messages) ms) (sym (chosen_messages p s kept)))

-- records go on agreeing, if a QUIT removes
pub agree_removed : (c : Contents) (R : Records) (s : Session) (kept : List Keyed) (p : Policy) → AreSound c → LiesIn c s kept → Agree (records_of c) R
    → Agree (records_of (without_marked p s c)) (record R { messages = without R.messages (to_remove records.class_of p s.name s.marks (map (λ (x : Keyed). x.message) kept)) })
agree_removed c R s kept p a l g =
    let rs : List Message = to_remove records.class_of p s.name s.marks (map (λ (x : Keyed). x.message) kept) in
    record {
      clerks = g.clerks;
      credentials = g.credentials;
      maildrops = g.maildrops;
      messages = λ d.
          ap (in_maildrop d) (left_by_quit c s kept p a l)
          ∙ (in_maildrop-without d (records_of c).messages rs ∙ (ap (λ ms. without ms rs) (g.messages d) ∙ sym (in_maildrop-without d R.messages rs)));
      receipts = g.receipts;
      counts = g.counts;
      policy = g.policy;
    }
