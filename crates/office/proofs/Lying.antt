-- A session's messages lie in the store.
use Rattle.std.proofs.Common.{◌≡◌, ℕ, ◌+◌, ◌*◌, ◌^◌, ◌<◌, ◌≤◌, Bool, true, false, not, ◌&&◌, List, [], ◌∷◌, length, refl, sym, ◌∙◌, ap, subst, inl, inr, arith, lit<}
use Rattle.std.proofs.Math.Nat.{mul-le-mul_right}
use Rattle.std.proofs.lemmas.Bool.{leb-true, and_parts, false_from_ne_true}
use Rattle.std.proofs.lemmas.Slice.Eq.{bytes_eq-Decides}
use Rattle.std.proofs.lemmas.List.Sums.{sum_by-cons}
use Rattle.std.specs.Prelude.{map, filter, cond, sum_by, nat_le, nat_lt}
use Rattle.std.specs.List.{list_any}
use Rattle.std.specs.Str.{bytes_eq}
use Rattle.mailtext.specs.Text.{kept_form}
use Rattle.creds.specs.declared.login_name.LoginName.{LoginName}
use Rattle.policy.specs.Policy.{Policy}
use Rattle.vault.specs.declared.answer.Head.{Head}
use Rattle.vault.specs.declared.record.Keyed.{Keyed}
use Rattle.vault.specs.declared.record.Message.{Message}
use Rattle.vault.specs.declared.record.Receipt.{Receipt}
use Rattle.vault.specs.Records as records
use Rattle.vault.specs.Records.{Records, is_sound_message, is_receipt_for, is_one_of, in_maildrop, octets_of, octets_of_all, most_octets, most_messages}
use Rattle.vault.specs.Changes.{Contents, AreSound, records_of, head_of, heads, kept_in, is_named, with_deposit, with_messages, without_keys}
use Rattle.session.specs.Session.{Session, started}
use Rattle.session.specs.Session as head
use Rattle.session.specs.View.{visible, may_read}
use Rattle.session.specs.declared.removals.Removals.{Removals}
use Rattle.office.specs.Laws.{In}
use Rattle.office.specs.Transaction.{LiesIn}
use Rattle.office.proofs.Snapshot.{in_filter, filter_in, in_front}
use Rattle.office.proofs.UniqueIds.{all_in}
use Rattle.vault.proofs.ListLemmas.{filter-map}

-- ---- a session goes on

-- if the messages of its maildrop stay
pub lies_on : (c c' : Contents) (s : Session) (kept : List Keyed) → LiesIn c s kept
    → ((x : Keyed) → In x c.messages → x.message.maildrop ≡ s.name.maildrop → In x c'.messages) → LiesIn c' s kept
lies_on c c' s kept l stays = record {
  heads = l.heads;
  there = λ x i. stays x (l.there x i) (l.within x i);
  within = l.within;
  fits = l.fits;
}

-- with other marks
pub lies_marked : (c : Contents) (s s' : Session) (kept : List Keyed) → LiesIn c s kept → s'.name ≡ s.name → s'.view ≡ s.view → LiesIn c s' kept
lies_marked c s s' kept l n v = record {
  heads = v ∙ l.heads;
  there = l.there;
  within = λ x i. l.within x i ∙ ap (λ (name : LoginName). name.maildrop) (sym n);
  fits = subst (λ (view : List Head). sum_by head.octets_of view < 2 ^ 64) (sym v) l.fits;
}

pub stays_by_deposit : (c : Contents) (key : ℕ) (m : Message) (r : Receipt) (x : Keyed) → In x c.messages → In x (with_deposit key m r c).messages
stays_by_deposit c key m r x i = in_front c.messages (record { key = key; message = m } ∷ []) x i

-- a message of another maildrop
pub stays_by_removal : (c : Contents) (d keys : List ℕ) (x : Keyed) → In x c.messages → (x.message.maildrop ≡ d → ⊥)
    → In x (with_messages (without_keys d keys c.messages) c).messages
stays_by_removal c d keys x i other =
    let f : bytes_eq x.message.maildrop d ≡ false = false_from_ne_true (bytes_eq x.message.maildrop d) (λ e. other ((bytes_eq-Decides x.message.maildrop d).0 e)) in
    let t : not (bytes_eq x.message.maildrop d && is_named keys x.key) ≡ true = rw f refl in
    filter_in (λ (y : Keyed). not (bytes_eq y.message.maildrop d && is_named keys y.key)) c.messages x i t

-- ---- lists

sum-map : {A B : Type 0} (f : A → B) (g : B → ℕ) (xs : List A) → sum_by g (map f xs) ≡ sum_by (λ x. g (f x)) xs
sum-map f g [] = refl
sum-map f g (x ∷ xs) = sum_by-cons g (f x) (map f xs) ∙ (ap (λ n. g (f x) + n) (sum-map f g xs) ∙ sym (sum_by-cons (λ y. g (f y)) x xs))

-- as many as there are, each within a bound
sum_within : {A : Type 0} (f : A → ℕ) (most : ℕ) (xs : List A) → ((x : A) → In x xs → f x ≤ most) → sum_by f xs ≤ length xs * most
sum_within f most [] h = omega arith
sum_within f most (x ∷ xs) h =
    let rest = sum_within f most xs (λ y i. h y (inr i)) in
    let first = h x (inl refl) in
    rw sum_by-cons (omega (arith, rest, first))

sum_filter : {A : Type 0} (f : A → ℕ) (p : A → Bool) (xs : List A) → sum_by f (filter p xs) ≤ sum_by f xs
sum_filter f p [] = omega arith
sum_filter {A} f p (x ∷ xs) = rw (sum_by-cons f x xs) (at (p x) (sum_filter f p xs))
  where
    at : (b : Bool) → sum_by f (filter p xs) ≤ sum_by f xs → sum_by f (cond b (x ∷ filter p xs) (filter p xs)) ≤ f x + sum_by f xs
    at true h = rw (sum_by-cons f x (filter p xs)) (omega arith)
    at false h = omega arith

-- ---- a session begins

bounded : (sum n each most cap : ℕ) → sum ≤ n * each → n ≤ most → most * each < cap → sum < cap
bounded sum n each most cap a b c = let d = mul-le-mul_right each b in omega (arith, d)

octets_within : (B : Records) (m : Message) → is_sound_message B m ≡ true → octets_of m ≤ most_octets
octets_within B m h =
    let p = and_parts (bytes_eq (kept_form m.text) m.text && nat_lt 0 (octets_of m) && nat_le (octets_of m) most_octets && is_one_of m.maildrop B.maildrops)
    (list_any (is_receipt_for m) B.deposits) h in
    let q = and_parts (bytes_eq (kept_form m.text) m.text && nat_lt 0 (octets_of m) && nat_le (octets_of m) most_octets) (is_one_of m.maildrop B.maildrops) p.0 in
    let r = and_parts (bytes_eq (kept_form m.text) m.text && nat_lt 0 (octets_of m)) (nat_le (octets_of m) most_octets) q.0 in
    leb-true (octets_of m) most_octets r.1

pub octets_fit : (c : Contents) → AreSound c → (d : List ℕ) → octets_of_all (in_maildrop d (records_of c).messages) < 2 ^ 64
octets_fit c a d =
    let ms = in_maildrop d (records_of c).messages in
    bounded (octets_of_all ms) (length ms) most_octets most_messages (2 ^ 64)
    (sum_within octets_of most_octets ms (λ m i. octets_within (records_of c) m
    (all_in (is_sound_message (records_of c)) (records_of c).messages m a.records.messages (in_filter (λ (x : Message). bytes_eq x.maildrop d) (records_of c).messages m i).0)))
    (a.records.messages_fit d) (lit< tt)

module _ (c : Contents) (p : Policy) (name : LoginName) where
  -- the messages that a login finds
  abbrev pub found : List Keyed
  found = filter (λ (x : Keyed). may_read p name x.message.class) (kept_in name.maildrop c.messages)

  pub found_heads : visible head.class_of p name (heads name.maildrop c) ≡ map head_of found
  found_heads = filter-map head_of (λ (h : Head). may_read p name (head.class_of h)) (kept_in name.maildrop c.messages)

  pub found_messages : map (λ (x : Keyed). x.message) found ≡ visible records.class_of p name (in_maildrop name.maildrop (records_of c).messages)
  found_messages =
      sym (filter-map (λ (x : Keyed). x.message) (λ (m : Message). may_read p name (records.class_of m)) (kept_in name.maildrop c.messages))
      ∙ ap (λ ms. visible records.class_of p name ms) (sym (filter-map (λ (x : Keyed). x.message) (λ (m : Message). bytes_eq m.maildrop name.maildrop) c.messages))

  pub found_fit : AreSound c → sum_by head.octets_of (map head_of found) < 2 ^ 64
  found_fit a =
      let e : sum_by head.octets_of (map head_of found) ≡ sum_by octets_of (map (λ (x : Keyed). x.message) found) =
      sum-map head_of head.octets_of found ∙ sym (sum-map (λ (x : Keyed). x.message) octets_of found) in
      let few : sum_by octets_of (visible records.class_of p name (in_maildrop name.maildrop (records_of c).messages)) ≤ octets_of_all (in_maildrop name.maildrop (records_of c).messages) =
      sum_filter octets_of (λ (m : Message). may_read p name (records.class_of m)) (in_maildrop name.maildrop (records_of c).messages) in
      below _ _ _ _ (e ∙ ap (λ ms. sum_by octets_of ms) found_messages) few (octets_fit c a name.maildrop)
    where
      below : (a b all cap : ℕ) → a ≡ b → b ≤ all → all < cap → a < cap
      below a b all cap e f g = omega arith

  found_there : (x : Keyed) → In x found → In x c.messages × (x.message.maildrop ≡ name.maildrop)
  found_there x i =
      let r = in_filter (λ (y : Keyed). may_read p name y.message.class) (kept_in name.maildrop c.messages) x i in
      let q = in_filter (λ (y : Keyed). bytes_eq y.message.maildrop name.maildrop) c.messages x r.0 in
      (q.0, (bytes_eq-Decides x.message.maildrop name.maildrop).0 q.1)

  pub lies_found : (j : Removals) → AreSound c → LiesIn c (started p j name.clerk name.maildrop (heads name.maildrop c)) found
  lies_found j a = record {
    heads = found_heads;
    there = λ x i. (found_there x i).0;
    within = λ x i. (found_there x i).1;
    fits = subst (λ (view : List Head). sum_by head.octets_of view < 2 ^ 64) (sym found_heads) (found_fit a);
  }

  -- what a login finds lies in the store
  pub begins : (j : Removals) → AreSound c → (s : Session) → s ≡ started p j name.clerk name.maildrop (heads name.maildrop c)
      → (kept : List Keyed) × LiesIn c s kept × (map (λ (x : Keyed). x.message) kept ≡ visible records.class_of p name (in_maildrop name.maildrop (records_of c).messages))
  begins j a s e = (found, subst (λ (s : Session). LiesIn c s found) (sym e) (lies_found j a), found_messages)
