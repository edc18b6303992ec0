-- The octets of sound records can be counted, so that the totals are whole.
use Rattle.std.proofs.Common.{◌≡◌, ℕ, ◌+◌, ◌*◌, ◌-◌, ◌^◌, ◌≤◌, true, List, [], ◌∷◌, length, min, inl, inr, refl, sym, ◌∙◌, ap, arith, lit≤}
use Rattle.std.specs.Prelude.{map, sum_by}
use Rattle.std.specs.Str.{bytes_eq}
use Rattle.std.proofs.lemmas.Bool.Decides.{nat_tests}
use Rattle.std.proofs.Math.Nat.{mul-le-mul_right}
use Rattle.std.proofs.lemmas.List.Sums.{sum_by-cons}
use Rattle.creds.specs.Names.{by_name}
use Rattle.vault.specs.declared.record.Keyed.{Keyed}
use Rattle.vault.specs.declared.record.Message.{Message}
use Rattle.vault.specs.Records.{Records, is_sound_message, in_maildrop, octets_of, octets_of_all, most_octets, most_messages}
use Rattle.vault.specs.Changes.{Contents, AreSound, records_of, kept_in, total_in, totals}
use Rattle.vault.specs.Calls.{present_in}
use Rattle.vault.specs.Plain.{capped_total}
use Rattle.vault.proofs.ListLemmas.{all_in, in_filter, filter-map, length-map, In}

pub in_maildrop_is : (d : List ℕ) (ms : List Keyed) → in_maildrop d (map (λ (x : Keyed). x.message) ms) ≡ map (λ (x : Keyed). x.message) (kept_in d ms)
in_maildrop_is d ms = filter-map (λ (x : Keyed). x.message) (λ (m : Message). bytes_eq m.maildrop d) ms

pub present_is : (d : List ℕ) (c : Contents) → length (kept_in d c.messages) ≡ present_in d c
present_is d c = sym (length-map (λ (x : Keyed). x.message) (kept_in d c.messages)) ∙ ap (λ ms. length ms) (sym (in_maildrop_is d c.messages))

sum_mapped : {A B : Type 0} (f : A → B) (g : B → ℕ) (xs : List A) → sum_by g (map f xs) ≡ sum_by (λ x. g (f x)) xs
sum_mapped f g [] = refl
sum_mapped f g (x ∷ xs) = sum_by-cons g (f x) (map f xs) ∙ ap (λ n. g (f x) + n) (sum_mapped f g xs) ∙ sym (sum_by-cons (λ y. g (f y)) x xs)

-- as many as there are, each within a bound
sum_within : {A : Type 0} (f : A → ℕ) (most : ℕ) (xs : List A) → ((x : A) → In x xs → f x ≤ most) → sum_by f xs ≤ length xs * most
sum_within f most [] h = omega arith
sum_within f most (x ∷ xs) h =
    let rest = sum_within f most xs (λ y i. h y (inr i)) in
    let first = h x (inl refl) in
    rw sum_by-cons (omega (arith, rest, first))

octets_within : (B : Records) (m : Message) → is_sound_message B m ≡ true → octets_of m ≤ most_octets
octets_within B m h = grind (arith, nat_tests)

counted : (sum n each most cap : ℕ) → sum ≤ n * each → n ≤ most → most * each ≤ cap → min sum cap ≡ sum
counted sum n each most cap a b c = let d = mul-le-mul_right each b in omega (arith, d)

all_octets : (d : List ℕ) (c : Contents) → AreSound c → min (octets_of_all (in_maildrop d (records_of c).messages)) (2 ^ 64 - 1) ≡ octets_of_all (in_maildrop d (records_of c).messages)
all_octets d c s = counted (octets_of_all (in_maildrop d (records_of c).messages)) (length (in_maildrop d (records_of c).messages)) most_octets most_messages (2 ^ 64 - 1)
    (sum_within octets_of most_octets (in_maildrop d (records_of c).messages)
    (λ m i. octets_within (records_of c) m (all_in (is_sound_message (records_of c)) (records_of c).messages m s.records.messages
    (in_filter (λ (m : Message). bytes_eq m.maildrop d) (records_of c).messages m i).0)))
    (s.records.messages_fit d) (lit≤ tt)

total_is : (d : List ℕ) (c : Contents) → AreSound c → capped_total c.messages d ≡ total_in d (in_maildrop d (records_of c).messages)
total_is d c s =
    let e = in_maildrop_is d c.messages in
    let o : sum_by (λ (x : Keyed). length x.message.text) (kept_in d c.messages) ≡ octets_of_all (in_maildrop d (records_of c).messages) =
    sym (sum_mapped (λ (x : Keyed). x.message) octets_of (kept_in d c.messages)) ∙ ap (λ ms. octets_of_all ms) (sym e) in
    let l : length (kept_in d c.messages) ≡ length (in_maildrop d (records_of c).messages) =
    sym (length-map (λ (x : Keyed). x.message) (kept_in d c.messages)) ∙ ap (λ ms. length ms) (sym e) in
    let t = all_octets d c s in
    cc

mapped_same : {A B : Type 0} (f g : A → B) (xs : List A) → ((x : A) → f x ≡ g x) → map f xs ≡ map g xs
mapped_same f g [] h = refl
mapped_same f g (x ∷ xs) h = let e = h x in let r = mapped_same f g xs h in cc

pub totals_are : (c : Contents) → AreSound c → map (capped_total c.messages) (by_name c.maildrops) ≡ totals (records_of c)
totals_are c s = mapped_same (capped_total c.messages) (λ d. total_in d (in_maildrop d (records_of c).messages)) (by_name c.maildrops) (λ d. total_is d c s)
