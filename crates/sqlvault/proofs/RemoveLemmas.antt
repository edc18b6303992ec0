-- What a removal leaves.
use Rattle.std.proofs.Common.{◌≡◌, inl, inr, ℕ, ◌<◌, ◌^◌, ℤ, Bool, true, false, not, cond, List, [], ◌∷◌, ◌++◌, map, refl, sym, ap, subst, ◌∙◌, arith, ⊎_elim}
use Rattle.std.proofs.Common.{true≢false, w64, Option, Ok, Err, drop, take}
use Rattle.std.proofs.lemmas.List.{take-append-drop}
use Rattle.std.specs.List.{find}
use Rattle.std.specs.Option.{option_map}
use Rattle.std.specs.Prelude.{◌&&◌, ◌||◌, ◌==◌, nat_lt, filter, flat_map, unwrap_or}
use Rattle.std.specs.Str.{bytes_eq}
use Rattle.std.specs.List.{list_any}
use Rattle.std.specs.List.Sorted.{IsPermutation}
use Rattle.std.proofs.lemmas.Bool.{and_parts, cases_Bool}
use Rattle.std.proofs.lemmas.Bool.Decides.{nat_tests}
use Rattle.std.proofs.Math.Facts.{to_z_inj}
use Rattle.std.proofs.lemmas.List.Concat.{flat_map-cons}
use Rattle.std.proofs.lemmas.List.Elements.{filter-append}
use Rattle.std.proofs.lemmas.List.Folds.{list_any-append}
use Rattle.sqlite_trees.proofs.ListLemmas.{IsPermutation-filter}
use Rattle.policy.specs.Policy.{are_distinct}
use Rattle.vault.specs.declared.record.Keyed.{Keyed}
use Rattle.vault.specs.Changes.{Contents, is_named, kept_in, head_of, without_keys, with_messages}
use Rattle.vault.specs.Calls.{heads_result, text_under}
use Rattle.vault.specs.Records.{is_one_of}
use Rattle.vault.specs.declared.fault.VaultFault.TheVariants as fault
use Rattle.vault.proofs.ListLemmas.{In, all_in, any_in, any_of, found, all_filter, list_any-map, not_true}
use Rattle.vault.proofs.ListLemmas.{bytes_are, find-filter}
use Rattle.vault.proofs.MailLemmas.{sound_filtered}
use Rattle.mailsql.specs.declared.rows.Message.{Message}
use Rattle.mailsql.specs.declared.rows.Sheet.{Sheet}
use Rattle.mailsql.specs.Columns.{Rows}
use Rattle.mailsql.specs.Rows.{is_message, same_int}
use Rattle.mailsql.specs.Changes.{RemovesMessage}
use Rattle.mailsql.specs.Sheets.{sheet_at}
use Rattle.mailsql.proofs.EqualLemmas.{same_itself}
use Rattle.sqlvault.specs.Keeps.{Keeps, row_key, message_row, message_sheets}
use Rattle.sqlvault.proofs.SmallLemmas.{nat_lt-true, int_same, filter_twice}
use Rattle.mailsql.proofs.WithoutLemmas.{bool_same}

-- ---- keys

pub num_same : (m n : ℕ) → (m == n) ≡ true → m ≡ n
num_same m n h = grind (arith, nat_tests)

pub num_itself : (n : ℕ) → (n == n) ≡ true
num_itself n = grind (arith, nat_tests)

-- the rows have different keys
pub key_told : (a b : ℕ) → a < 2 ^ 64 → b < 2 ^ 64 → same_int (row_key a) (row_key b) ≡ (b == a)
key_told a b p q = bool_same (same_int (row_key a) (row_key b)) (b == a)
    (λ h. let e : a ≡ b = to_z_inj {w = w64} (record { fits = p }) (record { fits = q }) (int_same (row_key a) (row_key b) h) in subst (λ n. (n == a) ≡ true) e (num_itself a))
    (λ h. subst (λ n. same_int (row_key a) (row_key n) ≡ true) (sym (num_same b a h)) (same_itself (row_key a)))

-- ---- lists

-- what passes a test, if another says the same of each element
filter_alike : {X : Type 0} (p q : X → Bool) (xs : List X) → ((x : X) → In x xs → p x ≡ q x) → filter p xs ≡ filter q xs
filter_alike p q [] same = refl
filter_alike p q (x ∷ xs) same = rw (same x (inl refl)) (ap (λ l. cond (q x) (x ∷ l) l) (filter_alike p q xs (λ y i. same y (inr i))))

filter_all : {X : Type 0} (p : X → Bool) (xs : List X) → ((x : X) → p x ≡ true) → filter p xs ≡ xs
filter_all p [] all = refl
filter_all p (x ∷ xs) all = rw (all x) (ap (λ l. x ∷ l) (filter_all p xs all))

-- the images of those that pass
mapped_left : {X Y : Type 0} (f : X → Y) (p : Y → Bool) (q : X → Bool) (xs : List X) → ((x : X) → In x xs → p (f x) ≡ q x) → filter p (map f xs) ≡ map f (filter q xs)
mapped_left f p q [] same = refl
mapped_left f p q (x ∷ xs) same = rw (same x (inl refl)) (go (q x) (mapped_left f p q xs (λ y i. same y (inr i))))
  where
    go : (b : Bool) → filter p (map f xs) ≡ map f (filter q xs) → cond b (f x ∷ filter p (map f xs)) (filter p (map f xs)) ≡ map f (cond b (x ∷ filter q xs) (filter q xs))
    go true e = ap (λ l. f x ∷ l) e
    go false e = e

no_matter : {X : Type 0} (b : Bool) (xs : List X) → xs ≡ cond b xs xs
no_matter true xs = refl
no_matter false xs = refl

-- if all elements of a list pass a test alike
passes_alike : {X Y : Type 0} (f : X → Y) (p : Y → Bool) (b : Bool) (xs : List X) → ((x : X) → p (f x) ≡ b) → filter p (map f xs) ≡ cond b (map f xs) []
passes_alike f p b [] same = no_matter b []
passes_alike f p b (x ∷ xs) same = rw (same x, passes_alike f p b xs same) (go b)
  where
    go : (a : Bool) → cond a (f x ∷ cond a (map f xs) []) (cond a (map f xs) []) ≡ cond a (f x ∷ map f xs) []
    go true = refl
    go false = refl

-- elements that are apart are the same if they have one key
pub only_one : (ms : List Keyed) (x y : Keyed) → are_distinct (λ (a b : Keyed). a.key == b.key) ms ≡ true → In x ms → In y ms → x.key ≡ y.key → x ≡ y
only_one [] x y apart i j same = absurd i
only_one (m ∷ ms) x y apart i j same =
    let r = and_parts (not (list_any (λ (b : Keyed). m.key == b.key) ms)) (are_distinct (λ (a b : Keyed). a.key == b.key) ms) apart in
    let none = not_true (list_any (λ (b : Keyed). m.key == b.key) ms) r.0 in
    let clash : (z : Keyed) → In z ms → m.key ≡ z.key → ⊥ = λ z k e. true≢false (sym (subst (λ n. (m.key == n) ≡ true) e (num_itself m.key)) ∙ any_in (λ (b : Keyed). m.key == b.key) ms z none k) in
    ⊎_elim
    (λ (e : x ≡ m). ⊎_elim (λ (f : y ≡ m). e ∙ sym f) (λ k. absurd (clash y k (sym (ap (λ (z : Keyed). z.key) e) ∙ same))) j)
    (λ k. ⊎_elim (λ (f : y ≡ m). absurd (clash x k (sym (ap (λ (z : Keyed). z.key) f) ∙ sym same))) (λ l. only_one ms x y r.1 k l same) j)
    i

-- ---- sheets

-- the sheets that pass a test of their message's key are those of the messages that pass
sheets_left : (f : ℤ → Bool) (keep : Keyed → Bool) (ms : List Keyed) → ((x : Keyed) → In x ms → f (row_key x.key) ≡ keep x)
    → filter (λ (s : Sheet). f s.mail) (flat_map message_sheets ms) ≡ flat_map message_sheets (filter keep ms)
sheets_left f keep [] same = refl
sheets_left f keep (x ∷ xs) same =
    let of_first : filter (λ (s : Sheet). f s.mail) (message_sheets x) ≡ cond (keep x) (message_sheets x) [] = passes_alike
    (sheet_at (row_key x.key) x.message.text) (λ (s : Sheet). f s.mail) (keep x) _ (λ n. same x (inl refl)) in
    rw (flat_map-cons message_sheets x xs, filter-append (λ (s : Sheet). f s.mail) (message_sheets x) (flat_map message_sheets xs), of_first, sheets_left f keep xs (λ y i. same y (inr i)))
    (go (keep x))
  where
    go : (b : Bool) → cond b (message_sheets x) [] ++ flat_map message_sheets (filter keep xs) ≡ flat_map message_sheets (cond b (x ∷ filter keep xs) (filter keep xs))
    go true = sym (flat_map-cons message_sheets x (filter keep xs))
    go false = refl

-- ---- a message goes

-- it is the one
abbrev is_it : ℕ → List ℕ → Keyed → Bool
is_it key d x = bytes_eq x.message.maildrop d && is_named (key ∷ []) x.key

module _ (key : ℕ) (d : List ℕ) (ms : List Keyed) (fits : key < 2 ^ 64) (low_keys : (x : Keyed) → In x ms → x.key < 2 ^ 64) where
  turned : (a b : Bool) → (a && b) ≡ (b && (a || false))
  turned true true = refl
  turned true false = refl
  turned false true = refl
  turned false false = refl

  -- the row is found by its key and maildrop exactly if the message is the one
  row_found : (x : Keyed) → In x ms → is_message (row_key key) d (message_row x) ≡ is_it key d x
  row_found x i = rw (key_told x.key key (low_keys x i) fits) (turned (key == x.key) (bytes_eq x.message.maildrop d))

  messages_left : filter (λ (m : Message). not (is_message (row_key key) d m)) (map message_row ms) ≡ map message_row (filter (λ x. not (is_it key d x)) ms)
  messages_left = mapped_left message_row (λ (m : Message). not (is_message (row_key key) d m)) (λ x. not (is_it key d x)) ms (λ x i. ap not (row_found x i))

  -- a sheet is of a message that goes exactly if its own message goes
  sheet_goes : are_distinct (λ (a b : Keyed). a.key == b.key) ms ≡ true → (x : Keyed) → In x ms
      → list_any (λ (m : Message). is_message (row_key key) d m && same_int (row_key x.key) m.key) (map message_row ms) ≡ is_it key d x
  sheet_goes apart x i =
      let p : Keyed → Bool = λ (y : Keyed). is_message (row_key key) d (message_row y) && same_int (row_key x.key) (row_key y.key) in
      list_any-map message_row (λ (m : Message). is_message (row_key key) d m && same_int (row_key x.key) m.key) ms
      ∙ bool_same (list_any p ms) (is_it key d x)
      (λ some.
      let y = found p ms some in
      let both = and_parts (is_message (row_key key) d (message_row y.0)) (same_int (row_key x.key) (row_key y.0.key)) y.2 in
      let same : x.key ≡ y.0.key = sym (num_same y.0.key x.key (sym (key_told x.key y.0.key (low_keys x i) (low_keys y.0 y.1)) ∙ both.1)) in
      ap (is_it key d) (only_one ms x y.0 apart i y.1 same) ∙ sym (row_found y.0 y.1) ∙ both.0)
      (λ it. any_of p ms x i (rw (row_found x i, it, same_itself (row_key x.key)) refl))

-- ---- the rows

-- the named messages are gone from the rows
abbrev pub Removed : (maildrop keys : List ℕ) → Rows → Rows → Type 0
Removed d keys rows after = (c : Contents) → Keeps rows c → Keeps after (with_messages (without_keys d keys c.messages) c)

pub none_removed : (d : List ℕ) (rows : Rows) → Removed d [] rows rows
none_removed d rows c keeps = subst (λ ms. Keeps rows (with_messages ms c))
    (sym (filter_all (λ (x : Keyed). not (bytes_eq x.message.maildrop d && is_named [] x.key)) c.messages (λ x. nothing (bytes_eq x.message.maildrop d)))) keeps
  where
    nothing : (b : Bool) → not (b && false) ≡ true
    nothing true = refl
    nothing false = refl

pub one_removed : (d : List ℕ) (key : ℕ) (rows after : Rows) → key < 2 ^ 64 → RemovesMessage (row_key key) d rows after → Removed d (key ∷ []) rows after
one_removed d key rows after fits change c keeps =
    let low_keys : (x : Keyed) → In x c.messages → x.key < 2 ^ 64 = λ x i. nat_lt-true x.key (2 ^ 64) (all_in (λ (y : Keyed). nat_lt y.key (2 ^ 64)) c.messages x keeps.keys i) in
    let stays : Keyed → Bool = λ x. not (is_it key d x) in
    let passes : ℤ → Bool = λ z. not (list_any (λ (m : Message). is_message (row_key key) d m && same_int z m.key) rows.messages) in
    let same : (x : Keyed) → In x c.messages → passes (row_key x.key) ≡ stays x = λ x i.
    ap not (ap (list_any (λ (m : Message). is_message (row_key key) d m && same_int (row_key x.key) m.key)) keeps.messages ∙ sheet_goes key d c.messages fits low_keys keeps.sound.keys x i) in
    subst (λ r. Keeps r (with_messages (without_keys d (key ∷ []) c.messages) c)) (sym change) (record {
      meta_row = keeps.meta_row;
      clerks = keeps.clerks;
      maildrops = keeps.maildrops;
      counts = keeps.counts;
      deposits = keeps.deposits;
      messages = ap (filter (λ (m : Message). not (is_message (row_key key) d m))) keeps.messages ∙ messages_left key d c.messages fits low_keys;
      sheets = subst (λ l. IsPermutation l (filter (λ (s : Sheet). passes s.mail) rows.sheets)) (sheets_left passes stays c.messages same)
          (IsPermutation-filter (λ (s : Sheet). passes s.mail) (flat_map message_sheets c.messages) rows.sheets keeps.sheets);
      groups = keeps.groups;
      rules = keeps.rules;
      keys = all_filter (λ (x : Keyed). nat_lt x.key 18446744073709551616) stays c.messages keeps.keys;
      sound = sound_filtered c stays keeps.sound;
    })

-- what some keys named is gone, and what others named was gone before
pub removed_both : (d keys done : List ℕ) (rows : Rows) (c : Contents) → Keeps rows (with_messages (without_keys d keys (without_keys d done c.messages)) c)
    → Keeps rows (with_messages (without_keys d (keys ++ done) c.messages) c)
removed_both d keys done rows c keeps =
    let p : Keyed → Bool = λ x. not (bytes_eq x.message.maildrop d && is_named done x.key) in
    let q : Keyed → Bool = λ x. not (bytes_eq x.message.maildrop d && is_named keys x.key) in
    let e : filter q (filter p c.messages) ≡ without_keys d (keys ++ done) c.messages = filter_twice p q c.messages
    ∙ filter_alike (λ x. p x && q x) (λ (x : Keyed). not (bytes_eq x.message.maildrop d && is_named (keys ++ done) x.key)) c.messages
    (λ x i. either_gone (bytes_eq x.message.maildrop d) (is_named keys x.key) (is_named done x.key)
    ∙ ap (λ b. not (bytes_eq x.message.maildrop d && b)) (sym (list_any-append (λ y. y == x.key) keys done))) in
    subst (λ ms. Keeps rows (with_messages ms c)) e keeps
  where
    either_gone : (a m n : Bool) → (not (a && n) && not (a && m)) ≡ not (a && (m || n))
    either_gone true true true = refl
    either_gone true true false = refl
    either_gone true false true = refl
    either_gone true false false = refl
    either_gone false m n = refl

-- what the later keys named is gone, and then what this one names
pub one_before : (d keys : List ℕ) (key : ℕ) (rows mid after : Rows) → key < 2 ^ 64 → Removed d keys rows mid → RemovesMessage (row_key key) d mid after → Removed d (key ∷ keys) rows after
one_before d keys key rows mid after fits before change c keeps = removed_both d (key ∷ []) keys after c
    (one_removed d key mid after fits change (with_messages (without_keys d keys c.messages) c) (before c keeps))

-- ---- what a removal doesn't name

and_false : (b : Bool) → (b && false) ≡ false
and_false true = refl
and_false false = refl

-- what lies in another maildrop stays
pub other_kept : (d other keys : List ℕ) (ms : List Keyed) → bytes_eq d other ≡ false
    → kept_in other (without_keys d keys ms) ≡ kept_in other ms
other_kept d other keys ms apart =
    let p : Keyed → Bool = λ x. not (bytes_eq x.message.maildrop d && is_named keys x.key) in
    let q : Keyed → Bool = λ x. bytes_eq x.message.maildrop other in
    filter_twice p q ms ∙ filter_alike (λ x. p x && q x) q ms (λ x i. spared x)
  where
    spared : (x : Keyed) → (not (bytes_eq x.message.maildrop d && is_named keys x.key) && bytes_eq x.message.maildrop other)
        ≡ bytes_eq x.message.maildrop other
    spared x = ⊎_elim
        (λ (t : bytes_eq x.message.maildrop d ≡ true).
        let f : bytes_eq x.message.maildrop other ≡ false =
        ap (λ n. bytes_eq n other) (bytes_are x.message.maildrop d t) ∙ apart in
        rw f (and_false (not (bytes_eq x.message.maildrop d && is_named keys x.key))))
        (λ (f : bytes_eq x.message.maildrop d ≡ false). rw f refl)
        (cases_Bool (bytes_eq x.message.maildrop d))

-- so the answer about another maildrop is the same
pub other_heads : (d other keys : List ℕ) (c : Contents) → bytes_eq d other ≡ false
    → heads_result other (with_messages (without_keys d keys c.messages) c) ≡ heads_result other c
other_heads d other keys c apart =
    ap (λ (ms : List Keyed). cond (is_one_of other c.maildrops) (Ok (map head_of ms)) (Err fault.NoMaildrop))
    (other_kept d other keys c.messages apart)

-- the text of a message that isn't named stays
pub other_text : (d keys : List ℕ) (key : ℕ) (ms : List Keyed) → is_named keys key ≡ false
    → text_under key (without_keys d keys ms) ≡ text_under key ms
other_text d keys key ms none =
    let p : Keyed → Bool = λ x. not (bytes_eq x.message.maildrop d && is_named keys x.key) in
    let q : Keyed → Bool = λ x. x.key == key in
    ap (λ (o : Option Keyed). unwrap_or (option_map (λ (x : Keyed). x.message.text) o) [])
    (find-filter p q ms ∙ (λ i. find (λ x. spared x i) ms))
  where
    spared : (x : Keyed) → (not (bytes_eq x.message.maildrop d && is_named keys x.key) && (x.key == key))
        ≡ (x.key == key)
    spared x = ⊎_elim
        (λ (t : (x.key == key) ≡ true).
        let f : is_named keys x.key ≡ false = ap (is_named keys) (num_same x.key key t) ∙ none in
        rw (f, and_false (bytes_eq x.message.maildrop d)) refl)
        (λ (f : (x.key == key) ≡ false).
        rw f (and_false (not (bytes_eq x.message.maildrop d && is_named keys x.key))))
        (cases_Bool (x.key == key))

-- what all keys don't name the last ones don't
pub less_named : (left : ℕ) (keys : List ℕ) (key : ℕ) → is_named keys key ≡ false
    → is_named (drop left keys) key ≡ false
less_named left keys key none =
    or_last (is_named (take left keys) key) (is_named (drop left keys) key)
    (sym (list_any-append (λ x. x == key) (take left keys) (drop left keys))
    ∙ ap (λ ks. is_named ks key) (take-append-drop left keys) ∙ none)
  where
    or_last : (a b : Bool) → (a || b) ≡ false → b ≡ false
    or_last true b e = absurd (true≢false e)
    or_last false b e = e
