-- From what is found of each maildrop to the messages of all rows, and back.
use Rattle.std.proofs.Common.{◌≡◌, inl, inr, ℕ, ◌+◌, ◌-◌, ◌*◌, ◌^◌, ◌<◌, ◌≤◌, min, ℤ, pos, Bool, true, false, List, [], ◌∷◌, length, map, Some, refl, sym, ap, subst, ◌∙◌, arith, ⊎_elim, true≢false}
use Rattle.std.specs.Prelude.{◌&&◌, ◌==◌, nat_lt, filter, flat_map, sum_by, All}
use Rattle.std.specs.Int.{div_ceil}
use Rattle.std.specs.List.{list_any, list_all}
use Rattle.std.specs.List.Sorted.{IsPermutation}
use Rattle.std.specs.Str.{bytes_eq}
use Rattle.std.proofs.lemmas.Bool.{cases_Bool, and_parts}
use Rattle.std.proofs.lemmas.Grind.{div_ceil_times}
use Rattle.std.proofs.lemmas.List.Concat.{length-flat_map}
use Rattle.std.proofs.lemmas.List.FromFn.{length-map-range_with_len}
use Rattle.std.proofs.lemmas.List.Elements.{All-weaker}
use Rattle.std.proofs.lemmas.List.Sums.{sum_by-cons, sum_by-le}
use Rattle.std.proofs.lemmas.List.Sorted.{length_permutation}
use Rattle.policy.specs.Policy.{are_distinct}
use Rattle.vault.specs.declared.record.Keyed.{Keyed}
use Rattle.vault.specs.declared.record.Message as vault
use Rattle.vault.specs.declared.record.Receipt.{Receipt}
use Rattle.vault.specs.Records.{most_messages, is_one_of, in_maildrop, same_message, is_receipt_for, is_sound_message}
use Rattle.vault.proofs.ListLemmas.{In, all_in, all_of, found, filter_in, in_filter, in_map, map_in, filter-map, length-map, distinct-map, bytes_are, bytes_same}
use Rattle.mailsql.specs.Apart.{AreApart}
use Rattle.mailsql.specs.declared.rows.Message.{Message}
use Rattle.mailsql.specs.declared.rows.Sheet.{Sheet}
use Rattle.mailsql.specs.Columns.{Rows}
use Rattle.mailsql.specs.Rows.{is_in, has_name, is_sheet, same_int}
use Rattle.mailsql.specs.Sheets.{sheet_count, sheet_at}
use Rattle.mailsql.proofs.EqualLemmas.{same_itself}
use Rattle.sqlvault.specs.Keeps.{row_key, message_row, message_sheets}
use Rattle.sqlvault.specs.Parts.{Finds, MaildropsAre, MessagesAre, messages_of, records_with}
use Rattle.sqlvault.specs.Stored.{HasSheets, is_kept_text, IsStored, HasMessage, sheets_in, IsSoundIn, sheets_under}
use Rattle.sqlvault.proofs.RemoveLemmas.{num_same, num_itself}
use Rattle.sqlvault.proofs.StoredLemmas.{few_octets}
use Rattle.sqlvault.proofs.GatherLemmas.{all_here, one_of_all, found_there, finds_it, distinct_weaker, in_permuted, Once, in_flat, flat_in, once_flat, in_range}
use Rattle.sqlvault.proofs.GatherLemmas.{range_in, once_range, same_elements, length_none, parts_sum}
use Rattle.sqlvault.proofs.SmallLemmas.{both_hold, never_true, pos_same, apart_distinct, int_same}

-- ---- sheets

-- a sheet of a message is at one of its places
sheet_of : (x : Keyed) (s : Sheet) → In s (message_sheets x) → (p : ℕ) × (p < sheet_count x.message.text) × (s ≡ sheet_at (row_key x.key) x.message.text p)
sheet_of x s i =
    let r = in_range (sheet_at (row_key x.key) x.message.text) 0 (sheet_count x.message.text) s i in
    (r.0, plain (sheet_count x.message.text) r.0 r.2, r.3)
  where
    plain : (n p : ℕ) → p < 0 + n → p < n
    plain n p h = omega (arith, h)

same_place : (mail : ℤ) (text : List ℕ) (j k : ℕ) → sheet_at mail text j ≡ sheet_at mail text k → j ≡ k
same_place mail text j k e = pos_same (ap (λ (s : Sheet). s.place) e)

-- they are all different
sheets_once : (x : Keyed) → Once (message_sheets x)
sheets_once x = once_range (sheet_at (row_key x.key) x.message.text) 0 (sheet_count x.message.text) (same_place (row_key x.key) x.message.text)

mail_told : (x : Keyed) (s : Sheet) → In s (message_sheets x) → s.mail ≡ row_key x.key
mail_told x s i = let r = sheet_of x s i in ap (λ (t : Sheet). t.mail) r.2

one_mail : (x y : Keyed) (s : Sheet) → In s (message_sheets x) → In s (message_sheets y) → same_int (row_key x.key) (row_key y.key) ≡ true
one_mail x y s i j = subst (λ z. same_int (row_key x.key) z ≡ true) (sym (mail_told x s i) ∙ mail_told y s j) (same_itself (row_key x.key))

count_of : (x : Keyed) → length (message_sheets x) ≡ sheets_in (message_row x)
count_of x = length-map-range_with_len (sheet_at (row_key x.key) x.message.text) 0 (sheet_count x.message.text)

pub count_all : (ms : List Keyed) → length (flat_map message_sheets ms) ≡ sum_by sheets_in (map message_row ms)
count_all ms = length-flat_map message_sheets ms ∙ go ms
  where
    go : (xs : List Keyed) → sum_by (λ x. length (message_sheets x)) xs ≡ sum_by sheets_in (map message_row xs)
    go [] = refl
    go (x ∷ xs) = let a = count_of x in let b = go xs in
        sum_by-cons (λ y. length (message_sheets y)) x xs ∙ (λ i. a i + b i) ∙ sym (sum_by-cons sheets_in (message_row x) (map message_row xs))

few_sheets : (n : ℕ) → n ≤ 26214400 → div_ceil n 4096 ≤ 6400
few_sheets n h = let e = div_ceil_times n 4096 (omega arith) in go (div_ceil n 4096) e.1
  where
    go : (count : ℕ) → count * 4096 < n + 4096 → count ≤ 6400
    go count end = omega (arith, h, end)

names_turned : (a b : List ℕ) → bytes_eq a b ≡ true → bytes_eq b a ≡ true
names_turned a b h = ap (λ x. bytes_eq x a) (sym (bytes_are a b h)) ∙ bytes_same a

module _ (rows : Rows) (deposits : List Receipt) (apart : AreApart rows) (dropped : MaildropsAre rows rows.maildrops) where
  -- each message is in some maildrop
  parent : (m : Message) → In m rows.messages → is_one_of m.maildrop rows.maildrops ≡ true
  parent m i = all_in (λ (y : Message). has_name y.maildrop rows.maildrops) rows.messages m apart.parents i

  -- ---- what the maildrops have is all

  there : All (IsSoundIn rows deposits) rows.maildrops → (m : Message) → In m rows.messages → HasMessage rows deposits m
  there all m i =
      let d = found (λ x. bytes_eq x m.maildrop) rows.maildrops (parent m i) in
      let in_it : In m (filter (is_in d.0) rows.messages) = filter_in (is_in d.0) rows.messages m i (names_turned d.0 m.maildrop d.2) in
      one_of_all (HasMessage rows deposits) (filter (is_in d.0) rows.messages) m (one_of_all (IsSoundIn rows deposits) rows.maildrops d.0 all d.1).1 in_it

  gathered : (shown : List Message) → ((m : Message) → In m shown → HasMessage rows deposits m)
      → (ms : List Keyed) × (shown ≡ map message_row ms) × ((x : Keyed) → In x ms → IsStored rows deposits (message_row x) x)
  gathered [] h = ([], refl, λ x i. absurd i)
  gathered (m ∷ shown) h =
      let x = h m (inl refl) in
      let r = gathered shown (λ y i. h y (inr i)) in (
        x.0 ∷ r.0,
        (λ i. x.1.is i ∷ r.1 i),
        λ y i. ⊎_elim
            (λ (e : y ≡ x.0). subst (λ z. IsStored rows deposits (message_row z) z) (sym e) (subst (λ row. IsStored rows deposits row x.0) x.1.is x.1))
            (λ k. r.2 y k) i,
      )

  -- how many sheets there are in all
  pub sum_all : sum_by (sheets_under rows) rows.maildrops ≡ sum_by sheets_in rows.messages
  sum_all = parts_sum sheets_in (λ (m : Message). m.maildrop) rows.maildrops rows.messages dropped.apart parent

  few_in : (m : Message) → HasMessage rows deposits m → sheets_in m ≤ 6400
  few_in m x = subst (λ row. sheets_in row ≤ 6400) (sym x.1.is) (few_sheets (length x.0.message.text) (few_octets x.0.message.text x.1.text))

  few_under : (d : List ℕ) → IsSoundIn rows deposits d → sheets_under rows d ≤ 64000000
  few_under d s =
      let e = sum_by-le sheets_in 6400 (filter (is_in d) rows.messages) (All-weaker (HasMessage rows deposits) (λ m. sheets_in m ≤ 6400) few_in (filter (is_in d) rows.messages) s.1) in
      bound (length (filter (is_in d) rows.messages)) (sheets_under rows d) s.0 e
    where
      bound : (n s : ℕ) → n ≤ 10000 → s ≤ n * 6400 → s ≤ 64000000
      bound n s a b = omega (arith, a, b)

  pub few_all : All (IsSoundIn rows deposits) rows.maildrops → sum_by (sheets_under rows) rows.maildrops ≤ 64000000000
  few_all all =
      let e = sum_by-le (sheets_under rows) 64000000 rows.maildrops (All-weaker (IsSoundIn rows deposits) (λ d. sheets_under rows d ≤ 64000000) few_under rows.maildrops all) in
      bound (length rows.maildrops) (sum_by (sheets_under rows) rows.maildrops) dropped.fit e
    where
      bound : (n s : ℕ) → n ≤ 1000 → s ≤ n * 64000000 → s ≤ 64000000000
      bound n s a b = omega (arith, a, b)

  -- ---- the messages that were found are those of the rows

  module _ (ms : List Keyed) (same : rows.messages ≡ map message_row ms) where
    row_in : (x : Keyed) → In x ms → In (message_row x) rows.messages
    row_in x i = subst (λ l. In (message_row x) l) (sym same) (map_in message_row ms x i)

    -- those of a maildrop are as many
    as_many : (d : List ℕ) → length (filter (is_in d) rows.messages) ≡ length (in_maildrop d (messages_of ms))
    as_many d =
        ap (λ (l : List Message). length (filter (is_in d) l)) same
        ∙ ap (λ (l : List Message). length l) (filter-map message_row (is_in d) ms)
        ∙ length-map message_row (filter (λ (x : Keyed). bytes_eq x.message.maildrop d) ms)
        ∙ sym (length-map (λ (x : Keyed). x.message) (filter (λ (x : Keyed). bytes_eq x.message.maildrop d) ms))
        ∙ ap (λ (l : List vault.Message). length l) (sym (filter-map (λ (x : Keyed). x.message) (λ (m : vault.Message). bytes_eq m.maildrop d) ms))

    keys_differ : are_distinct (λ (x y : Keyed). same_int (row_key x.key) (row_key y.key)) ms ≡ true
    keys_differ =
        sym (distinct-map message_row (λ (a b : Message). same_int a.key b.key) ms)
        ∙ ap (are_distinct (λ (a b : Message). same_int a.key b.key)) (sym same)
        ∙ sym (apart_distinct (λ (a b : Message). same_int a.key b.key) rows.messages)
        ∙ apart.keys

    keys_apart : are_distinct (λ (x y : Keyed). x.key == y.key) ms ≡ true
    keys_apart = distinct_weaker (λ (x y : Keyed). same_int (row_key x.key) (row_key y.key)) (λ (x y : Keyed). x.key == y.key) ms
        (λ x y h. subst (λ n. same_int (row_key x.key) (row_key n) ≡ true) (num_same x.key y.key h) (same_itself (row_key x.key))) keys_differ

    messages_apart : are_distinct same_message (messages_of ms) ≡ true
    messages_apart =
        distinct-map (λ (x : Keyed). x.message) same_message ms
        ∙ distinct_weaker row_same (λ (x y : Keyed). same_message x.message y.message) ms
        (λ x y h. let r = and_parts (bytes_eq x.message.maildrop y.message.maildrop && bytes_eq x.message.class y.message.class) (x.message.k == y.message.k) h in
        both_hold (bytes_eq x.message.maildrop y.message.maildrop && bytes_eq x.message.class y.message.class) (same_int (pos x.message.k) (pos y.message.k)) r.0
        (subst (λ n. same_int (pos x.message.k) (pos n) ≡ true) (num_same x.message.k y.message.k r.1) (same_itself (pos x.message.k))))
        (sym (distinct-map message_row told ms) ∙ ap (are_distinct told) (sym same) ∙ sym (apart_distinct told rows.messages) ∙ apart.messages)
      where
        told : Message → Message → Bool
        told a b = bytes_eq a.maildrop b.maildrop && bytes_eq a.class b.class && same_int a.k b.k

        row_same : Keyed → Keyed → Bool
        row_same x y = told (message_row x) (message_row y)

    module _ (stored : (x : Keyed) → In x ms → IsStored rows deposits (message_row x) x) where
      sound_at : (x : Keyed) → In x ms → is_sound_message (records_with rows.maildrops deposits) x.message ≡ true
      sound_at x i =
          let s = stored x i in
          both_hold (is_kept_text x.message.text && is_one_of x.message.maildrop rows.maildrops) (list_any (is_receipt_for x.message) deposits)
          (both_hold (is_kept_text x.message.text) (is_one_of x.message.maildrop rows.maildrops) s.text (parent (message_row x) (row_in x i))) s.receipt

      all_sound : list_all (is_sound_message (records_with rows.maildrops deposits)) (messages_of ms) ≡ true
      all_sound = all_of (is_sound_message (records_with rows.maildrops deposits)) (messages_of ms)
          (λ m i. let r = in_map (λ (x : Keyed). x.message) ms m i in subst (λ z. is_sound_message (records_with rows.maildrops deposits) z ≡ true) (sym r.2) (sound_at r.0 r.1))

      sheet_there : (s : Sheet) → In s (flat_map message_sheets ms) → In s rows.sheets
      sheet_there s i =
          let x = in_flat message_sheets ms s i in
          let p = sheet_of x.0 s x.2 in
          found_there (is_sheet (row_key x.0.key) (pos p.0)) rows.sheets s ((stored x.0 x.1).sheets p.0 p.1 ∙ ap Some (sym p.2))

      pub all_sheets : length rows.sheets ≡ sum_by sheets_in rows.messages → IsPermutation (flat_map message_sheets ms) rows.sheets
      all_sheets long = same_elements (flat_map message_sheets ms) rows.sheets
          (once_flat message_sheets (λ (x y : Keyed). same_int (row_key x.key) (row_key y.key)) ms sheets_once one_mail keys_differ)
          sheet_there (long ∙ ap (λ l. sum_by sheets_in l) same ∙ sym (count_all ms))

      pub fits_all : All (IsSoundIn rows deposits) rows.maildrops → (d : List ℕ) → length (in_maildrop d (messages_of ms)) ≤ most_messages
      fits_all all d = subst (λ n. n ≤ most_messages) (as_many d) (⊎_elim
          (λ (t : is_one_of d rows.maildrops ≡ true).
          let r = found (λ x. bytes_eq x d) rows.maildrops t in
          subst (λ e. length (filter (is_in e) rows.messages) ≤ most_messages) (bytes_are r.0 d r.2) (one_of_all (IsSoundIn rows deposits) rows.maildrops r.0 all r.1).0)
          (λ (f : is_one_of d rows.maildrops ≡ false).
          let none = length_none (is_in d) rows.messages
          (λ m i. never_true (bytes_eq m.maildrop d) (λ e. true≢false (sym (parent m i) ∙ ap (λ n. is_one_of n rows.maildrops) (bytes_are m.maildrop d e) ∙ f))) in
          omega (arith, none))
          (cases_Bool (is_one_of d rows.maildrops)))

      pub messages_are : All (IsSoundIn rows deposits) rows.maildrops → length rows.sheets ≡ sum_by sheets_in rows.messages → MessagesAre rows deposits ms
      messages_are all long = record {
        same = same;
        sheets = all_sheets long;
        keys = all_of (λ (x : Keyed). nat_lt x.key 18446744073709551616) ms (λ x i. (stored x i).key);
        sound = all_sound;
        apart = messages_apart;
        keys_apart = keys_apart;
        fit = fits_all all;
      }

  -- ---- what the messages of the rows have

  module _ (ms : List Keyed) (are : MessagesAre rows deposits ms) where
    sheets_found : (x : Keyed) → In x ms → HasSheets rows (row_key x.key) x.message.text
    sheets_found x i p low =
        let s = sheet_at (row_key x.key) x.message.text p in
        let here : In s (flat_map message_sheets ms) = flat_in message_sheets ms x s i
        (range_in (sheet_at (row_key x.key) x.message.text) 0 (sheet_count x.message.text) p (omega arith) (plain (sheet_count x.message.text) p low)) in
        let moved : In s rows.sheets = in_permuted (flat_map message_sheets ms) rows.sheets s are.sheets here in
        finds_it (λ (a b : Sheet). same_int a.mail b.mail && same_int a.place b.place) (is_sheet (row_key x.key) (pos p)) rows.sheets s
        (λ y z h k.
        let a = and_parts (same_int y.mail (row_key x.key)) (same_int y.place (pos p)) h in
        let b = and_parts (same_int z.mail (row_key x.key)) (same_int z.place (pos p)) k in
        both_hold (same_int y.mail z.mail) (same_int y.place z.place)
        (subst (λ n. same_int y.mail n ≡ true) (int_same y.mail (row_key x.key) a.0 ∙ sym (int_same z.mail (row_key x.key) b.0)) (same_itself y.mail))
        (subst (λ n. same_int y.place n ≡ true) (int_same y.place (pos p) a.1 ∙ sym (int_same z.place (pos p) b.1)) (same_itself y.place)))
        apart.sheets moved (both_hold (same_int (row_key x.key) (row_key x.key)) (same_int (pos p) (pos p)) (same_itself (row_key x.key)) (same_itself (pos p)))
      where
        plain : (n q : ℕ) → q < n → q < 0 + n
        plain n q h = omega (arith, h)

    stored_of : (x : Keyed) → In x ms → IsStored rows deposits (message_row x) x
    stored_of x i =
        let s = all_in (is_sound_message (records_with rows.maildrops deposits)) (messages_of ms) x.message are.sound (map_in (λ (y : Keyed). y.message) ms x i) in
        let a = and_parts (is_kept_text x.message.text && is_one_of x.message.maildrop rows.maildrops) (list_any (is_receipt_for x.message) deposits) s in
        let b = and_parts (is_kept_text x.message.text) (is_one_of x.message.maildrop rows.maildrops) a.0 in
        record {
          is = refl;
          key = all_in (λ (y : Keyed). nat_lt y.key 18446744073709551616) ms x are.keys i;
          text = b.0;
          receipt = a.1;
          sheets = sheets_found x i;
        }

    message_of_row : (m : Message) → In m rows.messages → HasMessage rows deposits m
    message_of_row m i =
        let r = in_map message_row ms m (subst (λ l. In m l) are.same i) in
        (r.0, subst (λ row. IsStored rows deposits row r.0) (sym r.2) (stored_of r.0 r.1))

    sound_in : (d : List ℕ) → IsSoundIn rows deposits d
    sound_in d = (
      subst (λ n. n ≤ most_messages) (sym (as_many ms are.same d)) (are.fit d),
      all_here (HasMessage rows deposits) (filter (is_in d) rows.messages) (λ m i. message_of_row m (in_filter (is_in d) rows.messages m i).0),
    )

    pub all_sound_in : All (IsSoundIn rows deposits) rows.maildrops
    all_sound_in = all_here (IsSoundIn rows deposits) rows.maildrops (λ d i. sound_in d)

    pub sheets_long : length rows.sheets ≡ sum_by sheets_in rows.messages
    sheets_long = length_permutation (flat_map message_sheets ms) rows.sheets are.sheets ∙ count_all ms ∙ ap (λ l. sum_by sheets_in l) (sym are.same)

  -- ---- the answer

  exact : (long sum count total : ℕ) → sum ≤ 64000000000 → count ≡ min long 9223372036854775807 → total ≡ min sum (2 ^ 64 - 1) → count ≡ total → long ≡ sum
  exact long sum count total few a b e = omega (arith, few, a, b, e)

  exact_back : (long sum count total : ℕ) → sum ≤ 64000000000 → count ≡ min long 9223372036854775807 → total ≡ min sum (2 ^ 64 - 1) → long ≡ sum → count ≡ total
  exact_back long sum count total few a b e = omega (arith, few, a, b, e)

  pub judged_all : (count total : ℕ) → All (IsSoundIn rows deposits) rows.maildrops → count ≡ min (length rows.sheets) 9223372036854775807
      → total ≡ min (sum_by (sheets_under rows) rows.maildrops) (2 ^ 64 - 1)
      → count ≡ total → (ms : List Keyed) × MessagesAre rows deposits ms
  judged_all count total all a b e =
      let r = gathered rows.messages (there all) in
      (r.0, messages_are r.0 r.1 r.2 all (exact (length rows.sheets) (sum_by (sheets_under rows) rows.maildrops) count total (few_all all) a b e ∙ sum_all))

  pub judged_other : (count total : ℕ) (ms : List Keyed) → count ≡ min (length rows.sheets) 9223372036854775807 → total ≡ min (sum_by (sheets_under rows) rows.maildrops) (2 ^ 64 - 1)
      → (count ≡ total → ⊥) → MessagesAre rows deposits ms → ⊥
  judged_other count total ms a b other are =
      other (exact_back (length rows.sheets) (sum_by (sheets_under rows) rows.maildrops) count total (few_all (all_sound_in ms are)) a b (sheets_long ms are ∙ sym sum_all))

  pub judged_count : (count total : ℕ) → All (IsSoundIn rows deposits) rows.maildrops → count ≡ min (length rows.sheets) 9223372036854775807
      → total ≡ min (sum_by (sheets_under rows) rows.maildrops) (2 ^ 64 - 1)
      → Finds (MessagesAre rows deposits) (count == total)
  judged_count count total all a b = go (count == total) (num_same count total) (λ e. subst (λ n. (count == n) ≡ true) e (num_itself count))
    where
      go : (r : Bool) → (r ≡ true → count ≡ total) → (count ≡ total → r ≡ true) → Finds (MessagesAre rows deposits) r
      go true to from = judged_all count total all a b (to refl)
      go false to from = λ ms are. judged_other count total ms a b (λ e. true≢false (sym (from e))) are
