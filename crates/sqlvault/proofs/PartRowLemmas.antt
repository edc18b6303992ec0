-- The rows with a part of a message, as queries of other things see them.
use Rattle.std.proofs.Common.{◌≡◌, ◌++◌, ◌∷◌, [], ◌+◌, ◌<◌, ◌^◌, ℕ, zero, suc, ℤ, Bool, false, List, map, filter, refl, ap, ◌∙◌, append-nil}
use Rattle.std.specs.Prelude.{◌==◌, ◌&&◌, bytes_eq}
use Rattle.std.specs.List.{range_with_len}
use Rattle.std.proofs.lemmas.List.Elements.{filter-append}
use Rattle.mailsql.specs.declared.rows.Sheet.{Sheet}
use Rattle.mailsql.specs.declared.rows.Message.{Message}
use Rattle.mailsql.specs.Rows.{is_in, is_sheet_between, same_int}
use Rattle.mailsql.specs.Sheets.{sheets_of, sheet_at, sheet_count}
use Rattle.sqlvault.specs.Keeps.{row_key}
use Rattle.sqlvault.proofs.SmallLemmas.{nat_lt-true}
use Rattle.sqlvault.proofs.RemoveLemmas.{key_told}
use Rattle.vault.specs.Changes.{Contents}
use Rattle.mailsql.specs.Rows.{Rows}
use Rattle.sqlvault.specs.Arrivals.{Arrival, ShowsPart, arrival_row}

pub clerks_of_part : (a : Arrival) (c : Contents) (rows : Rows) (shown : ShowsPart a c rows)
    → rows.clerks ≡ shown.before.clerks
clerks_of_part a c rows shown =
    ap (λ (r : Rows). r.clerks) shown.sheets ∙ ap (λ (r : Rows). r.clerks) shown.added.added

sheets_of_part : (a : Arrival) (c : Contents) (rows : Rows) (shown : ShowsPart a c rows)
    → rows.sheets ≡ shown.before.sheets ++ sheets_of (row_key a.key) a.put
sheets_of_part a c rows shown =
    ap (λ (r : Rows). r.sheets) shown.sheets
    ∙ ap (λ (r : Rows). r.sheets ++ sheets_of (row_key a.key) a.put) shown.added.added

none_of : (p : Sheet → Bool) (f : ℕ → Sheet) → ((n : ℕ) → p (f n) ≡ false) → (a n : ℕ)
    → filter p (map f (range_with_len a n)) ≡ []
none_of p f none a zero = refl
none_of p f none a (suc n) = rw (none a) (none_of p f none (a + 1) n)

first_false : (a b : Bool) → a ≡ false → (a && b) ≡ false
first_false a b e = rw e refl

-- the sheets of another message are as they were
pub sheets_of_others : (a : Arrival) (c : Contents) (rows : Rows) (shown : ShowsPart a c rows) (key : ℕ)
    → key < 2 ^ 64 → (from end : ℤ) → (key == a.key) ≡ false
    → filter (is_sheet_between (row_key key) from end) rows.sheets
    ≡ filter (is_sheet_between (row_key key) from end) shown.before.sheets
sheets_of_others a c rows shown key fits from end other =
    let p = is_sheet_between (row_key key) from end in
    let mail = row_key a.key in
    let low : a.key < 2 ^ 64 = nat_lt-true a.key (2 ^ 64) shown.key in
    let differ : same_int mail (row_key key) ≡ false = key_told a.key key low fits ∙ other in
    let none : filter p (sheets_of mail a.put) ≡ [] =
    none_of p (sheet_at mail a.put) (λ n. first_false (same_int mail (row_key key)) _ differ) 0 (sheet_count a.put) in
    ap (filter p) (sheets_of_part a c rows shown) ∙ filter-append p shown.before.sheets (sheets_of mail a.put)
    ∙ ap (λ (l : List Sheet). filter p shown.before.sheets ++ l) none
    ∙ append-nil (filter p shown.before.sheets)

pub maildrops_of_part : (a : Arrival) (c : Contents) (rows : Rows) (shown : ShowsPart a c rows)
    → rows.maildrops ≡ shown.before.maildrops
maildrops_of_part a c rows shown =
    ap (λ (r : Rows). r.maildrops) shown.sheets ∙ ap (λ (r : Rows). r.maildrops) shown.added.added

-- the messages of another maildrop are as they were
pub messages_of_others : (a : Arrival) (c : Contents) (rows : Rows) (shown : ShowsPart a c rows)
    (d : List ℕ) → bytes_eq a.maildrop d ≡ false
    → filter (is_in d) rows.messages ≡ filter (is_in d) shown.before.messages
messages_of_others a c rows shown d other =
    let row = arrival_row a in
    let none : filter (is_in d) (row ∷ []) ≡ [] = rw other refl in
    ap (λ (r : Rows). filter (is_in d) r.messages) shown.sheets
    ∙ ap (λ (r : Rows). filter (is_in d) r.messages) shown.added.added
    ∙ filter-append (is_in d) shown.before.messages (row ∷ [])
    ∙ ap (λ (l : List Message). filter (is_in d) shown.before.messages ++ l) none
    ∙ append-nil (filter (is_in d) shown.before.messages)
