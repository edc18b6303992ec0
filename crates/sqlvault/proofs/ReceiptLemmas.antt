-- The receipts in the deposits' rows are those of the contents.
use Rattle.std.proofs.Common.{◌≡◌, ℕ, ◌+◌, ◌<◌, zero, suc, arith, true, List, [], ◌∷◌, ◌++◌, length, map, take, get_or, refl, sym, ap, subst, ◌∙◌, Result, Ok, Err}
use Rattle.std.specs.Prelude.{◌&&◌, ◌==◌}
use Rattle.std.specs.List.{list_all}
use Rattle.std.proofs.lemmas.Bool.{and_parts}
use Rattle.std.proofs.lemmas.List.{get_or-map, take_more}
use Rattle.creds.specs.Names.{is_name, is_deposit_id}
use Rattle.sqlite.specs.declared.error.Error.{Error}
use Rattle.vault.specs.declared.record.Receipt.{Receipt}
use Rattle.vault.specs.Records.{is_counted, is_sound_receipt, class_count, receipts_of, most_deposits}
use Rattle.vault.specs.Changes.{Contents, records_of}
use Rattle.vault.proofs.ListLemmas.{length-map}
use Rattle.std.specs.Prelude.{nat_le}
use Rattle.mailsql.specs.declared.rows.Deposit.{Deposit}
use Rattle.mailsql.specs.Columns.{Rows}
use Rattle.sqlvault.specs.Keeps.{Keeps, deposit_row}
use Rattle.sqlvault.specs.Receipts.{is_formed}

-- what was read of a row is the receipt whose row it is
abbrev got_or : Receipt → Result Receipt Error → Receipt
got_or r (Ok x) = x
got_or r (Err e) = r

-- one of receipts that are all formed
formed_at : (rs : List Receipt) (i : ℕ) (d : Receipt) → i < length rs → list_all is_formed rs ≡ true → is_formed (get_or rs i d) ≡ true
formed_at [] i d lt h = absurd (omega (arith, lt))
formed_at (r ∷ rs) zero d lt h = (and_parts (is_formed r) (list_all is_formed rs) h).0
formed_at (r ∷ rs) (suc i) d lt h = formed_at rs i d (omega (arith, lt)) (and_parts (is_formed r) (list_all is_formed rs) h).1

-- a receipt more
pub receipt_more : (rs : List Receipt) (rows : List Deposit) (i : ℕ) (row : Deposit) (got : Receipt) (old new : List Receipt)
    → i < length rows → row ≡ get_or rows i row → rows ≡ map deposit_row rs → list_all is_formed rs ≡ true
    → ((r : Receipt) → row ≡ deposit_row r → is_formed r ≡ true → ◌≡◌ {A = Result Receipt Error} (Ok got) (Ok r))
    → old ≡ take i rs → new ≡ old ++ got ∷ [] → new ≡ take (i + 1) rs
receipt_more rs rows i row got old new lt at are formed read before put =
    let long : length rows ≡ length rs = ap (λ (l : List Deposit). length l) are ∙ length-map deposit_row rs in
    let within : i < length rs = subst (λ n. i < n) long lt in
    let here : row ≡ deposit_row (get_or rs i got) =
    at ∙ ap (λ (l : List Deposit). get_or l i row) are ∙ get_or-map deposit_row rs i got row within in
    let same : got ≡ get_or rs i got = ap (got_or got) (read (get_or rs i got) here (formed_at rs i got within formed)) in
    put ∙ ap (λ (l : List Receipt). l ++ got ∷ []) before ∙ ap (λ (r : Receipt). take i rs ++ r ∷ []) same
    ∙ sym (take_more rs i got within)

-- a sound receipt is formed
formed_of : (c : Contents) (r : Receipt) → is_sound_receipt (records_of c) r ≡ true → is_formed r ≡ true
formed_of c r h =
    let n = class_count r.class (receipts_of r.maildrop c.deposits) in
    let a = is_name r.maildrop in
    let b = is_deposit_id r.id in
    let d = is_name r.class in
    let e = is_counted c.deposits r in
    let f = nat_le n most_deposits in
    let z = length r.digest == 32 in
    let p5 = and_parts (a && b && d && e && f) z h in
    let p4 = and_parts (a && b && d && e) f p5.0 in
    let p3 = and_parts (a && b && d) e p4.0 in
    rw (p3.0, p5.1) refl

all_formed : (c : Contents) (rs : List Receipt) → list_all (is_sound_receipt (records_of c)) rs ≡ true → list_all is_formed rs ≡ true
all_formed c [] h = refl
all_formed c (r ∷ rs) h =
    let p = and_parts (is_sound_receipt (records_of c) r) (list_all (is_sound_receipt (records_of c)) rs) h in
    rw (formed_of c r p.0, all_formed c rs p.1) refl

-- so those that were read are those of the contents
pub receipts_listed : (rows : Rows) (c : Contents) (read : List Deposit) (got : List Receipt) → Keeps rows c → read ≡ rows.deposits
    → ((rs : List Receipt) → read ≡ map deposit_row rs → list_all is_formed rs ≡ true → got ≡ rs)
    → got ≡ c.deposits
receipts_listed rows c read got k is told =
    told c.deposits (is ∙ k.deposits) (all_formed c c.deposits k.sound.records.deposits)
