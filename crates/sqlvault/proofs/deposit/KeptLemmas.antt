-- Contents stay sound as a deposit comes, and the rows are those contents.
use Rattle.std.proofs.Common.{◌≡◌, ℕ, ℤ, pos, ◌+◌, Bool, true, false, not, cond, ◌&&◌, List, [], ◌∷◌, ◌++◌, length, Some, None, Result, Ok, Err, refl, sym, ap}
use Rattle.std.proofs.Common.{subst, ◌∙◌, eqb-true, ⊎_elim, arith, append-nil, true≢false}
use Rattle.std.specs.Prelude.{filter, map, flat_map, nat_lt, ◌==◌, ◌<ℤ◌}
use Rattle.std.specs.List.{find, AllByRecursion}
use Rattle.std.specs.List.Sorted.{IsPermutation}
use Rattle.std.specs.Str.{bytes_eq}
use Rattle.std.proofs.lemmas.Bool.{cases_Bool, and_parts}
use Rattle.std.proofs.lemmas.Int.{ints}
use Rattle.std.proofs.lemmas.List.Concat.{flat_map-append}
use Rattle.std.proofs.lemmas.List.Sorted.{IsPermutation-append_left}
use Rattle.mailtext.specs.MailText.{IsMailText}
use Rattle.creds.specs.Names.{is_name, is_deposit_id}
use Rattle.creds.specs.Digests.{text_digest}
use Rattle.creds.specs.declared.uid.Uid.{Uid}
use Rattle.vault.specs.declared.answer.Deposited.{Deposited}
use Rattle.vault.specs.declared.answer.Deposited.TheVariants as stored
use Rattle.vault.specs.declared.fault.VaultFault.{VaultFault}
use Rattle.vault.specs.declared.record.Keyed.{Keyed}
use Rattle.vault.specs.declared.record.Receipt.{Receipt}
use Rattle.vault.specs.Records.{receipts_of, class_count}
use Rattle.vault.specs.Changes.{Contents, AreSound, with_deposit, receipt_for}
use Rattle.vault.specs.Calls.{IsDeposited, IsRefusal, deposit_result, deposit_answer_in}
use Rattle.sqlvault.proofs.HoldsLemmas.{refusal_any}
use Rattle.vault.proofs.ListLemmas.{In, all_last, map-append, bytes_same, bytes_are}
use Rattle.vault.proofs.DepositLemmas.{IsNew, HaveForms, judged_new, sound_with_deposit, counted_last, counted_own}
use Rattle.mailsql.specs.declared.rows.Count.{Count}
use Rattle.mailsql.specs.declared.rows.Deposit.{Deposit}
use Rattle.mailsql.specs.declared.rows.Message.{Message}
use Rattle.mailsql.specs.declared.rows.Sheet.{Sheet}
use Rattle.mailsql.specs.Rows.{Rows, is_count}
use Rattle.sqlvault.specs.Keeps.{Keeps, deposit_row, message_row, message_sheets, row_key, number_in, count_in}
use Rattle.sqlvault.specs.Deposits.{PutsReceipt, PutsMessage, Accepts, count_row, message_of}
use Rattle.sqlvault.proofs.SmallLemmas.{both_hold}

-- ---- how a deposit was judged

is_new : (c : Contents) (r : Receipt) (text : List ℕ) → Accepts c r text → IsNew c r.maildrop r.class r.id r.k
is_new c r text a = (judged_new c r.maildrop r.class r.id text (record { class = r.class; k = r.k }) a.answer).0

pub accepts : (c : Contents) (d class id text : List ℕ) (uid : Uid) (r : Receipt) → r ≡ receipt_for d class id text uid.k → is_name d ≡ true
    → is_deposit_id id ≡ true → is_name class ≡ true → IsMailText text
    → length (text_digest text) ≡ 32 → deposit_result (deposit_answer_in c d class id text) ≡ Ok (stored.New uid) → Accepts c r text
accepts c d class id text uid r is maildrop deposit_id class_name form sized h =
    let same : (let x : Uid = record { class = class; k = uid.k } in x) ≡ uid =
    ap (λ (x : List ℕ). let y : Uid = record { class = x; k = uid.k } in y) (sym (judged_new c d class id text uid h).1) in
    subst (λ (x : Receipt). Accepts c x text) (sym is) (record {
      maildrop = maildrop;
      id = deposit_id;
      class = class_name;
      form = form;
      digest = refl;
      sized = sized;
      answer = h ∙ ap (λ (x : Uid). let y : Result Deposited VaultFault = Ok (stored.New x) in y) (sym same);
    })

-- ---- sound with the deposit

have_forms : (c : Contents) (r : Receipt) (text : List ℕ) → Accepts c r text → HaveForms r.maildrop r.class r.id text
have_forms c r text a = record { maildrop = a.maildrop; class_name = a.class; deposit_id = a.id; mail = a.form; digest = ap (λ (xs : List ℕ). length xs) (sym a.digest) ∙ a.sized }

receipt_is : (r : Receipt) (text : List ℕ) → r.digest ≡ text_digest text → r ≡ receipt_for r.maildrop r.class r.id text r.k
receipt_is r text e = ap (λ (g : List ℕ). let x : Receipt = record { maildrop = r.maildrop; id = r.id; class = r.class; k = r.k; digest = g } in x) e

sound_with : (c : Contents) (r : Receipt) (text : List ℕ) (key : ℕ) → AreSound c → Accepts c r text → ((x : Keyed) → In x c.messages → (x.key == key) ≡ false)
    → AreSound (with_deposit key (message_of r text) r c)
sound_with c r text key s a others =
    subst (λ (x : Receipt). AreSound (with_deposit key (message_of r text) x c)) (sym (receipt_is r text a.digest))
    (sound_with_deposit c r.maildrop r.class r.id text r.k key s (is_new c r text a) (have_forms c r text a) others)

like_bytes : (m a b : List ℕ) → bytes_eq m a ≡ true → bytes_eq m b ≡ true → bytes_eq a b ≡ true
like_bytes m a b e f = subst (λ x. bytes_eq x b ≡ true) (bytes_are m a e) f

-- ---- the key is none of the others

never_below : (z : ℤ) → z <ℤ z → ⊥
never_below z h = omega (arith, ints)

other_key : (m n : ℕ) → row_key m <ℤ row_key n → (m == n) ≡ false
other_key m n h = ⊎_elim
    (λ (t : (m == n) ≡ true). absurd (never_below (row_key n) (subst (λ x. row_key x <ℤ row_key n) (eqb-true m n t) h)))
    (λ f. f)
    (cases_Bool (m == n))

other_keys : (ms : List Keyed) (key : ℕ) → AllByRecursion (λ (m : Message). m.key <ℤ row_key key) (map message_row ms) → (x : Keyed) → In x ms → (x.key == key) ≡ false
other_keys [] key a x i = absurd i
other_keys (y ∷ ys) key a x i = ⊎_elim (λ (e : x ≡ y). ap (λ (z : Keyed). z.key == key) e ∙ other_key y.key key a.0) (λ k. other_keys ys key a.1 x k) i

-- ---- the counts

fresh : {A : Type 0} (p : A → Bool) (xs : List A) (y : A) → p y ≡ true → find p (filter (λ x. not (p x)) xs ++ y ∷ []) ≡ Some y
fresh p [] y e = ap (λ b. cond b (Some y) None) e
fresh p (x ∷ xs) y e = ⊎_elim
    (λ (t : p x ≡ true). rw t (fresh p xs y e))
    (λ (f : p x ≡ false). rw (f, f) (fresh p xs y e))
    (cases_Bool (p x))

unmoved : {A : Type 0} (p q : A → Bool) (xs : List A) (y : A) → p y ≡ false → ((x : A) → p x ≡ true → q x ≡ false) → find p (filter (λ x. not (q x)) xs ++ y ∷ []) ≡ find p xs
unmoved p q [] y e apart = ap (λ b. cond b (Some y) None) e
unmoved p q (x ∷ xs) y e apart = ⊎_elim
    (λ (t : p x ≡ true). let u = apart x t in rw (u, t) refl)
    (λ (f : p x ≡ false). ⊎_elim
    (λ (t : q x ≡ true). rw (t, f) (unmoved p q xs y e apart))
    (λ (u : q x ≡ false). rw (u, f) (unmoved p q xs y e apart))
    (cases_Bool (q x)))
    (cases_Bool (p x))

counted_none : (class d : List ℕ) (r : Receipt) → (bytes_eq r.maildrop d && bytes_eq r.class class) ≡ false → class_count class (receipts_of d (r ∷ [])) ≡ 0
counted_none class d r h = ⊎_elim
    (λ (t : bytes_eq r.maildrop d ≡ true). let u : bytes_eq r.class class ≡ false = rw t at h in rw (t, u) refl)
    (λ (f : bytes_eq r.maildrop d ≡ false). rw f refl)
    (cases_Bool (bytes_eq r.maildrop d))

counted_same : (counts : List Count) (r : Receipt) (ds : List Receipt) → r.k ≡ class_count r.class (receipts_of r.maildrop ds) + 1
    → count_in r.maildrop r.class (filter (λ x. not (is_count r.maildrop r.class x)) counts ++ count_row r ∷ []) ≡ pos (class_count r.class (receipts_of r.maildrop (ds ++ r ∷ [])))
counted_same counts r ds next =
    ap number_in (fresh (is_count r.maildrop r.class) counts (count_row r) (both_hold (bytes_eq r.maildrop r.maildrop) (bytes_eq r.class r.class) (bytes_same r.maildrop) (bytes_same r.class)))
    ∙ ap pos (next ∙ sym (counted_last r.class r.maildrop ds r ∙ ap (λ n. class_count r.class (receipts_of r.maildrop ds) + n) (counted_own r)))

counted_other : (counts : List Count) (r : Receipt) (ds : List Receipt) (d class : List ℕ) → (bytes_eq r.maildrop d && bytes_eq r.class class) ≡ false
    → count_in d class counts ≡ pos (class_count class (receipts_of d ds))
    → count_in d class (filter (λ x. not (is_count r.maildrop r.class x)) counts ++ count_row r ∷ []) ≡ pos (class_count class (receipts_of d (ds ++ r ∷ [])))
counted_other counts r ds d class h was =
    ap number_in (unmoved (is_count d class) (is_count r.maildrop r.class) counts (count_row r) h apart)
    ∙ was
    ∙ ap pos (sym (counted_last class d ds r ∙ ap (λ n. class_count class (receipts_of d ds) + n) (counted_none class d r h) ∙ omega arith))
  where
    apart : (x : Count) → is_count d class x ≡ true → is_count r.maildrop r.class x ≡ false
    apart x t = ⊎_elim
        (λ (u : is_count r.maildrop r.class x ≡ true).
        let p = and_parts (bytes_eq x.maildrop d) (bytes_eq x.class class) t in
        let q = and_parts (bytes_eq x.maildrop r.maildrop) (bytes_eq x.class r.class) u in
        absurd (true≢false (sym (both_hold (bytes_eq r.maildrop d) (bytes_eq r.class class) (like_bytes x.maildrop r.maildrop d q.0 p.0) (like_bytes x.class r.class class q.1 p.1)) ∙ h)))
        (λ f. f)
        (cases_Bool (is_count r.maildrop r.class x))

counted_all : (counts : List Count) (r : Receipt) (ds : List Receipt) → r.k ≡ class_count r.class (receipts_of r.maildrop ds) + 1
    → ((d class : List ℕ) → count_in d class counts ≡ pos (class_count class (receipts_of d ds)))
    → (d class : List ℕ) → count_in d class (filter (λ x. not (is_count r.maildrop r.class x)) counts ++ count_row r ∷ []) ≡ pos (class_count class (receipts_of d (ds ++ r ∷ [])))
counted_all counts r ds next was d class = ⊎_elim
    (λ (t : (bytes_eq r.maildrop d && bytes_eq r.class class) ≡ true).
    let p = and_parts (bytes_eq r.maildrop d) (bytes_eq r.class class) t in
    subst (λ (x : List ℕ). count_in x class (filter (λ y. not (is_count r.maildrop r.class y)) counts ++ count_row r ∷ []) ≡ pos (class_count class (receipts_of x (ds ++ r ∷ []))))
    (bytes_are r.maildrop d p.0)
    (subst (λ (x : List ℕ). count_in r.maildrop x (filter (λ y. not (is_count r.maildrop r.class y)) counts ++ count_row r ∷ []) ≡ pos (class_count x (receipts_of r.maildrop (ds ++ r ∷ []))))
    (bytes_are r.class class p.1)
    (counted_same counts r ds next)))
    (λ (f : (bytes_eq r.maildrop d && bytes_eq r.class class) ≡ false). counted_other counts r ds d class f (was d class))
    (cases_Bool (bytes_eq r.maildrop d && bytes_eq r.class class))

-- ---- the rows are the contents with the deposit

abbrev counted : Receipt → Rows → Rows
counted r rows = record rows { counts = filter (λ c. not (is_count r.maildrop r.class c)) rows.counts ++ count_row r ∷ [] }

abbrev received : Receipt → Rows → Rows
received r rows = record rows { deposits = rows.deposits ++ deposit_row r ∷ [] }

abbrev arrived : Keyed → Rows → Rows
arrived x rows = record rows { messages = rows.messages ++ message_row x ∷ [] }

abbrev cut : Keyed → Rows → Rows
cut x rows = record rows { sheets = rows.sheets ++ message_sheets x }

sheets_kept : (ms : List Keyed) (x : Keyed) (sheets : List Sheet) → IsPermutation (flat_map message_sheets ms) sheets
    → IsPermutation (flat_map message_sheets (ms ++ x ∷ [])) (sheets ++ message_sheets x)
sheets_kept ms x sheets h =
    subst (λ (l : List Sheet). IsPermutation l (sheets ++ message_sheets x))
    (sym (flat_map-append message_sheets ms (x ∷ []) ∙ ap (λ (l : List Sheet). flat_map message_sheets ms ++ l) (append-nil (message_sheets x))))
    (IsPermutation-append_left (message_sheets x) (flat_map message_sheets ms) sheets h)

kept_rows : (rows : Rows) (c : Contents) (r : Receipt) (text : List ℕ) (key : ℕ) → Keeps rows c → Accepts c r text → nat_lt key 18446744073709551616 ≡ true
    → AllByRecursion (λ (m : Message). m.key <ℤ row_key key) (map message_row c.messages)
    → (let x : Keyed = record { key = key; message = message_of r text } in Keeps (cut x (arrived x (received r (counted r rows)))) (with_deposit key (message_of r text) r c))
kept_rows rows c r text key k a small above =
    let x : Keyed = record { key = key; message = message_of r text } in
    record {
      meta_row = k.meta_row;
      clerks = k.clerks;
      maildrops = k.maildrops;
      counts = counted_all rows.counts r c.deposits (is_new c r text a).next k.counts;
      deposits = ap (λ (l : List Deposit). l ++ deposit_row r ∷ []) k.deposits ∙ sym (map-append deposit_row c.deposits (r ∷ []));
      messages = ap (λ (l : List Message). l ++ message_row x ∷ []) k.messages ∙ sym (map-append message_row c.messages (x ∷ []));
      sheets = sheets_kept c.messages x rows.sheets k.sheets;
      groups = k.groups;
      rules = k.rules;
      keys = all_last (λ (y : Keyed). nat_lt y.key 18446744073709551616) c.messages x k.keys small;
      sound = sound_with c r text key k.sound a (other_keys c.messages key above);
    }

pub kept_after : (rows mid after : Rows) (c : Contents) (r : Receipt) (text : List ℕ) → Keeps rows c → Accepts c r text → PutsReceipt r rows mid → (put : PutsMessage (message_of r text) mid after)
    → Keeps after (with_deposit put.0 (message_of r text) r c)
kept_after rows mid after c r text k a p put =
    let x : Keyed = record { key = put.0; message = message_of r text } in
    let f = put.2 in
    let to_mid : mid ≡ received r (counted r rows) = p.2 ∙ ap (received r) p.1 in
    let to_after : after ≡ cut x (arrived x (received r (counted r rows))) = f.2 ∙ ap (cut x) (f.1.added ∙ ap (arrived x) to_mid) in
    let were : mid.messages ≡ map message_row c.messages = ap (λ (l : Rows). l.messages) to_mid ∙ k.messages in
    subst (λ (l : Rows). Keeps l (with_deposit put.0 (message_of r text) r c)) (sym to_after)
    (kept_rows rows c r text put.0 k a put.1 (subst (λ (l : List Message). AllByRecursion (λ (m : Message). m.key <ℤ row_key put.0) l) were f.1.above))

-- ---- what a deposit promises

-- the receipt that is made of the parts
pub receipt_made : (r : Receipt) (d class id text : List ℕ) (k : ℕ) (digest : List ℕ) → r ≡ record { maildrop = d; id = id; class = class; k = k; digest = digest } → digest ≡ text_digest text
    → r ≡ receipt_for d class id text k
receipt_made r d class id text k digest is e = is ∙ ap (λ (x : List ℕ). let made : Receipt = record { maildrop = d; id = id; class = class; k = k; digest = x } in made) e

pub deposited : (Held : Contents → Type 0) (c : Contents) (d class id text : List ℕ) (uid : Uid) (r : Receipt) → r ≡ receipt_for d class id text uid.k
    → deposit_result (deposit_answer_in c d class id text) ≡ Ok (stored.New uid) → (key : ℕ) × Held (with_deposit key (message_of r text) r c)
    → IsDeposited Held c d class id text (Ok (stored.New uid))
deposited Held c d class id text uid r is h left = record {
  answer = h;
  held = (left.0, subst (λ (x : Receipt). Held (with_deposit left.0 (message_of x text) x c)) is left.1);
}

pub undeposited : (Held : Contents → Type 0) (c : Contents) (d class id text : List ℕ)
    (f : VaultFault) → (let r : Result (Unit {0}) VaultFault = Ok tt in IsRefusal r f) → Held c
    → IsDeposited Held c d class id text (Err f)
undeposited Held c d class id text f is h =
    record { answer = refusal_any (deposit_result (deposit_answer_in c d class id text)) f is; held = h }
