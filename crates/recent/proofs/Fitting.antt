-- A deposit or a removal leaves heads that fit, without those of its maildrop, and totals that fit,
-- with that of its maildrop stale. So a drop of a maildrop leaves the heads of the others.
use Rattle.std.proofs.Common.{◌≡◌, ℕ, Bool, true, false, ◌||◌, not, cond, true≢false, List, [], ◌∷◌, Result, Ok, Err, refl, ap, ap₂, sym, ◌∙◌, subst}
use Rattle.std.specs.Prelude.{Option, Some, None, is_ok, if◌then◌else◌, filter, map, IfSome}
use Rattle.std.specs.List.{list_any}
use Rattle.std.specs.Str.{bytes_eq}
use Rattle.creds.specs.Names.{by_name}
use Rattle.vault.specs.declared.answer.Deposited.{Deposited}
use Rattle.vault.specs.declared.answer.Deposited.TheVariants as stored
use Rattle.vault.specs.declared.answer.Head.{Head}
use Rattle.vault.specs.declared.answer.Total.{Total}
use Rattle.vault.specs.declared.fault.VaultFault.{VaultFault}
use Rattle.vault.specs.declared.fault.VaultFault.TheVariants as fault
use Rattle.vault.specs.declared.record.Keyed.{Keyed}
use Rattle.vault.specs.Records.{is_one_of}
use Rattle.vault.specs.Changes.{Contents, AreSound, kept_in, head_of, heads, without_keys, with_messages, with_deposit, message_for, receipt_for, without_maildrop, with_maildrops, totals, records_of}
use Rattle.vault.specs.Calls.{IsDeposited, AreRemoved, IsMaildropDropped, AreTotals, heads_result}
use Rattle.vault.specs.Plain.{capped_total}
use Rattle.vault.proofs.ListLemmas.{bytes_are, not_false}
use Rattle.vault.proofs.TotalLemmas.{totals_are}
use Rattle.recent.specs.declared.totals.KeptTotal.{KeptTotal}
use Rattle.recent.specs.Recalling.{KeptHeads, without, Fits, HoldsFitting, TotalsFit, RowsFit, marked, changed_in, total_by, fresh, is_of_deposit, heads_after, totals_after}
use Rattle.recent.proofs.Keeping.{FitsOne}
use Rattle.recent.proofs.Sums.{DifferIn, rows_differ, added_elsewhere, removed_elsewhere, fresh_rows_are}

still_fit : (d : List ℕ) (rows : Option (List KeptTotal)) (c k : Contents) → DifferIn d c.messages k.messages → k.maildrops ≡ c.maildrops
    → TotalsFit rows c → TotalsFit (marked d rows) k
still_fit d None c k f e h = tt
still_fit d (Some rows) c k f e h =
    subst (λ (ns : List (List ℕ)). map (total_by k.messages) (map (changed_in d) rows) ≡ map (capped_total k.messages) (by_name ns)) (sym e)
    (rows_differ d c.messages k.messages rows (by_name c.maildrops) f h)

-- a change in no maildrop at all
unchanged_fit : (d : List ℕ) (rows : Option (List KeptTotal)) (c : Contents) → TotalsFit rows c → TotalsFit (marked d rows) c
unchanged_fit d rows c h = still_fit d rows c c (λ n apart. refl) refl h

-- ---- heads of the other maildrops

-- a maildrop is there, or isn't, and has these messages
abbrev heads_with : (d : List ℕ) (names : List (List ℕ)) (ms : List Keyed) → Result (List Head) VaultFault
heads_with d names ms = if is_one_of d names then Ok (map head_of ms) else Err fault.NoMaildrop

abbrev heads_told : List Head → Result (List Head) VaultFault
heads_told hs = Ok hs

same_heads : (n : List ℕ) (c k : Contents) → kept_in n k.messages ≡ kept_in n c.messages → k.maildrops ≡ c.maildrops
    → heads_result n k ≡ heads_result n c
same_heads n c k e m = ap₂ (λ (names : List (List ℕ)) (ms : List Keyed). heads_with n names ms) m e

-- the two contents answer the same heads for each maildrop but one
abbrev SameBut : List ℕ → (c k : Contents) → Type 0
SameBut d c k = (n : List ℕ) → bytes_eq n d ≡ false → heads_result n k ≡ heads_result n c

others_if : (b : Bool) (x : KeptHeads) (xs : List KeptHeads) (k : Contents) → (b ≡ false → FitsOne x k) → Fits xs k
    → Fits (cond (not b) (x ∷ xs) xs) k
others_if true x xs k one rest = rest
others_if false x xs k one rest = (one refl, rest)

-- heads of the other maildrops fit still
others_fit : (d : List ℕ) (kept : List KeptHeads) (c k : Contents) → SameBut d c k → Fits kept c → Fits (without d kept) k
others_fit d [] c k f h = tt
others_fit d (x ∷ xs) c k f h =
    others_if (bytes_eq x.maildrop d) x (without d xs) k (λ apart. f x.maildrop apart ∙ h.0) (others_fit d xs c k f h.1)

pub others_stay : (d : List ℕ) (kept : List KeptHeads) (c : Contents) → Fits kept c → Fits (without d kept) c
others_stay d kept c h = others_fit d kept c c (λ n apart. refl) h

-- ---- maildrops beside one that is dropped

any_one : {A : Type 0} (p : A → Bool) (x : A) (xs ys : List A) (b c : Bool) → p x ≡ b → (b ≡ true → c ≡ true) → list_any p ys ≡ list_any p xs
    → list_any p (cond c (x ∷ ys) ys) ≡ (p x || list_any p xs)
any_one p x xs ys true true e h r = ap (λ (t : Bool). p x || t) r
any_one p x xs ys false true e h r = ap (λ (t : Bool). p x || t) r
any_one p x xs ys true false e h r = absurd (true≢false (sym (h refl)))
any_one p x xs ys false false e h r = r ∙ ap (λ (t : Bool). t || list_any p xs) (sym e)

any_left : {A : Type 0} (p q : A → Bool) (xs : List A) → ((x : A) → p x ≡ true → q x ≡ true) → list_any p (filter q xs) ≡ list_any p xs
any_left p q [] h = refl
any_left p q (x ∷ xs) h = any_one p x xs (filter q xs) (p x) (q x) refl (h x) (any_left p q xs h)

still_there : (n d : List ℕ) (names : List (List ℕ)) → bytes_eq n d ≡ false → is_one_of n (without_maildrop d names) ≡ is_one_of n names
still_there n d names apart = any_left
    (λ (x : List ℕ). bytes_eq x n) (λ (x : List ℕ). not (bytes_eq x d)) names
    (λ x e. not_false (bytes_eq x d) (ap (λ (m : List ℕ). bytes_eq m d) (bytes_are x n e) ∙ apart))

abbrev heads_if : Bool → List Head → Result (List Head) VaultFault
heads_if is_there hs = if is_there then Ok hs else Err fault.NoMaildrop

same_beside : (d : List ℕ) (c : Contents) → SameBut d c (with_maildrops (without_maildrop d c.maildrops) c)
same_beside d c n apart = ap (λ (b : Bool). heads_if b (heads n c)) (still_there n d c.maildrops apart)

-- heads that the vault inside gave, as they are lent
pub told_so : (d : List ℕ) (c : Contents) (hs lent : List Head) → heads_result d c ≡ Ok hs → lent ≡ hs → heads_result d c ≡ Ok lent
told_so d c hs lent e l = e ∙ ap (λ (xs : List Head). heads_told xs) (sym l)

-- after a fault what is kept is left as it was, or forgotten
still_held : (Holds : Contents → Type 0) (kept : List KeptHeads) (rows : Option (List KeptTotal)) (c : Contents) (b : Bool) → Fits kept c → TotalsFit rows c → Holds c
    → HoldsFitting Holds (if b then kept else []) (if b then rows else None) c
still_held Holds kept rows c true fits fit held = record { inside = held; fits = fits; sums = fit }
still_held Holds kept rows c false fits fit held = record { inside = held; fits = tt; sums = tt }

pub deposit_fits : (Holds : Contents → Type 0) (kept : List KeptHeads) (rows : Option (List KeptTotal)) (c : Contents) (d class id text : List ℕ) (r : Result Deposited VaultFault)
    → Fits kept c → TotalsFit rows c → IsDeposited Holds c d class id text r
    → IsDeposited (HoldsFitting Holds (heads_after d r kept) (totals_after d r rows)) c d class id text r
deposit_fits Holds kept rows c d class id text (Ok (stored.New uid)) fits fit done = record {
  answer = done.answer;
  held = (
    done.held.0,
    record {
      inside = done.held.1;
      fits = others_fit d kept c (with_deposit done.held.0 (message_for d class text uid.k) (receipt_for d class id text uid.k) c)
          (λ n apart. same_heads n c (with_deposit done.held.0 (message_for d class text uid.k) (receipt_for d class id text uid.k) c)
          (added_elsewhere n d (record { key = done.held.0; message = message_for d class text uid.k }) c.messages apart refl) refl) fits;
      sums = still_fit d rows c (with_deposit done.held.0 (message_for d class text uid.k) (receipt_for d class id text uid.k) c)
          (λ n apart. added_elsewhere n d (record { key = done.held.0; message = message_for d class text uid.k }) c.messages apart refl) refl fit;
    },
  );
}
deposit_fits Holds kept rows c d class id text (Ok (stored.Known uid)) fits fit done = record {
  answer = done.answer;
  held = record { inside = done.held; fits = others_stay d kept c fits; sums = unchanged_fit d rows c fit };
}
deposit_fits Holds kept rows c d class id text (Err e) fits fit done = record {
  answer = done.answer;
  held = still_held Holds kept rows c (is_of_deposit e) fits fit done.held;
}

pub remove_fits : (Holds : Contents → Type 0) (kept : List KeptHeads) (rows : Option (List KeptTotal)) (c : Contents) (d keys : List ℕ) (r : Result (Unit {0}) VaultFault)
    → Fits kept c → TotalsFit rows c → AreRemoved Holds c d keys r
    → AreRemoved (HoldsFitting Holds (heads_after d r kept) (totals_after d r rows)) c d keys r
remove_fits Holds kept rows c d keys (Ok x) fits fit done = record {
  answer = done.answer;
  held = record {
    inside = done.held;
    fits = others_fit d kept c (with_messages (without_keys d keys c.messages) c)
        (λ n apart. same_heads n c (with_messages (without_keys d keys c.messages) c) (removed_elsewhere n d keys c.messages apart) refl) fits;
    sums = still_fit d rows c (with_messages (without_keys d keys c.messages) c) (λ n apart. removed_elsewhere n d keys c.messages apart) refl fit;
  };
}
remove_fits Holds kept rows c d keys (Err e) fits fit done = record {
  answer = done.answer;
  held = still_held Holds kept rows c (is_of_deposit e) fits fit done.held;
}

pub drop_fits : (Holds : Contents → Type 0) (kept : List KeptHeads) (c : Contents) (d : List ℕ) (r : Result (Unit {0}) VaultFault)
    → Fits kept c → IsMaildropDropped Holds c d r → IsMaildropDropped (HoldsFitting Holds (if is_ok r then without d kept else []) None) c d r
drop_fits Holds kept c d (Ok x) fits done = record {
  answer = done.answer;
  held = record {
    inside = done.held;
    fits = others_fit d kept c (with_maildrops (without_maildrop d c.maildrops) c) (same_beside d c) fits;
    sums = tt;
  };
}
drop_fits Holds kept c d (Err e) fits done = record {
  answer = done.answer;
  held = record { inside = done.held; fits = tt; sums = tt };
}

-- totals that were answered fit as rows
pub answered_fit : (c : Contents) (ts : List Total) → AreSound c → totals (records_of c) ≡ ts → RowsFit (map fresh ts) c
answered_fit c ts s e = fresh_rows_are c.messages ts ∙ sym e ∙ sym (totals_are c s)

-- rows that fit and are fresh are the totals
pub rows_answer : (c : Contents) (ts : List Total) → AreSound c → RowsFit (map fresh ts) c → totals (records_of c) ≡ ts
rows_answer c ts s h = sym (totals_are c s) ∙ sym h ∙ fresh_rows_are c.messages ts

abbrev told : List Total → Result (List Total) VaultFault
told ts = Ok ts

abbrev totals_or_none : Result (List Total) VaultFault → List Total
totals_or_none (Ok ts) = ts
totals_or_none (Err e) = []

-- the totals are made from the rows
pub told_rows : (Holds : Contents → Type 0) (kept : List KeptHeads) (rows : Option (List KeptTotal)) (c : Contents) (ts : List Total)
    → Holds c → Fits kept c → TotalsFit rows c → AreSound c → rows ≡ Some (map fresh ts) → AreTotals (HoldsFitting Holds kept rows) c (Ok ts)
told_rows Holds kept rows c ts h f fit s e = record {
  answer = ap (λ (xs : List Total). told xs) (rows_answer c ts s (subst (λ (o : Option (List KeptTotal)). TotalsFit o c) e fit));
  held = record { inside = h; fits = f; sums = fit };
}

sums_kept : (rows : Option (List KeptTotal)) (c : Contents) (ts : List Total) → AreSound c → totals (records_of c) ≡ ts → IfSome rows (λ k. k ≡ map fresh ts) → TotalsFit rows c
sums_kept None c ts s e i = tt
sums_kept (Some k) c ts s e i = subst (λ (xs : List KeptTotal). RowsFit xs c) (sym i) (answered_fit c ts s e)

-- the totals were given by the vault inside, and are kept
pub kept_rows : (Holds : Contents → Type 0) (kept : List KeptHeads) (rows : Option (List KeptTotal)) (c : Contents) (ts lent : List Total)
    → AreTotals Holds c (Ok ts) → Fits kept c → AreSound c → lent ≡ ts → IfSome rows (λ k. k ≡ map fresh lent) → AreTotals (HoldsFitting Holds kept rows) c (Ok ts)
kept_rows Holds kept rows c ts lent a f s l i = record {
  answer = a.answer;
  held = record { inside = a.held; fits = f; sums = sums_kept rows c lent s (ap totals_or_none a.answer ∙ sym l) i };
}
