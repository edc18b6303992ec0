-- What several files need of numbers, tests and lists.
use Rattle.std.proofs.Common.{◌≡◌, ◌∙◌, ℕ, ◌+◌, ◌<◌, ◌≤◌, Bool, true, false, ◌&&◌, cond, List, [], ◌∷◌, ◌++◌, Option, Some, None, refl, ap, arith, nat_cmp}
use Rattle.std.specs.Prelude.{nat_lt, nat_le}
use Rattle.std.specs.BTreeMap.{is_at}
use Rattle.std.specs.Str.{bytes_eq}
use Rattle.std.specs.declared.cmp.Ordering.TheVariants.{Less}
use Rattle.std.proofs.lemmas.Bool.Decides.{nat_tests}
use Rattle.std.proofs.lemmas.List.Elements.{filter-append}
use Rattle.std.proofs.lemmas.List.Sums.{sum_by-append}
use Rattle.vault.specs.declared.record.Message.{Message}
use Rattle.vault.specs.declared.record.Receipt.{Receipt}
use Rattle.vault.specs.Records.{class_count, receipts_of, without}
use Rattle.office.specs.History.{Says}
use Rattle.office.specs.Sessions.{marks_after_line}
use Rattle.office.specs.Replying.{quit_says}

-- ---- numbers

pub nat_lt-true : (m n : ℕ) → nat_lt m n ≡ true → m < n
nat_lt-true m n h = grind (arith, nat_tests)

pub nat_le-true : (m n : ℕ) → nat_le m n ≡ true → m ≤ n
nat_le-true m n h = grind (arith, nat_tests)

pub less_than : (a b : ℕ) → nat_cmp a b ≡ Less → a < b
less_than a b e = grind (arith, nat_tests, e)

pub not_above : (c k : ℕ) → c < k → is_at (nat_cmp c) k ≡ false
not_above c k h = grind (arith, nat_tests, h)

pub not_below : (c k : ℕ) → k < c → is_at (nat_cmp c) k ≡ false
not_below c k h = grind (arith, nat_tests, h)

pub at_itself : (k : ℕ) → is_at (nat_cmp k) k ≡ true
at_itself k = grind (arith, nat_tests)

-- ---- tests

pub and_false : (b : Bool) → (b && false) ≡ false
and_false true = refl
and_false false = refl

pub no_some : {X : Type 0} (x : X) → None ≡ Some x → ⊥
no_some x e = cc

-- ---- records and replies

pub without_none : (ms : List Message) → without ms [] ≡ ms
without_none [] = refl
without_none (m ∷ ms) = ap (λ xs. m ∷ xs) (without_none ms)

pub classes_more : (class d : List ℕ) (xs : List Receipt) (n : Receipt)
    → class_count class (receipts_of d (xs ++ n ∷ [])) ≡ class_count class (receipts_of d xs) + class_count class (receipts_of d (n ∷ []))
classes_more class d xs n =
    ap (λ rs. class_count class rs) (filter-append (λ (r : Receipt). bytes_eq r.maildrop d) xs (n ∷ []))
    ∙ sum_by-append (λ (r : Receipt). cond (bytes_eq r.class class) 1 0) (receipts_of d xs) (receipts_of d (n ∷ []))

pub quit_keeps : (o : Option (List ℕ)) (marks : List ℕ) → marks_after_line (Says (quit_says o)) marks ≡ marks
quit_keeps None marks = refl
quit_keeps (Some rule) marks = refl
