-- What the calls of the sample callers come to.
use Rattle.std.proofs.Common.{◌≡◌, ℕ, ◌+◌, ◌==◌, true, List, [], ◌∷◌, length, slice_get, Some, Result, Ok, refl, ap, subst, ◌∙◌, arith}
use Rattle.std.specs.Str.{bytes_eq}
use Rattle.vault.specs.declared.answer.Deposited.{Deposited}
use Rattle.vault.specs.declared.answer.Deposited.TheVariants.{New}
use Rattle.vault.specs.declared.answer.Head.{Head}
use Rattle.vault.specs.declared.answer.Total.{Total}
use Rattle.vault.specs.declared.fault.VaultFault.{VaultFault}
use Rattle.vault.specs.declared.fault.VaultFault.TheVariants as fault
use Rattle.vault.specs.Records.{credential_in, is_one_of}
use Rattle.vault.specs.Changes.{Contents, records_of, totals, without_keys, with_messages, without_clerk, with_clerks, without_maildrop, with_maildrops, drop_answer}
use Rattle.vault.specs.Calls.{IsRefusal, IsPageRead, deposit_answer_in, deposit_result, DepositLeft, heads_result, text_under, drop_clerk_result, drop_result, present_in}
use Rattle.vault.specs.Clerks.{clerk_kinds}
use Rattle.vault.proofs.ListLemmas.{bytes_same}
use Rattle.sqlvault.specs.declared.uses.Stock.{Stock}
use Rattle.sqlvault.specs.Uses.{IsOfAnyCall, clerk_of, message_of, head_of, total_of, kind_row, filled, emptied}

-- a call that expects an answer is refused for no cause of its own
pub any : {A : Type 0} (x : A) (e : VaultFault) → IsRefusal (Ok x) e → IsOfAnyCall e
any x fault.Store h = tt
any x fault.NoMemory h = tt
any x e h = absurd cc

-- an answer that was expected
pub same_ok : {A : Type 0} (x y : A) → (let r : Result A VaultFault = Ok x in let q : Result A VaultFault = Ok y in r ≡ q) → y ≡ x
same_ok x y h = cc

-- ---- the stock's contents

-- before the deposit
abbrev pub before : Stock → Contents
before s = record { clerks = clerk_of s ∷ []; maildrops = s.maildrop ∷ []; messages = []; deposits = []; policy = s.policy }

pub accepted : (s : Stock) → deposit_result (deposit_answer_in (before s) s.maildrop s.class s.id s.text) ≡ Ok (New (record { class = s.class; k = 1 }))
accepted s = let own : bytes_eq s.maildrop s.maildrop ≡ true = bytes_same s.maildrop in rw own refl

pub put : (Holds : Contents → Type 0) (s : Stock) (d : Deposited) → d ≡ New (record { class = s.class; k = 1 })
    → DepositLeft Holds (before s) s.maildrop s.class s.id s.text (Ok d) → (key : ℕ) × Holds (filled key s)
put Holds s d is left = subst (λ x. DepositLeft Holds (before s) s.maildrop s.class s.id s.text (Ok x)) is left

-- ---- what is shown of the stock

pub one_head : (key : ℕ) (s : Stock) → heads_result s.maildrop (filled key s) ≡ Ok (head_of key s ∷ [])
one_head key s = let own : bytes_eq s.maildrop s.maildrop ≡ true = bytes_same s.maildrop in rw own refl

pub first_key : (key : ℕ) (s : Stock) (xs ys : List Head) (x : Head) → Some x ≡ slice_get xs 0 → xs ≡ ys → ys ≡ head_of key s ∷ [] → x.key ≡ key
first_key key s xs ys x first same are =
    let one : Some x ≡ Some (head_of key s) = first ∙ ap (λ (zs : List Head). slice_get zs 0) (same ∙ are) in
    let e : x ≡ head_of key s = cc in
    ap (λ (y : Head). y.key) e

pub one_total : (key : ℕ) (s : Stock) → totals (records_of (filled key s)) ≡ total_of s ∷ []
one_total key s =
    let own : bytes_eq s.maildrop s.maildrop ≡ true = bytes_same s.maildrop in
    let sum : 0 + length s.text ≡ length s.text = omega arith in
    rw own (ap (λ n. let t : Total = record { maildrop = s.maildrop; messages = 1; octets = n } in t ∷ []) sum)

pub text_is : (key : ℕ) (s : Stock) → text_under key (filled key s).messages ≡ s.text
text_is key s = let own : (key == key) ≡ true = grind (arith) in rw own refl

pub credential_is : (s : Stock) → credential_in s.clerk (clerk_of s ∷ []) ≡ Some s.credential
credential_is s = let own : bytes_eq s.clerk s.clerk ≡ true = bytes_same s.clerk in rw own refl

pub one_clerk : (s : Stock) → clerk_kinds (clerk_of s ∷ []) ≡ kind_row s ∷ []
one_clerk s = let own : bytes_eq s.clerk s.clerk ≡ true = bytes_same s.clerk in rw own refl

pub page_is : (key k : ℕ) (s : Stock) (buffer : List ℕ) (n : ℕ) → k ≡ key → IsPageRead (text_under k (filled key s).messages) 0 buffer (Ok n) → IsPageRead s.text 0 buffer (Ok n)
page_is key k s buffer n same read =
    let is : text_under k (filled key s).messages ≡ s.text = ap (λ x. text_under x (filled key s).messages) same ∙ text_is key s in
    subst (λ text. IsPageRead text 0 buffer (Ok n)) is read

-- ---- how it goes

-- the message is gone
abbrev pub unmailed : Stock → Contents
unmailed s = record {
  clerks = clerk_of s ∷ [];
  maildrops = s.maildrop ∷ [];
  messages = [];
  deposits = (emptied s).deposits;
  policy = s.policy;
}

-- the clerk too
abbrev pub unmanned : Stock → Contents
unmanned s = with_clerks [] (unmailed s)

pub removed : (key : ℕ) (s : Stock) → with_messages (without_keys s.maildrop (key ∷ []) (message_of key s ∷ [])) (filled key s) ≡ unmailed s
removed key s =
    let own : bytes_eq s.maildrop s.maildrop ≡ true = bytes_same s.maildrop in
    let same : (key == key) ≡ true = grind (arith) in
    rw own (rw same refl)

pub no_heads : (s : Stock) → heads_result s.maildrop (unmailed s) ≡ Ok []
no_heads s = let own : bytes_eq s.maildrop s.maildrop ≡ true = bytes_same s.maildrop in rw own refl

pub is_clerk : (s : Stock) → drop_clerk_result s.clerk (clerk_of s ∷ []) ≡ Ok tt
is_clerk s = let own : bytes_eq s.clerk s.clerk ≡ true = bytes_same s.clerk in rw own refl

pub dropped : (s : Stock) → with_clerks (without_clerk s.clerk (clerk_of s ∷ [])) (unmailed s) ≡ unmanned s
dropped s = let own : bytes_eq s.clerk s.clerk ≡ true = bytes_same s.clerk in rw own refl

pub is_empty : (s : Stock) → drop_result (drop_answer (is_one_of s.maildrop (s.maildrop ∷ [])) (present_in s.maildrop (unmanned s))) ≡ Ok tt
is_empty s = let own : bytes_eq s.maildrop s.maildrop ≡ true = bytes_same s.maildrop in rw own refl

pub closed : (s : Stock) → with_maildrops (without_maildrop s.maildrop (s.maildrop ∷ [])) (unmanned s) ≡ emptied s
closed s = let own : bytes_eq s.maildrop s.maildrop ≡ true = bytes_same s.maildrop in rw own refl
