-- What a vault tells beside the work that is under way.
use Rattle.std.specs.Prelude.{◌≡◌, ◌==◌, ⊤, List, drop, Option, Some, ℕ, false, bytes_eq}
use Rattle.std.proofs.Common.{Result, Ok, subst, sym}
use Rattle.sqlite_trees.specs.declared.store.Store.{Ghosts}
use Rattle.sqlite.specs.Held.{Held, state}
use Rattle.sqlite.specs.State.{HasCleanDisk}
use Rattle.creds.specs.declared.credential.Credential.{Credential}
use Rattle.vault.specs.declared.answer.Head.{Head}
use Rattle.vault.specs.declared.fault.VaultFault.{VaultFault}
use Rattle.vault.specs.Records.{credential_in}
use Rattle.vault.specs.Changes.{Contents}
use Rattle.vault.specs.Calls.{IsAnswer, IsPageRead, text_under, heads_result}
use Rattle.vault.specs.Stops.{IsOwn}
use Rattle.sqlvault.specs.declared.refusal.Refusal.{Refusal}
use Rattle.sqlvault.specs.declared.work.Work.{Work}
use Rattle.sqlvault.specs.declared.work.Work.TheVariants as works
use Rattle.sqlvault.specs.Refusals.{answer_of}
use Rattle.sqlvault.specs.Opened.{Opened}
use Rattle.sqlvault.specs.Frame.{Sees}
use Rattle.sqlvault.specs.Arrivals.{Arrival, ShowsPart}
use Rattle.sqlvault.specs.UnderWay.{Prepared, HoldsUnder, HoldsBeside, TellsBeside, SparesKey, SparesMaildrop}
use Rattle.sqlvault.specs.UnderWay.{holds_in}
use Rattle.sqlvault.proofs.RemoveLemmas.{other_text, less_named, other_heads}
use Rattle.sqlvault.proofs.AheadLemmas.{told_beside}

-- the same query over another connection that is as this one, as a vault answers it
pub tells_told : {S A : Type 0} {Spared : Arrival → Type 0} (store : Ghosts S)
    (Told : Contents → Result A VaultFault → Type 0) (old was new now : Held S)
    (r : Result A Refusal) (said : Result A VaultFault)
    → was ≡ old → new ≡ now → said ≡ answer_of r
    → TellsBeside store was now Spared (λ c. Told c (answer_of r))
    → TellsBeside store old new Spared (λ c. Told c said)
tells_told {S} {A} {Spared} store Told old was new now r said e f same a =
    subst (λ (x : Held S). TellsBeside store x new Spared (λ c. Told c said)) e
    (subst (λ (x : Held S). TellsBeside store was x Spared (λ c. Told c said)) (sym f)
    (subst (λ (x : Result A VaultFault). TellsBeside store was now Spared (λ c. Told c x)) (sym same) a))

-- what it says of the contents of the last commit
pub told_part : {S : Type 0} {Spared : Arrival → Type 0} {Told : Contents → Type 0} (store : Ghosts S)
    {old : Prepared S} {new : Held S} (was : Opened S) (a : Arrival) → was ≡ old.vault
    → old.under_way ≡ Some (works.Deposit a) → TellsBeside store was.conn new Spared Told → Spared a
    → (c : Contents) → holds_in store old c → HasCleanDisk (state store new) → Told c
told_part {S} {Spared} {Told} store {old = old} {new = new} was a e f tells spared c h clean =
    let at = subst (λ (v : Opened S). TellsBeside store v.conn new Spared Told) e tells in
    let under : HoldsUnder (state store old.vault.conn) (works.Deposit a) c =
    subst (λ u. HoldsBeside (state store old.vault.conn) u c) f h in
    at.told clean (λ _. under.within.tables) a c spared
    (subst (λ rows. ShowsPart a c rows) (sym under.within.rows_are) under.shown)

-- a credential, beside any work
pub told_credential : {S : Type 0} (store : Ghosts S) {old : Prepared S} {new : Held S}
    (was : Opened S) (work : Work) (name : List ℕ) (r : Result (Option Credential) VaultFault)
    → was ≡ old.vault → old.under_way ≡ Some work
    → Sees store was.conn new (IsOwn r) (λ c. IsAnswer (Ok (credential_in name c.clerks)) r)
    → TellsBeside store was.conn new (λ _. ⊤) (λ c. IsAnswer (Ok (credential_in name c.clerks)) r)
    → (c : Contents) → holds_in store old c → HasCleanDisk (state store new)
    → IsAnswer (Ok (credential_in name c.clerks)) r
told_credential store was (works.Removal x) name r e f sees tells c h clean =
    told_beside store was x e f sees c h clean
told_credential store was (works.Deposit a) name r e f sees tells c h clean =
    told_part store was a e f tells tt c h clean

-- a page of a message that the work spares
pub told_page : {S : Type 0} (store : Ghosts S) {old : Prepared S} {new : Held S}
    (was : Opened S) (work : Work) (key from : ℕ) (buffer : List ℕ) (r : Result ℕ VaultFault)
    → was ≡ old.vault → old.under_way ≡ Some work → SparesKey work key
    → Sees store was.conn new (IsOwn r) (λ c. IsPageRead (text_under key c.messages) from buffer r)
    → TellsBeside store was.conn new (λ a. (key == a.key) ≡ false)
    (λ c. IsPageRead (text_under key c.messages) from buffer r)
    → (c : Contents) → holds_in store old c → HasCleanDisk (state store new)
    → IsPageRead (text_under key c.messages) from buffer r
told_page store was (works.Removal x) key from buffer r e f spared sees tells c h clean =
    subst (λ (t : List ℕ). IsPageRead t from buffer r)
    (other_text x.maildrop (drop x.left x.keys) key c.messages (less_named x.left x.keys key spared))
    (told_beside store was x e f sees c h clean)
told_page store was (works.Deposit a) key from buffer r e f spared sees tells c h clean =
    told_part store was a e f tells spared c h clean

-- the heads of a maildrop that the work spares
pub told_heads : {S : Type 0} {Own : Type 0} (store : Ghosts S) {old : Prepared S} {new : Held S}
    (was : Opened S) (work : Work) (d : List ℕ) (r : Result (List Head) VaultFault)
    → was ≡ old.vault → old.under_way ≡ Some work → SparesMaildrop work d
    → Sees store was.conn new Own (λ c. IsAnswer (heads_result d c) r)
    → TellsBeside store was.conn new (λ a. bytes_eq a.maildrop d ≡ false)
    (λ c. IsAnswer (heads_result d c) r)
    → (c : Contents) → holds_in store old c → HasCleanDisk (state store new)
    → IsAnswer (heads_result d c) r
told_heads store was (works.Removal x) d r e f spared sees tells c h clean =
    subst (λ (a : Result (List Head) VaultFault). IsAnswer a r)
    (other_heads x.maildrop d (drop x.left x.keys) c spared)
    (told_beside store was x e f sees c h clean)
told_heads store was (works.Deposit a) d r e f spared sees tells c h clean =
    told_part store was a e f tells spared c h clean
