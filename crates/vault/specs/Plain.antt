-- What a vault in memory holds, and how it finds keys for new messages.
use Rattle.std.specs.Prelude.{◌≡◌, ◌-◌, ◌^◌, ℕ, Bool, true, nat_le, List, [], ◌∷◌, ◌++◌, length, sum_by, min, Result}
use Rattle.std.specs.List.{list_all}
use Rattle.policy.specs.Policy.{Policy}
use Rattle.vault.specs.declared.answer.Total.{Total}
use Rattle.vault.specs.declared.record.Keyed.{Keyed}
use Rattle.vault.specs.declared.record.Message.{Message}
use Rattle.vault.specs.declared.record.Receipt.{Receipt}
use Rattle.vault.specs.Changes.{Contents, AreSound, kept_in}
use Rattle.vault.specs.Call.{Looks, Commits}
use Rattle.vault.specs.declared.fault.VaultFault.{VaultFault}

-- no groups and no rules
abbrev pub no_policy : Policy
no_policy = record { groups = []; rules = [] }

-- no clerks, no maildrops, no messages, no deposits, no groups, no rules
abbrev pub no_contents : Contents
no_contents = record { clerks = []; maildrops = []; messages = []; deposits = []; policy = no_policy }

-- no key is above the number of deposits, so that the next message's key is greater than all
abbrev pub have_old_keys : Contents → Bool
have_old_keys c = list_all (λ (x : Keyed). nat_le x.key (length c.deposits)) c.messages

-- the contents are the kept ones, which are sound and have old keys
pub record HoldsKept (kept c : Contents) : Type 0 where
  pub same : c ≡ kept
  pub sound : AreSound c
  pub keys : have_old_keys c ≡ true

-- a maildrop's total, its octets capped at 2^64 - 1
abbrev pub capped_total : List Keyed → List ℕ → Total
capped_total ms d = record { maildrop = d; messages = length (kept_in d ms); octets = min (sum_by (λ (x : Keyed). length x.message.text) (kept_in d ms)) (2 ^ 64 - 1) }

-- the messages with one added, whose key is the number of these deposits
abbrev pub with_message : Message → List Receipt → List Keyed → List Keyed
with_message m deposits ms = ms ++ record { key = length deposits; message = m } ∷ []

-- a call that only looks at what is kept; the store is always clean, and its device up
abbrev pub LooksKept : {A : Type 0} → (old new : Contents) → Result A VaultFault → Type 0
LooksKept old new answered =
    Looks HoldsKept (λ _. 0) (λ _. Unit {0}) (λ _. Unit {0}) (λ vault left. left ≡ vault) old new
    answered

-- a call that changes what is kept
abbrev pub CommitsKept : {A : Type 0} → (old new : Contents)
    → (Contents → (Contents → Type 0) → Result A VaultFault → Type 0) → Result A VaultFault → Type 0
CommitsKept old new Done answered =
    Commits HoldsKept (λ _. 0) (λ _. Unit {0}) (λ _. Unit {0}) (λ vault left. left ≡ vault) old new
    Done answered
