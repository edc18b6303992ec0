-- What a removal in parts is, and what it leaves of the contents while it is under way.
use Rattle.std.specs.Prelude.{ℕ, List, length, drop}
use Rattle.std.specs.Coded.{Coded, code_by, coded×, coded_ℕ, coded_list}
use Rattle.std.specs.Prelude.{refl}
use Rattle.vault.specs.Changes.{Contents, without_keys, with_messages}

-- a removal: its maildrop, its keys, and how many of these, from the front on, are left to be done
pub record Removal : Type 0 where
  pub maildrop : List ℕ
  pub keys : List ℕ
  pub left : ℕ

-- none of it is done
abbrev pub removal_of : (maildrop keys : List ℕ) → Removal
removal_of d keys = record { maildrop = d; keys = keys; left = length keys }

-- with this many keys left
abbrev pub with_left : ℕ → Removal → Removal
with_left left r = record { maildrop = r.maildrop; keys = r.keys; left = left }

-- the contents without the messages that are removed so far
abbrev pub removed_so_far : Removal → Contents → Contents
removed_so_far r c = with_messages (without_keys r.maildrop (drop r.left r.keys) c.messages) c

-- how a removal is coded: as its maildrop, its keys and what is left of them
abbrev pub removal_code : Coded Removal
removal_code = code_by ((List ℕ × List ℕ) × ℕ)
    (coded× (coded× (coded_list coded_ℕ) (coded_list coded_ℕ)) coded_ℕ)
    (λ r. ((r.maildrop, r.keys), r.left))
    (λ p. record { maildrop = p.0.0; keys = p.0.1; left = p.1 }) (λ _. refl)
