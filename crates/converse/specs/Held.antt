-- What a part that only looks at a store says of what the store holds. The vault was `v` and is `v'`.
use Rattle.vault.specs.declared.vault.Vault.{Ghosts}
use Rattle.vault.specs.Changes.{Contents}

module _ {V : Type 0} (vault : Ghosts V) (v v' : V) where
  -- this holds of whatever the store held, if it is clean at the end
  abbrev pub OverHeld : (Contents → Type 0) → Type 0
  OverHeld Is = (c : Contents) → vault.holds v c → vault.is_clean v' → Is c

  -- the store holds what it held, and was clean if it is
  pub record StillHeld : Type 0 where
    pub held : OverHeld (vault.holds v')
    pub clean : vault.is_clean v' → vault.is_clean v
