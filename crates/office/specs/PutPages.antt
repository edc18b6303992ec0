-- What putting pages of a message makes of it, in one word.
use Rattle.std.specs.Prelude.{◌≡◌, true, List, ℕ, Result, IfOk, IsOkAnd}
use Rattle.vault.specs.Changes.{Contents}
use Rattle.vault.specs.Calls.{has_grown, text_under}
use Rattle.vault.specs.Parts.{OnlyLooks}
use Rattle.vault.specs.declared.vault.Vault.{Ghosts}
use Rattle.office.specs.Output.{IsBegun, IsPut, text_coming}
use Rattle.office.specs.Stopping.{WasPut}
use Rattle.office.specs.declared.reading.Reading.{Reading}
use Rattle.office.specs.declared.reading.PutPage.{PutPage}
use Rattle.office.specs.declared.reading.PutPage.TheVariants as page

-- The same message is read on, over a store that is only looked at. If the store is clean, what
-- was put and what is still to come are what was to come before, and a page is refused only if
-- the count of faults grew.
pub record PutsPages {V E : Type 0} (vault : Ghosts V) (store later : V) (old new : Reading)
    (before after : List ℕ) (answered : Result PutPage E) : Type 0 where
  pub key : new.key ≡ old.key
  pub octets : new.octets ≡ old.octets
  pub put : IfOk answered (λ put. (c : Contents) → vault.holds store c → vault.is_clean later
      → IsBegun old (text_under old.key c.messages)
      → IsPut put before after (text_coming old (text_under old.key c.messages))
      (text_coming new (text_under old.key c.messages)))
  pub cause : IfOk answered (λ put. put ≡ page.Refused → (c : Contents) → vault.holds store c
      → vault.is_clean later → IsBegun old (text_under old.key c.messages)
      → has_grown (vault.faults store) (vault.faults later) ≡ true)
  pub looks : OnlyLooks vault store later (IsOkAnd answered WasPut)
