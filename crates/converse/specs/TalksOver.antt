-- What one conversation did, by the exit status: over a store, and in an office. The reader was `r`
-- and is `r'`, the writer was `w` and is `w'`.
use Rattle.std.specs.Prelude.{◌≡◌, ℕ, true, List}
use Rattle.std.specs.Io.KnownBytes.{IsAtEnd}
use Rattle.vault.specs.declared.vault.Vault as vaults
use Rattle.vault.specs.Calls.{has_grown}
use Rattle.office.specs.Events.{Trace}
use Rattle.office.specs.Stands.{Keeps, OfEachTrace, vault_of}
use Rattle.office.specs.declared.office.Office.{Office}
use Rattle.converse.specs.declared.streams.Sink as sinks
use Rattle.converse.specs.declared.streams.Source as sources
use Rattle.converse.specs.Runs.{HasTalked, HasBroken, HasStopped}
use Rattle.converse.specs.Streams.{Reads, Writes, reads_failed, writes_failed}

module _ {V R W : Type 0} (vault : vaults.Ghosts V) (source : sources.Ghosts R)
    (sink : sinks.Ghosts W) where
  -- The vault was `v` and is `v'`; `opened` adds the office's opening to a trace. These octets were
  -- read, and these written. At status 0 all of them are flushed, and the conversation went well; at
  -- 1 no office was opened, or a fault cut the conversation off.
  pub record TalksOverStore (v v' : V) (r r' : R) (w w' : W) (opened : Trace → Trace) (status : ℕ)
      : Type 0 where
    pub octets : List ℕ
    pub written : List ℕ
    pub read : Reads (source.seen r) (source.seen r') octets
    pub wrote : Writes (sink.seen w) (sink.seen w') written
    pub flushed : status ≡ 0 → (sink.seen w').flushed ≡ true
    pub well : status ≡ 0 → (T : Trace) → Keeps (vault.holds v) T → vault.is_clean v'
        → HasTalked vault.holds v' (has_grown (vault.faults v) (vault.faults v')) (opened T) octets
        written (IsAtEnd (source.seen r').left)
    pub ill : status ≡ 1 → (T : Trace) → Keeps (vault.holds v) T → vault.is_clean v'
        → HasStopped vault.holds v' (has_grown (vault.faults v) (vault.faults v'))
        (reads_failed (source.seen r) (source.seen r')) (writes_failed (sink.seen w) (sink.seen w'))
        T (opened T) octets written (IsAtEnd (source.seen r').left)
    pub clean : vault.is_clean v' → vault.is_clean v

  -- the same in an office that was `o` and is `o'`
  pub record TalksInOffice (o o' : Office V) (r r' : R) (w w' : W) (status : ℕ) : Type 0 where
    pub octets : List ℕ
    pub written : List ℕ
    pub read : Reads (source.seen r) (source.seen r') octets
    pub wrote : Writes (sink.seen w) (sink.seen w') written
    pub flushed : status ≡ 0 → (sink.seen w').flushed ≡ true
    pub well : status ≡ 0 → OfEachTrace vault o o' (λ T. HasTalked vault.holds (vault_of o')
        (has_grown (vault.faults (vault_of o)) (vault.faults (vault_of o'))) T octets written
        (IsAtEnd (source.seen r').left))
    pub ill : status ≡ 1 → OfEachTrace vault o o' (λ T. HasBroken vault.holds (vault_of o')
        (has_grown (vault.faults (vault_of o)) (vault.faults (vault_of o')))
        (reads_failed (source.seen r) (source.seen r')) (writes_failed (sink.seen w) (sink.seen w'))
        T octets written (IsAtEnd (source.seen r').left))
    pub clean : vault.is_clean (vault_of o') → vault.is_clean (vault_of o)
