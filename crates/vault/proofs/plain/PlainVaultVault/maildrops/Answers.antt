-- The totals are whole, since the contents are sound.
use Rattle.std.proofs.Common.{Ok, rules}
use Rattle.vault.specs.Changes.{totals, records_of}
use Rattle.vault.proofs.DoneLemmas.{looked}
use Rattle.vault.proofs.TotalLemmas.{totals_are}
use Rattle.vault.proofs.StopLemmas.{looks_kept}
use Rattle.vault.proofs.plain.PlainVaultVault.maildrops.Goals as goal

pub returns-clause-done : goal.returns-clause-done
returns-clause-done c = λ b held clean.
    looked (λ k. Ok (totals (records_of k))) _ _ b _ c.self.view_is held
    (λ k. rw (← totals_are _ k.sound, ← c.deref.ensures.value, ← c.deref-2.ensures.value) c.totals_of.ensures.answer)

pub returns-clause-looks : goal.returns-clause-looks
returns-clause-looks c = looks_kept _ _ (search rules)
