use Rattle.std.proofs.Common.{◌-◌, length}
use Rattle.vault.specs.Calls.{text_under}
use Rattle.converse.specs.Exported.{IsFront}
use Rattle.converse.proofs.Exporting.{StaysRead}
use Rattle.converse.proofs.export.read_text.Given as goal

-- what was read is the text's front, and what was held is held
abbrev pub invariant-loop-vault : goal.invariant-loop-vault
invariant-loop-vault g l = StaysRead g.V.Vault.holds g.V.Vault.is_clean l.initial.vault l.vault (g.V.Vault.faults l.initial.vault)
    (g.V.Vault.faults l.vault) (λ c. IsFront l.text.items (text_under l.head.key c.messages))

abbrev pub decreases-loop-vault : goal.decreases-loop-vault
decreases-loop-vault g l = l.head.octets - length l.text.items
