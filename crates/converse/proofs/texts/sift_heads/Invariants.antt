use Rattle.std.proofs.Common.{◌≡◌, ◌++◌, List, Option, take, not}
use Rattle.std.specs.Prelude.{filter}
use Rattle.std.specs.List.{All}
use Rattle.vault.specs.declared.record.Receipt.{Receipt}
use Rattle.converse.specs.Exported.{IsMeasured}
use Rattle.converse.specs.Texts.{AreMarks, has_intact}
use Rattle.converse.proofs.Exporting.{StaysRead}
use Rattle.converse.proofs.texts.sift_heads.Given as goal

-- the heads that came were sifted, and what was held is held
abbrev pub invariant-loop-head : goal.invariant-loop-head
invariant-loop-head g l = StaysRead g.V.Vault.holds g.V.Vault.is_clean l.initial.vault l.vault (g.V.Vault.faults l.initial.vault) (g.V.Vault.faults l.vault)
    (λ c. (rs : Option (List Receipt)) → AreMarks rs l.marks → All (IsMeasured c) l.heads
    → (l.intact.items ≡ l.initial.intact.items ++ filter (has_intact rs l.maildrop c) (take l.head-index l.heads))
    × (l.differing.items ≡ l.initial.differing.items ++ filter (λ h. not (has_intact rs l.maildrop c h)) (take l.head-index l.heads)))
