use Rattle.std.proofs.Common.{take, map}
use Rattle.std.specs.List.{All}
use Rattle.converse.specs.Exported.{Takes, IsMeasured, file_under}
use Rattle.converse.proofs.Exporting.{Puts}
use Rattle.converse.proofs.export.put_each.Given as goal

-- the messages of the heads that came were put, and what was held is held
abbrev pub invariant-loop-head : goal.invariant-loop-head
invariant-loop-head g l = Puts g.V.Vault.holds g.V.Vault.is_clean l.initial.vault l.vault (g.V.Vault.faults l.initial.vault)
    (g.V.Vault.faults l.vault) (g.F.Folder.faults l.initial.folder) (g.F.Folder.faults l.folder)
    (λ c. All (IsMeasured c) l.heads → Takes (g.F.Folder.files l.initial.folder) (g.F.Folder.files l.folder) (map (file_under c) (take l.head-index l.heads)))
