use Rattle.std.proofs.Common.{◌≡◌, ◌++◌, take, true}
use Rattle.std.specs.Prelude.{is_some}
use Rattle.std.specs.List.{All, flat_map}
use Rattle.vault.specs.Records.{credential_in}
use Rattle.converse.specs.Checked.{clerk_line}
use Rattle.converse.proofs.Exporting.{StaysRead}
use Rattle.converse.proofs.check_store.tell_clerks.Given as goal

-- the clerks that came are there and were told, and what was held is held
abbrev pub invariant-loop-name : goal.invariant-loop-name
invariant-loop-name g l = StaysRead g.V.Vault.holds g.V.Vault.is_clean l.initial.vault l.vault (g.V.Vault.faults l.initial.vault) (g.V.Vault.faults l.vault)
    (λ c. (l.text.items ≡ l.initial.text.items ++ flat_map (clerk_line c.clerks) (take l.name-index l.clerks))
    × All (λ name. is_some (credential_in name c.clerks) ≡ true) (take l.name-index l.clerks))
