-- The clerks so far are done, and the others are as they were.
use Rattle.std.proofs.Common.{◌≡◌, ◌++◌, take, drop}
use Rattle.std.specs.Prelude.{map}
use Rattle.vault.specs.Changes.{with_credential}
use Rattle.vault.proofs.clerks.replace_credential.Given as goal

abbrev pub invariant-loop-clerk : goal.invariant-loop-clerk
invariant-loop-clerk l = l.clerks ≡ map (with_credential l.name l.credential) (take l.clerk-index l.initial.clerks) ++ drop l.clerk-index l.initial.clerks
