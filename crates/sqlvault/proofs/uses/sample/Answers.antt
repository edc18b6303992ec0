use Rattle.sqlite.proofs.Callers.{memory_is_clean}
use Rattle.sqlvault.proofs.uses.sample.Goals as goal

pub returns : goal.returns
returns c =
    let clean = memory_is_clean c.go_through.new.vault.conn in
    record { saw = c.go_through.ensures.saw clean c.in_ok-vault.ensures.empty.1; cause = c.go_through.ensures.cause clean c.in_ok-vault.ensures.empty.1 }
