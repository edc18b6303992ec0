use Rattle.std.proofs.Common.{rules}
use Rattle.sqlvault.proofs.sql_vault.SqlVault.into_connection.Goals as goal

pub returns : goal.returns
returns g c = search rules
