-- What the list of a store's receipts says.
use Rattle.std.specs.Prelude.{Bool, ◌&&◌, ◌==◌, List, length, Result, Ok}
use Rattle.creds.specs.Names.{is_name, is_deposit_id}
use Rattle.vault.specs.declared.fault.VaultFault.{VaultFault}
use Rattle.vault.specs.declared.record.Receipt.{Receipt}
use Rattle.vault.specs.Changes.{Contents}
use Rattle.vault.specs.Calls.{IsDone}

-- names and id have their forms, and the digest has 32 octets
abbrev pub is_formed : Receipt → Bool
is_formed r = is_name r.maildrop && is_deposit_id r.id && is_name r.class && length r.digest == 32

-- the receipts of all deposits are answered, in order, and nothing is changed
abbrev pub AreReceipts : (Contents → Type 0) → Contents → Result (List Receipt) VaultFault → Type 0
AreReceipts Holds c answered = IsDone Holds c c (Ok c.deposits) answered
