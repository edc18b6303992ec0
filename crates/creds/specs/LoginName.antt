-- Login names: the mailbox that USER and APOP name (RFC 1939, 7), as this server writes it.
use Rattle.std.specs.Prelude.{ℕ, ◌+◌, ◌==◌, List, take, drop, position, Option, Some, option_and_then}
use Rattle.creds.specs.Names.{name_of}
use Rattle.creds.specs.declared.login_name.LoginName.{LoginName}

-- the ? of the definition
infixl 10 ◌>>=◌
-- a reading whose first part is missing has none of the rest
abbrev pub ◌>>=◌ : {A B : Type 0} → Option A → (A → Option B) → Option B
o >>= f = option_and_then f o

-- the first slash, the clerk before it and the maildrop after it
unfoldable pub login_name : List ℕ → Option LoginName
login_name text = do
  slash ← position (λ b. b == 47) text
  clerk ← name_of (take slash text)
  maildrop ← name_of (drop (slash + 1) text)
  Some (record { clerk = clerk; maildrop = maildrop })
