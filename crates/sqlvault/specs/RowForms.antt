-- Which rows are those of sound records.
use Rattle.std.specs.Prelude.{◌≡◌, ◌^◌, Bool, true, pos, ◌&&◌, ◌||◌, ◌==◌, nat_le, nat_lt, List, ℕ, length, map}
use Rattle.std.specs.List.{list_all}
use Rattle.creds.specs.Names.{is_name, is_secret}
use Rattle.vault.specs.declared.record.Keyed.{Keyed}
use Rattle.vault.specs.Records.{most_clerks, most_maildrops}
use Rattle.vault.specs.Changes.{Contents, kept_in}
use Rattle.mailsql.specs.declared.rows.Clerk.{Clerk}
use Rattle.mailsql.specs.declared.rows.Message.{Message}
use Rattle.mailsql.specs.Rows.{same_int}
use Rattle.sqlvault.specs.Keeps.{message_row}

-- the kind and the secret are those of a sound credential
abbrev pub is_credential_row : Clerk → Bool
is_credential_row row = same_int row.kind (pos 1) && is_secret row.secret || same_int row.kind (pos 2) && length row.secret == 32

-- a row of a sound clerk
abbrev pub is_clerk_row : Clerk → Bool
is_clerk_row row = is_name row.name && is_credential_row row

-- rows of sound clerks, 1,000 at most
abbrev pub are_clerk_rows : List Clerk → Bool
are_clerk_rows rows = nat_le (length rows) most_clerks && list_all is_clerk_row rows

-- rows of sound maildrops, 1,000 at most
abbrev pub are_maildrop_rows : List (List ℕ) → Bool
are_maildrop_rows rows = nat_le (length rows) most_maildrops && list_all is_name rows

-- the rows are those of the maildrop's messages, each with a class that is a name and a key of 64
-- bits
pub record AreMailRows (d : List ℕ) (c : Contents) (rows : List Message) : Type 0 where
  pub rows_are : rows ≡ map message_row (kept_in d c.messages)
  pub classes : list_all (λ (x : Keyed). is_name x.message.class) (kept_in d c.messages) ≡ true
  pub keys : list_all (λ (x : Keyed). nat_lt x.key (2 ^ 64)) (kept_in d c.messages) ≡ true
