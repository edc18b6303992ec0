-- Unique-ids (RFC 1939, 7: UIDL).
use Rattle.std.specs.Prelude.{ℕ, List, ◌++◌, codes}
use Rattle.std.specs.Fmt.{decimal}
use Rattle.creds.specs.declared.uid.Uid.{Uid}

-- class, a dot and k
abbrev pub uid_text : Uid → List ℕ
uid_text u = u.class ++ codes "." ++ decimal u.k
