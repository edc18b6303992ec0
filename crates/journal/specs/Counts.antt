-- How often a session's commands did what they say, as the log counts them; and which denials of a
-- connection have a line.
use Rattle.std.specs.Prelude.{ℕ, Bool, not, ◌&&◌, ◌==◌, ◌+◌, ◌-◌, ◌^◌, min, nat_lt}
use Rattle.std.specs.Prelude.{List, length, ◌++◌, codes}
use Rattle.std.specs.Fmt.{decimal}
use Rattle.std.specs.List.{list_any}
use Rattle.std.specs.Str.{bytes_eq}
use Rattle.creds.specs.declared.uid.Uid.{Uid}
use Rattle.office.specs.declared.account.MessageCommand.{MessageCommand}
use Rattle.journal.specs.Lines.{command_text}
use Rattle.journal.specs.declared.counts.Counts.{Counts}
use Rattle.journal.specs.declared.denials.Denial.{Denial}

-- ---- counts

-- so many more; a count and a sum stay at the greatest number of 64 bits
abbrev pub more : (by count : ℕ) → ℕ
more by count = min (count + by) (2 ^ 64 - 1)

-- no command came
abbrev pub no_counts : Counts
no_counts = record {
  deles = 0;
  resets = 0;
  retrs = 0;
  retr_octets = 0;
  tops = 0;
  top_octets = 0;
  denials = 0;
}

-- a DELE that marked a message
abbrev pub with_dele : Counts → Counts
with_dele counts = record counts { deles = more 1 counts.deles }

-- a RSET
abbrev pub with_reset : Counts → Counts
with_reset counts = record counts { resets = more 1 counts.resets }

-- a RETR that began to send a message of so many octets
abbrev pub with_retr : (octets : ℕ) → Counts → Counts
with_retr octets counts =
    record counts { retrs = more 1 counts.retrs; retr_octets = more octets counts.retr_octets }

-- a TOP that began to send the top of a message of so many octets
abbrev pub with_top : (octets : ℕ) → Counts → Counts
with_top octets counts =
    record counts { tops = more 1 counts.tops; top_octets = more octets counts.top_octets }

-- a DELE, RETR or TOP that a rule denied
abbrev pub with_denial : Counts → Counts
with_denial counts = record counts { denials = more 1 counts.denials }

-- what was read, as values of a line
abbrev pub reads_text : Counts → List ℕ
reads_text counts =
    codes " retr=" ++ decimal counts.retrs ++ codes "/" ++ decimal counts.retr_octets
    ++ codes " top=" ++ decimal counts.tops ++ codes "/" ++ decimal counts.top_octets

-- all of them
abbrev pub counts_text : Counts → List ℕ
counts_text counts =
    codes " dele=" ++ decimal counts.deles ++ codes " rset=" ++ decimal counts.resets
    ++ reads_text counts ++ codes " denied=" ++ decimal counts.denials

-- ---- denials

-- the same unique-id
abbrev pub is_uid : Uid → Uid → Bool
is_uid a b = bytes_eq a.class b.class && (a.k == b.k)

-- the same command
abbrev pub is_command : MessageCommand → MessageCommand → Bool
is_command a b = bytes_eq (command_text a) (command_text b)

-- the same message and rule
abbrev pub is_of : Denial → Denial → Bool
is_of a b = is_uid a.uid b.uid && bytes_eq a.rule b.rule

-- the same command, message and rule
abbrev pub is_same : Denial → Denial → Bool
is_same a b = is_command a.command b.command && is_of a b

-- it is one of those that have a line
abbrev pub is_among : Denial → List Denial → Bool
is_among denial told = list_any (λ (it : Denial). is_same it denial) told

-- how many denials of a connection have a line at most
abbrev pub most_denials : ℕ
most_denials = 64

-- it has none yet, and gets one
abbrev pub gets_a_line : Denial → List Denial → Bool
gets_a_line denial told = nat_lt (length told) most_denials && not (is_among denial told)
