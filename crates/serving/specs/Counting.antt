-- How many links were accepted at each port.
use Rattle.std.specs.Prelude.{◌≡◌, ℕ, Bool, ◌+◌, ◌==◌, ◌&&◌, nat_lt, Option, Some, None}
use Rattle.serving.specs.Wires.{ToldOfPorts}
use Rattle.serving.specs.declared.wire.Link.{Link}
use Rattle.serving.specs.declared.wire.Port.{Port}
use Rattle.serving.specs.declared.wire.Port.TheVariants.{Pop, Admin}
use Rattle.serving.specs.declared.counts.Counts.{Counts}

abbrev pub no_links : Counts
no_links = record { clients = 0; requests = 0 }

-- at one port
abbrev pub count_at : Port → Counts → ℕ
count_at Pop counts = counts.clients
count_at Admin counts = counts.requests

-- how many at most
abbrev pub most_links : ℕ
most_links = 18446744073709551615

-- a link of this number is the next one
abbrev pub is_next : Port → (number : ℕ) → Counts → Bool
is_next port number counts = number == count_at port counts && nat_lt number most_links

-- one more
abbrev pub one_more_at : Port → Counts → Counts
one_more_at Pop counts = record { clients = counts.clients + 1; requests = counts.requests }
one_more_at Admin counts = record { clients = counts.clients; requests = counts.requests + 1 }

-- one more, if a link was accepted
abbrev pub counted_with : Port → Option Link → Counts → Counts
counted_with port None counts = counts
counted_with port (Some link) counts = one_more_at port counts

-- a wire's record has so many
abbrev pub AreCounted : Counts → ToldOfPorts → Type 0
AreCounted counts t = (counts.clients ≡ t.pop.accepted) × (counts.requests ≡ t.admin.accepted)
