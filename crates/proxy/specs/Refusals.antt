-- Why a link was refused, and the address that one came from, by what is kept of it.
use Rattle.std.specs.Prelude.{ℕ, ◌==◌, Option, Some, None, if◌then◌else◌}
use Rattle.std.specs.declared.net.ip_addr.IpAddr.{IpAddr}
use Rattle.serving.specs.Wires.{Addresses}
use Rattle.serving.specs.declared.wire.Port.TheVariants.{Pop, Admin}
use Rattle.serving.specs.declared.wire.Refusal.{Refusal}
use Rattle.proxy.specs.declared.wire.Refused.{Refused}

-- why a link was refused, if it is the one that was refused last
abbrev pub refusal_of : ℕ → (last : Option Refused) → Option Refusal
refusal_of k None = None
refusal_of k (Some refused) = if refused.link == k then Some refused.why else None

-- the address of a link whose line named this, or isn't whole: `inside` if it named no source
abbrev pub address_by : (known : Option (Option IpAddr)) → (inside : Option IpAddr) → Option IpAddr
address_by None inside = None
address_by (Some None) inside = inside
address_by (Some (Some source)) inside = Some source

-- of each link, by the sources that are known of clients' links
abbrev pub address_behind : (known : ℕ → Option (Option IpAddr)) → (inside : Addresses) → Addresses
address_behind known inside Pop link = address_by (known link.number) (inside Pop link)
address_behind known inside Admin link = inside Admin link
