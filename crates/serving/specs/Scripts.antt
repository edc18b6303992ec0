-- What a wire in memory tells.
use Rattle.std.specs.Prelude.{◌≡◌, ◌<◌, ℕ, Bool, false, List, [], length, take, Option, Some, None, slice_get}
use Rattle.std.proofs.Common.{sym, ◌∙◌, subst}
use Rattle.std.specs.declared.net.ip_addr.IpAddr.{IpAddr}
use Rattle.serving.specs.Wires.{Told, SayAlike, Addresses}
use Rattle.serving.specs.declared.wire.Port.TheVariants.{Pop, Admin}
use Rattle.serving.specs.declared.script_links.ScriptLink.{ScriptLink}

-- what was taken of what comes on a link
abbrev pub taken_of : ScriptLink → List ℕ
taken_of link = take link.at link.comes.items

-- what was read from a link
abbrev pub read_by : Option ScriptLink → List ℕ
read_by None = []
read_by (Some link) = taken_of link

-- what was written on it
abbrev pub written_by : Option ScriptLink → List ℕ
written_by None = []
written_by (Some link) = link.written.items

-- whether it is over
abbrev pub is_over_by : Option ScriptLink → Bool
is_over_by None = false
is_over_by (Some link) = link.is_over

-- each accepted link's octets, whether it is over, and whether a read or a write came astray
pub record TellsOf (links : List ScriptLink) (strayed : Bool) (t : Told) : Type 0 where
  pub accepted : t.accepted ≡ length links
  pub read : (k : ℕ) → t.read k ≡ read_by (slice_get links k)
  pub written : (k : ℕ) → t.written k ≡ written_by (slice_get links k)
  pub over : (k : ℕ) → k < length links → t.over k ≡ is_over_by (slice_get links k)
  pub astray : t.strayed ≡ strayed

-- from where the clients come, in the order in which they are accepted
abbrev pub address_in : List IpAddr → Addresses
address_in addresses Pop link = slice_get addresses link.number
address_in addresses Admin link = None

-- it tells one thing
pub tells_once : (links : List ScriptLink) (strayed : Bool) (t u : Told) → TellsOf links strayed t → TellsOf links strayed u → SayAlike t u
tells_once links strayed t u a b = record {
  accepted = a.accepted ∙ sym b.accepted;
  read = λ k. a.read k ∙ sym (b.read k);
  written = λ k. a.written k ∙ sym (b.written k);
  over = λ k within. (let here : k < length links = subst (λ n. k < n) a.accepted within in a.over k here ∙ sym (b.over k here));
  strayed = a.astray ∙ sym b.astray;
}
