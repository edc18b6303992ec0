-- The line that a proxy sends before what its client sends (PROXY protocol, version 1):
-- `PROXY TCP4 source destination source-port destination-port`, the same with TCP6, or
-- `PROXY UNKNOWN` and anything; with CRLF at most 107 octets.
use Rattle.std.specs.Prelude.{◌≡◌, ◌≤◌, ◌+◌, ◌-◌, ◌*◌, ℕ, Bool, true, false, ◌&&◌, ◌==◌, nat_lt, nat_le, List, [], ◌∷◌, length, take, drop, codes, Option, Some, None, if◌then◌else◌}
use Rattle.std.specs.List.{before_first, after_first}
use Rattle.std.specs.Net.Grammar.{IsIpv4Text, IsIpv6Text}
use Rattle.std.specs.declared.net.ip_addr.IpAddr.{IpAddr}
use Rattle.std.specs.declared.net.ip_addr.IpAddr.TheVariants.{V4, V6}

abbrev pub is_space : ℕ → Bool
is_space b = b == 32

abbrev pub is_digit : ℕ → Bool
is_digit b = nat_le 48 b && nat_le b 57

-- the octets up to the first space, and those after it
abbrev pub word : List ℕ → List ℕ
word text = before_first is_space text

abbrev pub rest : List ℕ → List ℕ
rest text = after_first is_space text

-- ---- ports

-- digits that write a number below 65,536, if they stand after those of a value
abbrev pub are_digits_behind : ℕ → List ℕ → Bool
are_digits_behind value [] = true
are_digits_behind value (d ∷ ds) = if is_digit d then (if nat_lt (value * 10 + (d - 48)) 65536 then are_digits_behind (value * 10 + (d - 48)) ds else false) else false

-- a decimal number below 65,536, without a leading zero
abbrev pub is_port : List ℕ → Bool
is_port [] = false
is_port (d ∷ ds) = if d == 48 then length ds == 0 else are_digits_behind 0 (d ∷ ds)

-- ---- a line

-- source, destination and their ports; the addresses as they are spelled in one family
abbrev pub AreEnds : {A : Type 0} → (List ℕ → A → Type 0) → List ℕ → A → Type 0
AreEnds {A} Spells text source =
    Spells (word text) source × ((destination : A) × Spells (word (rest text)) destination)
    × (is_port (word (rest (rest text))) ≡ true) × (is_port (rest (rest (rest text))) ≡ true)

-- what stands after `PROXY` tells this source
abbrev pub Tells : List ℕ → Option IpAddr → Type 0
Tells text None = word text ≡ codes "UNKNOWN"
Tells text (Some (V4 a)) = (word text ≡ codes "TCP4") × AreEnds IsIpv4Text (rest text) a
Tells text (Some (V6 a)) = (word text ≡ codes "TCP6") × AreEnds IsIpv6Text (rest text) a

-- a line without its CRLF
abbrev pub text_of : List ℕ → List ℕ
text_of line = take (length line - 2) line

-- the line, with its CRLF, names this source; `None` if the proxy doesn't know it
pub record IsProxyLine (line : List ℕ) (source : Option IpAddr) : Type 0 where
  pub short : length line ≤ 107
  pub ended : drop (length line - 2) line ≡ 13 ∷ 10 ∷ []
  pub named : word (text_of line) ≡ codes "PROXY"
  pub tells : Tells (rest (text_of line)) source
