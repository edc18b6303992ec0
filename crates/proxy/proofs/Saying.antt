-- What a line doesn't say.
use Rattle.std.proofs.Common.{◌≡◌, ℕ, List, codes, get_or, ap, arith, sym, ◌∙◌, Option, Some, None}
use Rattle.std.specs.Net.Grammar.{IsIpv4Text, IsIpv6Text}
use Rattle.std.specs.declared.net.ip_addr.IpAddr.{IpAddr}
use Rattle.std.specs.declared.net.ip_addr.IpAddr.TheVariants.{V4, V6}
use Rattle.std.specs.declared.net.ipv4_addr.Ipv4Addr.{Ipv4Addr}
use Rattle.std.specs.declared.net.ipv6_addr.Ipv6Addr.{Ipv6Addr}
use Rattle.proxy.specs.Lines.{word, rest, AreEnds, Tells}

-- two texts that differ at an octet
apart : (n : ℕ) (x y t : List ℕ) → t ≡ x → t ≡ y → (get_or x n 0 ≡ get_or y n 0 → ⊥) → ⊥
apart n x y t a b ne = ne (ap (λ s. get_or s n 0) (sym a ∙ b))

four_is_six : ◌≡◌ {A = ℕ} 52 54 → ⊥
four_is_six e = omega arith

t_is_u : ◌≡◌ {A = ℕ} 84 85 → ⊥
t_is_u e = omega arith

pub no_source_v4 : (text : List ℕ) → word text ≡ codes "TCP4" → ((a : Ipv4Addr) → AreEnds IsIpv4Text (rest text) a → ⊥) → (source : Option IpAddr) → Tells text source → ⊥
no_source_v4 text is none None t = apart 0 (codes "TCP4") (codes "UNKNOWN") (word text) is t t_is_u
no_source_v4 text is none (Some (V4 a)) t = none a t.1
no_source_v4 text is none (Some (V6 a)) t = apart 3 (codes "TCP4") (codes "TCP6") (word text) is t.0 four_is_six

pub no_source_v6 : (text : List ℕ) → word text ≡ codes "TCP6" → ((a : Ipv6Addr) → AreEnds IsIpv6Text (rest text) a → ⊥) → (source : Option IpAddr) → Tells text source → ⊥
no_source_v6 text is none None t = apart 0 (codes "TCP6") (codes "UNKNOWN") (word text) is t t_is_u
no_source_v6 text is none (Some (V4 a)) t = apart 3 (codes "TCP6") (codes "TCP4") (word text) is t.0 (λ e. four_is_six (sym e))
no_source_v6 text is none (Some (V6 a)) t = none a t.1
