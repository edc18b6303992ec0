-- By which number an address counts.
use Rattle.std.proofs.Common.{◌≡◌, ℕ, ◌∙◌, ap}
use Rattle.std.specs.Prelude.{⊤}
use Rattle.std.specs.declared.net.ip_addr.IpAddr.{IpAddr}
use Rattle.std.specs.declared.net.ip_addr.IpAddr.TheVariants.{V4, V6}
use Rattle.std.specs.Net.Addr.{MatchIp, IsCanonicalOf, ipv4_bits}
use Rattle.serving.specs.Guesses.{origin}

-- r is the canonical form of an address: an IPv4 address is its own
pub origin_four : (address r : IpAddr) (n : ℕ) → MatchIp address (λ _. r ≡ address) (λ s. IsCanonicalOf s r) → n ≡ origin r
    → MatchIp address (λ f. n ≡ ipv4_bits f) (λ _. ⊤)
origin_four (V4 f) r n h e = e ∙ ap origin h
origin_four (V6 s) r n h e = tt

pub origin_six : (address r : IpAddr) (n : ℕ) → MatchIp address (λ _. r ≡ address) (λ s. IsCanonicalOf s r) → n ≡ origin r
    → MatchIp address (λ _. ⊤) (λ s. (c : IpAddr) × IsCanonicalOf s c × (n ≡ origin c))
origin_six (V4 f) r n h e = tt
origin_six (V6 s) r n h e = (r, h, e)
