-- What a wire records whose clients come through a proxy: of each client's link the octets after
-- its first line.
use Rattle.std.specs.Prelude.{◌≡◌, ◌≤◌, ◌<◌, ◌⊎◌, ◌||◌, not, ℕ, Bool, true, false, ◌==◌, List, [], ◌∷◌, ◌++◌, Option, Some, None, IfSome, if◌then◌else◌}
use Rattle.std.specs.declared.net.ip_addr.IpAddr.{IpAddr}
use Rattle.std.proofs.Common.{sym, ◌∙◌, ap, subst}
use Rattle.serving.specs.Wires.{Told, ToldOfPorts, SayAlike, SayAlikeOfPorts, more_at, over_at, is_fault, is_live, at_port, has_read}
use Rattle.serving.specs.declared.wire.Io.{Io}
use Rattle.serving.specs.declared.wire.Io.TheVariants.{Later}
use Rattle.serving.specs.declared.wire.Port.TheVariants.{Pop}
use Rattle.proxy.specs.declared.wire.Begun.{Begun}
use Rattle.proxy.specs.declared.wire.Progress.{Progress}
use Rattle.proxy.specs.declared.wire.Progress.TheVariants.{Whole, Open}
use Rattle.proxy.specs.Lines.{IsProxyLine}

-- ---- the first line of all octets that came on a link

-- the octets up to and with the first LF, or all
abbrev pub first_line : List ℕ → List ℕ
first_line [] = []
first_line (x ∷ xs) = if x == 10 then x ∷ [] else x ∷ first_line xs

-- those after it
abbrev pub behind_line : List ℕ → List ℕ
behind_line [] = []
behind_line (x ∷ xs) = if x == 10 then xs else behind_line xs

-- there is an LF
abbrev pub has_line : List ℕ → Bool
has_line [] = false
has_line (x ∷ xs) = if x == 10 then true else has_line xs

-- ---- what is recorded

-- t is recorded inside, and u outside: u's octets come after a first line, which is a PROXY line
pub record TellsBehind (t u : Told) : Type 0 where
  pub accepted : u.accepted ≡ t.accepted
  pub read : (k : ℕ) → u.read k ≡ behind_line (t.read k)
  pub written : (k : ℕ) → u.written k ≡ t.written k
  pub over : (k : ℕ) → u.over k ≡ t.over k
  pub strayed : u.strayed ≡ t.strayed
  pub later : (k : ℕ) → t.accepted ≤ k → t.read k ≡ []
  pub proxied : (k : ℕ) → (u.read k ≡ []) ⊎ ((source : Option IpAddr) × IsProxyLine (first_line (t.read k)) source)

-- of an accepted link so much came, which isn't a whole line
pub record IsBegun (t : Told) (k : ℕ) (line : List ℕ) : Type 0 where
  pub came : k < t.accepted
  pub is : t.read k ≡ line
  pub open_yet : has_line line ≡ false

-- the first line of an accepted link names this source
pub record IsKnown (t : Told) (k : ℕ) (source : Option IpAddr) : Type 0 where
  pub came : k < t.accepted
  pub whole : has_line (t.read k) ≡ true
  pub says : IsProxyLine (first_line (t.read k)) source

-- the first line of a link says this address, or says that it is unknown
abbrev pub IsSaid : Told → ℕ → IpAddr → Type 0
IsSaid t k address =
    IsProxyLine (first_line (t.read k)) (Some address)
    ⊎ IsProxyLine (first_line (t.read k)) None

-- so it is of a client's link, by what a wire records
abbrev pub IsAddressOf : {W : Type 0} → (W → ToldOfPorts → Type 0) → W → ℕ → IpAddr → Type 0
IsAddressOf Tells wire k address = (t : ToldOfPorts) × Tells wire t × IsSaid t.pop k address

-- inside t is recorded, and u outside, if these lines are begun and these sources known
pub record TellsProxied (begun : ℕ → Option Begun) (known : ℕ → Option (Option IpAddr)) (t u : ToldOfPorts) : Type 0 where
  pub pop : TellsBehind t.pop u.pop
  pub admin : u.admin ≡ t.admin
  pub begun_so : (k : ℕ) → IfSome (begun k) (λ b. IsBegun t.pop k b.line.items)
  pub known_so : (k : ℕ) → IfSome (known k) (λ source. IsKnown t.pop k source)

-- u is recorded outside
abbrev pub TellsProxy : {W : Type 0} → (W → ToldOfPorts → Type 0) → W → (ℕ → Option Begun) → (ℕ → Option (Option IpAddr)) → ToldOfPorts → Type 0
TellsProxy Tells wire begun known u = (t : ToldOfPorts) × Tells wire t × TellsProxied begun known t u

alike : (t t' u u' : Told) → SayAlike t t' → TellsBehind t u → TellsBehind t' u' → SayAlike u u'
alike t t' u u' s a b = record {
  accepted = a.accepted ∙ (s.accepted ∙ sym b.accepted);
  read = λ k. a.read k ∙ (ap behind_line (s.read k) ∙ sym (b.read k));
  written = λ k. a.written k ∙ (s.written k ∙ sym (b.written k));
  over = λ k within. (let here : k < t.accepted = subst (λ n. k < n) a.accepted within in a.over k ∙ (s.over k here ∙ sym (b.over k)));
  strayed = a.strayed ∙ (s.strayed ∙ sym b.strayed);
}

alike_too : (a b c d : Told) → c ≡ a → d ≡ b → SayAlike a b → SayAlike c d
alike_too a b c d e f s = subst (λ x. SayAlike x d) (sym e) (subst (λ x. SayAlike a x) (sym f) s)

-- one thing is recorded outside, if one is inside
pub proxy_once : {W : Type 0} (Tells : W → ToldOfPorts → Type 0) → ((w : W) (t u : ToldOfPorts) → Tells w t → Tells w u → SayAlikeOfPorts t u) → (wire : W) (begun : ℕ → Option Begun) (known : ℕ → Option (Option IpAddr)) (u v : ToldOfPorts)
    → TellsProxy Tells wire begun known u → TellsProxy Tells wire begun known v → SayAlikeOfPorts u v
proxy_once {W} Tells once wire begun known u v (t, h, a) (t', h', b) =
    let s = once wire t t' h h' in
    (alike t.pop t'.pop u.pop v.pop s.0 a.pop b.pop, alike_too t.admin t'.admin u.admin v.admin a.admin b.admin s.1)

-- ---- a line that is read

-- reads on a link gave these octets, and the last one perhaps its end
pub record HasGone (k : ℕ) (fault : Bool) (octets : List ℕ) (t t' : Told) : Type 0 where
  pub accepted : t'.accepted ≡ t.accepted
  pub read : (j : ℕ) → t'.read j ≡ more_at k octets t.read j
  pub written : (j : ℕ) → t'.written j ≡ t.written j
  pub over : (j : ℕ) → t'.over j ≡ over_at k fault t.over j
  pub strayed : t'.strayed ≡ (t.strayed || not (is_live t k))

-- what the last read gave
abbrev pub io_of : Progress → Io
io_of Whole = Later
io_of (Open io) = io

-- a line has what reads gave since
pub record IsLineRead {W : Type 0} (Tells : W → ToldOfPorts → Type 0) (wire : W) (k : ℕ) (before now : List ℕ) (progress : Progress) (t : ToldOfPorts) : Type 0 where
  pub told : ToldOfPorts
  pub octets : List ℕ
  pub tells : Tells wire told
  pub gone : HasGone k (is_fault (io_of progress)) octets t.pop told.pop
  pub admin : told.admin ≡ t.admin
  pub is : now ≡ before ++ octets

-- a line that was read so far has an LF at its end, or none
abbrev pub IsAsFarAs : Progress → List ℕ → Type 0
IsAsFarAs Whole line = (front : List ℕ) × (line ≡ front ++ 10 ∷ []) × (has_line front ≡ false)
IsAsFarAs (Open _) line = has_line line ≡ false

-- a link has so much of its line, which is kept nowhere yet; u is recorded once nothing was read
abbrev pub IsAmid : {W : Type 0} → (W → ToldOfPorts → Type 0) → W → (ℕ → Option Begun) → (ℕ → Option (Option IpAddr)) → ℕ → List ℕ → ToldOfPorts → Type 0
IsAmid Tells wire begun known k line u =
    (t : ToldOfPorts) × Tells wire t × TellsProxied begun known t (at_port Pop (λ of. has_read of k Later []) u) × (k < t.pop.accepted) × (t.pop.read k ≡ line)
