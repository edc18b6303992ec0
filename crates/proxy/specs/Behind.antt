-- What a wire whose clients come through a proxy asks of the wire inside: what it is asked itself,
-- but that the first line of each client's link is read there.
use Rattle.std.specs.Prelude.{◌≡◌, ◌≤◌, ◌⊎◌, ◌&&◌, ◌||◌, ◌==◌, ⊤, ℕ, Bool, true, false, length}
use Rattle.std.specs.Prelude.{List, [], ◌∷◌, ◌++◌, Option, Some, None, if◌then◌else◌}
use Rattle.std.specs.List.{list_any}
use Rattle.std.specs.declared.net.ip_addr.IpAddr.{IpAddr}
use Rattle.serving.specs.Wires.{is_fault}
use Rattle.serving.specs.Calls.{Call, Waited, Looked, Read, Wrote, Closed}
use Rattle.serving.specs.declared.wire.Link.{Link}
use Rattle.serving.specs.declared.wire.Io.{Io}
use Rattle.serving.specs.declared.wire.Io.TheVariants.{Later}
use Rattle.serving.specs.declared.wire.Port.TheVariants.{Pop}
use Rattle.proxy.specs.declared.wire.Progress.{Progress}
use Rattle.proxy.specs.Proxied.{has_line, behind_line, io_of, IsAsFarAs}

-- ---- what calls say of one client's link, by its number

-- the octets that a call read on it
abbrev pub octets_on : ℕ → Call → List ℕ
octets_on k (Read Pop link room io octets) = if link.number == k then octets else []
octets_on k _ = []

-- all that calls read on it
abbrev pub read_on : ℕ → List Call → List ℕ
read_on k [] = []
read_on k (call ∷ calls) = octets_on k call ++ read_on k calls

-- a call gave its end, or that it is broken, or closed it
abbrev pub ends_on : ℕ → Call → Bool
ends_on k (Read Pop link room io octets) = is_fault io && link.number == k
ends_on k (Wrote Pop link offered io octets) = is_fault io && link.number == k
ends_on k (Closed Pop link) = link.number == k
ends_on k _ = false

-- its first line is whole
abbrev pub IsLineWhole : ℕ → List Call → Type 0
IsLineWhole k calls = has_line (read_on k calls) ≡ true

-- it isn't, or the link is over
abbrev pub IsLineAwaited : ℕ → List Call → Type 0
IsLineAwaited k calls = (has_line (read_on k calls) ≡ false) ⊎ (list_any (ends_on k) calls ≡ true)

-- ---- the calls by which a line is read

-- the link is looked at, it is read with room for an octet at most, `least` at least, or closed
abbrev pub IsOnLine : Link → (least : ℕ) → Call → Type 0
IsOnLine link least (Looked Pop of io octets) = of ≡ link
IsOnLine link least (Read Pop of room io octets) =
    (of ≡ link) × (length octets ≤ room) × (least ≤ room) × (room ≤ 1)
IsOnLine link least (Closed Pop of) = of ≡ link
IsOnLine link least _ = ⊥

abbrev pub AreOnLine : Link → (least : ℕ) → List Call → Type 0
AreOnLine link least [] = ⊤
AreOnLine link least (call ∷ calls) = IsOnLine link least call × AreOnLine link least calls

abbrev pub is_read : Call → Bool
is_read (Read port link room io octets) = true
is_read _ = false

-- An outer read that returned nothing consumed only octets of the link's first line: it read at
-- least once, an octet each time unless the link is over, and nothing after that line. It said that
-- the link ended or is broken exactly if one of these calls did, or closed it.
pub record ReadsLine (link : Link) (io : Io) (before taken : List Call) : Type 0 where
  pub awaited : IsLineAwaited link.number before
  pub own : AreOnLine link (if is_fault io then 0 else 1) taken
  pub reads : list_any is_read taken ≡ true
  pub line : behind_line (read_on link.number taken) ≡ []
  pub over : list_any (ends_on link.number) taken ≡ is_fault io

-- ---- all calls, the newest last

-- a read gave an LF since the last wait; `so_far` says that one did before these calls
abbrev pub ends_line : (so_far : Bool) → List Call → Bool
ends_line so_far [] = so_far
ends_line so_far (Waited millis ∷ calls) = ends_line false calls
ends_line so_far (Read port link room io octets ∷ calls) =
    ends_line (so_far || has_line octets) calls
ends_line so_far (_ ∷ calls) = ends_line so_far calls

-- a call on a client's link is handed on after its first line alone, if it looks or reads
abbrev pub IsBehindLine : (before : List Call) → Call → Type 0
IsBehindLine before (Looked Pop link io octets) = IsLineWhole link.number before
IsBehindLine before (Read Pop link room io octets) = IsLineWhole link.number before
IsBehindLine before _ = ⊤

-- `calls` were made, and `inside` those of the wire inside: each is handed on as it is, but in the
-- place of a wait is one for no time, if a line came to its end; if a link's first line is
-- awaited, a look asks nothing, and a read reads on that line.
pub data AreBehindLines : (inside calls : List Call) → Type 0 where
  NoCall : AreBehindLines [] []
  IsHandedOn : (inside calls : List Call) (call : Call) → IsBehindLine inside call
      → AreBehindLines inside calls → AreBehindLines (inside ++ call ∷ []) (calls ++ call ∷ [])
  IsHurried : (inside calls : List Call) (millis : ℕ) → ends_line false inside ≡ true
      → AreBehindLines inside calls
      → AreBehindLines (inside ++ Waited 0 ∷ []) (calls ++ Waited millis ∷ [])
  IsKeptBack : (inside calls : List Call) (link : Link) → IsLineAwaited link.number inside
      → AreBehindLines inside calls
      → AreBehindLines inside (calls ++ Looked Pop link Later [] ∷ [])
  IsOfLine : (inside taken calls : List Call) (link : Link) (room : ℕ) (io : Io)
      → ReadsLine link io inside taken → AreBehindLines inside calls
      → AreBehindLines (inside ++ taken) (calls ++ Read Pop link room io [] ∷ [])

-- ---- what the wire keeps

-- a link's first line is whole if its source is known
abbrev pub IsSo : Option (Option IpAddr) → ℕ → List Call → Type 0
IsSo (Some source) k calls = IsLineWhole k calls
IsSo None k calls = IsLineAwaited k calls

-- the calls inside were so, if these sources are known, and a line perhaps came to its end
pub record AskedBehind {W : Type 0} (Asked : W → List Call → Type 0) (wire : W)
    (known : ℕ → Option (Option IpAddr)) (hurries : Bool) (calls : List Call) : Type 0 where
  pub inside : List Call
  pub asked : Asked wire inside
  pub behind : AreBehindLines inside calls
  pub known_so : (k : ℕ) → IsSo (known k) k inside
  pub pressed : hurries ≡ true → ends_line false inside ≡ true

-- ---- a line that is read

-- calls on a link's line came so far
pub record AreOfLine (link : Link) (least : ℕ) (progress : Progress) (taken : List Call)
    : Type 0 where
  pub own : AreOnLine link least taken
  pub reads : list_any is_read taken ≡ true
  pub far : IsAsFarAs progress (read_on link.number taken)
  pub over : list_any (ends_on link.number) taken ≡ is_fault (io_of progress)

-- such calls were made after these
pub record TakesLine {W : Type 0} (Asked : W → List Call → Type 0) (wire : W) (link : Link)
    (least : ℕ) (progress : Progress) (before : List Call) : Type 0 where
  pub taken : List Call
  pub asked : Asked wire (before ++ taken)
  pub are : AreOfLine link least progress taken

-- so it is within a read of which nothing is recorded yet
pub record AskedAmid {W : Type 0} (Asked : W → List Call → Type 0) (wire : W)
    (known : ℕ → Option (Option IpAddr)) (hurries : Bool) (link : Link) (least : ℕ)
    (progress : Progress) (calls : List Call) : Type 0 where
  pub inside : List Call
  pub takes : TakesLine Asked wire link least progress inside
  pub behind : AreBehindLines inside calls
  pub known_so : (k : ℕ) → IsSo (known k) k inside
  pub pressed : hurries ≡ true → ends_line false inside ≡ true
  pub unknown : known link.number ≡ None
