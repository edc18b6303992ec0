-- What a turn does for the links of the administration: each that was open as the turn began, or
-- that came in it, has its turn, and is closed only for a cause.
use Rattle.std.specs.Prelude.{◌≡◌, ◌⊎◌, ◌≤◌, ℕ, Bool, true, false, ◌+◌, ◌||◌, suc, nat_le}
use Rattle.std.specs.Prelude.{if◌then◌else◌, List, [], ◌∷◌, ◌++◌, length, take, drop, Option, Some}
use Rattle.std.specs.Prelude.{None, option_map, is_some, IfNone}
use Rattle.std.specs.List.{list_any}
use Rattle.vault.specs.Records.{Records}
use Rattle.office.specs.Events.{Log}
use Rattle.adminhttp.specs.Sites.{Site}
use Rattle.serving.specs.Wires.{is_fault}
use Rattle.serving.specs.Calls.{Call, Accepted, Read, Wrote, Closed}
use Rattle.serving.specs.Requests.{octets_of, HasOneMore, IsGiven}
use Rattle.serving.specs.Works.{most_at_once, most_writes, share_among_others}
use Rattle.serving.specs.HttpTurns.{is_late_at, most_exchanges}
pub use Rattle.serving.specs.HttpTurns.{most_asked, IsShort, AreShort}
use Rattle.serving.specs.declared.wire.Link.{Link}
use Rattle.serving.specs.declared.wire.Port.TheVariants.{Admin}
use Rattle.serving.specs.declared.wire.Io.{Io}
use Rattle.serving.specs.declared.wire.Io.TheVariants.{Count, Later}
use Rattle.serving.specs.declared.requests.Response.{Response}
use Rattle.serving.specs.declared.requests.Exchange.{Exchange}

-- ---- links that come

-- So many links came, one after the other: each is held after the others, or closed at once, if
-- as many are held as may be, or memory for it was refused.
pub data HaveComeForAdmin (now : ℕ) : (held held_then : List Exchange) → (came : ℕ) → List Call
    → Type 0 where
  NoMore : (held : List Exchange) → HaveComeForAdmin now held held 0 []
  IsKept : (link : Link) (held more held_then : List Exchange) (came : ℕ) (calls : List Call)
      → HasOneMore now link held more → HaveComeForAdmin now more held_then came calls
      → HaveComeForAdmin now held held_then (suc came) (Accepted Admin (Some link) ∷ calls)
  IsTurnedAway : (link : Link) (held held_then : List Exchange) (came : ℕ) (calls : List Call)
      → most_exchanges ≤ length held → HaveComeForAdmin now held held_then came calls
      → HaveComeForAdmin now held held_then (suc came)
      (Accepted Admin (Some link) ∷ Closed Admin link ∷ calls)
  WantsMemory : (link : Link) (held held_then : List Exchange) (came : ℕ) (calls : List Call)
      → HaveComeForAdmin now held held_then came calls
      → HaveComeForAdmin now held held_then (suc came)
      (Accepted Admin (Some link) ∷ Closed Admin link ∷ calls)

-- They came until the wire gave none, so many at most; or so many had come, and more may come.
pub record HasAcceptedForAdmin (now most : ℕ) (has_more : Bool) (held held_then : List Exchange)
    (calls : List Call) : Type 0 where
  pub came : ℕ
  pub arrivals : List Call
  pub come : HaveComeForAdmin now held held_then came arrivals
  pub calls_are : calls ≡ arrivals ++ (if has_more then [] else Accepted Admin None ∷ [])
  pub enough : has_more ≡ true → most ≤ came
  pub few : came ≤ most

-- ---- what is read of a request

-- the octets of the response, if there is one
abbrev pub response_of : Exchange → Option (List ℕ)
response_of e = option_map octets_of e.response

-- octets that were read come to this response, if to any yet, with the event of their command
pub record ComesTo (site : Site) (B : Records) (L : Log) (read : List ℕ) (given : Log)
    (response : Option (List ℕ)) : Type 0 where
  pub place : Option ℕ
  pub is : IsGiven site B L read (given ++ L) place response

-- A link was read from once, as many octets as are asked for at once, unless its response is there,
-- or it is over. The read gave its end, or nothing for now, or a piece.
pub data HasRead (site : Site) (B : Records) (L : Log) (e e_then : Exchange) : Log
    → List Call → Type 0 where
  IsOver : e.is_over ≡ true → e_then ≡ e → HasRead site B L e e_then [] []
  HasResponse : is_some e.response ≡ true → e_then ≡ e → HasRead site B L e e_then [] []
  GaveNothing : e.response ≡ None → e_then ≡ e
      → HasRead site B L e e_then [] (Read Admin e.link most_at_once Later [] ∷ [])
  GaveItsEnd : (io : Io) → e.response ≡ None → is_fault io ≡ true → e_then.is_over ≡ true
      → HasRead site B L e e_then [] (Read Admin e.link most_at_once io [] ∷ [])
  GaveAPiece : (n : ℕ) (piece : List ℕ) (given : Log) → e.response ≡ None → e_then.is_over ≡ false
      → ComesTo site B L (e.read.items ++ piece) given (response_of e_then)
      → IfNone e_then.response (e_then.read.items ≡ e.read.items ++ piece)
      → e_then.link ≡ e.link → e_then.written ≡ e.written
      → HasRead site B L e e_then given (Read Admin e.link most_at_once (Count n) piece
      ∷ [])

-- ---- what is written of a response

-- how many octets of it are offered at each write at most; once so many or more were written in a
-- turn, no more is
abbrev pub admin_share : ℕ
admin_share = share_among_others

-- writes on a link, from so many octets of its response on: each was offered all that follow, or
-- the first 16,384 of them, and each that took octets took the next ones
abbrev pub AreWrites : Link → (response : List ℕ) → (written : ℕ) → List Call → (written_then : ℕ)
    → Type 0
AreWrites link response written [] written_then = written_then ≡ written
AreWrites link response written (Wrote Admin l offered (Count n) octets ∷ calls) written_then =
    (l ≡ link) × (offered ≡ length (take admin_share (drop written response)))
    × (octets ≡ take n (drop written response))
    × AreWrites link response (written + n) calls written_then
AreWrites link response written (Wrote Admin l offered io octets ∷ calls) written_then =
    (l ≡ link) × (offered ≡ length (take admin_share (drop written response)))
    × AreWrites link response written calls written_then
AreWrites link response written (call ∷ calls) written_then = ⊥

-- none, while there is no response
abbrev pub AreWritesOf : Link → Option Response → (written : ℕ) → List Call → (written_then : ℕ)
    → Type 0
AreWritesOf link None written calls written_then = (calls ≡ []) × (written_then ≡ written)
AreWritesOf link (Some response) written calls written_then =
    AreWrites link (octets_of response) written calls written_then

-- a write took nothing for now
abbrev pub took_nothing : Call → Bool
took_nothing (Wrote port link offered Later octets) = true
took_nothing _ = false

-- a write gave the link's end, or that it is broken
abbrev pub gave_its_end : Call → Bool
gave_its_end (Wrote port link offered io octets) = is_fault io
gave_its_end _ = false

-- all octets of the response are written
abbrev pub is_whole : Option Response → (written : ℕ) → Bool
is_whole None written = false
is_whole (Some response) written = nat_le (length (octets_of response)) written

-- What follows of a response was written, so many octets or more by so many writes or more.
pub record IsWrittenOf (e e_then : Exchange) (times octets : ℕ) (calls : List Call) : Type 0 where
  pub link : e_then.link ≡ e.link
  pub read : e_then.read ≡ e.read
  pub response : e_then.response ≡ e.response
  pub writes : AreWritesOf e.link e.response e.written calls e_then.written
  -- nothing is written on a link that is over
  pub idle : e.is_over ≡ true → calls ≡ []
  -- it is over from now on exactly if its response is whole, or a write gave its end
  pub over : e_then.is_over ≡
      (e.is_over || (is_whole e_then.response e_then.written || list_any gave_its_end calls))
  pub times_are : times ≤ length calls
  pub octets_are : e.written + octets ≤ e_then.written

-- nothing more can be written for now: the link is over, or took nothing for now, or there is no
-- response
abbrev pub HasWrittenAll : (e_then : Exchange) → List Call → Type 0
HasWrittenAll e_then calls =
    (e_then.is_over ≡ true) ⊎ ((list_any took_nothing calls ≡ true) ⊎ (e_then.response ≡ None))

-- Its share was written, or as often as it may be, or nothing more can be written for now; and not
-- more often than it may be.
pub record HasWritten (e e_then : Exchange) (calls : List Call) : Type 0 where
  pub times : ℕ
  pub octets : ℕ
  pub is : IsWrittenOf e e_then times octets calls
  pub few : length calls ≤ most_writes
  pub enough : (most_writes ≤ times) ⊎ ((admin_share ≤ octets) ⊎ HasWrittenAll e_then calls)

-- ---- a link's turn

-- A link that was accepted 60 seconds ago, or longer, is over, and nothing is asked of it. Another
-- is read from, and written on.
pub data HasHttpTurn (site : Site) (now : ℕ) (B : Records) (L : Log) (e e_then : Exchange)
    : Log → List Call → Type 0 where
  IsLate : is_late_at now e ≡ true → e_then.is_over ≡ true → HasHttpTurn site now B L e e_then [] []
  IsServed : (between : Exchange) (given : Log) (reads writes : List Call)
      → is_late_at now e ≡ false → HasRead site B L e between given reads
      → HasWritten between e_then writes
      → HasHttpTurn site now B L e e_then given (reads ++ writes)

-- Each link that is held has its turn, one after the other: those that are over by then are closed,
-- and the others are held on, with the moment at which they were accepted.
pub data HadHttpTurns (site : Site) (now : ℕ) (B : Records) : (L : Log)
    → (held held_then : List Exchange) → Log → List Call → Type 0 where
  NoneHeld : (L : Log) → HadHttpTurns site now B L [] [] [] []
  IsHeldOn : (L g given : Log) (e e_then : Exchange) (held held_then : List Exchange)
      (c calls : List Call) → HasHttpTurn site now B L e e_then g c → e_then.is_over ≡ false
      → e_then.since ≡ e.since → HadHttpTurns site now B (g ++ L) held held_then given calls
      → HadHttpTurns site now B L (e ∷ held) (e_then ∷ held_then) (given ++ g) (c ++ calls)
  IsClosed : (L g given : Log) (e e_then : Exchange) (held held_then : List Exchange)
      (c calls : List Call) → HasHttpTurn site now B L e e_then g c → e_then.is_over ≡ true
      → HadHttpTurns site now B (g ++ L) held held_then given calls
      → HadHttpTurns site now B L (e ∷ held) held_then (given ++ g)
      (c ++ Closed Admin e.link ∷ calls)
