-- What a head is (RFC 9112, 2 to 5): a text that as a whole is one by `httparse`'s grammar.
use Rattle.std.specs.Prelude.{◌≡◌, ℕ, ◌+◌, ◌<◌, ◌≤◌, List, [], length, take, drop, map, Some, All}
use Rattle.std.specs.Str.{IsUtf8}
use Rattle.httparse.specs.Grammar.{RequestHead, ReadsRequest}
use Rattle.httparse.specs.Spans.{IsHeaderWithin, header_bytes, name_and_value}
use Rattle.httparse.specs.declared.spans.HeaderSpan.{HeaderSpan}
use Rattle.adminhttp.specs.Lines.{head_at}
use Rattle.adminhttp.specs.declared.head.Head.{Head}

-- a head has at most so many headers
abbrev pub most_headers : ℕ
most_headers = 64

-- the text is this head, as a whole, of at most 64 headers
abbrev pub IsHead : List ℕ → RequestHead → Type 0
IsHead text h = ReadsRequest text h [] × (length h.fields ≤ most_headers)

-- the text is no head of at most 64 headers
abbrev pub IsNoHead : List ℕ → Type 0
IsNoHead text = (h : RequestHead) → ReadsRequest text h [] → most_headers < length h.fields

-- the octets of a head at a place
abbrev pub head_text : List ℕ → ℕ × ℕ → List ℕ
head_text b place = take place.1 (drop place.0 b)

-- the octets after a head at a place
abbrev pub behind_head : List ℕ → ℕ × ℕ → List ℕ
behind_head b place = drop (place.0 + place.1) b

-- the headers at these spans of a head: names, and values without the spaces and tabs around them
abbrev pub headers_of : Head → List HeaderSpan → List (List ℕ × List ℕ)
headers_of head spans = map (header_bytes head.text.now) spans

-- the spans lie in the head
abbrev pub LieIn : Head → List HeaderSpan → Type 0
LieIn head spans = All (IsHeaderWithin (length head.text.now)) spans

-- the parts of a head in these octets, and the spans of its headers
pub record IsLent (b : List ℕ) (spans : List HeaderSpan) (head : Head) : Type 0 where
  pub place : ℕ × ℕ
  pub at : head_at b ≡ Some place
  pub is : RequestHead
  pub is_head : IsHead (head_text b place) is
  pub text : head.text.now ≡ head_text b place
  pub method : head.method.now ≡ is.method
  pub target : head.target.now ≡ is.target
  pub target_text : IsUtf8 head.target.now
  pub behind : head.behind.now ≡ behind_head b place
  pub count : head.headers ≤ length spans
  pub headers : headers_of head (take head.headers spans) ≡ map name_and_value is.fields
  pub within : LieIn head (take head.headers spans)
