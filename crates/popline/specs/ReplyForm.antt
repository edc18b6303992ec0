-- The form of every reply (RFC 1939, 3; RFC 2449, 4 and 8).
use Rattle.std.specs.Prelude.{◌≡◌, ℕ, Bool, true, false, ◌^◌, ◌<◌, ◌≤◌, ◌==◌, ◌⊎◌, List, [], ◌∷◌, length, take, if◌then◌else◌, codes}
use Rattle.popline.specs.Cutting.{taken}
use Rattle.popline.specs.Replies.{Reply, Greeting, DeniedBy, InUse, MaildropHas, DropListing, ScanLine, UidLine, Message, Marked, AlreadyMarked, RemovalDenied, timestamp, bytes_of}

-- the octets of a reply through its first LF
abbrev pub first_line : Reply → List ℕ
first_line reply = taken (bytes_of reply)

-- the octets after the first space of the first line, or none
abbrev pub behind_space : List ℕ → List ℕ
behind_space [] = []
behind_space (b ∷ bs) = if b == 10 then [] else if b == 32 then bs else behind_space bs

-- the text begins with `[`
abbrev pub begins_with_bracket : List ℕ → Bool
begins_with_bracket [] = false
begins_with_bracket (b ∷ bs) = b == 91

-- the text after `+OK` or `-ERR` begins as a response code does
abbrev pub has_code : Reply → Bool
has_code reply = begins_with_bracket (behind_space (bytes_of reply))

-- the reply begins with one of the two status indicators
abbrev pub BeginsWithStatus : Reply → Type 0
BeginsWithStatus reply = (take 3 (bytes_of reply) ≡ codes "+OK") ⊎ (take 4 (bytes_of reply) ≡ codes "-ERR")

-- numbers are below 2^64, names have at most 32 octets, a host has at most 64
abbrev pub IsSized : Reply → Type 0
IsSized (Greeting number boot host) = (number < 2 ^ 64) × (boot < 2 ^ 64) × (length host ≤ 64)
IsSized (DeniedBy rule) = length rule ≤ 32
IsSized (MaildropHas n m) = (n < 2 ^ 64) × (m < 2 ^ 64)
IsSized (DropListing n m) = (n < 2 ^ 64) × (m < 2 ^ 64)
IsSized (ScanLine n octets) = (n < 2 ^ 64) × (octets < 2 ^ 64)
IsSized (UidLine n uid) = (n < 2 ^ 64) × (uid.k < 2 ^ 64) × (length uid.class ≤ 32)
IsSized (Message octets stuffed_lines) = octets < 2 ^ 64
IsSized (Marked n) = n < 2 ^ 64
IsSized (AlreadyMarked n) = n < 2 ^ 64
IsSized (RemovalDenied rule) = length rule ≤ 32
IsSized reply = Unit {0}

-- the reply begins with a status indicator; its first line has at most 512 octets, CR and LF
-- counted; only `InUse` has a response code
pub record IsWellFormed (reply : Reply) : Type 0 where
  pub status : BeginsWithStatus reply
  pub short : length (first_line reply) ≤ 512
  pub code : has_code reply ≡ true → reply ≡ InUse

-- every reply of those sizes is well formed
abbrev pub FormOfReplies : Type 0
FormOfReplies = (reply : Reply) → IsSized reply → IsWellFormed reply

-- greetings with equal timestamps have equal connection numbers and equal boot numbers
abbrev pub TimestampsDiffer : Type 0
TimestampsDiffer = (number boot : ℕ) (host : List ℕ) (number' boot' : ℕ) (host' : List ℕ) → number < 2 ^ 64 → boot < 2 ^ 64 → number' < 2 ^ 64 → boot' < 2 ^ 64
    → timestamp number boot host ≡ timestamp number' boot' host' → (number ≡ number') × (boot ≡ boot')
