-- What a message text is: the kept form of a text that isn't empty, within the limit.
use Rattle.std.specs.Prelude.{◌≡◌, ◌≢◌, ◌≤◌, ℕ, List, [], length}
use Rattle.mailtext.specs.Text.{kept_form}

-- the octets that a message may have at most, in its kept form
abbrev pub most_octets : ℕ
most_octets = 26214400

-- octets that are a message in its kept form
pub record IsMailText (octets : List ℕ) : Type 0 where
  pub nonempty : octets ≢ []
  pub kept : kept_form octets ≡ octets
  pub within : length octets ≤ most_octets
