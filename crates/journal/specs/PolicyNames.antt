-- The name that the log gives to a policy.
use Rattle.std.specs.Prelude.{ℕ, Bool, true, false, List, [], ◌++◌, take, codes}
use Rattle.std.specs.Prelude.{Option, Some, None}
use Rattle.hex.specs.Hex.{encode_lower}
use Rattle.creds.specs.Digests.{text_digest}
use Rattle.policy.specs.Policy.{Policy}
use Rattle.policy.specs.WrittenText.{policy_text}

-- the first 16 hexadecimal digits of the SHA-256 of its written form
abbrev pub name_of : Policy → List ℕ
name_of policy = encode_lower (take 8 (text_digest (policy_text policy)))

-- the name of the policy in force as a value of a line, if the line is to have it and it is known
abbrev pub policy_value : (is_told : Bool) → Option (List ℕ) → List ℕ
policy_value true (Some name) = codes " policy=" ++ name
policy_value true None = []
policy_value false name = []
