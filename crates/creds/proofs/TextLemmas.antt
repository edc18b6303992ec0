-- Texts in place, and the octets that the forms allow.
use Rattle.std.proofs.Common.{◌≡◌, ◌≤◌, ◌<◌, ℕ, ◌-◌, Bool, true, List, [], ◌∷◌, ◌++◌, length, take, drop, arith, refl}
use Rattle.std.proofs.lemmas.Bool.{and_parts}
use Rattle.std.proofs.lemmas.Bool.Decides.{nat_tests}
use Rattle.std.proofs.lemmas.List.{drop-replicate, length-replicate, length-append}
use Rattle.std.proofs.lemmas.Str.Ascii.{IsAscii-nil, IsAscii-cons}
use Rattle.std.proofs.Math.Seq.{take-append_seam}
use Rattle.std.specs.List.{list_all}
use Rattle.std.specs.Prelude.{replicate}
use Rattle.std.specs.Str.{IsAscii}
use Rattle.creds.specs.Names.{is_name_octet, is_id_octet, is_printable, is_host_octet}
use Rattle.creds.specs.Text.{HoldsText}

-- a text over zeros
pub HoldsText-over : (room : ℕ) (text : List ℕ) → length text ≤ room → IsAscii text
    → HoldsText room (text ++ drop (length text) (replicate room 0)) (length text)
HoldsText-over room text short ascii =
    let padding : List ℕ = replicate (room - length text) 0 in
    let size : length (text ++ padding) ≡ room = rw (length-append, length-replicate) (omega (arith, short)) in
    let front : take (length text) (text ++ padding) ≡ text = take-append_seam text padding in
    rw (drop-replicate {X = ℕ} (length text) room 0) (record { fits = short; size = size; padding = rw front refl; ascii = rw front ascii })

-- a text is ASCII if a test that ASCII octets alone pass holds of each octet
pub IsAscii-list_all : (p : ℕ → Bool) → ((b : ℕ) → p b ≡ true → b < 128) → (text : List ℕ) → list_all p text ≡ true → IsAscii text
IsAscii-list_all p small [] h = IsAscii-nil
IsAscii-list_all p small (b ∷ bs) h =
    let parts = and_parts (p b) (list_all p bs) h in
    IsAscii-cons b bs (small b parts.0) (IsAscii-list_all p small bs parts.1)

pub IsAscii-name : (text : List ℕ) → list_all is_name_octet text ≡ true → IsAscii text
IsAscii-name = IsAscii-list_all is_name_octet (λ b h. grind (arith, nat_tests))

pub IsAscii-deposit_id : (text : List ℕ) → list_all is_id_octet text ≡ true → IsAscii text
IsAscii-deposit_id = IsAscii-list_all is_id_octet (λ b h. grind (arith, nat_tests))

pub IsAscii-secret : (text : List ℕ) → list_all is_printable text ≡ true → IsAscii text
IsAscii-secret = IsAscii-list_all is_printable (λ b h. grind (arith, nat_tests))

pub IsAscii-host : (text : List ℕ) → list_all is_host_octet text ≡ true → IsAscii text
IsAscii-host = IsAscii-list_all is_host_octet (λ b h. grind (arith, nat_tests))
