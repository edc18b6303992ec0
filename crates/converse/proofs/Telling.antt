-- What a loop that prints has printed, and what it has still to print.
use Rattle.std.proofs.Common.{◌≡◌, ℕ, ◌+◌, ◌<◌, ◌==◌, Bool, List, [], ◌∷◌, ◌++◌, Option, length, drop, get_or, subst, ap, ◌∙◌, sym, append_assoc, if◌then◌else◌}
use Rattle.std.proofs.lemmas.List.{drop_more}
use Rattle.std.proofs.KnownBytes.{Appends-trans}
use Rattle.std.specs.Io.KnownBytes.{Appends}
use Rattle.converse.specs.Told.{led_by}

-- some text was printed, and it is the whole if the rest follows
pub record Told (before now : Option (List ℕ)) (rest whole : List ℕ) : Type 0 where
  pub text : List ℕ
  pub appended : Appends before now text
  pub joined : text ++ rest ≡ whole

-- some of the rest was printed
pub told_more : (a b c : Option (List ℕ)) (more rest whole : List ℕ) → Told a b (more ++ rest) whole → Appends b c more → Told a c rest whole
told_more a b c more rest whole t h =
    record { text = t.text ++ more; appended = Appends-trans a b c t.text more t.appended h; joined = append_assoc t.text more rest ∙ t.joined }

-- one octet of what is led by words
pub led_next : (word : List ℕ) (at_start : Bool) (octets : List ℕ) (i : ℕ) → i < length octets
    → led_by word at_start (drop i octets) ≡ (if at_start then word else []) ++ (get_or octets i 0 ∷ []) ++ led_by word (get_or octets i 0 == 10) (drop (i + 1) octets)
led_next word at_start octets i lt =
    ap (led_by word at_start) (drop_more octets i 0 lt) ∙ sym (append_assoc (if at_start then word else []) (get_or octets i 0 ∷ []) (led_by word (get_or octets i 0 == 10) (drop (i + 1) octets)))

-- that octet was printed
pub told_octet : (word : List ℕ) (a b c : Option (List ℕ)) (at_start : Bool) (octets : List ℕ) (i : ℕ) (whole : List ℕ) → i < length octets
    → Told a b (led_by word at_start (drop i octets)) whole → Appends b c ((if at_start then word else []) ++ get_or octets i 0 ∷ [])
    → Told a c (led_by word (get_or octets i 0 == 10) (drop (i + 1) octets)) whole
told_octet word a b c at_start octets i whole lt t h =
    told_more a b c ((if at_start then word else []) ++ get_or octets i 0 ∷ []) (led_by word (get_or octets i 0 == 10) (drop (i + 1) octets)) whole
    (subst (λ rest. Told a b rest whole) (led_next word at_start octets i lt) t) h
