use Rattle.std.proofs.Common.{◌≡◌, List, ℕ, None, Result, Ok, Err}
use Rattle.std.proofs.lemmas.Fmt.{IsAscii-from_digits}
use Rattle.std.proofs.lemmas.Str.{IsUtf8-from_ascii}
use Rattle.std.specs.Prelude.{MatchResult}
use Rattle.std.specs.Result.{result_ok}
use Rattle.std.specs.Str.{IsUtf8}
use Rattle.std.specs.Str.Parse.{IsNumeral}
use Rattle.office.proofs.numbers.parse_number.Goals as goal

-- digits are text
numeral_is_text : (bs : List ℕ) → IsNumeral 10 bs → IsUtf8 bs
numeral_is_text bs h = IsUtf8-from_ascii bs (IsAscii-from_digits bs h.1)

-- what a refusal says, if nothing was read
refused : {T E : Type 0} (r : Result T E) (P : T → Type 0) (Q : E → Type 0) (U : Type 0) → None ≡ result_ok r → MatchResult r P (λ e. ¬ U × Q e) → ¬ U
refused (Ok x) P Q U e h = cc
refused (Err e) P Q U _ h = h.0

pub returns-in_err-ok : goal.returns-in_err-ok
returns-in_err-ok c =
    rw c.from_residual.ensures (λ h. refused _ _ _ _ c.in_err-ok.ensures.value c.from_utf8.ensures.cases (numeral_is_text _ h.0))
