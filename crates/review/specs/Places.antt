-- Texts that are made rule by rule.
use Rattle.std.specs.Prelude.{ℕ, zero, suc, List, [], ◌++◌, length, Option, Some, None, slice_get}
use Rattle.policy.specs.declared.rule.Rule.{Rule}

-- the text at a place, by the place and the rule there
abbrev pub text_at : (text : ℕ → Rule → List ℕ) → (n : ℕ) → Option Rule → List ℕ
text_at text n None = []
text_at text n (Some r) = text n r

-- the texts of the first n rules
abbrev pub texts_of : (text : ℕ → Rule → List ℕ) → List Rule → (n : ℕ) → List ℕ
texts_of text rules zero = []
texts_of text rules (suc n) = texts_of text rules n ++ text_at text n (slice_get rules n)

-- the texts of all rules, in order
abbrev pub text_by_rule : (text : ℕ → Rule → List ℕ) → List Rule → List ℕ
text_by_rule text rules = texts_of text rules (length rules)
