-- The line of a body that is one line.
use Rattle.std.proofs.Common.{◌≡◌, ℕ, ◌-◌, List, ◌++◌, codes, length, take, arith, ap, ◌∙◌, length-append}
use Rattle.std.proofs.Math.Seq.{take-append_seam}
use Rattle.office.specs.Answers.{body_line}
use Rattle.adminhttp.specs.Contents.{without_lf}

pub one_line : (text : List ℕ) → without_lf (body_line text) ≡ text
one_line text =
    let n : length (text ++ codes "\n") - 1 ≡ length text = rw length-append (omega arith) in
    ap (λ (k : ℕ). take k (text ++ codes "\n")) n ∙ take-append_seam text (codes "\n")
