use Rattle.std.proofs.Common.{◌≡◌, codes, ℕ, List, subst}
use Rattle.std.specs.Prelude.{OnOk}
use Rattle.review.specs.Json.{numbers_text}
use Rattle.review.proofs.Pieces.{last, more}
use Rattle.review.proofs.json.put_numbers.Goals as goal

pub returns : goal.returns
unfolding numbers_text
returns c =
    let read = more _ _ _ (more _ _ _ c.in_ok-put_open_numbers.ensures c.in_ok-put.ensures) c.in_ok-put_numbers_list.ensures in
    let removed = more _ _ _ (more _ _ _ read c.in_ok-put-2.ensures) c.in_ok-put_numbers_list-2.ensures in
    subst (λ (text : List ℕ). OnOk c.put-3.result (c.put-3.new.out.items ≡ text))
    (last _ _ (codes "]}") removed) c.put-3.ensures
