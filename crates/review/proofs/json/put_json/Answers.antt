use Rattle.std.proofs.Common.{◌≡◌, codes, ℕ, List, subst}
use Rattle.std.specs.Prelude.{OnOk}
use Rattle.review.specs.Json.{json_of}
use Rattle.review.proofs.Pieces.{last, more}
use Rattle.review.proofs.json.put_json.Goals as goal

pub returns : goal.returns
unfolding json_of
returns c =
    let classes = more c.args.out.now.items _ _ c.in_ok-put.ensures c.in_ok-put_rest.ensures in
    let rules = more c.args.out.now.items _ _ (more c.args.out.now.items _ _ classes c.in_ok-put-2.ensures) c.in_ok-put_rest-2.ensures in
    let cells = more c.args.out.now.items _ _ (more c.args.out.now.items _ _ rules c.in_ok-put-3.ensures) c.in_ok-put_rest-3.ensures in
    subst (λ (text : List ℕ). OnOk c.put-4.result (c.put-4.new.out.items ≡ text))
    (last c.args.out.now.items _ (codes "]}\n") cells) c.put-4.ensures
