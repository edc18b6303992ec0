use Rattle.std.proofs.Common.{◌≡◌, codes, ℕ, List, subst}
use Rattle.std.specs.Prelude.{OnOk}
use Rattle.review.specs.Page.{about_cells}
use Rattle.review.proofs.Pieces.{last, more}
use Rattle.review.proofs.page.put_about.Goals as goal

pub returns : goal.returns
unfolding about_cells
returns c =
    let effect = more c.args.out.now.items _ _ c.in_ok-put.ensures c.in_ok-put_effect.ensures in
    let clerk = more c.args.out.now.items _ _ (more c.args.out.now.items _ _ effect c.in_ok-put-2.ensures) c.in_ok-put_clerks_of_rule.ensures in
    let maildrop = more c.args.out.now.items _ _ (more c.args.out.now.items _ _ clerk c.in_ok-put-3.ensures) c.in_ok-put_pattern.ensures in
    let class = more c.args.out.now.items _ _ (more c.args.out.now.items _ _ maildrop c.in_ok-put-4.ensures) c.in_ok-put_pattern-2.ensures in
    let actions = more c.args.out.now.items _ _ (more c.args.out.now.items _ _ class c.in_ok-put-5.ensures) c.in_ok-put_actions.ensures in
    subst (λ (text : List ℕ). OnOk c.put-6.result (c.put-6.new.out.items ≡ text))
    (last c.args.out.now.items _ (codes "</td></tr>\n") actions) c.put-6.ensures
