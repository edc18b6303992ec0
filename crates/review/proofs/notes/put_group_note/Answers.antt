use Rattle.std.proofs.Common.{◌≡◌, ◌++◌, ℕ, List, codes, ap, subst, ◌∙◌}
use Rattle.std.specs.Prelude.{OnOk}
use Rattle.review.specs.Notes.{group_note, missing_words}
use Rattle.review.proofs.Pieces.{three}
use Rattle.review.proofs.notes.put_group_note.Goals as goal

pub returns : goal.returns
unfolding group_note
returns c =
    let first = c.put.new.out.items in
    let second : c.put-2.new.out.items ≡ first ++ c.args.group.now = c.in_ok-put-2.ensures ∙ ap (λ (t : List ℕ). first ++ t) c.as_bytes.ensures.value in
    subst (λ (text : List ℕ). OnOk c.put_missing.result (c.put_missing.new.out.items ≡ text))
    (three c.args.out.now.items first c.put-2.new.out.items (codes "note: group ") c.args.group.now (missing_words (codes "clerk") c.args.member.now) c.in_ok-put.ensures second)
    c.put_missing.ensures
