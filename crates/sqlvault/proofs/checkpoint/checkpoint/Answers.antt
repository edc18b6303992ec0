use Rattle.std.proofs.Common.{◌≡◌, ◌∷◌, [], ◌++◌, sym, ap, subst, ◌∙◌, not, Ok}
use Rattle.std.specs.Prelude.{codes, filter}
use Rattle.vault.specs.Changes.{Contents}
use Rattle.mailsql.specs.Rows.{Rows, is_meta_row}
use Rattle.mailsql.specs.Changes.{PutsMetaRow}
use Rattle.sqlvault.specs.Keeps.{Keeps, our_meta_row}
use Rattle.sqlvault.proofs.HoldsLemmas.{met}
use Rattle.sqlvault.proofs.FrameLemmas.{passed, unbegun, concluded_looks, concluded_answer}
use Rattle.sqlvault.proofs.checkpoint.checkpoint.Goals as goal

-- a version row that is written anew is the one that was there
rewritten : (from to : Rows) → from.meta_rows ≡ our_meta_row ∷ [] → PutsMetaRow our_meta_row from to
    → to ≡ from
rewritten from to is put = put ∙ ap (λ ms. let w : Rows = record from { meta_rows = ms } in w)
    (ap (λ ms. filter (λ m. not (is_meta_row (codes "popbox") m)) ms ++ our_meta_row ∷ []) is
    ∙ sym is)

still_kept : (c : Contents) (from to : Rows) → Keeps from c → PutsMetaRow our_meta_row from to
    → Keeps to c
still_kept c from to keeps put =
    subst (λ rows. Keeps rows c) (sym (rewritten from to keeps.meta_row put)) keeps

pub returns-in_err-begin-clause-looks : goal.returns-in_err-begin-clause-looks
returns-in_err-begin-clause-looks g c = rw (passed c.from_residual.ensures.1) (unbegun c.in_err-begin.ensures)

pub returns-in_err-begin-clause-answer : goal.returns-in_err-begin-clause-answer
returns-in_err-begin-clause-answer g c = rw (passed c.from_residual.ensures.1) (met (Ok tt) c.in_err-begin.field-0.0)

pub returns-clause-looks : goal.returns-clause-looks
returns-clause-looks g c = concluded_looks c.rewrite_version-written.result c.conclude.result
    c.in_ok-begin.ensures c.rewrite_version-written.ensures still_kept c.conclude.ensures

pub returns-clause-answer : goal.returns-clause-answer
returns-clause-answer g c = concluded_answer c.rewrite_version-written.result c.conclude.result c.conclude.ensures
