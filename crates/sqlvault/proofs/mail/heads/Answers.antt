use Rattle.std.proofs.Common.{◌≡◌, ◌==◌, length, sym, ◌∙◌, rules}
use Rattle.vault.specs.Changes.{kept_in}
use Rattle.vault.specs.Calls.{heads_result}
use Rattle.sqlvault.proofs.FrameLemmas.{passed}
use Rattle.sqlvault.proofs.HoldsLemmas.{met, same_so}
use Rattle.sqlvault.proofs.HeadLemmas.{no_mail, some_mail, shown_heads, there_by, unread_heads}
use Rattle.sqlvault.proofs.SeesLemmas.{sees_then, sees_said, sees_own}
use Rattle.sqlvault.proofs.TellsLemmas.{tells_then, tells_said}
use Rattle.sqlvault.proofs.mail.heads.Goals as goal

pub returns-then-is_empty-clause-sees : goal.returns-then-is_empty-clause-sees
returns-then-is_empty-clause-sees g c =
    let rows = c.in_ok-rows.rows.items in
    let empty : c.is_empty.result ≡ (length rows == 0) = search rules in
    sees_own (λ own. own)
    (λ k told. told.1 (no_mail rows (sym empty ∙ c.if-is_empty.true) told.0))
    (sees_then c.in_ok-rows.ensures.sees c.no_heads.ensures.sees)

pub returns-clause-sees : goal.returns-clause-sees
returns-clause-sees g c =
    let d = c.args.maildrop.now in
    let empty : c.is_empty.result ≡ (length c.in_ok-rows.rows.items == 0) = search rules in
    sees_said c.in_ok-rows.ensures.sees (λ k sound told. same_so (heads_result d k) _ (shown_heads d k c.in_ok-read_heads.field-0.items
    (there_by d k sound (some_mail c.in_ok-rows.rows.items (sym empty ∙ c.if-is_empty.false) told)) (c.in_ok-read_heads.ensures.items (kept_in d k.messages)
    (c.as_slice.ensures.value ∙ told.rows_are) told.classes told.keys)))

pub returns-in_err-read_heads-clause-sees : goal.returns-in_err-read_heads-clause-sees
returns-in_err-read_heads-clause-sees g c =
    sees_own (λ _. tt)
    (λ k told. unread_heads (λ v. v.items) c.args.maildrop.now k c.in_err-read_heads.field-0.0 c.from_residual-in_err-read_heads.result c.from_residual-in_err-read_heads.ensures.1)
    c.in_ok-rows.ensures.sees

pub returns-in_err-rows-clause-sees : goal.returns-in_err-rows-clause-sees
returns-in_err-rows-clause-sees g c = rw (passed c.from_residual.ensures.1) (sees_own (λ own. own)
    (λ k _. met (heads_result c.args.maildrop.now k) c.in_err-rows.field-0.0) c.in_err-rows.ensures.sees)

pub returns-then-is_empty-clause-beside : goal.returns-then-is_empty-clause-beside
returns-then-is_empty-clause-beside g c =
    let empty : c.is_empty.result ≡ (length c.in_ok-rows.rows.items == 0) = search rules in
    tells_said
    (tells_then c.in_ok-rows.ensures.sees c.in_ok-rows.ensures.beside c.no_heads.ensures.sees c.no_heads.ensures.beside)
    (λ k sound told. told.1 (no_mail c.in_ok-rows.rows.items (sym empty ∙ c.if-is_empty.true) told.0))

pub returns-clause-beside : goal.returns-clause-beside
returns-clause-beside g c =
    let d = c.args.maildrop.now in
    let empty : c.is_empty.result ≡ (length c.in_ok-rows.rows.items == 0) = search rules in
    tells_said c.in_ok-rows.ensures.beside
    (λ k sound told. same_so (heads_result d k) _ (shown_heads d k c.in_ok-read_heads.field-0.items
    (there_by d k sound (some_mail c.in_ok-rows.rows.items (sym empty ∙ c.if-is_empty.false) told))
    (c.in_ok-read_heads.ensures.items (kept_in d k.messages) (c.as_slice.ensures.value ∙ told.rows_are) told.classes told.keys)))

pub returns-in_err-read_heads-clause-beside : goal.returns-in_err-read_heads-clause-beside
returns-in_err-read_heads-clause-beside g c = tells_said c.in_ok-rows.ensures.beside
    (λ k sound told. unread_heads (λ v. v.items) c.args.maildrop.now k
    c.in_err-read_heads.field-0.0 c.from_residual-in_err-read_heads.result c.from_residual-in_err-read_heads.ensures.1)

pub returns-in_err-rows-clause-beside : goal.returns-in_err-rows-clause-beside
returns-in_err-rows-clause-beside g c = rw (passed c.from_residual.ensures.1) (tells_said c.in_err-rows.ensures.beside
    (λ k sound _. met (heads_result c.args.maildrop.now k) c.in_err-rows.field-0.0))
