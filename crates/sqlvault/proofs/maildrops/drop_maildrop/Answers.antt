use Rattle.std.proofs.Common.{◌≡◌, sym, ◌∙◌, min, arith}
use Rattle.sqlite.specs.Held.{state}
use Rattle.vault.specs.Records.{is_one_of}
use Rattle.vault.specs.Changes.{without_maildrop, with_maildrops, drop_answer}
use Rattle.vault.specs.Calls.{drop_result, present_in}
use Rattle.mailsql.specs.Changes.{DropsMaildrop}
use Rattle.sqlvault.specs.Stands.{Holds}
use Rattle.sqlvault.proofs.MaildropLemmas.{may_drop, not_empty, missing}
use Rattle.sqlvault.proofs.FrameLemmas.{looks_then, met_whole, learns_then, learns_whole, passed}
use Rattle.sqlvault.proofs.FrameLemmas.{learns_done, learns_met}
use Rattle.sqlvault.proofs.maildrops.drop_maildrop.Goals as goal

pub returns-in_err-there : goal.returns-in_err-there
returns-in_err-there g c = rw (passed c.from_residual.ensures.1) (met_whole _ _ c.in_err-there.field-0.0 c.in_err-there.ensures.looks)

pub returns-then-not-there : goal.returns-then-not-there
returns-then-not-there g c = learns_whole _ _ c.in_ok-there.ensures
    (λ k there held. missing (Holds (state g.S.Store c.has_maildrop.new.conn)) k c.args.name.now
    (sym there ∙ c.if-not-there.true) held)

pub returns-in_err-count : goal.returns-in_err-count
returns-in_err-count g c = rw (passed c.from_residual-in_err-count.ensures.1) (met_whole _ _ c.in_err-count.field-0.0
    (looks_then c.in_ok-there.ensures.looks c.in_err-count.ensures.looks))

pub returns-then-count-gt0 : goal.returns-then-count-gt0
returns-then-count-gt0 g c = learns_whole _ _ (learns_then c.in_ok-there.ensures c.in_ok-count.ensures)
    (λ k told held. not_empty (Holds (state g.S.Store c.message_count.new.conn)) k c.args.name.now (sym told.0 ∙ c.if-not-there.false)
    (let count : c.in_ok-count.count ≡ min (present_in c.args.name.now k) 9223372036854775807 = told.1 in
    omega (arith, c.if-count-gt0.true, count)) held)

pub returns : goal.returns
returns g c =
    let text = c.as_bytes.result.now in
    let d = c.args.name.now in
    learns_done (DropsMaildrop text) (λ k. with_maildrops (without_maildrop d k.maildrops) k) (λ k. drop_result (drop_answer (is_one_of d k.maildrops) (present_in d k))) tt
    (learns_then c.in_ok-there.ensures c.in_ok-count.ensures) c.drop_maildrop.ensures.survives
    (λ k told. may_drop k text d c.as_bytes.ensures.value (sym told.0 ∙ c.if-not-there.false) (let count : c.in_ok-count.count ≡ min (present_in d k) 9223372036854775807 = told.1 in
    omega (arith, c.if-count-gt0.false, count)))
    c.in_ok-drop_maildrop.ensures.ok

pub returns-in_err-drop_maildrop : goal.returns-in_err-drop_maildrop
returns-in_err-drop_maildrop g c = rw (passed c.from_residual-in_err-drop_maildrop.ensures.1) (let d = c.args.name.now in
    learns_met (DropsMaildrop c.as_bytes.result.now) (λ k. with_maildrops (without_maildrop d k.maildrops) k)
    (λ k. drop_result (drop_answer (is_one_of d k.maildrops) (present_in d k))) tt (learns_then c.in_ok-there.ensures c.in_ok-count.ensures) c.drop_maildrop.ensures.survives
    (λ k told. may_drop k c.as_bytes.result.now d c.as_bytes.ensures.value
    (sym told.0 ∙ c.if-not-there.false)
    (let count : c.in_ok-count.count ≡ min (present_in d k) 9223372036854775807 = told.1 in
    omega (arith, c.if-count-gt0.false, count)))
    c.in_err-drop_maildrop.field-0.0 c.in_err-drop_maildrop.ensures.err)
