use Rattle.std.proofs.Common.{◌≡◌, sym, ◌∙◌, true, length, min, arith}
use Rattle.sqlite.specs.Held.{state}
use Rattle.vault.specs.Changes.{with_maildrop, with_maildrops, put_maildrop_answer}
use Rattle.vault.specs.Calls.{put_result}
use Rattle.mailsql.specs.Changes.{AddsMaildrop}
use Rattle.sqlvault.specs.Stands.{Holds}
use Rattle.sqlvault.proofs.MaildropLemmas.{may_add, full, was_there}
use Rattle.sqlvault.proofs.FrameLemmas.{looks_then, met_whole, learns_then, learns_whole, passed}
use Rattle.sqlvault.proofs.FrameLemmas.{learns_done, learns_met}
use Rattle.sqlvault.proofs.maildrops.add_maildrop.Goals as goal

pub returns-in_err-there : goal.returns-in_err-there
returns-in_err-there g c = rw (passed c.from_residual.ensures.1) (met_whole _ _ c.in_err-there.field-0.0 c.in_err-there.ensures.looks)

pub returns-then-there : goal.returns-then-there
returns-then-there g c = learns_whole _ _ c.in_ok-there.ensures
    (λ k there held. was_there (Holds (state g.S.Store c.has_maildrop.new.conn)) k c.args.name.now
    (sym there ∙ c.if-there.true) held)

pub returns-in_err-count : goal.returns-in_err-count
returns-in_err-count g c = rw (passed c.from_residual-in_err-count.ensures.1) (met_whole _ _ c.in_err-count.field-0.0
    (looks_then c.in_ok-there.ensures.looks c.in_err-count.ensures.looks))

pub returns-then-count-ge-MAX_MAILDROPS : goal.returns-then-count-ge-MAX_MAILDROPS
returns-then-count-ge-MAX_MAILDROPS g c =
    learns_whole _ _ (learns_then c.in_ok-there.ensures c.in_ok-count.ensures)
    (λ k told held. full (Holds (state g.S.Store c.maildrop_count.new.conn)) k c.args.name.now (sym told.0 ∙ c.if-there.false)
    (let count : c.in_ok-count.count ≡ min (length k.maildrops) 9223372036854775807 = told.1 in
    omega (arith, c.if-count-ge-MAX_MAILDROPS.true, count)) held)

pub returns : goal.returns
returns g c =
    let text = c.as_bytes.result.now in
    let name = c.args.name.now in
    learns_done (AddsMaildrop text) (λ k. with_maildrops (with_maildrop name k.maildrops) k)
    (λ k. put_result (put_maildrop_answer name k.maildrops)) true (learns_then c.in_ok-there.ensures c.in_ok-count.ensures) c.add_maildrop.ensures.survives
    (λ k told. may_add k text name c.as_bytes.ensures.value c.as_bytes.ensures.form (sym told.0 ∙ c.if-there.false)
    (let count : c.in_ok-count.count ≡ min (length k.maildrops) 9223372036854775807 = told.1 in
    omega (arith, c.if-count-ge-MAX_MAILDROPS.false, count)))
    c.in_ok-add_maildrop.ensures.ok

pub returns-in_err-add_maildrop : goal.returns-in_err-add_maildrop
returns-in_err-add_maildrop g c = rw (passed c.from_residual-in_err-add_maildrop.ensures.1)
    (learns_met (AddsMaildrop c.as_bytes.result.now) (λ k. with_maildrops (with_maildrop c.args.name.now k.maildrops) k)
    (λ k. put_result (put_maildrop_answer c.args.name.now k.maildrops)) true
    (learns_then c.in_ok-there.ensures c.in_ok-count.ensures) c.add_maildrop.ensures.survives
    (λ k told. may_add k c.as_bytes.result.now c.args.name.now c.as_bytes.ensures.value c.as_bytes.ensures.form
    (sym told.0 ∙ c.if-there.false) (let count : c.in_ok-count.count ≡ min (length k.maildrops) 9223372036854775807 = told.1 in
    omega (arith, c.if-count-ge-MAX_MAILDROPS.false, count)))
    c.in_err-add_maildrop.field-0.0 c.in_err-add_maildrop.ensures.err)
