use Rattle.std.proofs.Common.{◌≡◌, true, min, length, sym, ap, ◌∙◌, arith}
use Rattle.std.specs.Prelude.{is_some}
use Rattle.vault.specs.Records.{credential_in, most_clerks}
use Rattle.vault.specs.Changes.{put_answer}
use Rattle.vault.specs.Calls.{put_result}
use Rattle.sqlvault.proofs.HoldsLemmas.{met}
use Rattle.sqlvault.proofs.ClerkLemmas.{full, new}
use Rattle.sqlvault.proofs.FrameLemmas.{looks_then, learns_then, passed}
use Rattle.sqlvault.proofs.clerks.judge_clerk.Goals as goal

pub returns-then-count-ge-MAX_CLERKS-clause-judged : goal.returns-then-count-ge-MAX_CLERKS-clause-judged
returns-then-count-ge-MAX_CLERKS-clause-judged g c k clean h =
    let told = ((learns_then c.in_ok-there.ensures c.in_ok-count.ensures).told clean k h tt).1 in
    let count : c.in_ok-count.count ≡ min (length k.clerks) 9223372036854775807 = told.1 in
    full k c.args.clerk.now (sym told.0 ∙ c.if-there.false)
    (omega (arith, c.if-count-ge-MAX_CLERKS.true, count))

pub returns-clause-judged : goal.returns-clause-judged
returns-clause-judged g c k clean h =
    let told = ((learns_then c.in_ok-there.ensures c.in_ok-count.ensures).told clean k h tt).1 in
    let count : c.in_ok-count.count ≡ min (length k.clerks) 9223372036854775807 = told.1 in
    new k c.args.clerk.now (sym told.0 ∙ c.if-there.false)
    (omega (arith, c.if-count-ge-MAX_CLERKS.false, count))

pub returns-then-there-clause-judged : goal.returns-then-there-clause-judged
returns-then-there-clause-judged g c k clean h =
    let there : is_some (credential_in c.args.clerk.now k.clerks) ≡ true =
    sym (c.in_ok-there.ensures.told clean k h tt).1 ∙ c.if-there.true in
    ap (λ b. put_result (put_answer b (length k.clerks) most_clerks)) there

pub returns-in_err-there-clause-judged : goal.returns-in_err-there-clause-judged
returns-in_err-there-clause-judged g c = rw (passed c.from_residual.ensures.1) (λ held clean1 h. met _ c.in_err-there.field-0.0)

pub returns-in_err-count-clause-judged : goal.returns-in_err-count-clause-judged
returns-in_err-count-clause-judged g c = rw (passed c.from_residual-in_err-count.ensures.1) (λ held clean2 h. met _ c.in_err-count.field-0.0)

pub returns-then-there-clause-looks : goal.returns-then-there-clause-looks
returns-then-there-clause-looks g c = c.in_ok-there.ensures.looks

pub returns-in_err-there-clause-looks : goal.returns-in_err-there-clause-looks
returns-in_err-there-clause-looks g c = rw (passed c.from_residual.ensures.1) (c.in_err-there.ensures.looks)

pub returns-then-count-ge-MAX_CLERKS-clause-looks : goal.returns-then-count-ge-MAX_CLERKS-clause-looks
returns-then-count-ge-MAX_CLERKS-clause-looks g c = looks_then c.in_ok-there.ensures.looks c.in_ok-count.ensures.looks

pub returns-clause-looks : goal.returns-clause-looks
returns-clause-looks g c = looks_then c.in_ok-there.ensures.looks c.in_ok-count.ensures.looks

pub returns-in_err-count-clause-looks : goal.returns-in_err-count-clause-looks
returns-in_err-count-clause-looks g c = rw (passed c.from_residual-in_err-count.ensures.1) (looks_then c.in_ok-there.ensures.looks c.in_err-count.ensures.looks)
