use Rattle.std.proofs.Common.{sym, ◌∙◌}
use Rattle.sqlvault.proofs.FrameLemmas.{asked, failed, looks_then, passed}
use Rattle.sqlite.specs.Held.{state}
use Rattle.sqlite.specs.State.{HasCleanDisk}
use Rattle.mailsql.specs.Rows.{rows_in}
use Rattle.sqlvault.specs.Refusals.{answer_of}
use Rattle.sqlvault.proofs.HoldsLemmas.{seen, holds_unchanged, met}
use Rattle.sqlvault.proofs.DepositLemmas.{used, unused, judged_known, judged_unknown}
use Rattle.sqlvault.proofs.DepositLemmas.{judged_missing, no_new}
use Rattle.sqlvault.proofs.StayLemmas.{clean_before}
use Rattle.sqlvault.proofs.deposit.judge.Goals as goal

pub returns-in-Some-clause-answered : goal.returns-in-Some-clause-answered
returns-in-Some-clause-answered g c k text clean2 h digest =
    let s1 = state g.S.Store c.has_maildrop.new.conn in
    let s2 = state g.S.Store c.find_deposit.new.conn in
    let d = c.args.maildrop.now in
    let clean1 : HasCleanDisk s1 = clean_before s1 s2 c.find_deposit.ensures.survives.clean clean2 in
    let h1 = (c.in_ok-there.ensures.looks.rests clean1 k h).held in
    let there = sym (c.in_ok-there.ensures.told clean1 k h tt).1 ∙ c.if-not-there.false in
    let found = rw c.in-Some.is at (c.in_ok-used.ensures.ok clean2 h1.tables) in
    let kept1 = seen s1 s2 k (c.in_ok-used.ensures.same clean2 h1.tables) h1 in
    let r = used (rows_in s1.now.trees) k c.as_bytes.result.now d c.as_bytes-2.result.now c.args.id.now c.in-Some.row kept1 c.as_bytes.ensures.value c.as_bytes-2.ensures.value found in
    judged_known k d c.args.class.now c.args.id.now text r.0 (answer_of c.known_or_conflict.result) there r.1 (c.known_or_conflict.ensures.answered r.0 text r.2 digest)

pub returns-in-None-clause-answered : goal.returns-in-None-clause-answered
returns-in-None-clause-answered g c k text clean3 h digest =
    let s1 = state g.S.Store c.has_maildrop.new.conn in
    let s2 = state g.S.Store c.find_deposit.new.conn in
    let d = c.args.maildrop.now in
    let clean2 = c.judge_new.ensures.looks.clean clean3 in
    let clean1 : HasCleanDisk s1 = clean_before s1 s2 c.find_deposit.ensures.survives.clean clean2 in
    let h1 = (c.in_ok-there.ensures.looks.rests clean1 k h).held in
    let there = sym (c.in_ok-there.ensures.told clean1 k h tt).1 ∙ c.if-not-there.false in
    let found = rw c.in-None.is at (c.in_ok-used.ensures.ok clean2 h1.tables) in
    let same1 = c.in_ok-used.ensures.same clean2 h1.tables in
    let none = unused (rows_in s1.now.trees) k c.as_bytes.result.now d c.as_bytes-2.result.now c.args.id.now (seen s1 s2 k same1 h1) c.as_bytes.ensures.value c.as_bytes-2.ensures.value found in
    judged_unknown k d c.args.class.now c.args.id.now text (answer_of c.judge_new.result) there none (c.judge_new.ensures.answered k text clean3 (holds_unchanged s1 s2 k same1 h1))

pub returns-then-not-there-clause-answered : goal.returns-then-not-there-clause-answered
returns-then-not-there-clause-answered g c k text clean h digest =
    judged_missing k c.args.maildrop.now c.args.class.now c.args.id.now text
    (sym (c.in_ok-there.ensures.told clean k h tt).1 ∙ c.if-not-there.true)

pub returns-in_err-there-clause-answered : goal.returns-in_err-there-clause-answered
returns-in_err-there-clause-answered g c = rw (passed c.from_residual.ensures.1) (λ held text clean1 h d. met _ c.in_err-there.field-0.0)

pub returns-in_err-used-clause-answered : goal.returns-in_err-used-clause-answered
returns-in_err-used-clause-answered g c = rw (passed c.from_residual-in_err-used.ensures.1) (λ held text clean2 h d. met _ c.in_err-used.field-0.0)

pub returns-in-None-clause-within : goal.returns-in-None-clause-within
returns-in-None-clause-within g c u is = c.judge_new.ensures.within u is

pub returns-in_err-there-clause-within : goal.returns-in_err-there-clause-within
returns-in_err-there-clause-within g c = rw (passed c.from_residual.ensures.1) (λ u is. absurd (no_new _ u is))

pub returns-in_err-used-clause-within : goal.returns-in_err-used-clause-within
returns-in_err-used-clause-within g c = rw (passed c.from_residual-in_err-used.ensures.1) (λ u is. absurd (no_new _ u is))

pub returns-then-not-there-clause-within : goal.returns-then-not-there-clause-within
returns-then-not-there-clause-within g c u is = absurd (no_new _ u is)

pub returns-in-Some-clause-within : goal.returns-in-Some-clause-within
returns-in-Some-clause-within g c u is = absurd (c.known_or_conflict.ensures.old u is)

pub returns-in_err-there-clause-looks : goal.returns-in_err-there-clause-looks
returns-in_err-there-clause-looks g c = rw (passed c.from_residual.ensures.1) (c.in_err-there.ensures.looks)

pub returns-then-not-there-clause-looks : goal.returns-then-not-there-clause-looks
returns-then-not-there-clause-looks g c = c.in_ok-there.ensures.looks

pub returns-in_err-used-clause-looks : goal.returns-in_err-used-clause-looks
returns-in_err-used-clause-looks g c = rw (passed c.from_residual-in_err-used.ensures.1)
    (looks_then c.in_ok-there.ensures.looks (failed g.S.Store c.has_maildrop.new.conn c.find_deposit.new.conn
    c.in_err-used.ensures.err c.find_deposit.ensures.survives))

pub returns-in-Some-clause-looks : goal.returns-in-Some-clause-looks
returns-in-Some-clause-looks g c =
    looks_then c.in_ok-there.ensures.looks (asked g.S.Store c.has_maildrop.new.conn c.find_deposit.new.conn
    c.in_ok-used.ensures.same c.find_deposit.ensures.survives)

pub returns-in-None-clause-looks : goal.returns-in-None-clause-looks
returns-in-None-clause-looks g c =
    looks_then c.in_ok-there.ensures.looks (looks_then
    (asked g.S.Store c.has_maildrop.new.conn c.find_deposit.new.conn c.in_ok-used.ensures.same
    c.find_deposit.ensures.survives) c.judge_new.ensures.looks)
