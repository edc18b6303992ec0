use Rattle.std.proofs.Common.{sym, ◌∙◌, subst}
use Rattle.sqlite.specs.Held.{state}
use Rattle.sqlite.specs.State.{HasCleanDisk}
use Rattle.mailsql.specs.Rows.{rows_in}
use Rattle.creds.specs.declared.uid.Uid.{Uid}
use Rattle.sqlvault.specs.Arrivals.{AcceptsAny}
use Rattle.sqlvault.proofs.HoldsLemmas.{seen, holds_unchanged}
use Rattle.sqlvault.proofs.DepositLemmas.{unused}
use Rattle.sqlvault.proofs.SmallLemmas.{none_of}
use Rattle.sqlvault.proofs.StayLemmas.{clean_before}
use Rattle.sqlvault.proofs.FrameLemmas.{asked, failed, looks_then, passed}
use Rattle.sqlvault.proofs.ComingLemmas.{judged_any, same_uid}
use Rattle.sqlvault.proofs.coming.judge.Goals as goal

pub returns-in_err-there-clause-looks : goal.returns-in_err-there-clause-looks
returns-in_err-there-clause-looks g c = rw (passed c.from_residual.ensures.1) c.in_err-there.ensures.looks

pub returns-in_err-used-clause-looks : goal.returns-in_err-used-clause-looks
returns-in_err-used-clause-looks g c = rw (passed c.from_residual-in_err-used.ensures.1)
    (looks_then c.in_ok-there.ensures.looks (failed g.S.Store c.has_maildrop.new.conn c.find_deposit.new.conn
    c.in_err-used.ensures.err c.find_deposit.ensures.survives))

pub returns-in-Ok-New-clause-accepted : goal.returns-in-Ok-New-clause-accepted
returns-in-Ok-New-clause-accepted g c k u clean3 h is =
    let s1 = state g.S.Store c.has_maildrop.new.conn in
    let s2 = state g.S.Store c.find_deposit.new.conn in
    let d = c.args.maildrop.now in
    let clean2 = c.judge_new.ensures.looks.clean clean3 in
    let clean1 : HasCleanDisk s1 = clean_before s1 s2 c.find_deposit.ensures.survives.clean clean2 in
    let h1 = (c.in_ok-there.ensures.looks.rests clean1 k h).held in
    let there = sym (c.in_ok-there.ensures.told clean1 k h tt).1 ∙ c.if-not-there.false in
    let found = rw (none_of _ (sym c.is_some.ensures ∙ c.if-is_some.false)) at (c.in_ok-used.ensures.ok clean2 h1.tables) in
    let same1 = c.in_ok-used.ensures.same clean2 h1.tables in
    let none = unused (rows_in s1.now.trees) k c.as_bytes.result.now d c.as_bytes-2.result.now c.args.id.now (seen s1 s2 k same1 h1) c.as_bytes.ensures.value c.as_bytes-2.ensures.value found in
    subst (λ (x : Uid). AcceptsAny k d c.args.class.now c.args.id.now x) (same_uid c.in-Ok-New.uid u is)
    (judged_any k d c.args.class.now c.args.id.now c.in-Ok-New.uid there none
    (λ text. rw c.in-Ok-New.field-0-is at (c.in-Ok-New.ensures.answered k text clean3 (holds_unchanged s1 s2 k same1 h1))))

pub returns-in-Ok-New-clause-looks : goal.returns-in-Ok-New-clause-looks
returns-in-Ok-New-clause-looks g c = looks_then c.in_ok-there.ensures.looks (looks_then (asked g.S.Store c.has_maildrop.new.conn c.find_deposit.new.conn c.in_ok-used.ensures.same
    c.find_deposit.ensures.survives) c.in-Ok-New.ensures.looks)

pub returns-in-Ok-Known-clause-looks : goal.returns-in-Ok-Known-clause-looks
returns-in-Ok-Known-clause-looks g c = looks_then c.in_ok-there.ensures.looks (looks_then (asked g.S.Store c.has_maildrop.new.conn c.find_deposit.new.conn c.in_ok-used.ensures.same
    c.find_deposit.ensures.survives) c.in-Ok-Known.ensures.looks)

pub returns-in-Err-Answered-clause-looks : goal.returns-in-Err-Answered-clause-looks
returns-in-Err-Answered-clause-looks g c = looks_then c.in_ok-there.ensures.looks (looks_then (asked g.S.Store c.has_maildrop.new.conn c.find_deposit.new.conn c.in_ok-used.ensures.same
    c.find_deposit.ensures.survives) (rw c.in-Err-Answered.field-0-is at c.in-Err-Answered.ensures.looks))

pub returns-clause-looks : goal.returns-clause-looks
returns-clause-looks g c =
    looks_then c.in_ok-there.ensures.looks (looks_then
    (asked g.S.Store c.has_maildrop.new.conn c.find_deposit.new.conn c.in_ok-used.ensures.same
    c.find_deposit.ensures.survives) (rw c.in-Err-Met.field-0-is at c.in-Err-Met.ensures.looks))
