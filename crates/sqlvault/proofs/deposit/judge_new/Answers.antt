use Rattle.std.proofs.Common.{lit≤, refl}
use Rattle.std.specs.Prelude.{nat_le}
use Rattle.vault.specs.Records.{receipts_of, class_count, most_messages, most_deposits}
use Rattle.vault.specs.Calls.{present_in}
use Rattle.sqlvault.proofs.FrameLemmas.{looks_then, passed}
use Rattle.sqlvault.proofs.HoldsLemmas.{met}
use Rattle.sqlvault.proofs.DepositLemmas.{full_of_messages, accepted_next, no_new}
use Rattle.sqlvault.proofs.deposit.judge_new.Goals as goal

pub returns-then-present-ge-MAX_MESSAGES-clause-answered : goal.returns-then-present-ge-MAX_MESSAGES-clause-answered
returns-then-present-ge-MAX_MESSAGES-clause-answered g c k text clean h =
    let d = c.args.maildrop.now in
    let class = c.args.class.now in
    full_of_messages class text _ (present_in d k) c.in_ok-present.present (present_in d k)
    9223372036854775807 most_messages
    (nat_le most_deposits (class_count class (receipts_of d k.deposits)))
    (c.in_ok-present.ensures.told clean k h tt).1 refl c.if-present-ge-MAX_MESSAGES.true

pub returns-clause-answered : goal.returns-clause-answered
returns-clause-answered g c k text clean h =
    let before = c.find_before.ensures.looks.clean clean in
    accepted_next c.args.class.now text (present_in c.args.maildrop.now k) c.in_ok-present.present (present_in c.args.maildrop.now k) 9223372036854775807
    c.in_ok-before.before (class_count c.args.class.now (receipts_of c.args.maildrop.now k.deposits)) most_messages
    most_deposits (c.in_ok-present.ensures.told before k h tt).1 refl c.if-present-ge-MAX_MESSAGES.false
    (lit≤ tt)
    (c.in_ok-before.ensures.answered k clean (c.in_ok-present.ensures.looks.rests before k h).held)
    c.if-before-ge-MAX_DEPOSITS.false

pub returns-in_err-present-clause-answered : goal.returns-in_err-present-clause-answered
returns-in_err-present-clause-answered g c = rw (passed c.from_residual.ensures.1) (λ held text clean1 h. met _ c.in_err-present.field-0.0)

pub returns-in_err-before-clause-answered : goal.returns-in_err-before-clause-answered
returns-in_err-before-clause-answered g c = rw (passed c.from_residual-in_err-before.ensures.1) (λ held text clean2 h. met _ c.in_err-before.field-0.0)

pub returns-in_err-present-clause-within : goal.returns-in_err-present-clause-within
returns-in_err-present-clause-within g c = rw (passed c.from_residual.ensures.1) (λ u is. absurd (no_new _ u is))

pub returns-in_err-before-clause-within : goal.returns-in_err-before-clause-within
returns-in_err-before-clause-within g c = rw (passed c.from_residual-in_err-before.ensures.1) (λ u is. absurd (no_new _ u is))

pub returns-then-present-ge-MAX_MESSAGES-clause-within : goal.returns-then-present-ge-MAX_MESSAGES-clause-within
returns-then-present-ge-MAX_MESSAGES-clause-within g c u is = absurd (no_new _ u is)

pub returns-then-before-ge-MAX_DEPOSITS-clause-within : goal.returns-then-before-ge-MAX_DEPOSITS-clause-within
returns-then-before-ge-MAX_DEPOSITS-clause-within g c u is = absurd (no_new _ u is)

pub returns-in_err-present-clause-looks : goal.returns-in_err-present-clause-looks
returns-in_err-present-clause-looks g c = rw (passed c.from_residual.ensures.1) (c.in_err-present.ensures.looks)

pub returns-then-present-ge-MAX_MESSAGES-clause-looks :
    goal.returns-then-present-ge-MAX_MESSAGES-clause-looks
returns-then-present-ge-MAX_MESSAGES-clause-looks g c = c.in_ok-present.ensures.looks

pub returns-in_err-before-clause-looks : goal.returns-in_err-before-clause-looks
returns-in_err-before-clause-looks g c = rw (passed c.from_residual-in_err-before.ensures.1) (looks_then c.in_ok-present.ensures.looks c.in_err-before.ensures.looks)

pub returns-then-before-ge-MAX_DEPOSITS-clause-looks :
    goal.returns-then-before-ge-MAX_DEPOSITS-clause-looks
returns-then-before-ge-MAX_DEPOSITS-clause-looks g c =
    looks_then c.in_ok-present.ensures.looks c.in_ok-before.ensures.looks

pub returns-clause-looks : goal.returns-clause-looks
returns-clause-looks g c = looks_then c.in_ok-present.ensures.looks c.in_ok-before.ensures.looks
