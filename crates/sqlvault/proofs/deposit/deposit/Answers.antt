use Rattle.std.proofs.Common.{◌≡◌, List, ℕ, length, ap, sym, ◌∙◌, Ok, Err}
use Rattle.creds.specs.Digests.{text_digest}
use Rattle.sqlite.specs.Held.{state}
use Rattle.sqlite.specs.State.{HasCleanDisk}
use Rattle.vault.specs.declared.answer.Deposited.{Deposited}
use Rattle.vault.specs.declared.answer.Deposited.TheVariants as stored
use Rattle.vault.specs.Changes.{Contents, receipt_for}
use Rattle.vault.specs.Calls.{IsDeposited, deposit_result, deposit_answer_in}
use Rattle.sqlvault.specs.Deposits.{Accepts, IsStored}
use Rattle.sqlvault.specs.Refusals.{told}
use Rattle.sqlvault.specs.Stands.{Holds}
use Rattle.sqlvault.proofs.deposit.KeptLemmas.{accepts, receipt_made, deposited, undeposited}
use Rattle.sqlvault.proofs.SeesLemmas.{own_met}
use Rattle.sqlvault.proofs.FrameLemmas.{passed, looks_whole, rests_turns}
use Rattle.sqlvault.proofs.StopLemmas.{refusal_not_own}
use Rattle.sqlvault.proofs.deposit.deposit.Given.{Over}
use Rattle.sqlvault.proofs.deposit.deposit.Goals.{After-judge, After-store}
use Rattle.sqlvault.proofs.deposit.deposit.Goals as goal

-- ---- what several exits know

digest_is : (g : Over) (c : After-judge g) → c.text_digest-digest.result ≡ text_digest c.args.text.now
digest_is g c = c.text_digest-digest.ensures ∙ ap text_digest c.bytes.ensures.value

-- the receipt is that of this deposit
receipt_is : (g : Over) (c : After-store g) → c.text_digest-digest.result ≡ text_digest c.args.text.now
    → c.receipt_for-receipt.result ≡ receipt_for c.args.maildrop.now c.args.class.now c.args.id.now c.args.text.now c.in-New.uid.k
receipt_is g c digest =
    receipt_made c.receipt_for-receipt.result c.args.maildrop.now c.args.class.now c.args.id.now c.args.text.now c.in-New.uid.k
    c.text_digest-digest.result c.receipt_for-receipt.ensures.value digest

-- the deposit is answered as a new one
is_new : (g : Over) (c : After-store g) → c.text_digest-digest.result ≡ text_digest c.args.text.now
    → (k : Contents) → HasCleanDisk (state g.S.Store c.judge.new.conn) → Holds (state g.S.Store c.args.conn.now) k
    → deposit_result (deposit_answer_in k c.args.maildrop.now c.args.class.now c.args.id.now c.args.text.now) ≡ Ok (stored.New c.in-New.uid)
is_new g c digest k clean h = rw c.in-New.is at (c.in_ok-answer.ensures.answered k c.args.text.now clean h digest)

-- so the store may keep it
accepted : (g : Over) (c : After-store g) → c.text_digest-digest.result ≡ text_digest c.args.text.now
    → (k : Contents) → HasCleanDisk (state g.S.Store c.judge.new.conn) → Holds (state g.S.Store c.args.conn.now) k
    → Accepts k c.receipt_for-receipt.result c.args.text.now
accepted g c digest k clean h =
    let f = c.receipt_for-receipt.ensures in
    accepts k c.args.maildrop.now c.args.class.now c.args.id.now c.args.text.now c.in-New.uid c.receipt_for-receipt.result
    (receipt_is g c digest) f.maildrop_form f.id_form f.class_form c.bytes.ensures.kept
    (ap (λ (x : List ℕ). length x) (sym digest) ∙ f.sized) (is_new g c digest k clean h)

-- and is deposited once it is kept
made_new : (g : Over) (c : After-store g) → c.text_digest-digest.result ≡ text_digest c.args.text.now
    → (k : Contents) → HasCleanDisk (state g.S.Store c.judge.new.conn) → Holds (state g.S.Store c.args.conn.now) k
    → (Held : Contents → Type 0) → IsStored c.receipt_for-receipt.result c.args.text.now k Held
    → IsDeposited Held k c.args.maildrop.now c.args.class.now c.args.id.now c.args.text.now (Ok (stored.New c.in-New.uid))
made_new g c digest k clean h Held put =
    deposited Held k c.args.maildrop.now c.args.class.now c.args.id.now c.args.text.now c.in-New.uid c.receipt_for-receipt.result
    (receipt_is g c digest) (is_new g c digest k clean h) put

-- ---- each exit

pub returns : goal.returns
returns g c =
    let it = goal.at.returns g c in
    let digest = digest_is g it.After-judge in
    record {
      clean = λ clean. c.judge.ensures.looks.clean (c.store.ensures.clean clean);
      turns = λ clean k h.
          let before = c.store.ensures.clean clean in
          let judged = c.in_ok-answer.ensures.looks.rests before k h in
          let made = made_new g it.After-store digest k before h in
          rests_turns (λ Held. IsDeposited Held k c.args.maildrop.now c.args.class.now c.args.id.now c.args.text.now (Ok (stored.New c.in-New.uid)))
          (λ Held. (x : Deposited) × IsDeposited Held k c.args.maildrop.now c.args.class.now c.args.id.now c.args.text.now (Ok x)) k judged
          (c.in_ok-store.ensures.stored k clean judged.held (accepted g it.After-store digest k before h))
          (λ Held put. made Held put) (λ Held put. (stored.New c.in-New.uid, made Held put)) (λ _. tt);
    }

pub returns-in_err-store : goal.returns-in_err-store
returns-in_err-store g c = rw (passed c.from_residual-in_err-store.ensures.1) (let it = goal.at.returns-in_err-store g c in
    let digest = digest_is g it.After-judge in
    let f = told c.in_err-store.field-0.0 in
    record {
      clean = λ clean. c.judge.ensures.looks.clean (c.store.ensures.clean clean);
      turns = λ clean k h.
          let before = c.store.ensures.clean clean in
          let judged = c.in_ok-answer.ensures.looks.rests before k h in
          rests_turns (λ Held. IsDeposited Held k c.args.maildrop.now c.args.class.now c.args.id.now c.args.text.now (Err f))
          (λ Held. (x : Deposited) × IsDeposited Held k c.args.maildrop.now c.args.class.now c.args.id.now c.args.text.now (Ok x)) k judged
          (c.in_err-store.ensures.stored k clean judged.held (accepted g it.After-store digest k before h))
          (λ Held held. undeposited Held k c.args.maildrop.now c.args.class.now c.args.id.now c.args.text.now f c.in_err-store.ensures.answer held)
          (λ Held put. (stored.New c.in-New.uid, made_new g it.After-store digest k before h Held put))
          (refusal_not_own Deposited f c.in_err-store.ensures.answer);
    })

pub returns-in_default : goal.returns-in_default
returns-in_default g c = rw c.in_default.is (looks_whole _ _ c.in_ok-answer.ensures.looks (λ _. tt)
    (λ clean k h held. record {
      answer = rw c.in_default.is at
          (c.in_ok-answer.ensures.answered k c.args.text.now clean h (digest_is g (goal.at.returns-in_default g c).After-judge));
      held = held;
    }))

pub returns-in_err-answer : goal.returns-in_err-answer
returns-in_err-answer g c = rw (passed c.from_residual.ensures.1) (looks_whole _ _ c.in_err-answer.ensures.looks (own_met {A = Deposited} (Err c.in_err-answer.field-0.0))
    (λ clean k h held. record
    { answer = c.in_err-answer.ensures.answered k c.args.text.now clean h (digest_is g (goal.at.returns-in_err-answer g c).After-judge); held = held }))
