use Rattle.std.proofs.Common.{true, false, Some, None, Result, Ok}
use Rattle.sqlite.specs.Held.{state}
use Rattle.sqlite.specs.declared.error.Error.{Error}
use Rattle.mailsql.specs.Rows.{rows_in}
use Rattle.sqlvault.specs.declared.part.Part.TheVariants.{Clerks, Maildrops, Deposits, Messages}
use Rattle.sqlvault.specs.Frame.{Asks}
use Rattle.sqlvault.specs.Judged.{JudgesPolicy}
use Rattle.sqlvault.specs.Parts.{Finds, ClerksAre, MaildropsAre, DepositsAre}
use Rattle.sqlvault.proofs.FrameLemmas.{passed}
use Rattle.sqlvault.proofs.AskLemmas.{asks_ok, asks_err, asks_then}
use Rattle.sqlvault.proofs.PartLemmas.{Tests, tests, tests_mail, tests_then, found, judged_at}
use Rattle.sqlvault.proofs.PartLemmas.{first_in_policy, own_maildrops, whole}
use Rattle.sqlvault.proofs.part.unsound_part.Given.{Over}
use Rattle.sqlvault.proofs.part.unsound_part.Goals.{After-are_maildrops_sound, After-unsound_policy, After-are_deposits_sound, After-are_messages_sound}
use Rattle.sqlvault.proofs.part.unsound_part.Goals as goal

-- ---- what a part says that is sound

clerks : (g : Over) (c : After-are_maildrops_sound g) → Tests g.S.Store c.args.conn.now c.are_clerks_sound.new.conn (λ r. Finds (ClerksAre r) true)
clerks g c = tests (λ r b. Finds (ClerksAre r) b) c.in_ok-clerks.clerks true c.if-not-clerks.false c.in_ok-clerks.ensures.asks c.in_ok-clerks.ensures.judged

maildrops : (g : Over) (c : After-unsound_policy g) → Tests g.S.Store c.are_clerks_sound.new.conn c.are_maildrops_sound.new.conn (λ r. Finds (MaildropsAre r) true)
maildrops g c =
    let it = c.in_ok-maildrops in
    tests (λ r b. Finds (MaildropsAre r) b) it.maildrops true c.if-not-maildrops.false it.ensures.asks it.ensures.judged

policy : (g : Over) (c : After-are_deposits_sound g) → Tests g.S.Store c.are_maildrops_sound.new.conn c.unsound_policy.new.conn (λ r. JudgesPolicy r None)
policy g c =
    let it = c.in_ok-part in
    tests JudgesPolicy it.field-0 None c.in_default.is it.ensures.asks (λ clean tables _. it.ensures.judged clean tables)

deposits : (g : Over) (c : After-are_messages_sound g) → Tests g.S.Store c.unsound_policy.new.conn c.are_deposits_sound.new.conn (λ r. Finds (DepositsAre r) true)
deposits g c =
    let it = c.in_ok-deposits in
    tests (λ r b. Finds (DepositsAre r) b) it.deposits true c.if-not-deposits.false it.ensures.asks it.ensures.judged

-- ---- what is judged

pub returns-then-not-clerks-clause-judged : goal.returns-then-not-clerks-clause-judged
returns-then-not-clerks-clause-judged g c clean h meta_rows =
    let it = c.in_ok-clerks in
    let p = tests (λ r b. Finds (ClerksAre r) b) it.clerks false c.if-not-clerks.true it.ensures.asks it.ensures.judged in
    judged_at (rows_in (state g.S.Store c.args.conn.now).now.trees) Clerks (found p clean h c.keys_hold.ensures.apart)

pub returns-then-not-maildrops-clause-judged : goal.returns-then-not-maildrops-clause-judged
returns-then-not-maildrops-clause-judged g c clean h meta_rows =
    let it = c.in_ok-maildrops in
    let p = tests_then (clerks g (goal.at.returns-then-not-maildrops-clause-judged g c).After-are_maildrops_sound)
    (tests (λ r b. Finds (MaildropsAre r) b) it.maildrops false c.if-not-maildrops.true it.ensures.asks it.ensures.judged) in
    let f = found p clean h c.keys_hold.ensures.apart in
    judged_at (rows_in (state g.S.Store c.args.conn.now).now.trees) Maildrops (f.0, f.1)

pub returns-in-Some-clause-judged : goal.returns-in-Some-clause-judged
returns-in-Some-clause-judged g c clean h meta_rows =
    let at = goal.at.returns-in-Some-clause-judged g c in
    let it = c.in_ok-part in
    let p = tests_then (tests_then (clerks g at.After-are_maildrops_sound) (maildrops g at.After-unsound_policy))
    (tests JudgesPolicy it.field-0 (Some c.in-Some.part) c.in-Some.is it.ensures.asks (λ clean tables _. it.ensures.judged clean tables)) in
    let f = found p clean h c.keys_hold.ensures.apart in
    let rows = rows_in (state g.S.Store c.args.conn.now).now.trees in
    judged_at rows c.in-Some.part (first_in_policy rows c.in-Some.part f.0.0 f.0.1 f.1)

pub returns-then-not-deposits-clause-judged : goal.returns-then-not-deposits-clause-judged
returns-then-not-deposits-clause-judged g c clean h meta_rows =
    let at = goal.at.returns-then-not-deposits-clause-judged g c in
    let it = c.in_ok-deposits in
    let p = tests_then (tests_then (tests_then (clerks g at.After-are_maildrops_sound) (maildrops g at.After-unsound_policy)) (policy g at.After-are_deposits_sound))
    (tests (λ r b. Finds (DepositsAre r) b) it.deposits false c.if-not-deposits.true it.ensures.asks it.ensures.judged) in
    let f = found p clean h c.keys_hold.ensures.apart in
    judged_at (rows_in (state g.S.Store c.args.conn.now).now.trees) Deposits (f.0.0.0, f.0.0.1, f.0.1, f.1)

pub returns-then-not-messages-clause-judged : goal.returns-then-not-messages-clause-judged
returns-then-not-messages-clause-judged g c clean h meta_rows =
    let at = goal.at.returns-then-not-messages-clause-judged g c in
    let it = c.in_ok-messages in
    let lists = tests_then (tests_then (clerks g at.After-are_maildrops_sound) (maildrops g at.After-unsound_policy)) (policy g at.After-are_deposits_sound) in
    let p = tests_then (tests_then lists (deposits g at.After-are_messages_sound)) (tests_mail it.messages false c.if-not-messages.true it.ensures.asks it.ensures.judged) in
    let f = found p clean h c.keys_hold.ensures.apart in
    let rows = rows_in (state g.S.Store c.args.conn.now).now.trees in
    let own = own_maildrops rows f.0.0.0.1.0 f.0.0.0.1.1 in
    judged_at rows Messages (f.0.0.0.0, f.0.0.0.1, f.0.0.1, f.0.1, f.1 own f.0.1)

pub returns-clause-judged : goal.returns-clause-judged
returns-clause-judged g c clean h meta_rows =
    let at = goal.at.returns-clause-judged g c in
    let it = c.in_ok-messages in
    let lists = tests_then (tests_then (clerks g at.After-are_maildrops_sound) (maildrops g at.After-unsound_policy)) (policy g at.After-are_deposits_sound) in
    let p = tests_then (tests_then lists (deposits g at.After-are_messages_sound)) (tests_mail it.messages true c.if-not-messages.false it.ensures.asks it.ensures.judged) in
    let f = found p clean h c.keys_hold.ensures.apart in
    let l = f.0.0 in
    let rows = rows_in (state g.S.Store c.args.conn.now).now.trees in
    let mail = f.1 (own_maildrops rows l.0.1.0 l.0.1.1) f.0.1 in
    whole rows meta_rows (((l.0.0.0, l.0.1.0), l.1.0), mail.0) (((l.0.0.1, l.0.1.1), l.1.1), mail.1)

-- ---- that nothing is changed

pub returns-then-not-clerks-clause-asks : goal.returns-then-not-clerks-clause-asks
returns-then-not-clerks-clause-asks g c = asks_ok c.in_ok-clerks.ensures.asks

pub returns-in_err-clerks-clause-asks : goal.returns-in_err-clerks-clause-asks
returns-in_err-clerks-clause-asks g c = rw (passed c.from_residual.ensures.1) (asks_err c.in_err-clerks.ensures.asks)

pub returns-then-not-maildrops-clause-asks : goal.returns-then-not-maildrops-clause-asks
returns-then-not-maildrops-clause-asks g c = asks_ok (asks_then c.in_ok-clerks.ensures.asks c.in_ok-maildrops.ensures.asks)

pub returns-in_err-maildrops-clause-asks : goal.returns-in_err-maildrops-clause-asks
returns-in_err-maildrops-clause-asks g c = rw (passed c.from_residual-in_err-maildrops.ensures.1)
    (asks_err (asks_then c.in_ok-clerks.ensures.asks c.in_err-maildrops.ensures.asks))

pub returns-in-Some-clause-asks : goal.returns-in-Some-clause-asks
returns-in-Some-clause-asks g c =
    asks_ok (asks_then (asks_then c.in_ok-clerks.ensures.asks c.in_ok-maildrops.ensures.asks) c.in_ok-part.ensures.asks)

pub returns-in_err-part-clause-asks : goal.returns-in_err-part-clause-asks
returns-in_err-part-clause-asks g c = rw (passed c.from_residual-in_err-part.ensures.1)
    (asks_err (asks_then (asks_then c.in_ok-clerks.ensures.asks c.in_ok-maildrops.ensures.asks) c.in_err-part.ensures.asks))

-- the policy is sound, and what is before it
lists_asked : (g : Over) (c : After-are_deposits_sound g) → (let done : Result (Unit {0}) Error = Ok tt in Asks g.S.Store c.args.conn.now c.unsound_policy.new.conn done)
lists_asked g c = asks_ok (asks_then (asks_then c.in_ok-clerks.ensures.asks c.in_ok-maildrops.ensures.asks) c.in_ok-part.ensures.asks)

pub returns-then-not-deposits-clause-asks : goal.returns-then-not-deposits-clause-asks
returns-then-not-deposits-clause-asks g c =
    asks_ok (asks_then (lists_asked g (goal.at.returns-then-not-deposits-clause-asks g c).After-are_deposits_sound) c.in_ok-deposits.ensures.asks)

pub returns-in_err-deposits-clause-asks : goal.returns-in_err-deposits-clause-asks
returns-in_err-deposits-clause-asks g c = rw (passed c.from_residual-in_err-deposits.ensures.1)
    (asks_err (asks_then (lists_asked g (goal.at.returns-in_err-deposits-clause-asks g c).After-are_deposits_sound) c.in_err-deposits.ensures.asks))

pub returns-clause-asks : goal.returns-clause-asks
returns-clause-asks g c =
    let lists = lists_asked g (goal.at.returns-clause-asks g c).After-are_deposits_sound in
    asks_ok (asks_then (asks_then lists c.in_ok-deposits.ensures.asks) c.in_ok-messages.ensures.asks)

pub returns-then-not-messages-clause-asks : goal.returns-then-not-messages-clause-asks
returns-then-not-messages-clause-asks g c =
    let lists = lists_asked g (goal.at.returns-then-not-messages-clause-asks g c).After-are_deposits_sound in
    asks_ok (asks_then (asks_then lists c.in_ok-deposits.ensures.asks) c.in_ok-messages.ensures.asks)

pub returns-in_err-messages-clause-asks : goal.returns-in_err-messages-clause-asks
returns-in_err-messages-clause-asks g c = rw (passed c.from_residual-in_err-messages.ensures.1)
    (let lists = lists_asked g (goal.at.returns-in_err-messages-clause-asks g c).After-are_deposits_sound in
    asks_err (asks_then (asks_then lists c.in_ok-deposits.ensures.asks) c.in_err-messages.ensures.asks))
