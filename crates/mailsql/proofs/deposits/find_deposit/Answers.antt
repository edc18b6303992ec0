use Rattle.std.proofs.Common.{refl, ◌∙◌}
use Rattle.sqlite.specs.Held.{state}
use Rattle.mailsql.specs.Rows.{is_deposit}
use Rattle.mailsql.proofs.StateLemmas.{never}
use Rattle.mailsql.proofs.OrderLemmas.{first_is}
use Rattle.mailsql.proofs.DepositLemmas.{find_deposit_asks, find_deposit_shows}
use Rattle.mailsql.proofs.ErrorLemmas.{asked_ok, asked_same, asked_undone, asked_fails}
use Rattle.mailsql.proofs.HeldLemmas.{deposits_held}
use Rattle.mailsql.proofs.deposits.find_deposit.Goals as goal

pub returns-clause-ok : goal.returns-clause-ok
returns-clause-ok g c clean tables =
    asked_ok _ _ _ _ _ _ _ (c.first.ensures.ok clean)
    (λ found rows shown e. e ∙ first_is _ (is_deposit c.args.maildrop.now c.args.id.now) rows _
    (find_deposit_shows (state g.S.Store c.args.conn.now) (state g.S.Store c.first.new.conn) c.args.maildrop.now c.args.id.now rows tables shown c.first.ensures.live))

pub returns-clause-same : goal.returns-clause-same
returns-clause-same g c clean tables =
    asked_same _ _ _ _ _ find_deposit_asks (λ _ db. refl) (state g.S.Store c.args.conn.now) (state g.S.Store c.first.new.conn) _ tables _ _ (c.first.ensures.ok clean)

pub returns-clause-err : goal.returns-clause-err
returns-clause-err g c clean tables =
    asked_undone _ _ _ _ _ find_deposit_asks (λ _ db. refl) (state g.S.Store c.args.conn.now) (state g.S.Store c.first.new.conn) _ tables _ _ (c.first.ensures.err clean)

pub returns-clause-cause : goal.returns-clause-cause
returns-clause-cause g c clean tables =
    asked_fails _ _ _ _ _ find_deposit_asks (λ _ db. refl) (state g.S.Store c.args.conn.now)
    (state g.S.Store c.first.new.conn) _ tables _ _ c.first.ensures.live (λ kept. kept.1.1.1.1.1.0) (λ kept sound. deposits_held _ kept.0 sound) (c.first.ensures.err clean)

pub returns-clause-survives : goal.returns-clause-survives
returns-clause-survives g c = never _ _ (state g.S.Store c.args.conn.now) (state g.S.Store c.first.new.conn) (λ b. (find_deposit_asks b).plain) c.first.ensures.survives
