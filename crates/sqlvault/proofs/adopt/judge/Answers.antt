use Rattle.std.proofs.Common.{rules}
use Rattle.sqlite.specs.Held.{state}
use Rattle.sqlvault.proofs.FrameLemmas.{passed}
use Rattle.sqlvault.proofs.AdoptLemmas.{kinds_met, refused_met}
use Rattle.sqlvault.proofs.AskLemmas.{asks_ok, asks_refused, asks_err, asks_then}
use Rattle.sqlvault.proofs.adopt.judge.Goals as goal

pub returns-clause-adopted : goal.returns-clause-adopted
returns-clause-adopted g c = search rules

pub returns-in_err-sound-clause-adopted : goal.returns-in_err-sound-clause-adopted
returns-in_err-sound-clause-adopted g c = rw (passed c.from_residual-in_err-sound.ensures.1)
    (λ clean out settled kept. refused_met (state g.S.Store c.args.conn.now) c.in_err-sound.field-0.0)

pub returns-in_err-sound-clause-kinds : goal.returns-in_err-sound-clause-kinds
returns-in_err-sound-clause-kinds g c = rw (passed c.from_residual-in_err-sound.ensures.1) (kinds_met c.in_err-sound.field-0.0)

-- ---- the connection

pub returns-in_err-judge_meta_rows-clause-asks : goal.returns-in_err-judge_meta_rows-clause-asks
returns-in_err-judge_meta_rows-clause-asks g c = rw (passed c.from_residual.ensures.1) (c.in_err-judge_meta_rows.ensures.asks)

pub returns-then-not-has_columns-clause-asks : goal.returns-then-not-has_columns-clause-asks
returns-then-not-has_columns-clause-asks g c = asks_refused c.in_ok-judge_meta_rows.ensures.asks

pub returns-clause-asks : goal.returns-clause-asks
returns-clause-asks g c = asks_then c.in_ok-judge_meta_rows.ensures.asks (asks_ok c.in_ok-sound.ensures.asks)

pub returns-then-not-sound-clause-asks : goal.returns-then-not-sound-clause-asks
returns-then-not-sound-clause-asks g c =
    asks_then c.in_ok-judge_meta_rows.ensures.asks (asks_refused c.in_ok-sound.ensures.asks)

pub returns-in_err-sound-clause-asks : goal.returns-in_err-sound-clause-asks
returns-in_err-sound-clause-asks g c = rw (passed c.from_residual-in_err-sound.ensures.1)
    (asks_then c.in_ok-judge_meta_rows.ensures.asks (asks_err c.in_err-sound.ensures.asks))

-- ---- of no version that is known here

pub returns-in_err-judge_meta_rows-clause-unknown : goal.returns-in_err-judge_meta_rows-clause-unknown
returns-in_err-judge_meta_rows-clause-unknown g c = rw (passed c.from_residual.ensures.1)
    (λ clean1 it settled. c.in_err-judge_meta_rows.ensures.unknown clean1 it settled)

pub returns-then-not-has_columns-clause-unknown : goal.returns-then-not-has_columns-clause-unknown
returns-then-not-has_columns-clause-unknown g c clean1 it settled =
    absurd (c.in_ok-judge_meta_rows.ensures.unknown clean1 it settled)

pub returns-clause-unknown : goal.returns-clause-unknown
returns-clause-unknown g c clean2 it settled = absurd (c.in_ok-judge_meta_rows.ensures.unknown (c.are_rows_sound.ensures.asks.clean clean2) it settled)

pub returns-then-not-sound-clause-unknown : goal.returns-then-not-sound-clause-unknown
returns-then-not-sound-clause-unknown g c clean2 it settled = absurd (c.in_ok-judge_meta_rows.ensures.unknown (c.are_rows_sound.ensures.asks.clean clean2) it settled)

pub returns-in_err-sound-clause-unknown : goal.returns-in_err-sound-clause-unknown
returns-in_err-sound-clause-unknown g c = rw (passed c.from_residual-in_err-sound.ensures.1)
    (λ clean2 it settled. absurd (c.in_ok-judge_meta_rows.ensures.unknown (c.are_rows_sound.ensures.asks.clean clean2) it settled))
