use Rattle.sqlite.specs.Held.{state}
use Rattle.sqlvault.proofs.AdoptLemmas.{stays_undone, kinds_met}
use Rattle.sqlvault.proofs.CarryLemmas.{nothing_more, more_then, looked_on, rows_adopt}
use Rattle.std.proofs.Common.{inl, Result, Ok, Err, subst, sym}
use Rattle.sqlite.specs.declared.error.Error.{Error}
use Rattle.sqlvault.specs.declared.refusal.Refusal.{Refusal}
use Rattle.sqlvault.specs.Transactions.{Ends}
use Rattle.sqlvault.specs.Older.{CarriesOlder}
use Rattle.sqlvault.proofs.FrameLemmas.{passed, begins_clean, undoes_clean, concluded_kinds}
use Rattle.sqlvault.proofs.OlderLemmas.{Midway, unmoved, brought_at, halted_at, undone_older}
use Rattle.sqlvault.proofs.OlderLemmas.{midway_on, midway_meta_rows, midway_keeps, unsound_older}
use Rattle.sqlvault.proofs.OlderLemmas.{committed_older, uncommitted_older}
use Rattle.sqlite.specs.State.{HasCleanDisk}
use Rattle.vault.specs.Changes.{Contents}
use Rattle.mailsql.specs.OlderVersions.{is_first}
use Rattle.sqlvault.specs.Carries.{IsOlder, KeepsOlder}
use Rattle.sqlvault.specs.Refusals.{told, as_met}
use Rattle.mailsql.proofs.CreateLemmas.{stops_making}
use Rattle.sqlvault.proofs.carry.carry.Given.{Over}
use Rattle.sqlvault.proofs.carry.carry.Goals.{After-are_rows_sound, After-conclude}
use Rattle.sqlvault.proofs.carry.carry.Goals as goal

pub returns-in_err-begin-clause-turns : goal.returns-in_err-begin-clause-turns
returns-in_err-begin-clause-turns g c = rw (passed c.from_residual.ensures.1) (λ clean1 older. let s0 = state g.S.Store c.args.conn.now in
    let s1 = state g.S.Store c.begin.new.conn in
    unmoved s0 s1 c.in_err-begin.field-0.0
    (stays_undone s0 s1 older.autocommit older.settled (c.in_err-begin.ensures.err clean1))
    (nothing_more s0 s1 clean1 c.begin.ensures.survives))

pub returns-in-Err-clause-turns : goal.returns-in-Err-clause-turns
returns-in-Err-clause-turns g c clean3 older = halted_at (is_first c.args.version) c.in_ok-begin.ensures older
    c.undo.result c.in-Err.ensures c.undo.ensures.undoes clean3

-- ---- that the rows are judged

-- the store as its rows are judged
midway : (g : Over) (c : After-are_rows_sound g) → HasCleanDisk (state g.S.Store c.are_rows_sound.new.conn) → IsOlder (is_first c.args.version) (state g.S.Store c.args.conn.now)
    → Midway (is_first c.args.version) (state g.S.Store c.args.conn.now) (state g.S.Store c.begin.new.conn) (state g.S.Store c.bring.new.conn)
midway g c clean3 older =
    brought_at (is_first c.args.version) c.in_ok-begin.ensures older c.in-Ok.ensures (c.are_rows_sound.ensures.asks.clean clean3)

pub returns-in-Ok-false-clause-turns : goal.returns-in-Ok-false-clause-turns
returns-in-Ok-false-clause-turns g c clean4 older =
    let s0 = state g.S.Store c.args.conn.now in
    let s1 = state g.S.Store c.begin.new.conn in
    let s2 = state g.S.Store c.bring.new.conn in
    let s3 = state g.S.Store c.are_rows_sound.new.conn in
    let back = c.unsound.ensures.undoes in
    let clean3 = undoes_clean back clean4 in
    let mid = midway g (goal.at.returns-in-Ok-false-clause-turns g c).After-are_rows_sound clean3 older in
    let it = c.in-Ok-false in
    unsound_older (is_first c.args.version) s0 s1 s2 mid it.field-0 s3 (state g.S.Store c.unsound.new.conn) c.unsound.result it.field-0-test
    (it.ensures.judged clean3 (λ _. mid.kept) (midway_meta_rows (is_first c.args.version) s0 s1 s2 mid))
    (c.are_rows_sound.ensures.asks.stop clean3 (mid.on.is_open, mid.kept))
    (back.gone c.begin.new.conn clean4 (inl (looked_on s1 s2 s3 mid.on (it.ensures.asks.same clean3 (λ _. mid.kept)))))
    c.unsound.ensures.kinds clean4 back.survives

pub returns-in-Err-are_rows_sound-clause-turns : goal.returns-in-Err-are_rows_sound-clause-turns
returns-in-Err-are_rows_sound-clause-turns g c clean4 older =
    let s0 = state g.S.Store c.args.conn.now in
    let s1 = state g.S.Store c.begin.new.conn in
    let s2 = state g.S.Store c.bring.new.conn in
    let s3 = state g.S.Store c.are_rows_sound.new.conn in
    let back = c.undo-in-Err-are_rows_sound.ensures.undoes in
    let mid = midway g (goal.at.returns-in-Err-are_rows_sound-clause-turns g c).After-are_rows_sound (undoes_clean back clean4) older in
    undone_older (is_first c.args.version) s0 s1 mid.begun s3 (state g.S.Store c.undo-in-Err-are_rows_sound.new.conn) c.undo-in-Err-are_rows_sound.result
    (more_then s0 s2 s3 mid.stop (c.are_rows_sound.ensures.asks.stop (undoes_clean back clean4) (mid.on.is_open, mid.kept)))
    (back.gone c.begin.new.conn clean4 (stops_making s1 s2 s3 mid.on (c.in-Err-are_rows_sound.ensures.asks.err (undoes_clean back clean4) (λ _. mid.kept)))) clean4 back.survives

-- ---- that the transaction ends

-- its rows are contents
judged : (g : Over) (c : After-conclude g) → HasCleanDisk (state g.S.Store c.conclude.new.conn) → IsOlder (is_first c.args.version) (state g.S.Store c.args.conn.now)
    → Midway (is_first c.args.version) (state g.S.Store c.args.conn.now) (state g.S.Store c.begin.new.conn) (state g.S.Store c.are_rows_sound.new.conn)
    × ((k : Contents) × KeepsOlder (state g.S.Store c.args.conn.now) k)
judged g c clean4 older =
    let s0 = state g.S.Store c.args.conn.now in
    let s1 = state g.S.Store c.begin.new.conn in
    let s2 = state g.S.Store c.bring.new.conn in
    let clean3 = c.conclude.ensures.clean clean4 in
    let mid = brought_at (is_first c.args.version) c.in_ok-begin.ensures older c.in-Ok.ensures (c.are_rows_sound.ensures.asks.clean clean3) in
    let it = c.in-Ok-true in (
      midway_on (is_first c.args.version) s0 s1 s2 mid (state g.S.Store c.are_rows_sound.new.conn)
          (it.ensures.asks.same clean3 (λ _. mid.kept)) (c.are_rows_sound.ensures.asks.stop clean3 (mid.on.is_open, mid.kept)),
      midway_keeps (is_first c.args.version) s0 s1 s2 mid it.field-0 it.field-0-test
          (it.ensures.judged clean3 (λ _. mid.kept) (midway_meta_rows (is_first c.args.version) s0 s1 s2 mid)),
    )

ended : (g : Over) (c : After-conclude g) (r : Result (Unit {0}) Error) → Ends g.S.Store c.are_rows_sound.new.conn c.conclude.new.conn r
    → HasCleanDisk (state g.S.Store c.conclude.new.conn) → IsOlder (is_first c.args.version) (state g.S.Store c.args.conn.now)
    → CarriesOlder (state g.S.Store c.args.conn.now) (state g.S.Store c.conclude.new.conn) (as_met r)
ended g c (Ok x) ends clean4 older =
    let both = judged g c clean4 older in
    committed_older (is_first c.args.version) (state g.S.Store c.args.conn.now) (state g.S.Store c.begin.new.conn) (state g.S.Store c.are_rows_sound.new.conn) both.0
    (ends.live both.0.on.is_open).0 both.1 (state g.S.Store c.conclude.new.conn) (ends.ok clean4) (ends.stop clean4)
ended g c (Err e) ends clean4 older =
    let both = judged g c clean4 older in
    uncommitted_older (is_first c.args.version) (state g.S.Store c.args.conn.now) (state g.S.Store c.begin.new.conn) (state g.S.Store c.are_rows_sound.new.conn) both.0
    (ends.live both.0.on.is_open).0 both.1 (state g.S.Store c.conclude.new.conn) e (ends.err c.begin.new.conn clean4 both.0.on) (ends.stop clean4)

pub returns-clause-turns : goal.returns-clause-turns
returns-clause-turns g c clean4 older =
    let it = c.conclude.ensures.ends in
    subst (λ (r : Result (Unit {0}) Refusal). CarriesOlder (state g.S.Store c.args.conn.now) (state g.S.Store c.conclude.new.conn) r) (sym it.1)
    (ended g (goal.at.returns-clause-turns g c).After-conclude it.0 it.2 clean4 older)

-- ---- clean

pub returns-in_err-begin-clause-clean : goal.returns-in_err-begin-clause-clean
returns-in_err-begin-clause-clean g c = begins_clean c.begin.ensures

pub returns-in-Err-clause-clean : goal.returns-in-Err-clause-clean
returns-in-Err-clause-clean g c clean = begins_clean c.begin.ensures
    (c.bring.ensures.clean (undoes_clean c.undo.ensures.undoes clean))

pub returns-in-Ok-false-clause-clean : goal.returns-in-Ok-false-clause-clean
returns-in-Ok-false-clause-clean g c clean = begins_clean c.begin.ensures (c.bring.ensures.clean (c.are_rows_sound.ensures.asks.clean
    (undoes_clean c.unsound.ensures.undoes clean)))

pub returns-in-Err-are_rows_sound-clause-clean : goal.returns-in-Err-are_rows_sound-clause-clean
returns-in-Err-are_rows_sound-clause-clean g c clean =
    begins_clean c.begin.ensures (c.bring.ensures.clean (c.are_rows_sound.ensures.asks.clean
    (undoes_clean c.undo-in-Err-are_rows_sound.ensures.undoes clean)))

pub returns-clause-clean : goal.returns-clause-clean
returns-clause-clean g c clean = begins_clean c.begin.ensures
    (c.bring.ensures.clean (c.are_rows_sound.ensures.asks.clean (c.conclude.ensures.clean clean)))

-- ---- kinds

pub returns-in_err-begin-clause-kinds : goal.returns-in_err-begin-clause-kinds
returns-in_err-begin-clause-kinds g c = rw (passed c.from_residual.ensures.1) (kinds_met c.in_err-begin.field-0.0)

pub returns-in-Err-clause-kinds : goal.returns-in-Err-clause-kinds
returns-in-Err-clause-kinds g c = kinds_met c.undo.result

pub returns-in-Ok-false-clause-kinds : goal.returns-in-Ok-false-clause-kinds
returns-in-Ok-false-clause-kinds g c = rows_adopt (told c.unsound.result) c.unsound.ensures.kinds

pub returns-in-Err-are_rows_sound-clause-kinds : goal.returns-in-Err-are_rows_sound-clause-kinds
returns-in-Err-are_rows_sound-clause-kinds g c = kinds_met c.undo-in-Err-are_rows_sound.result

pub returns-clause-kinds : goal.returns-clause-kinds
returns-clause-kinds g c = concluded_kinds (Ok tt) c.conclude.result c.conclude.ensures
