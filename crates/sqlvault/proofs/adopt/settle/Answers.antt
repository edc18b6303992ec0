use Rattle.std.proofs.Common.{not, sym, ap, ◌∙◌, true≢false}
use Rattle.sqlite.specs.Held.{state}
use Rattle.sqlvault.proofs.AdoptLemmas.{unknown, outside, blank_of, kept_of, settled_so}
use Rattle.sqlvault.proofs.AdoptLemmas.{own_untaken, own_marked, left_inside}
use Rattle.sqlvault.proofs.WithinLemmas.{inside_of}
use Rattle.sqlvault.proofs.adopt.settle.Goals as goal

-- ---- a transaction is under way

pub returns-then-not-is_autocommit-clause-known : goal.returns-then-not-is_autocommit-clause-known
returns-then-not-is_autocommit-clause-known g c clean known =
    let s0 = state g.S.Store c.args.conn.now in
    left_inside s0 (inside_of s0.in_transaction
    (sym c.if-not-is_autocommit.true ∙ c.is_autocommit.ensures.value))

pub returns-then-not-is_autocommit-clause-older : goal.returns-then-not-is_autocommit-clause-older
returns-then-not-is_autocommit-clause-older g c clean older out =
    absurd (true≢false (sym (c.is_autocommit.ensures.value ∙ ap not out) ∙ c.if-not-is_autocommit.true))

pub returns-then-not-is_autocommit-clause-unknown : goal.returns-then-not-is_autocommit-clause-unknown
returns-then-not-is_autocommit-clause-unknown g c clean it =
    absurd (true≢false (sym (c.is_autocommit.ensures.value ∙ ap not it.autocommit)
    ∙ c.if-not-is_autocommit.true))

-- ---- a store without a table

pub returns-then-not-is_taken-clause-known : goal.returns-then-not-is_taken-clause-known
returns-then-not-is_taken-clause-known g c clean known =
    let s0 = state g.S.Store c.args.conn.now in
    c.make.ensures.settles clean
    (blank_of s0 c.is_taken.result c.is_taken.ensures.ours c.if-not-is_taken.true known)
    (outside s0.in_transaction (sym c.if-not-is_autocommit.false ∙ c.is_autocommit.ensures.value)) (c.is_autocommit.ensures.settled c.if-not-is_autocommit.false)

pub returns-then-not-is_taken-clause-foreign : goal.returns-then-not-is_taken-clause-foreign
returns-then-not-is_taken-clause-foreign g c it =
    let s0 = state g.S.Store c.args.conn.now in
    absurd (own_untaken s0 (outside s0.in_transaction (sym c.if-not-is_autocommit.false ∙ c.is_autocommit.ensures.value))
    (sym c.is_taken.ensures.value ∙ c.if-not-is_taken.true) it)

pub returns-then-not-is_taken-clause-kinds : goal.returns-then-not-is_taken-clause-kinds
returns-then-not-is_taken-clause-kinds g c = c.make.ensures.kinds

pub returns-then-not-is_taken-clause-clean : goal.returns-then-not-is_taken-clause-clean
returns-then-not-is_taken-clause-clean g c clean = c.make.ensures.clean clean

pub returns-then-not-is_taken-clause-older : goal.returns-then-not-is_taken-clause-older
returns-then-not-is_taken-clause-older g c clean older out =
    absurd (true≢false (sym (c.is_taken.ensures.old older.0) ∙ c.if-not-is_taken.true))

pub returns-then-not-is_taken-clause-unknown : goal.returns-then-not-is_taken-clause-unknown
returns-then-not-is_taken-clause-unknown g c clean it =
    absurd (true≢false (sym (c.is_taken.ensures.marked it.table) ∙ c.if-not-is_taken.true))

-- ---- the table `meta` isn't ours

pub returns-then-not-has_meta_rows-clause-known : goal.returns-then-not-has_meta_rows-clause-known
returns-then-not-has_meta_rows-clause-known g c clean known =
    absurd (unknown (state g.S.Store c.args.conn.now) c.is_taken.result c.has_meta_rows.result
    c.is_taken.ensures.none c.has_meta_rows.ensures.ours c.if-not-is_taken.false
    c.if-not-has_meta_rows.true known)

pub returns-then-not-has_meta_rows-clause-older : goal.returns-then-not-has_meta_rows-clause-older
returns-then-not-has_meta_rows-clause-older g c clean older out =
    absurd (true≢false (sym (c.has_meta_rows.ensures.old older.0) ∙ c.if-not-has_meta_rows.true))

pub returns-then-not-has_meta_rows-clause-unknown : goal.returns-then-not-has_meta_rows-clause-unknown
returns-then-not-has_meta_rows-clause-unknown g c clean it =
    absurd (true≢false (sym (c.has_meta_rows.ensures.marked it.table) ∙ c.if-not-has_meta_rows.true))

-- ---- a store that lacks some of our tables

pub returns-then-not-has_columns-clause-known : goal.returns-then-not-has_columns-clause-known
returns-then-not-has_columns-clause-known g c clean known =
    absurd (unknown (state g.S.Store c.args.conn.now) c.is_taken.result c.has_columns.result
    c.is_taken.ensures.none c.has_columns.ensures.ours c.if-not-is_taken.false
    c.if-not-has_columns.true known)

pub returns-then-not-has_columns-clause-foreign : goal.returns-then-not-has_columns-clause-foreign
returns-then-not-has_columns-clause-foreign g c it =
    let s0 = state g.S.Store c.args.conn.now in
    absurd (own_marked s0 (outside s0.in_transaction (sym c.if-not-is_autocommit.false ∙ c.is_autocommit.ensures.value))
    (sym c.has_meta_rows.ensures.value ∙ c.if-not-has_meta_rows.false) it)

pub returns-then-not-has_columns-clause-kinds : goal.returns-then-not-has_columns-clause-kinds
returns-then-not-has_columns-clause-kinds g c = c.carry_marked.ensures.kinds

pub returns-then-not-has_columns-clause-clean : goal.returns-then-not-has_columns-clause-clean
returns-then-not-has_columns-clause-clean g c clean = c.carry_marked.ensures.clean clean

pub returns-then-not-has_columns-clause-older : goal.returns-then-not-has_columns-clause-older
returns-then-not-has_columns-clause-older g c clean older out = c.carry_marked.ensures.turns clean
    older out (c.is_autocommit.ensures.settled c.if-not-is_autocommit.false)

pub returns-then-not-has_columns-clause-unknown : goal.returns-then-not-has_columns-clause-unknown
returns-then-not-has_columns-clause-unknown g c clean it = c.carry_marked.ensures.unknown clean it
    (c.is_autocommit.ensures.settled c.if-not-is_autocommit.false)

-- ---- a store with our tables

pub returns-clause-known : goal.returns-clause-known
returns-clause-known g c clean known =
    let s0 = state g.S.Store c.args.conn.now in
    let out = outside s0.in_transaction
    (sym c.if-not-is_autocommit.false ∙ c.is_autocommit.ensures.value) in
    let settled = c.is_autocommit.ensures.settled c.if-not-is_autocommit.false in
    let kept = kept_of s0 c.is_taken.result c.is_taken.ensures.none c.if-not-is_taken.false known in
    settled_so s0 (state g.S.Store c.judge.new.conn) c.judge.result out settled kept
    (c.judge.ensures.adopted clean out settled kept) (c.judge.ensures.asks.err clean (λ _. kept))
    (c.judge.ensures.asks.stop clean)

pub returns-clause-foreign : goal.returns-clause-foreign
returns-clause-foreign g c it =
    let s0 = state g.S.Store c.args.conn.now in
    absurd (own_marked s0 (outside s0.in_transaction
    (sym c.if-not-is_autocommit.false ∙ c.is_autocommit.ensures.value)) (sym c.has_meta_rows.ensures.value ∙ c.if-not-has_meta_rows.false) it)

pub returns-clause-kinds : goal.returns-clause-kinds
returns-clause-kinds g c = c.judge.ensures.kinds

pub returns-clause-clean : goal.returns-clause-clean
returns-clause-clean g c clean = c.judge.ensures.asks.clean clean

pub returns-clause-older : goal.returns-clause-older
returns-clause-older g c clean older out =
    absurd (true≢false (sym c.if-not-has_columns.false ∙ c.has_columns.ensures.old older.0))

pub returns-clause-unknown : goal.returns-clause-unknown
returns-clause-unknown g c clean it =
    c.judge.ensures.unknown clean it (c.is_autocommit.ensures.settled c.if-not-is_autocommit.false)
