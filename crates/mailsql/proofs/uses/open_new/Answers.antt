use Rattle.std.proofs.Common.{◌∙◌, inl, inr, refl, to_z-of_z, codes}
use Rattle.sqlite.specs.declared.error.ErrorCode.TheVariants.{OutOfMemory}
use Rattle.sqlite.specs.declared.error.Error.TheVariants.{SqliteFailure}
use Rattle.sqlite.specs.Held.{state}
use Rattle.sqlite.specs.Steps.{over_memory}
use Rattle.sqlite.proofs.Callers.{memory_is_clean}
use Rattle.mailsql.specs.Uses.{FailsToOpenNew}
use Rattle.mailsql.proofs.ResultLemmas.{if_passed_on}
use Rattle.mailsql.proofs.UsesLemmas.{begun, stands_new}
use Rattle.mailsql.proofs.uses.open_new.Goals as goal

pub returns-clause-stands : goal.returns-clause-stands
returns-clause-stands c =
    let s0 = state over_memory c.in_ok-conn.conn in
    let s1 = state over_memory c.begin.new.conn in
    let s2 = state over_memory c.create_tables.new.conn in
    let s3 = state over_memory c.add_meta_row.new.conn in
    let s4 = state over_memory c.commit.new.conn in
    let b = begun s0 s1 c.in_ok-conn.ensures.empty (c.in_ok-begin.ensures.ok (memory_is_clean c.begin.new.conn)).1 in
    let m = c.in_ok-create_tables.ensures.ok (memory_is_clean c.create_tables.new.conn) b in
    let shows = (c.in_ok-commit.ensures.ok (memory_is_clean c.commit.new.conn)).1 in
    stands_new s1 s2 s3 s4 (record { name = codes "popbox"; value = c.args.version }) m
    (λ ready. simp (to_z-of_z, c.ranges.version) at (c.in_ok-add_meta_row.ensures.ok (memory_is_clean c.add_meta_row.new.conn) ready)) shows

pub returns-in_err-conn-clause-cause : goal.returns-in_err-conn-clause-cause
returns-in_err-conn-clause-cause c =
    if_passed_on c.from_residual.result (SqliteFailure OutOfMemory) (FailsToOpenNew c.args.version) c.from_residual.ensures.1 (inl refl)

pub returns-in_err-begin-clause-cause : goal.returns-in_err-begin-clause-cause
returns-in_err-begin-clause-cause c =
    if_passed_on c.from_residual-in_err-begin.result c.in_err-begin.field-0.0 (FailsToOpenNew c.args.version) c.from_residual-in_err-begin.ensures.1
    (inr (inl (c.in_ok-conn.conn, c.begin.new.conn, c.in_ok-conn.ensures.empty, c.in_err-begin.ensures.cause (memory_is_clean c.begin.new.conn))))

pub returns-in_err-create_tables-clause-cause : goal.returns-in_err-create_tables-clause-cause
returns-in_err-create_tables-clause-cause c =
    let b = begun (state over_memory c.in_ok-conn.conn) (state over_memory c.begin.new.conn) c.in_ok-conn.ensures.empty (c.in_ok-begin.ensures.ok (memory_is_clean c.begin.new.conn)).1 in
    if_passed_on c.from_residual-in_err-create_tables.result c.in_err-create_tables.field-0.0
    (FailsToOpenNew c.args.version) c.from_residual-in_err-create_tables.ensures.1
    (inr (inr (inl (c.begin.new.conn, c.create_tables.new.conn, b, c.in_err-create_tables.ensures.cause (memory_is_clean c.create_tables.new.conn) b))))

pub returns-in_err-add_meta_row-clause-cause : goal.returns-in_err-add_meta_row-clause-cause
returns-in_err-add_meta_row-clause-cause c =
    let b = begun (state over_memory c.in_ok-conn.conn) (state over_memory c.begin.new.conn) c.in_ok-conn.ensures.empty (c.in_ok-begin.ensures.ok (memory_is_clean c.begin.new.conn)).1 in
    let m = c.in_ok-create_tables.ensures.ok (memory_is_clean c.create_tables.new.conn) b in
    let cause = simp (to_z-of_z, c.ranges.version) at (c.in_err-add_meta_row.ensures.cause (memory_is_clean c.add_meta_row.new.conn)) in
    if_passed_on c.from_residual-in_err-add_meta_row.result c.in_err-add_meta_row.field-0.0
    (FailsToOpenNew c.args.version) c.from_residual-in_err-add_meta_row.ensures.1 (inr (inr (inr (inl (c.create_tables.new.conn, c.add_meta_row.new.conn, ((m.on.is_open, m.kept), m.rows), cause)))))

pub returns-in_err-commit-clause-cause : goal.returns-in_err-commit-clause-cause
returns-in_err-commit-clause-cause c =
    let b = begun (state over_memory c.in_ok-conn.conn) (state over_memory c.begin.new.conn) c.in_ok-conn.ensures.empty (c.in_ok-begin.ensures.ok (memory_is_clean c.begin.new.conn)).1 in
    let m = c.in_ok-create_tables.ensures.ok (memory_is_clean c.create_tables.new.conn) b in
    let it = c.in_ok-add_meta_row.ensures.ok (memory_is_clean c.add_meta_row.new.conn) (m.on.is_open, m.kept) in
    if_passed_on c.from_residual-in_err-commit.result c.in_err-commit.field-0.0
    (FailsToOpenNew c.args.version) c.from_residual-in_err-commit.ensures.1
    (inr (inr (inr (inr (c.add_meta_row.new.conn, c.commit.new.conn, ((it.shown.is_open, it.kept), it.shown.mode ∙ m.on.mode), c.in_err-commit.ensures.cause (memory_is_clean c.commit.new.conn))))))
