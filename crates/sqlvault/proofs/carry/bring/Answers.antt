use Rattle.std.proofs.Common.{◌⊎◌, ◌∙◌}
use Rattle.std.specs.Prelude.{codes}
use Rattle.sqlite.specs.Held.{state}
use Rattle.mailsql.specs.Changes.{DropsMetaRow, PutsMetaRow}
use Rattle.mailsql.specs.Rows.{IsReady, rows_in}
use Rattle.mailsql.specs.OlderVersions.{is_first}
use Rattle.sqlvault.specs.Keeps.{our_meta_row}
use Rattle.sqlvault.proofs.CarryLemmas.{completes_no_more}
use Rattle.sqlvault.proofs.FrameLemmas.{was_clean, passed}
use Rattle.sqlvault.proofs.MoveLemmas.{completed_inside, none_made}
use Rattle.sqlvault.proofs.OlderLemmas.{completed_rows, moved_then, moved_halts, brought_then}
use Rattle.sqlvault.proofs.carry.bring.Goals as goal

pub returns-in_err-complete_tables : goal.returns-in_err-complete_tables
returns-in_err-complete_tables g c = rw (passed c.from_residual.ensures.1) (record {
  clean = was_clean g.S.Store c.args.conn.now c.complete_tables.new.conn c.complete_tables.ensures.survives;
  part = λ clean1 b. record {
    halted = c.in_err-complete_tables.ensures.err clean1 b.begun b.order;
    stop = completes_no_more (is_first c.args.version) (state g.S.Store c.args.conn.now)
        (state g.S.Store c.complete_tables.new.conn) b.begun b.order clean1
        c.complete_tables.ensures.survives;
  };
})

pub returns : goal.returns
returns g c =
    let s0 = state g.S.Store c.args.conn.now in
    let s1 = state g.S.Store c.complete_tables.new.conn in
    let s2 = state g.S.Store c.move_old.new.conn in
    let s3 = state g.S.Store c.put_meta_row.new.conn in
    let before = was_clean g.S.Store c.move_old.new.conn c.put_meta_row.new.conn
    c.put_meta_row.ensures.survives in
    record {
      clean = λ clean3. was_clean g.S.Store c.args.conn.now c.complete_tables.new.conn
          c.complete_tables.ensures.survives (c.move_old.ensures.clean (before clean3));
      part = λ clean3 b.
          let clean1 = c.move_old.ensures.clean (before clean3) in
          let made = c.in_ok-complete_tables.ensures.ok clean1 b.begun b.order in
          let stop = completes_no_more (is_first c.args.version) s0 s1 b.begun b.order clean1 c.complete_tables.ensures.survives in
          let none = none_made (is_first c.args.version) (rows_in s0.now.trees) (rows_in s1.now.trees) (completed_rows (is_first c.args.version) s0 s1 b made stop) in
          let moved = moved_then (is_first c.args.version) s0 s1 b made stop s2
          (c.in_ok-move_old.ensures.part (before clean3) (record {
            of = record { under = completed_inside s0 s1 made; order = made.same ∙ b.order };
            none = none;
          })) in
          let ready : IsReady s2 = (moved.on.is_open, moved.tables) in
          brought_then (is_first c.args.version) (λ before after.
          DropsMetaRow (codes "popbox") before after ⊎ PutsMetaRow our_meta_row before after) s0 s2 s3
          c.put_meta_row.result b moved clean3 (c.put_meta_row.ensures.ok clean3 ready)
          (c.put_meta_row.ensures.err clean3 ready moved.on.mode) c.put_meta_row.ensures.survives;
    }

pub returns-in_err-move_old : goal.returns-in_err-move_old
returns-in_err-move_old g c = rw (passed c.from_residual-in_err-move_old.ensures.1) (record {
  clean = λ clean2. was_clean g.S.Store c.args.conn.now c.complete_tables.new.conn
      c.complete_tables.ensures.survives (c.move_old.ensures.clean clean2);
  part = λ clean2 b.
      let s0 = state g.S.Store c.args.conn.now in
      let s1 = state g.S.Store c.complete_tables.new.conn in
      let clean1 = c.move_old.ensures.clean clean2 in
      let made = c.in_ok-complete_tables.ensures.ok clean1 b.begun b.order in
      let stop = completes_no_more (is_first c.args.version) s0 s1 b.begun b.order clean1
      c.complete_tables.ensures.survives in
      let none = none_made (is_first c.args.version) (rows_in s0.now.trees) (rows_in s1.now.trees)
      (completed_rows (is_first c.args.version) s0 s1 b made stop) in
      moved_halts (is_first c.args.version) s0 s1 b made stop (state g.S.Store c.move_old.new.conn)
      (c.in_err-move_old.ensures.part clean2 (record {
        of = record { under = completed_inside s0 s1 made; order = made.same ∙ b.order };
        none = none;
      }));
})
