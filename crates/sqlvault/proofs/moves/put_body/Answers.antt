use Rattle.std.proofs.Common.{ℕ, ℤ, List, subst, subst₂, rules, SFits, w64, to_z-of_z, Ok}
use Rattle.std.specs.Prelude.{OnOk}
use Rattle.sqlite.specs.Held.{state}
use Rattle.sqlite.specs.State.{Survives}
use Rattle.mailsql.specs.declared.rows.Message.{Message}
use Rattle.mailsql.specs.Changes.{AddsKeyed, AddsSheets, AddsSomeSheets}
use Rattle.mailsql.specs.Rows.{Changes, MayLeave}
use Rattle.sqlvault.specs.Moves.{DoesPart}
use Rattle.sqlvault.proofs.MoveLemmas.{same_head, part_of, body_put, part_refused}
use Rattle.sqlvault.proofs.CarryLemmas.{no_more_in}
use Rattle.sqlvault.proofs.FrameLemmas.{was_clean, passed}
use Rattle.sqlvault.proofs.moves.put_body.Goals as goal

pub returns : goal.returns
returns g c =
    let before = was_clean g.S.Store c.add_keyed.new.conn c.add_sheets.new.conn c.add_sheets.ensures.survives in
    record {
      clean = λ clean. was_clean g.S.Store c.args.conn.now c.add_keyed.new.conn
          c.add_keyed.ensures.survives (before clean);
      part = λ clean2 i.
          let s0 = state g.S.Store c.args.conn.now in
          let s1 = state g.S.Store c.add_keyed.new.conn in
          let s2 = state g.S.Store c.add_sheets.new.conn in
          let body = c.args.body.now in
          let key = (let f : SFits w64 body.head.key = search rules in to_z-of_z f) in
          let k = (let f : SFits w64 body.head.k = search rules in to_z-of_z f) in
          let octets = (let f : SFits w64 body.head.octets = search rules in to_z-of_z f) in
          let head = same_head body.head _ _ _ _ _ key c.as_slice.ensures c.as_slice-2.ensures k
          octets in
          let survives = subst (λ (m : Message). Survives s0 s1 (MayLeave (AddsKeyed m) s0)) head c.add_keyed.ensures.survives in
          let clean1 = before clean2 in
          let adds = subst (λ (m : Message). Changes (AddsKeyed m) s0 s1) head
          (c.in_ok-add_keyed.ensures.ok clean1 (i.is_open, i.tables)) in
          let row : DoesPart (AddsKeyed body.head) s0 s1 = part_of (AddsKeyed body.head)
          (AddsKeyed body.head) s0 s1 (Ok tt) clean1 i adds tt survives in
          let sheets = subst₂ (λ (n : ℤ) (t : List ℕ).
          OnOk c.add_sheets.result (Changes (AddsSheets n t) s1 s2)) key c.as_slice-3.ensures
          (c.add_sheets.ensures.ok clean2 (row.on.is_open, row.tables)) in
          let left = subst₂ (λ (n : ℤ) (t : List ℕ).
          Survives s1 s2 (MayLeave (AddsSomeSheets n t) s1)) key c.as_slice-3.ensures
          c.add_sheets.ensures.survives in
          body_put body s0 s1 s2 c.add_sheets.result clean2 row sheets
          (c.add_sheets.ensures.err clean2 (row.on.is_open, row.tables) row.on.mode) left;
    }

pub returns-in_err-add_keyed : goal.returns-in_err-add_keyed
returns-in_err-add_keyed g c = rw (passed c.from_residual.ensures.1) (record {
  clean = was_clean g.S.Store c.args.conn.now c.add_keyed.new.conn c.add_keyed.ensures.survives;
  part = λ clean1 i.
      let s0 = state g.S.Store c.args.conn.now in
      let s1 = state g.S.Store c.add_keyed.new.conn in
      let body = c.args.body.now in
      let key = (let f : SFits w64 body.head.key = search rules in to_z-of_z f) in
      let k = (let f : SFits w64 body.head.k = search rules in to_z-of_z f) in
      let octets = (let f : SFits w64 body.head.octets = search rules in to_z-of_z f) in
      let head = same_head body.head _ _ _ _ _ key c.as_slice.ensures c.as_slice-2.ensures k
      octets in
      let survives = subst (λ (m : Message). Survives s0 s1 (MayLeave (AddsKeyed m) s0)) head
      c.add_keyed.ensures.survives in
      part_refused s0 s1 i (c.in_err-add_keyed.ensures.err clean1) (no_more_in (AddsKeyed body.head) s0 s1
      i.inside (i.is_open, i.tables) clean1 survives);
})
