use Rattle.std.proofs.Common.{◌≡◌, ◌+◌, ◌-◌, ◌++◌, length, take, drop, get_or, arith, sym, ◌∙◌, ap, ne_eqb, option_copied, option_to_list}
use Rattle.std.proofs.lemmas.List.{take_rest}
use Rattle.std.proofs.lemmas.List.Edits.{between_more, between_none}
use Rattle.mailtext.proofs.LineLemmas.{Unbroken, Unbroken-push}
use Rattle.journal.specs.MessageIds.{only, id_lines}
use Rattle.journal.proofs.Heads.{id_line_first, other_line_first, no_line, none_before, two_lines, only_before}
use Rattle.journal.proofs.message_ids.only_id_line.Goals as goal
use Rattle.journal.proofs.message_ids.only_id_line.Goals.{then-octet-eq10, then-is_id_line+else-is_some, else-is_id_line, else-octet-eq10}

pub returns-then-is_some-clause-line : goal.returns-then-is_some-clause-line
returns-then-is_some-clause-line c =
    let l = c.loop-i in
    let first = id_line_first c.args.head.now l.start l.i l.invariant.begun c.loop-i-test.true c.if-octet-eq10.true l.invariant.here (sym c.is_id_line.ensures ∙ c.if-is_id_line.true) in
    sym (l.invariant.before ∙ (ap (λ ls. only (option_to_list (option_copied l.found) ++ ls)) first
    ∙ two_lines l.found (take (l.i - l.start) (drop l.start c.args.head.now)) (id_lines (drop (l.i + 1) c.args.head.now)) (sym c.is_some.ensures ∙ c.if-is_some.true)))

pub loop-i-preserved : goal.loop-i-preserved
loop-i-preserved c =
    let head = c.args.head.now in
    let l = c.loop-i in
    elim c.if-octet-eq10.branch [
      | then-octet-eq10 w ↦
          elim w.if-is_id_line.branch [
            | then-is_id_line+else-is_some v ↦
                let first = id_line_first head l.start l.i l.invariant.begun c.loop-i-test.true w.if-octet-eq10.true l.invariant.here (sym w.is_id_line.ensures ∙ v.if-is_id_line.true) in
                rw (w.start-is, w.found-is, v.found-is) (record {
                  begun = omega arith;
                  before = l.invariant.before ∙ (ap (λ ls. only (ls ++ id_lines (drop l.start head))) (none_before l.found (sym v.is_some.ensures ∙ v.if-is_some.false)) ∙ ap only first);
                  here = rw (between_none head (l.i + 1)) tt;
                  tells = sym w.is_id_line.ensures ∙ v.if-is_id_line.true;
                })
            | else-is_id_line v ↦
                rw (w.start-is, w.found-is, v.found-is) (record {
                  begun = omega arith;
                  before = l.invariant.before ∙ ap (λ ls. only (option_to_list (option_copied l.found) ++ ls))
                      (other_line_first head l.start l.i l.invariant.begun c.loop-i-test.true w.if-octet-eq10.true l.invariant.here (sym w.is_id_line.ensures ∙ v.if-is_id_line.false));
                  here = rw (between_none head (l.i + 1)) tt;
                  tells = l.invariant.tells;
                })
          ]
      | else-octet-eq10 w ↦
          rw (w.start-is, w.found-is) (record {
            begun = omega arith;
            before = l.invariant.before;
            here = rw (between_more head l.start l.i 0 l.invariant.begun c.loop-i-test.true)
                (Unbroken-push (take (l.i - l.start) (drop l.start head)) (get_or head l.i 0) l.invariant.here (ne_eqb (get_or head l.i 0) 10 w.if-octet-eq10.false));
            tells = l.invariant.tells;
          })
    ]

pub returns-clause-line : goal.returns-clause-line
returns-clause-line c =
    let l = c.loop-i in
    let all : l.i ≡ length c.args.head.now = omega arith in
    let here : Unbroken (drop l.start c.args.head.now) = rw (all, take_rest c.args.head.now l.start) at l.invariant.here in
    sym (l.invariant.before ∙ (ap (λ ls. only (option_to_list (option_copied l.found) ++ ls)) (no_line (drop l.start c.args.head.now) here) ∙ only_before l.found))
