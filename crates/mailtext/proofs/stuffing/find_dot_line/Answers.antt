use Rattle.std.proofs.Common.{◌≡◌, ◌+◌, ◌-◌, length, take, drop, get_or, arith, sym, ◌∙◌, ne_eqb}
use Rattle.std.proofs.lemmas.List.{take_rest}
use Rattle.std.proofs.lemmas.List.Edits.{between_more, between_none}
use Rattle.mailtext.proofs.LineLemmas.{Unbroken, Unbroken-push}
use Rattle.mailtext.proofs.ReadingLemmas.{HasRead-next, HasRead-dot, HasRead-end}
use Rattle.mailtext.proofs.stuffing.find_dot_line.Goals as goal
use Rattle.mailtext.proofs.stuffing.find_dot_line.Goals.{then-octet-eq-LF+else-is_dot, else-octet-eq-LF}

pub returns-then-is_dot-clause-found : goal.returns-then-is_dot-clause-found
returns-then-is_dot-clause-found c =
    let l = c.loop-i in
    HasRead-dot c.args.octets.now l.start l.i l.invariant.begun c.loop-i-test.true c.if-octet-eq-LF.true l.invariant.before l.invariant.here
    (sym c.is_dot.ensures ∙ c.if-is_dot.true)

pub loop-i-preserved : goal.loop-i-preserved
loop-i-preserved c =
    let octets = c.args.octets.now in
    let l = c.loop-i in
    elim c.if-octet-eq-LF.branch [
      | then-octet-eq-LF+else-is_dot w ↦
          rw w.start-is (record {
            begun = omega arith;
            before = HasRead-next octets l.start l.i l.invariant.begun c.loop-i-test.true w.if-octet-eq-LF.true l.invariant.before l.invariant.here
                (sym w.is_dot.ensures ∙ w.if-is_dot.false);
            here = rw (between_none octets (l.i + 1)) tt;
          })
      | else-octet-eq-LF w ↦
          rw w.start-is (record {
            begun = omega arith;
            before = l.invariant.before;
            here = rw (between_more octets l.start l.i 0 l.invariant.begun c.loop-i-test.true)
                (Unbroken-push (take (l.i - l.start) (drop l.start octets)) (get_or octets l.i 0) l.invariant.here (ne_eqb (get_or octets l.i 0) 10 w.if-octet-eq-LF.false));
          })
    ]

pub returns-clause-found : goal.returns-clause-found
returns-clause-found c =
    let octets = c.args.octets.now in
    let l = c.loop-i in
    let all : l.i ≡ length octets = omega arith in
    let here : Unbroken (drop l.start octets) = rw (all, take_rest octets l.start) at l.invariant.here in
    HasRead-end octets (take l.start octets) (drop l.start octets) l.invariant.before here
