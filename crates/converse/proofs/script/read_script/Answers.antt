use Rattle.std.proofs.Common.{◌≡◌, ◌+◌, Ok, Some, map, subst, sym, arith, ap}
use Rattle.std.specs.Prelude.{option_copied}
use Rattle.converse.specs.Script.{line_seen, asks_then, script_of, cut_at}
use Rattle.converse.proofs.Reading.{is_lf, rest_asks, left_less, more_asked, fault_told, same_fault}
use Rattle.converse.proofs.script.read_script.Goals as goal

pub loop-rest-preserved : goal.loop-rest-preserved
loop-rest-preserved c =
    let left = c.in-Some.left.now in
    let asks = rw c.in-Some.is at c.loop-rest.invariant.asks in
    let counted = rw c.in-Some.is at c.loop-rest.invariant.counted in
    let n = c.saturating_add-number.result in
    let number : n ≡ c.loop-rest.number + 1 = omega arith in
    let behind : option_copied c.cut_at.result.1 ≡ (cut_at is_lf left).1 = ap (λ p. p.1) c.cut_at.ensures in
    record {
      asks = more_asked n left _ _ (map line_seen c.loop-rest.lines.items) _ _ c.cut_at.ensures c.in_ok-read_into.ensures.ok
          (subst (λ k. asks_then (Ok (map line_seen c.loop-rest.lines.items)) (rest_asks k (Some left)) ≡ script_of c.args.text.now) (sym number) asks);
      counted = rw behind (omega (arith, left_less left));
    }

pub returns-in_err-read_into-clause-fault : goal.returns-in_err-read_into-clause-fault
returns-in_err-read_into-clause-fault c = λ m is.
    let asks = rw c.in-Some.is at c.loop-rest.invariant.asks in
    let number : c.saturating_add-number.result ≡ c.loop-rest.number + 1 = omega (arith, rw c.in-Some.is at c.loop-rest.invariant.counted) in
    let told = c.in_err-read_into.ensures.fault m (same_fault _ _ _ c.from_residual.ensures.1 is) in
    fault_told c.saturating_add-number.result m c.in-Some.left.now _ _ (map line_seen c.loop-rest.lines.items) _ c.cut_at.ensures told.1
    (subst (λ k. asks_then (Ok (map line_seen c.loop-rest.lines.items)) (rest_asks k (Some c.in-Some.left.now)) ≡ script_of c.args.text.now) (sym number) asks)
