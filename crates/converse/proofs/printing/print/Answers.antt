use Rattle.std.proofs.Common.{◌≡◌, ◌-◌, ◌≤◌, List, ℕ, arith, drop, length, length-drop, subst, sym, take, take-add, take-append-drop, take_all}
use Rattle.std.specs.Io.KnownBytes.{Appends}
use Rattle.converse.proofs.Clauses.{appends_kept, appends_then}
use Rattle.converse.proofs.printing.print.Goals as goal

pub returns-in_err-done-clause-part : goal.returns-in_err-done-clause-part
returns-in_err-done-clause-part g c = (
  take c.loop.done c.args.text.now,
  drop c.loop.done c.args.text.now,
  sym (take-append-drop c.loop.done c.args.text.now),
  appends_kept _ _ _ (take c.loop.done c.args.text.now) c.loop.invariant.1 c.in_err-done.ensures.bytes,
)

pub loop-preserved : goal.loop-preserved
loop-preserved g c =
    let all = c.args.text.now in
    let done = c.loop.done in
    let count = c.in_ok-done.field-0 in
    let before = g.W.Write.contents c.loop.out in
    let after = g.W.Write.contents c.put_some.new.out in
    let within = c.loop.invariant.0 in
    let left = length-drop done all in
    let rest : take (length all - done) (drop done all) ≡ drop done all = take_all (length all - done) (drop done all) (omega (arith, left)) in
    let some : count ≤ length (drop done all) = subst (λ (text : List ℕ). count ≤ length text) rest c.in_ok-done.ensures.bound in
    let told : Appends before after (take count (drop done all)) = subst (λ (text : List ℕ). Appends before after (take count text)) rest c.in_ok-done.ensures.bytes in (
      omega (arith, within, some, left),
      subst (λ (text : List ℕ). Appends (g.W.Write.contents c.args.out.now) after text) (sym (take-add done count all))
          (appends_then _ before after (take done all) (take count (drop done all)) c.loop.invariant.1 told),
    )

pub returns-clause-part : goal.returns-clause-part
returns-clause-part g c =
    (take c.loop.done c.args.text.now, drop c.loop.done c.args.text.now, sym (take-append-drop c.loop.done c.args.text.now), c.loop.invariant.1)
