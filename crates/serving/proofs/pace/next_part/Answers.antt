use Rattle.std.proofs.Common.{rules, ◌≤◌, ◌<◌, length, take, arith}
use Rattle.std.proofs.lemmas.List.{length-take}
use Rattle.std.proofs.Common.{◌≡◌, ◌∷◌, ◌++◌, [], true, false, subst}
use Rattle.serving.specs.declared.wire.Port.TheVariants.{Pop}
use Rattle.serving.specs.declared.wire.Io.TheVariants.{Count}
use Rattle.serving.specs.Calls.{Looked}
use Rattle.serving.specs.Wires.{counted}
use Rattle.serving.specs.ClientParts.{is_count, Unlooked, NothingCame, PieceCame}
use Rattle.serving.proofs.Working.{asked_none, asked_one}
use Rattle.serving.proofs.pace.next_part.Goals as goal

pub returns-in-Count-clause-works : goal.returns-in-Count-clause-works
returns-in-Count-clause-works g c =
    let n = c.in-Count.count in
    let buffer = c.look.new.buffer in
    let fits : n ≤ length buffer = search rules in
    let some : 0 < length (take n buffer) = omega (arith, length-take n buffer, fits, c.in-Count.ensures.within.0) in
    let lines : c.args.pace.by_line ≡ true = search rules in
    let part = c.part_of_piece in
    record {
      calls = Looked Pop c.args.seat.link (Count n) (take n buffer) ∷ [];
      was_asked = asked_one g.W.Wire.asked c.args.wire.now c.look.new.self (Looked Pop c.args.seat.link (Count n) (take n buffer)) c.in-Count.ensures.called;
      facts = PieceCame n (take n buffer) part.result.count part.result.login lines some part.ensures.part part.ensures.login part.ensures.some;
    }

pub returns-in_default-clause-works : goal.returns-in_default-clause-works
returns-in_default-clause-works g c =
    let io = c.look.result in
    let no : is_count io ≡ false = search rules in
    let none : counted io c.look.new.buffer ≡ [] = search rules in
    record {
      calls = Looked Pop c.args.seat.link io [] ∷ [];
      was_asked = asked_one g.W.Wire.asked c.args.wire.now c.look.new.self (Looked Pop c.args.seat.link io [])
          (λ before k. subst (λ xs. g.W.Wire.asked c.look.new.self (before ++ Looked Pop c.args.seat.link io xs ∷ [])) none (c.look.ensures.called before k));
      facts = NothingCame io no;
    }

pub returns-then-not-pace-clause-works : goal.returns-then-not-pace-clause-works
returns-then-not-pace-clause-works g c = record {
  calls = [];
  was_asked = asked_none g.W.Wire.asked c.args.wire.now;
  facts = Unlooked (search rules);
}
