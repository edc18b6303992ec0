use Rattle.std.proofs.Common.{rules, ◌≡◌, ◌≤◌, ◌<◌, ◌==◌, ◌+◌, ◌++◌, not, true, false, refl, ◌∙◌, ap, inl, inr, arith}
use Rattle.std.specs.Bool.{if◌then◌else◌}
use Rattle.serving.specs.Parts.{PollsBy}
use Rattle.serving.specs.Works.{is_moving}
use Rattle.serving.specs.HttpParts.{Writes}
use Rattle.serving.specs.HttpWorks.{HasWritten}
use Rattle.serving.proofs.Quieting.{asks_none, asks_then, asks_so}
use Rattle.serving.proofs.HttpWorking.{response_more, response_ended, response_share, response_often, written_once, one_more_call}
use Rattle.serving.proofs.Working.{any_right}
use Rattle.serving.proofs.Resting.{WritesSoFar, written_moved, polled_same, polled_moved}
use Rattle.serving.proofs.requests.write_response.Goals as goal

pub loop-times-init : goal.loop-times-init
loop-times-init g c =
    record {
      answers = λ x B start L pop others s. s;
      keeps = record { link = refl; since = refl };
      heard = λ h k. k;
      works =
          asks_none g.W.Wire.asked c.args.wire.now (WritesSoFar c.args.exchange.now c.args.exchange.now 0 0) (inl (refl, refl, refl, refl), λ h. absurd (omega (arith, h)), omega arith);
    }

pub loop-times-preserved : goal.loop-times-preserved
loop-times-preserved g c =
    let k = c.loop-times in
    let x = c.write_some-count in
    let n = x.result in
    let e1 = k.exchange in
    let e2 = x.new.exchange in
    let some : (n == 0) ≡ false = search rules in
    let one = written_once n some in
    let sum = c.saturating_add-written.result in
    let fits : sum ≤ k.written + n = search rules in
    record {
      answers = λ y B start L pop others s. x.ensures.answers y B start L pop others (k.invariant.answers y B start L pop others s);
      keeps = record { link = x.ensures.keeps.link ∙ k.invariant.keeps.link; since = x.ensures.keeps.since ∙ k.invariant.keeps.since };
      heard = λ h q. x.ensures.heard h (k.invariant.heard h q);
      works = asks_then g.W.Wire.asked c.args.wire.now k.wire x.new.wire (WritesSoFar c.args.exchange.now e1 k._times k.written)
          (Writes e1 e2 (if n == 0 then 0 else 1) n (not (n == 0))) (WritesSoFar c.args.exchange.now e2 (k._times + 1) sum)
          (λ c1 c2 a b. (
            inr (response_more c.args.exchange.now e1 e2 k._times (if n == 0 then 0 else 1) k.written n (k._times + 1) sum c1 c2 (omega (arith, one)) fits a.0 b.is),
            λ h. any_right is_moving c1 c2 (written_moved e1 e2 (if n == 0 then 0 else 1) n c2 some b.is),
            one_more_call k._times c1 c2 a.2 b.once,
          )) k.invariant.works x.ensures.works;
    }

pub returns-then-count-eq0-clause-works : goal.returns-then-count-eq0-clause-works
returns-then-count-eq0-clause-works g c =
    let k = c.loop-times in
    let x = c.write_some-count in
    let n = x.result in
    let none : (n == 0) ≡ true = search rules in
    let room : k._times < 64 = search rules in
    asks_then g.W.Wire.asked c.args.wire.now k.wire x.new.wire (WritesSoFar c.args.exchange.now k.exchange k._times k.written)
    (Writes k.exchange x.new.exchange (if n == 0 then 0 else 1) n (not (n == 0))) (λ cs. HasWritten c.args.exchange.now x.new.exchange cs × PollsBy false false cs)
    (λ c1 c2 a b. (
      response_ended c.args.exchange.now k.exchange x.new.exchange k._times (if n == 0 then 0 else 1) k.written n c1 c2
          (let h = one_more_call k._times c1 c2 a.2 b.once in omega (arith, h, room)) a.0 b.is (b.ends (ap not none)),
      polled_same false (c1 ++ c2),
    )) k.invariant.works x.ensures.works

pub returns-then-written-ge-SHARE_AMONG_OTHERS-clause-works : goal.returns-then-written-ge-SHARE_AMONG_OTHERS-clause-works
returns-then-written-ge-SHARE_AMONG_OTHERS-clause-works g c =
    let k = c.loop-times in
    let x = c.write_some-count in
    let n = x.result in
    let e = c.args.exchange.now in
    let e1 = k.exchange in
    let e2 = x.new.exchange in
    let fits : c.saturating_add-written.result ≤ k.written + n = search rules in
    let enough : 16384 ≤ c.saturating_add-written.result = search rules in
    let some : (n == 0) ≡ false = search rules in
    let room : k._times < 64 = search rules in
    asks_then g.W.Wire.asked c.args.wire.now k.wire x.new.wire (WritesSoFar e e1 k._times k.written)
    (Writes e1 e2 (if n == 0 then 0 else 1) n (not (n == 0))) (λ cs. HasWritten e e2 cs × PollsBy false true cs)
    (λ c1 c2 a b. (
      response_share e e1 e2 k._times (if n == 0 then 0 else 1) k.written n c1 c2 (let h = one_more_call k._times c1 c2 a.2 b.once in omega (arith, h, room)) (omega (arith, fits, enough)) a.0 b.is,
      polled_moved false true (c1 ++ c2) (any_right is_moving c1 c2 (written_moved e1 e2 (if n == 0 then 0 else 1) n c2 some b.is)),
    )) k.invariant.works x.ensures.works

pub returns-clause-works : goal.returns-clause-works
returns-clause-works g c =
    let k = c.loop-times in
    let h : 64 ≤ k._times = search rules in
    let less : k._times ≤ 64 = search rules in
    asks_so g.W.Wire.asked c.args.wire.now k.wire (WritesSoFar c.args.exchange.now k.exchange k._times k.written) (λ cs. HasWritten c.args.exchange.now k.exchange cs × PollsBy false true cs)
    (λ cs a. (response_often c.args.exchange.now k.exchange k._times k.written cs (let q = a.2 in omega (arith, q, less)) h a.0, polled_moved false true cs (a.1 (omega (arith, h))))) k.invariant.works
