use Rattle.serving.proofs.Quieting.{did_none, also_from, also_then, also_so}
use Rattle.serving.proofs.HttpWorking.{HadSome, had_none, had_held, had_closed, had_all}
use Rattle.serving.specs.Parts.{PollsBy}
use Rattle.serving.specs.HttpParts.{ServesApart}
use Rattle.serving.specs.HttpWorks.{HadHttpTurns}
use Rattle.serving.specs.Hearing.{HeardApart}
use Rattle.serving.proofs.Hearing.{hears_none, apart_then}
use Rattle.std.proofs.Common.{◌≡◌, ◌+◌, true, false, [], take, drop, subst}
use Rattle.std.specs.Bool.{if◌then◌else◌}
use Rattle.std.proofs.Common.{rules, arith, ◌≤◌, length}
use Rattle.serving.proofs.Ongoing.{none_yet, one_more, as_many, all_go_on}
use Rattle.serving.proofs.Resting.{polled_same, polled_then}
use Rattle.serving.proofs.server.Server.serve_requests.Goals as goal

pub loop-place-init : goal.loop-place-init
loop-place-init g c = record {
  asked = λ B start L pop s clean. s;
  stay = none_yet c.args.now c.args.requests.now.exchanges.items;
  no_more = omega arith;
  works = also_from g.V.Vault g.W.Wire.asked c.args.self.now.office
      c.args.self.now.office c.args.self.now.wire c.args.self.now.wire _ (PollsBy false false) (polled_same false)
      (did_none g.V.Vault g.W.Wire.asked c.args.self.now.office c.args.self.now.wire
      (HeardApart g.L.Listener.heard c.args.self.now.listener c.args.self.now.listener (HadSome c.args.site.now c.args.now 0 c.args.requests.now.exchanges.items c.args.requests.now.exchanges.items))
      (λ B L. (hears_none g.L.Listener.heard c.args.self.now.listener, had_none c.args.site.now c.args.now c.args.requests.now.exchanges.items B L)));
}

pub loop-place-preserved-then-serve_place : goal.loop-place-preserved-then-serve_place
loop-place-preserved-then-serve_place g c =
    let k = c.loop-place in
    let x = c.serve_place in
    let now = c.args.now in
    let ys = k.requests.exchanges.items in
    let zs = x.new.requests.exchanges.items in
    let l = c.args.self.now.listener in
    let so : x.result ≡ true = search rules in
    record {
      asked = λ B start L pop s clean. x.ensures.asked B start L pop (k.invariant.asked B start L pop s (x.ensures.works.was_given.clean clean)) clean;
      stay = one_more c.args.now k.requests.exchanges.items x.new.requests.exchanges.items k.place x.ensures.held.before (x.ensures.held.goes_on c.if-serve_place.true) k.invariant.stay;
      no_more = (let a = x.ensures.left in let b = k.invariant.no_more in omega (arith, a, b));
      works = (let one = subst (λ b. ServesApart g.V.Vault g.W.Wire g.L.Listener k.self x.new.self (PollsBy k.requests.poll_now x.new.requests.poll_now)
          (λ B L. HadHttpTurns c.args.site.now now B L (take 1 (drop k.place ys)) (take (if b then 1 else 0) (drop k.place zs)))) so x.ensures.works in
          also_then g.V.Vault g.W.Wire.asked c.args.self.now.office k.self.office x.new.self.office c.args.self.now.wire k.self.wire x.new.self.wire
          (HeardApart g.L.Listener.heard l k.self.listener (HadSome c.args.site.now now k.place c.args.requests.now.exchanges.items ys))
          (HeardApart g.L.Listener.heard k.self.listener x.new.self.listener (λ B L. HadHttpTurns c.args.site.now now B L (take 1 (drop k.place ys)) (take 1 (drop k.place zs))))
          (HeardApart g.L.Listener.heard l x.new.self.listener (HadSome c.args.site.now now (k.place + 1) c.args.requests.now.exchanges.items zs)) (PollsBy false k.requests.poll_now)
          (PollsBy k.requests.poll_now x.new.requests.poll_now) (PollsBy false x.new.requests.poll_now)
          (λ B L g1 g2 c1 c2 a turn. (
            apart_then g.L.Listener.heard l k.self.listener x.new.self.listener B L g1 g2 a.0 turn.0,
            had_held c.args.site.now now k.place c.args.requests.now.exchanges.items ys zs B L g1 g2 c1 c2 a.1 turn.1 x.ensures.held.before
                (subst (λ b. drop (if b then k.place + 1 else k.place) zs ≡ drop (k.place + 1) ys) so x.ensures.held.behind),
          )) (polled_then false k.requests.poll_now x.new.requests.poll_now) k.invariant.works one);
    }

pub loop-place-preserved : goal.loop-place-preserved
loop-place-preserved g c =
    let k = c.loop-place in
    let x = c.serve_place in
    let now = c.args.now in
    let ys = k.requests.exchanges.items in
    let zs = x.new.requests.exchanges.items in
    let so : x.result ≡ false = search rules in
    record {
      asked = λ B start L pop s clean. x.ensures.asked B start L pop (k.invariant.asked B start L pop s (x.ensures.works.was_given.clean clean)) clean;
      stay = as_many c.args.now k.requests.exchanges.items x.new.requests.exchanges.items k.place x.ensures.held.before k.invariant.stay;
      no_more = (let a = x.ensures.left in let b = k.invariant.no_more in omega (arith, a, b));
      works =
          (let one = subst (λ b. ServesApart g.V.Vault g.W.Wire g.L.Listener k.self x.new.self (PollsBy k.requests.poll_now x.new.requests.poll_now)
          (λ B L. HadHttpTurns c.args.site.now now B L (take 1 (drop k.place ys)) (take (if b then 1 else 0) (drop k.place zs)))) so x.ensures.works in
          also_then g.V.Vault g.W.Wire.asked c.args.self.now.office
          k.self.office x.new.self.office c.args.self.now.wire k.self.wire x.new.self.wire
          (HeardApart g.L.Listener.heard c.args.self.now.listener k.self.listener (HadSome c.args.site.now now k.place c.args.requests.now.exchanges.items ys))
          (HeardApart g.L.Listener.heard k.self.listener x.new.self.listener (λ B L. HadHttpTurns c.args.site.now now B L (take 1 (drop k.place ys)) []))
          (HeardApart g.L.Listener.heard c.args.self.now.listener x.new.self.listener (HadSome c.args.site.now now k.place c.args.requests.now.exchanges.items zs)) (PollsBy false k.requests.poll_now)
          (PollsBy k.requests.poll_now x.new.requests.poll_now) (PollsBy false x.new.requests.poll_now)
          (λ B L g1 g2 c1 c2 a turn. (
            apart_then g.L.Listener.heard c.args.self.now.listener k.self.listener x.new.self.listener B L g1 g2 a.0 turn.0,
            had_closed c.args.site.now now k.place c.args.requests.now.exchanges.items ys zs B L g1 g2 c1 c2 a.1 turn.1 x.ensures.held.before
                (subst (λ b. drop (if b then k.place + 1 else k.place) zs ≡ drop (k.place + 1) ys) so x.ensures.held.behind),
          ))
          (polled_then false k.requests.poll_now x.new.requests.poll_now)
          k.invariant.works one);
    }

pub returns-clause-stay : goal.returns-clause-stay
returns-clause-stay g c =
    let k = c.loop-place in
    let done : length k.requests.exchanges.items ≤ k.place = search rules in
    all_go_on c.args.now k.requests.exchanges.items k.place done k.invariant.stay

pub returns-clause-works : goal.returns-clause-works
returns-clause-works g c =
    let k = c.loop-place in
    let now = c.args.now in
    let xs = c.args.requests.now.exchanges.items in
    let ys = k.requests.exchanges.items in
    let done : length ys ≤ k.place = search rules in
    also_so g.V.Vault g.W.Wire.asked c.args.self.now.office k.self.office c.args.self.now.wire k.self.wire
    (HeardApart g.L.Listener.heard c.args.self.now.listener k.self.listener (HadSome c.args.site.now now k.place xs ys))
    (HeardApart g.L.Listener.heard c.args.self.now.listener k.self.listener (λ B L. HadHttpTurns c.args.site.now now B L xs ys)) (PollsBy false k.requests.poll_now) (PollsBy false k.requests.poll_now)
    (λ B L given calls a. (a.0, had_all c.args.site.now now k.place xs ys B L given calls done a.1)) (λ cs m. m) k.invariant.works
