use Rattle.std.proofs.Common.{rules, arith, ◌≡◌, ◌≤◌, ◌<◌, ◌+◌, true, false, refl, ◌∙◌, subst}
use Rattle.serving.specs.Parts.{Asking}
use Rattle.serving.specs.HttpParts.{AskedApart}
use Rattle.serving.specs.HttpWorks.{HasAcceptedForAdmin}
use Rattle.serving.proofs.Quieting.{asks_none, asks_then, asks_so}
use Rattle.serving.proofs.HttpWorking.{accepted_none, accepted_then, accepted_less}
use Rattle.serving.proofs.server.Server.accept_admin_links.Goals as goal

pub loop-times-init : goal.loop-times-init
loop-times-init g c =
    let xs = c.args.requests.now.exchanges.items in
    record {
      answers = λ x B start L pop s. s;
      few = λ h. h;
      works = record {
        office = refl;
        unheard = λ h q. q;
        part = asks_none g.W.Wire.asked c.args.self.now.wire (HasAcceptedForAdmin c.args.now 0 true xs xs) (accepted_none c.args.now xs);
      };
    }

pub loop-times-preserved : goal.loop-times-preserved
loop-times-preserved g c =
    let k = c.loop-times in
    let x = c.accept_admin_link in
    let ys = k.requests.exchanges.items in
    let zs = x.new.requests.exchanges.items in
    let goes : x.result ≡ true = search rules in
    let once = subst (λ b. Asking g.W.Wire.asked k.self.wire x.new.self.wire (AskedApart (HasAcceptedForAdmin c.args.now 1 b ys zs))) goes x.ensures.works.part in
    record {
      answers = λ y B start L pop s. x.ensures.answers y B start L pop (k.invariant.answers y B start L pop s);
      few = λ h. x.ensures.few (k.invariant.few h);
      works = record {
        office = x.ensures.works.office ∙ k.invariant.works.office;
        unheard = λ h q. x.ensures.works.unheard h (k.invariant.works.unheard h q);
        part = asks_then g.W.Wire.asked c.args.self.now.wire k.self.wire x.new.self.wire (HasAcceptedForAdmin c.args.now k._times true c.args.requests.now.exchanges.items ys)
            (HasAcceptedForAdmin c.args.now 1 true ys zs) (HasAcceptedForAdmin c.args.now (k._times + 1) true c.args.requests.now.exchanges.items zs)
            (λ c1 c2 a b. accepted_then c.args.now c.args.requests.now.exchanges.items ys zs k._times 1 true c1 c2 a b) k.invariant.works.part once;
      };
    }

pub returns-then-not-accept_admin_link-clause-works : goal.returns-then-not-accept_admin_link-clause-works
returns-then-not-accept_admin_link-clause-works g c =
    let k = c.loop-times in
    let x = c.accept_admin_link in
    let now = c.args.now in
    let most = c.args.most in
    let xs = c.args.requests.now.exchanges.items in
    let ys = k.requests.exchanges.items in
    let zs = x.new.requests.exchanges.items in
    let ends : x.result ≡ false = search rules in
    let room : k._times < most = search rules in
    let once = subst (λ b. Asking g.W.Wire.asked k.self.wire x.new.self.wire (AskedApart (HasAcceptedForAdmin now 1 b ys zs))) ends x.ensures.works.part in (
      false,
      record {
        office = x.ensures.works.office ∙ k.invariant.works.office;
        unheard = λ h q. x.ensures.works.unheard h (k.invariant.works.unheard h q);
        part = asks_then g.W.Wire.asked c.args.self.now.wire k.self.wire x.new.self.wire (HasAcceptedForAdmin now k._times true xs ys)
            (HasAcceptedForAdmin now 1 false ys zs) (HasAcceptedForAdmin now most false xs zs)
            (λ c1 c2 a b. accepted_less now xs zs (k._times + 1) most false _ (omega (arith, room)) (λ e. cc) (accepted_then now xs ys zs k._times 1 false c1 c2 a b)) k.invariant.works.part once;
      },
    )

pub returns-clause-works : goal.returns-clause-works
returns-clause-works g c =
    let k = c.loop-times in
    let xs = c.args.requests.now.exchanges.items in
    let ys = k.requests.exchanges.items in
    let h : c.args.most ≤ k._times = search rules in
    let within : k._times ≤ c.args.most = search rules in (
      true,
      record {
        office = k.invariant.works.office;
        unheard = k.invariant.works.unheard;
        part = asks_so g.W.Wire.asked c.args.self.now.wire k.self.wire (HasAcceptedForAdmin c.args.now k._times true xs ys) (HasAcceptedForAdmin c.args.now c.args.most true xs ys)
            (λ cs a. accepted_less c.args.now xs ys k._times c.args.most true cs within (λ e. h) a) k.invariant.works.part;
      },
    )
