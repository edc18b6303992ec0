use Rattle.std.proofs.Common.{rules, true, false, refl, sym, ◌∙◌, ap, subst}
use Rattle.serving.specs.Wires.{has_accepted, has_closed}
use Rattle.serving.specs.Requests.{AreHeld}
use Rattle.serving.proofs.Requesting.{exchanged_same, exchanged_accepted, held_refused, held_new}
use Rattle.serving.proofs.Quieting.{quiet_accepted, quiet_closed, asks_one, asks_two}
use Rattle.std.proofs.Common.{None, Some, [], ◌∷◌, arith}
use Rattle.serving.specs.declared.wire.Port.TheVariants.{Admin}
use Rattle.serving.specs.Calls.{Accepted, Closed}
use Rattle.serving.specs.HttpWorks.{NoMore, IsKept, IsTurnedAway, WantsMemory, HasAcceptedForAdmin}
use Rattle.serving.proofs.server.Server.accept_admin_link.Goals as goal

pub returns-in-Ok-true-clause-answers : goal.returns-in-Ok-true-clause-answers
returns-in-Ok-true-clause-answers g c = λ x B start L pop s.
    (let accepted = c.in-Some.ensures.told (record { pop = pop; admin = s.told }) s.tells in
    let more = c.in-Ok-true.ensures.kept (search rules) in
    record {
      told = has_accepted s.told;
      tells = accepted.1;
      exchanged = exchanged_accepted s.told x c.args.requests.now.exchanges.items B start L s.exchanged;
      held = subst (AreHeld (has_accepted s.told) x) (sym more.is)
          (held_new s.told x c.args.requests.now.exchanges.items B start L more.last (ap (λ k. k.number) more.link_is ∙ accepted.0) more.read more.response more.written s.exchanged s.held);
    })

pub returns-in-Ok-false-clause-answers : goal.returns-in-Ok-false-clause-answers
returns-in-Ok-false-clause-answers g c = λ x B start L pop s.
    (let accepted = c.in-Some.ensures.told (record { pop = pop; admin = s.told }) s.tells in
    let xs = c.args.requests.now.exchanges.items in
    let n = c.in-Some.link.number in
    let told2 = has_closed (has_accepted s.told) n in
    record {
      told = told2;
      tells = c.close_link.ensures.told (record { pop = pop; admin = has_accepted s.told }) accepted.1;
      exchanged = exchanged_same (has_accepted s.told) told2 x B start L (exchanged_accepted s.told x xs B start L s.exchanged) refl (λ k. refl) (λ k. refl) s.exchanged.straight;
      held = subst (AreHeld told2 x) (sym (c.in-Ok-false.ensures.turned_away (search rules))) (held_refused s.told x xs n accepted.0 s.held);
    })

pub returns-in-Err-clause-answers : goal.returns-in-Err-clause-answers
returns-in-Err-clause-answers g c = λ x B start L pop s.
    (let accepted = c.in-Some.ensures.told (record { pop = pop; admin = s.told }) s.tells in
    let xs = c.args.requests.now.exchanges.items in
    let told2 = has_closed (has_accepted s.told) c.in-Some.link.number in
    record {
      told = told2;
      tells = c.close_link-in-Err.ensures.told (record { pop = pop; admin = has_accepted s.told }) accepted.1;
      exchanged = exchanged_same (has_accepted s.told) told2 x B start L (exchanged_accepted s.told x xs B start L s.exchanged) refl (λ k. refl) (λ k. refl) s.exchanged.straight;
      held = subst (AreHeld told2 x) (sym c.in-Err.ensures.refused) (held_refused s.told x xs c.in-Some.link.number accepted.0 s.held);
    })

pub returns-in_default-clause-works : goal.returns-in_default-clause-works
returns-in_default-clause-works g c =
    let xs = c.args.requests.now.exchanges.items in
    record {
      office = refl;
      unheard = λ h q. q;
      part =
          asks_one g.W.Wire.asked c.args.self.now.wire c.accept.new.self (Accepted Admin None) (HasAcceptedForAdmin c.args.now 1 false xs xs) (quiet_accepted None)
          (record { came = 0; arrivals = []; come = NoMore xs; calls_are = refl; enough = λ e. cc; few = omega arith }) c.in_default.ensures.called;
    }

pub returns-in-Ok-true-clause-works : goal.returns-in-Ok-true-clause-works
returns-in-Ok-true-clause-works g c =
    let link = c.in-Some.link in
    let xs = c.args.requests.now.exchanges.items in
    let ys = c.keep.new.self.exchanges.items in
    record {
      office = refl;
      unheard = λ h q. c.on_link.ensures.heard h q;
      part =
          asks_one g.W.Wire.asked c.args.self.now.wire c.accept.new.self (Accepted Admin (Some link)) (HasAcceptedForAdmin c.args.now 1 true xs ys) (quiet_accepted (Some link))
          (record {
            came = 1;
            arrivals = Accepted Admin (Some link) ∷ [];
            come =
                IsKept link xs ys ys 0 [] (c.in-Ok-true.ensures.kept (search rules)) (NoMore ys);
            calls_are = refl;
            enough = λ e. omega arith;
            few = omega arith;
          }) c.in-Some.ensures.called;
    }

pub returns-in-Ok-false-clause-works : goal.returns-in-Ok-false-clause-works
returns-in-Ok-false-clause-works g c =
    let link = c.in-Some.link in
    let xs = c.args.requests.now.exchanges.items in
    let calls = Accepted Admin (Some link) ∷ Closed Admin link ∷ [] in
    record {
      office = refl;
      unheard = λ h q. c.close_link.ensures.heard h (c.on_link.ensures.heard h q);
      part =
          asks_two g.W.Wire.asked c.args.self.now.wire c.accept.new.self c.close_link.new.wire (Accepted Admin (Some link)) (Closed Admin link)
          (HasAcceptedForAdmin c.args.now 1 true xs c.keep.new.self.exchanges.items) (quiet_accepted (Some link)) (quiet_closed link)
          (subst (λ l. HasAcceptedForAdmin c.args.now 1 true xs l calls) (sym (c.in-Ok-false.ensures.turned_away (search rules)))
          (record {
            came = 1;
            arrivals = calls;
            come = IsTurnedAway link xs xs 0 [] (c.in-Ok-false.ensures.full (search rules)) (NoMore xs);
            calls_are = refl;
            enough = λ e. omega arith;
            few = omega arith;
          }))
          c.in-Some.ensures.called c.close_link.ensures.called;
    }

pub returns-in-Err-clause-works : goal.returns-in-Err-clause-works
returns-in-Err-clause-works g c =
    let link = c.in-Some.link in
    let xs = c.args.requests.now.exchanges.items in
    let calls = Accepted Admin (Some link) ∷ Closed Admin link ∷ [] in
    record {
      office = refl;
      unheard = λ h q. c.close_link-in-Err.ensures.heard h (c.on_link.ensures.heard h q);
      part =
          asks_two g.W.Wire.asked c.args.self.now.wire c.accept.new.self c.close_link-in-Err.new.wire (Accepted Admin (Some link)) (Closed Admin link)
          (HasAcceptedForAdmin c.args.now 1 true xs c.keep.new.self.exchanges.items) (quiet_accepted (Some link)) (quiet_closed link)
          (subst (λ l. HasAcceptedForAdmin c.args.now 1 true xs l calls) (sym c.in-Err.ensures.refused)
          (record { came = 1; arrivals = calls; come = WantsMemory link xs xs 0 [] (NoMore xs); calls_are = refl; enough = λ e. omega arith; few = omega arith }))
          c.in-Some.ensures.called c.close_link-in-Err.ensures.called;
    }
