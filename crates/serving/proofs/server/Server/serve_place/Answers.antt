use Rattle.std.proofs.Common.{◌<◌, length, set, refl, sym, ◌∙◌, ap, arith, subst}
use Rattle.std.proofs.lemmas.List.{length-set, get_or-set_same}
use Rattle.serving.specs.Wires.{has_closed}
use Rattle.serving.specs.Requests.{AreHeld, AreKeptAmong}
use Rattle.serving.proofs.Requesting.{asked_so, asked_still, exchanged_same, one_held, held_again, held_without}
use Rattle.serving.proofs.Quieting.{NoEvent, IsOne, quiet_closed, asks_one, did_asked, also_from, also_then, also_so}
use Rattle.serving.proofs.HttpWorking.{held_on, closed_so, one_at, one_set, behind_held, behind_closed}
use Rattle.serving.specs.HttpWorks.{HasHttpTurn, HadHttpTurns}
use Rattle.serving.specs.Hearing.{HeardApart}
use Rattle.serving.proofs.Hearing.{hears_on, apart_still}
use Rattle.serving.specs.Calls.{Closed}
use Rattle.serving.specs.declared.wire.Port.TheVariants.{Admin}
use Rattle.std.proofs.Common.{rules, ◌≡◌, true, false, [], ◌∷◌, ◌++◌, take, drop, ◌||◌}
use Rattle.serving.proofs.Ongoing.{front_stays, front_left, goes_on_there}
use Rattle.serving.specs.Parts.{PollsBy}
use Rattle.serving.proofs.Resting.{polled_same, admin_polled, closed_polled}
use Rattle.serving.proofs.server.Server.serve_place.Goals as goal

pub returns-then-not-exchange-clause-asked : goal.returns-then-not-exchange-clause-asked
returns-then-not-exchange-clause-asked g c = λ B start L pop s clean.
    (let xs = c.args.requests.now.exchanges.items in
    let e = c.index_mut-exchange.result.now in
    let value = c.index_mut-exchange.ensures.value in
    let one = asked_so g.V.Vault.holds g.W.Wire.tells c.args.site.now B start L pop c.args.self.now.office c.args.self.now.wire (λ told x. AreHeld told x xs) (AreKeptAmong xs e)
    (λ told x a. subst (λ y. AreKeptAmong xs y told x) (sym value) (one_held told x xs c.args.place e c.requires a)) s in
    let k = c.serve_exchange.ensures.asked B start L pop xs one clean in
    asked_so g.V.Vault.holds g.W.Wire.tells c.args.site.now B start L pop c.serve_exchange.new.self.office c.serve_exchange.new.self.wire
    (AreKeptAmong xs c.serve_exchange.new.exchange) (λ told x. AreHeld told x (set xs c.args.place c.serve_exchange.new.exchange))
    (λ told x a. held_again told x xs c.args.place c.serve_exchange.new.exchange e c.requires s.is.held.ascend (c.serve_exchange.ensures.keeps.link ∙ ap (λ y. y.link) value) a) k)

pub returns-clause-asked : goal.returns-clause-asked
returns-clause-asked g c = λ B start L pop s clean.
    (let xs = c.args.requests.now.exchanges.items in
    let place = c.args.place in
    let e = c.index_mut-exchange.result.now in
    let e2 = c.serve_exchange.new.exchange in
    let ys = set xs place e2 in
    let one = asked_so g.V.Vault.holds g.W.Wire.tells c.args.site.now B start L pop c.args.self.now.office c.args.self.now.wire (λ told x. AreHeld told x xs) (AreKeptAmong xs e)
    (λ told x a. subst (λ y. AreKeptAmong xs y told x) (sym c.index_mut-exchange.ensures.value) (one_held told x xs place e c.requires a)) s in
    let k = c.serve_exchange.ensures.asked B start L pop xs one clean in
    let all = asked_so g.V.Vault.holds g.W.Wire.tells c.args.site.now B start L pop c.serve_exchange.new.self.office c.serve_exchange.new.self.wire (AreKeptAmong xs e2) (λ told x. AreHeld told x ys)
    (λ told x a. held_again told x xs place e2 e c.requires s.is.held.ascend (c.serve_exchange.ensures.keeps.link ∙ ap (λ y. y.link) c.index_mut-exchange.ensures.value) a) k in
    let n = e2.link.number in
    let told = all.is.told in
    let told2 = has_closed told n in
    let within : place < length ys = (let h = c.requires in omega (arith, h, length-set xs place e2)) in
    asked_still g.V.Vault.holds g.W.Wire.tells c.args.site.now B start L pop c.serve_exchange.new.self.office c.serve_exchange.new.self.wire c.close_link.new.wire
    (λ told x. AreHeld told x ys) (λ told x. AreHeld told x c.remove.new.self.items) all
    (record {
      told = told2;
      tells = c.close_link.ensures.told (record { pop = pop; admin = told }) all.is.tells;
      exchanged = exchanged_same told told2 all.x B start all.log all.is.exchanged refl (λ k. refl) (λ k. refl) all.is.exchanged.straight;
      held = subst (AreHeld told2 all.x) (sym c.remove.ensures.items)
          (held_without told all.x ys place e2 n within all.is.held (ap (λ y. y.link.number) (sym (get_or-set_same xs place e2 e2 c.requires))));
    }))

pub returns-then-not-exchange-clause-works : goal.returns-then-not-exchange-clause-works
returns-then-not-exchange-clause-works g c =
    let xs = c.args.requests.now.exchanges.items in
    let place = c.args.place in
    let now = c.args.now in
    let e = c.index_mut-exchange.result.now in
    let e2 = c.serve_exchange.new.exchange in
    let before = c.args.requests.now.poll_now in
    let polled = c.serve_exchange.result in
    let l1 = c.serve_exchange.new.self.listener in
    let live : e2.is_over ≡ false = search rules in
    let is : take 1 (drop place xs) ≡ e ∷ [] = one_at xs place e c.requires ∙ ap (λ y. y ∷ []) (sym c.index_mut-exchange.ensures.value) in
    let left = one_set xs place e2 c.requires in
    also_so g.V.Vault g.W.Wire.asked c.args.self.now.office
    c.serve_exchange.new.self.office c.args.self.now.wire c.serve_exchange.new.self.wire
    (HeardApart g.L.Listener.heard c.args.self.now.listener l1 (λ B L. HasHttpTurn c.args.site.now now B L e e2))
    (HeardApart g.L.Listener.heard c.args.self.now.listener l1 (λ B L. HadHttpTurns c.args.site.now now B L (take 1 (drop place xs)) (take 1 (drop place (set xs place e2)))))
    (PollsBy false polled) (PollsBy before (before || polled))
    (λ B L given calls turn. (
      turn.0,
      subst (λ v. HadHttpTurns c.args.site.now now B L v (take 1 (drop place (set xs place e2))) given calls) (sym is)
          (subst (λ v. HadHttpTurns c.args.site.now now B L (e ∷ []) v given calls) (sym left) (held_on c.args.site.now now B L e e2 given calls turn.1 live c.serve_exchange.ensures.keeps.since)),
    ))
    (admin_polled before polled) c.serve_exchange.ensures.works

pub returns-clause-works : goal.returns-clause-works
returns-clause-works g c =
    let xs = c.args.requests.now.exchanges.items in
    let now = c.args.now in
    let e = c.index_mut-exchange.result.now in
    let e2 = c.serve_exchange.new.exchange in
    let o1 = c.serve_exchange.new.self.office in
    let w1 = c.serve_exchange.new.self.wire in
    let w2 = c.close_link.new.wire in
    let call = Closed Admin e2.link in
    let l = c.args.self.now.listener in
    let l2 = c.close_link.new.listener in
    let over : e2.is_over ≡ true = search rules in
    let is : take 1 (drop c.args.place xs) ≡ e ∷ [] = one_at xs c.args.place e c.requires ∙ ap (λ y. y ∷ []) (sym c.index_mut-exchange.ensures.value) in
    also_then g.V.Vault g.W.Wire.asked c.args.self.now.office o1 o1 c.args.self.now.wire w1 w2
    (HeardApart g.L.Listener.heard l c.serve_exchange.new.self.listener (λ B L. HasHttpTurn c.args.site.now now B L e e2)) (NoEvent (IsOne call))
    (HeardApart g.L.Listener.heard l l2 (λ B L. HadHttpTurns c.args.site.now now B L (take 1 (drop c.args.place xs)) []))
    (PollsBy false c.serve_exchange.result) (PollsBy false false) (PollsBy c.args.requests.now.poll_now (c.args.requests.now.poll_now || c.serve_exchange.result))
    (λ B L g1 g2 c1 c2 turn q. (
      hears_on g.L.Listener.heard l c.serve_exchange.new.self.listener l2 _ c.close_link.ensures.heard (apart_still g.L.Listener.heard l c.serve_exchange.new.self.listener B L g1 g2 q.0 turn.0),
      subst (λ v. HadHttpTurns c.args.site.now now B L v [] (g2 ++ g1) (c1 ++ c2)) (sym is)
          (closed_so c.args.site.now now B L e e2 g1 g2 c1 c2 turn.1 over e2.link c.serve_exchange.ensures.keeps.link q.0 q.1),
    ))
    (λ c1 c2 m n. closed_polled c.args.requests.now.poll_now c.serve_exchange.result c1 c2 m)
    c.serve_exchange.ensures.works
    (also_from g.V.Vault g.W.Wire.asked o1 o1 w1 w2 _ (PollsBy false false) (polled_same false)
    (did_asked g.V.Vault g.W.Wire.asked o1 w1 w2 (IsOne call) (NoEvent (IsOne call)) (λ B L cs at. (refl, at))
    (asks_one g.W.Wire.asked w1 w2 call (IsOne call) (quiet_closed e2.link) refl c.close_link.ensures.called)))

pub returns-then-not-exchange-clause-held : goal.returns-then-not-exchange-clause-held
returns-then-not-exchange-clause-held g c =
    let e = c.serve_exchange.new.exchange in
    let live : e.is_over ≡ false = search rules in
    record {
      before = front_stays c.args.requests.now.exchanges.items c.args.place e;
      behind = behind_held c.args.requests.now.exchanges.items c.args.place e;
      goes_on = λ q. goes_on_there c.args.now c.args.requests.now.exchanges.items c.args.place e c.requires (record { live = live; timely = c.serve_exchange.ensures.timely live });
    }

pub returns-clause-held : goal.returns-clause-held
returns-clause-held g c =
    let ys = c.remove.new.self.items in
    record {
      before = front_left c.args.requests.now.exchanges.items ys c.args.place c.serve_exchange.new.exchange c.remove.ensures.items;
      behind = behind_closed c.args.requests.now.exchanges.items ys c.args.place c.serve_exchange.new.exchange c.remove.ensures.items;
      goes_on = λ q. cc;
    }
