use Rattle.std.proofs.Common.{refl}
use Rattle.serving.specs.Requests.{AreKeptAmong}
use Rattle.serving.proofs.Requesting.{asked_still, waited}
use Rattle.serving.proofs.Quieting.{NoEvent, did_none, also_from, also_asked, also_then}
use Rattle.serving.specs.Hearing.{HeardApart}
use Rattle.serving.proofs.Hearing.{hears_none, hears_on, apart_still}
use Rattle.serving.proofs.HttpWorking.{turn_served}
use Rattle.serving.specs.HttpWorks.{HasRead, HasWritten, HasHttpTurn, IsLate}
use Rattle.std.proofs.Common.{rules, ◌≡◌, true, false, ◌∙◌, sym}
use Rattle.serving.proofs.Ongoing.{still_timely}
use Rattle.serving.specs.Parts.{PollsBy}
use Rattle.serving.proofs.Resting.{polled_same, polled_then}
use Rattle.serving.proofs.server.Server.serve_exchange.Goals as goal

pub returns-then-is_late-clause-asked : goal.returns-then-is_late-clause-asked
returns-then-is_late-clause-asked g c = λ B start L pop others s clean.
    (let e = c.args.exchange.now in
    asked_still g.V.Vault.holds g.W.Wire.tells c.args.site.now B start L pop c.args.self.now.office c.args.self.now.wire c.args.self.now.wire (AreKeptAmong others e) (AreKeptAmong others _) s
    (waited g.W.Wire.tells B start pop others e _ s.x s.log c.args.self.now.wire c.args.self.now.wire s.is s.is.told s.is.tells refl (λ k. refl) (λ k. refl) (λ k ne. refl)
    s.is.exchanged.straight refl refl refl refl (λ q. cc)))

pub returns-clause-asked : goal.returns-clause-asked
returns-clause-asked g c = λ B start L pop others s clean.
    (let k = c.read_request.ensures.asked B start L pop others s clean in
    asked_still g.V.Vault.holds g.W.Wire.tells c.args.site.now B start L pop c.read_request.new.self.office c.read_request.new.self.wire c.write_response.new.wire
    (AreKeptAmong others c.read_request.new.exchange) (AreKeptAmong others c.write_response.new.exchange) k
    (c.write_response.ensures.answers k.x B start k.log pop others k.is))

pub returns-then-is_late-clause-timely : goal.returns-then-is_late-clause-timely
returns-then-is_late-clause-timely g c = λ q. cc

pub returns-clause-timely : goal.returns-clause-timely
returns-clause-timely g c =
    let no : c.is_late.result ≡ false = search rules in
    λ q. still_timely c.args.now c.args.exchange.now c.write_response.new.exchange (c.write_response.ensures.keeps.since ∙ c.read_request.ensures.keeps.since) (sym c.is_late.ensures ∙ no)

pub returns-then-is_late-clause-works : goal.returns-then-is_late-clause-works
returns-then-is_late-clause-works g c =
    let yes : c.is_late.result ≡ true = search rules in
    also_from g.V.Vault g.W.Wire.asked c.args.self.now.office
    c.args.self.now.office c.args.self.now.wire c.args.self.now.wire _ (PollsBy false false) (polled_same false)
    (did_none g.V.Vault g.W.Wire.asked c.args.self.now.office c.args.self.now.wire
    (HeardApart g.L.Listener.heard c.args.self.now.listener c.args.self.now.listener (λ B L. HasHttpTurn c.args.site.now c.args.now B L c.args.exchange.now _))
    (λ B L. (hears_none g.L.Listener.heard c.args.self.now.listener, IsLate (sym c.is_late.ensures ∙ yes) refl)))

pub returns-clause-works : goal.returns-clause-works
returns-clause-works g c =
    let no : c.is_late.result ≡ false = search rules in
    let e = c.args.exchange.now in
    let e1 = c.read_request.new.exchange in
    let e2 = c.write_response.new.exchange in
    let l = c.args.self.now.listener in
    let l1 = c.read_request.new.self.listener in
    let l2 = c.write_response.new.listener in
    also_then g.V.Vault g.W.Wire.asked c.args.self.now.office
    c.read_request.new.self.office c.read_request.new.self.office c.args.self.now.wire c.read_request.new.self.wire c.write_response.new.wire
    (HeardApart g.L.Listener.heard l l1 (λ B L. HasRead c.args.site.now B L e e1)) (NoEvent (HasWritten e1 e2))
    (HeardApart g.L.Listener.heard l l2 (λ B L. HasHttpTurn c.args.site.now c.args.now B L e e2)) (PollsBy false false) (PollsBy false c.write_response.result) (PollsBy false c.write_response.result)
    (λ B L g1 g2 c1 c2 p q. (
      hears_on g.L.Listener.heard l l1 l2 _ c.write_response.ensures.heard (apart_still g.L.Listener.heard l l1 B L g1 g2 q.0 p.0),
      turn_served c.args.site.now c.args.now B L e e1 e2 g1 g2 c1 c2 (sym c.is_late.ensures ∙ no) p.1 q.0 q.1,
    )) (λ c1 c2 m n. polled_then false false c.write_response.result c1 c2 m n)
    (also_from g.V.Vault g.W.Wire.asked c.args.self.now.office
    c.read_request.new.self.office c.args.self.now.wire c.read_request.new.self.wire _ (PollsBy false false) (polled_same false) c.read_request.ensures.works)
    (also_asked g.V.Vault g.W.Wire.asked c.read_request.new.self.office
    c.read_request.new.self.wire c.write_response.new.wire (HasWritten e1 e2) (PollsBy false c.write_response.result) c.write_response.ensures.works)
