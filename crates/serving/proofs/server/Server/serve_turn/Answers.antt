use Rattle.serving.proofs.Bounds.{all_short}
use Rattle.serving.proofs.Going.{serves_on, waited_for}
use Rattle.serving.proofs.server.Server.serve_turn.Goals as goal

pub returns-clause-serves : goal.returns-clause-serves
returns-clause-serves g c = λ T s clean.
    c.serve_after_wait.ensures.serves T (serves_on g.V.Vault.holds g.W.Wire.tells g.S.Spool.tells T
    c.args.self.now.office c.args.self.now.office c.args.self.now.wire c.wait.new.self c.args.spool.now c.args.spool.now
    c.args.links.now.clients.seats.items c.args.links.now.requests.exchanges.items c.args.links.now.site c.wait.ensures.told (λ a told. told) (λ U k. k) s) clean

pub returns-clause-works : goal.returns-clause-works
returns-clause-works g c = λ T s clean.
    (c.serve_after_wait.ensures.works c.args.self.now.wire
    (waited_for g.W.Wire.asked c.args.self.now.wire c.wait.new.self c.args.links.now c.millis_for.result c.millis_for.ensures c.wait.ensures.called) T s clean).0

pub returns-clause-short : goal.returns-clause-short
returns-clause-short g c = λ T s clean short.
    (let w = returns-clause-works g c T s clean in all_short T c.args.now c.args.links.now c.serve_after_wait.new.links w.seen w.accepts w.admin short)

pub returns-clause-settings : goal.returns-clause-settings
returns-clause-settings g c = c.serve_after_wait.ensures.left.set

pub returns-clause-site : goal.returns-clause-site
returns-clause-site g c = c.serve_after_wait.ensures.left.site

pub returns-clause-seated : goal.returns-clause-seated
returns-clause-seated g c = c.serve_after_wait.ensures.left.seated

pub returns-clause-pacing : goal.returns-clause-pacing
returns-clause-pacing g c = c.serve_after_wait.ensures.left.pacing

pub returns-clause-few : goal.returns-clause-few
returns-clause-few g c = c.serve_after_wait.ensures.left.few

pub returns-clause-ongoing : goal.returns-clause-ongoing
returns-clause-ongoing g c = c.serve_after_wait.ensures.left.ongoing
