use Rattle.std.proofs.Common.{rules, arith, ◌≡◌, ◌≤◌, ◌<◌, ◌+◌, true, false}
use Rattle.serving.proofs.Arriving.{accepting_none, accepted_ended, accepted_all}
use Rattle.serving.proofs.Composing.{accepts_then}
use Rattle.serving.proofs.Hearing.{hears_none}
use Rattle.serving.proofs.Newly.{noted_none, noted_then}
use Rattle.serving.proofs.Working.{part_none, part_so}
use Rattle.serving.proofs.server.Server.accept_links.Goals as goal

pub loop-times-init : goal.loop-times-init
loop-times-init g c = record {
  serves = λ T elsewhere s clean. s;
  comers = noted_none c.args.now c.args.clients.now;
  works = part_none g.V.Vault g.W.Wire.asked c.args.self.now.office c.args.self.now.wire _
      (hears_none g.L.Listener.heard c.args.self.now.listener, accepting_none g.V.Vault c.args.clients.now.make_room c.args.self.now.office c.args.clients.now.seats.items);
}

pub loop-times-preserved : goal.loop-times-preserved
loop-times-preserved g c =
    let s = c.args.self.now in
    let k = c.loop-times in
    let x = c.accept_link in
    let goes : x.result ≡ true = search rules in
    let comers = noted_then c.args.now c.args.clients.now k.clients x.new.clients k.invariant.comers x.ensures.comers in
    record {
      serves = λ T elsewhere s clean. x.ensures.serves T elsewhere (k.invariant.serves T elsewhere s (x.ensures.works.was_given.clean clean)) clean;
      comers = comers;
      works = accepts_then g.V.Vault g.W.Wire g.L.Listener c.args.clients.now s k.self x.new.self c.args.clients.now.seats.items k.clients x.new.clients.seats.items
          k._times x.result true k.invariant.comers.keeps.set goes k.invariant.works x.ensures.works;
    }

pub returns-then-not-accept_link-clause-works : goal.returns-then-not-accept_link-clause-works
returns-then-not-accept_link-clause-works g c =
    let s = c.args.self.now in
    let k = c.loop-times in
    let x = c.accept_link in
    let goes : x.result ≡ false = search rules in
    let room : k._times < 64 = search rules in
    let seats = c.args.clients.now.seats.items in
    let seats2 = x.new.clients.seats.items in
    let both = accepts_then g.V.Vault g.W.Wire g.L.Listener c.args.clients.now s k.self x.new.self seats k.clients seats2
    k._times x.result false k.invariant.comers.keeps.set goes k.invariant.works x.ensures.works in (
      false,
      part_so g.V.Vault g.W.Wire.asked s.office x.new.self.office s.wire x.new.self.wire _ _
          (λ gv cl wa a. (a.0, accepted_ended g.V.Vault c.args.clients.now.make_room s.office x.new.self.office seats seats2 (k._times + 1) 64 gv cl (omega (arith, room)) a.1)) both,
    )

pub returns-clause-works : goal.returns-clause-works
returns-clause-works g c =
    let s = c.args.self.now in
    let k = c.loop-times in
    let h : 64 ≤ k._times = search rules in
    let less : k._times ≤ 64 = search rules in (
      true,
      part_so g.V.Vault g.W.Wire.asked s.office k.self.office s.wire k.self.wire _ _
          (λ gv cl wa a. (
            a.0,
            accepted_all g.V.Vault c.args.clients.now.make_room s.office
                k.self.office c.args.clients.now.seats.items k.clients.seats.items k._times 64 gv cl less h a.1,
          )) k.invariant.works,
    )

pub returns-then-not-accept_link-clause-comers : goal.returns-then-not-accept_link-clause-comers
returns-then-not-accept_link-clause-comers g c = noted_then c.args.now c.args.clients.now c.loop-times.clients c.accept_link.new.clients c.loop-times.invariant.comers c.accept_link.ensures.comers
