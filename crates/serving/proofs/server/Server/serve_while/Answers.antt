use Rattle.std.proofs.Common.{rules, ◌≤◌, ◌<◌, ◌+◌, ◌++◌, ◌∷◌, [], true, false, refl, sym, ap, subst, ◌∙◌, arith}
use Rattle.office.specs.Taken.{trace_of}
use Rattle.serving.specs.Served.{Serves}
use Rattle.serving.specs.HttpTurns.{AreFew}
use Rattle.serving.specs.HttpWorks.{AreShort}
use Rattle.serving.specs.Newcomers.{AllHaveSeats}
use Rattle.serving.specs.Guesses.{AllArePacing}
use Rattle.serving.specs.Quits.{in_a_row, most_in_a_row, HasStayedFor}
use Rattle.serving.specs.Settings.{settings}
use Rattle.serving.specs.Running.{HasTurned}
use Rattle.serving.proofs.Going.{serves_on, maintained_clean, waited_for, turned_none, turned_more, turned_stopped, one_longer}
use Rattle.serving.proofs.Bounds.{all_short}
use Rattle.serving.proofs.server.Server.serve_while.Goals as goal

pub loop-turn-init : goal.loop-turn-init
loop-turn-init g c = record {
  serves = λ T s clean. s;
  clean = λ k. k;
  turned = (
    [],
    0,
    refl,
    c.new-quits.ensures,
    turned_none g.V.Vault g.W.Wire.asked g.S.Spool.asked
        g.L.Listener.heard g.C.Clock.gave c.args.links.now c.args.self.now.office c.args.self.now.wire c.args.spool.now c.args.self.now.listener c.args.clock.now,
  );
  few = λ a. a;
  seated = λ h. h;
  pacing = λ h. h;
  short = λ T s clean a. a;
  settings = refl;
  site = refl;
}

pub loop-turn-preserved : goal.loop-turn-preserved
loop-turn-preserved g c =
    let k = c.loop-turn in
    let x = c.serve_after_wait in
    let m = k.invariant.turned in
    let now = c.in-Some.now in
    let w0 = k.self.wire in
    let w1 = c.wait.new.self in
    let waited = waited_for g.W.Wire.asked w0 w1 k.links c.millis_for.result c.millis_for.ensures c.wait.ensures.called in
    let left = x.ensures.left in
    let y = c.use_pause in
    let p = x.new.quits.is_preparing in
    let pause = y.ensures.pauses in
    let paused = sym pause.links_are in
    let l2 = x.new.links in
    let l3 = y.new.links in
    let o2 = x.new.self.office in
    let o3 = y.new.self.office in
    let row = in_a_row p m.1 in
    let stayed : HasStayedFor row y.new.quits =
    y.ensures.counts m.1 (ap (λ n. m.1 + n) x.ensures.counts ∙ m.3)
    (λ e. subst (λ n. 0 < n) (sym x.ensures.counts) (x.ensures.turns_left e)) in
    let within : row ≤ most_in_a_row = omega (arith, stayed) in
    let clean2 = maintained_clean g.V.Vault p pause.is_coming l3 o2 o3 pause.maintains in
    record {
      serves = λ T s clean.
          subst (λ w. Serves g.V.Vault.holds g.W.Wire.tells g.S.Spool.tells T o3 w y.new.spool l3.clients.seats.items l3.requests.exchanges.items l3.site)
          (sym y.ensures.wire)
          (subst (λ l. Serves g.V.Vault.holds g.W.Wire.tells g.S.Spool.tells T o3 x.new.self.wire y.new.spool l.clients.seats.items l.requests.exchanges.items l.site)
          paused
          (serves_on g.V.Vault.holds g.W.Wire.tells g.S.Spool.tells T o2 o3 x.new.self.wire x.new.self.wire x.new.spool y.new.spool
          l2.clients.seats.items l2.requests.exchanges.items l2.site
          (λ t told. told) y.ensures.told (λ U st. y.ensures.stands U st clean)
          (x.ensures.serves T (serves_on g.V.Vault.holds g.W.Wire.tells g.S.Spool.tells T k.self.office k.self.office w0 w1 k.spool k.spool
          k.links.clients.seats.items k.links.requests.exchanges.items k.links.site
          c.wait.ensures.told (λ a told. told) (λ U st. st) (k.invariant.serves T s (x.ensures.clean (clean2 clean)))) (clean2 clean))));
      clean = λ clean. k.invariant.clean (x.ensures.clean (clean2 clean));
      turned = (
        m.0 ++ now ∷ [],
        row,
        one_longer m.0 now k._turn m.2,
        stayed,
        subst (λ w. HasTurned g.V.Vault g.W.Wire.asked g.S.Spool.asked g.L.Listener.heard g.C.Clock.gave false (m.0 ++ now ∷ []) row
            c.args.links.now c.args.self.now.office c.args.self.now.wire c.args.spool.now c.args.self.now.listener c.args.clock.now l3 o3 w
            y.new.spool y.new.self.listener c.moment.new.self) (sym y.ensures.wire)
            (subst (λ h. HasTurned g.V.Vault g.W.Wire.asked g.S.Spool.asked g.L.Listener.heard g.C.Clock.gave false
            (m.0 ++ now ∷ []) row
            c.args.links.now c.args.self.now.office c.args.self.now.wire c.args.spool.now c.args.self.now.listener c.args.clock.now l3 o3 x.new.self.wire y.new.spool h c.moment.new.self)
            (sym y.ensures.listener)
            (turned_more g.V.Vault g.W.Wire.asked g.S.Spool.asked
            g.L.Listener.heard g.C.Clock.gave c.args.links.now c.args.self.now.office c.args.self.now.wire c.args.spool.now c.args.self.now.listener c.args.clock.now
            m.0 m.1 k.links k.self.office k.self.wire k.spool k.self.listener k.clock now l2 o2 x.new.self.wire x.new.spool x.new.self.listener p l3 o3 y.new.spool c.moment.new.self m.4
            c.in-Some.ensures.called x.ensures.clean (x.ensures.works w0 waited) left pause within y.ensures.stands)),
      );
      few = λ a. subst AreFew paused (left.few (k.invariant.few a));
      seated = λ h. subst AllHaveSeats paused (left.seated (k.invariant.seated h));
      pacing = λ h. subst AllArePacing paused (left.pacing (k.invariant.pacing h));
      short = λ T s clean a.
          (let before = x.ensures.clean (clean2 clean) in
          let gone = m.4.each T s before in
          let trace = trace_of T.base (gone.given ++ T.log) in
          let w = (x.ensures.works w0 waited trace gone.served.stands (clean2 clean)).0 in
          subst AreShort paused (all_short trace now k.links l2 w.seen w.accepts w.admin (k.invariant.short T s before a)));
      settings = ap settings pause.links_are ∙ (left.set ∙ k.invariant.settings);
      site = ap (λ l. l.site) pause.links_are ∙ (left.site ∙ k.invariant.site);
    }

pub returns-in_default-clause-serves : goal.returns-in_default-clause-serves
returns-in_default-clause-serves g c = λ T s clean.
    (let k = c.loop-turn in
    serves_on g.V.Vault.holds g.W.Wire.tells g.S.Spool.tells T k.self.office k.self.office k.self.wire c.wait.new.self k.spool k.spool
    k.links.clients.seats.items k.links.requests.exchanges.items k.links.site
    c.wait.ensures.told (λ a told. told) (λ U st. st) (k.invariant.serves T s clean))

pub returns-in_default-clause-runs : goal.returns-in_default-clause-runs
returns-in_default-clause-runs g c =
    let k = c.loop-turn in
    let m = k.invariant.turned in
    let most : k._turn ≤ c.args.most = search rules in
    let count = m.2 in
    record {
      moments = m.0;
      row = m.1;
      stopped = true;
      wire_left = k.self.wire;
      turned = turned_stopped g.V.Vault g.W.Wire.asked g.S.Spool.asked
          g.L.Listener.heard g.C.Clock.gave c.args.links.now c.args.self.now.office c.args.self.now.wire c.args.spool.now c.args.self.now.listener c.args.clock.now
          m.0 m.1 k.links k.self.office k.self.wire k.spool k.self.listener k.clock c.moment.new.self m.4 c.in_default.ensures.called;
      last = waited_for g.W.Wire.asked k.self.wire c.wait.new.self k.links c.millis_for.result c.millis_for.ensures c.wait.ensures.called;
      within = omega (arith, most, count);
      all = λ e. cc;
    }

pub returns-clause-runs : goal.returns-clause-runs
returns-clause-runs g c =
    let k = c.loop-turn in
    let m = k.invariant.turned in
    let most : k._turn ≤ c.args.most = search rules in
    let all : c.args.most ≤ k._turn = search rules in
    record {
      moments = m.0;
      row = m.1;
      stopped = false;
      wire_left = k.self.wire;
      turned = m.4;
      last = refl;
      within = omega (arith, most, m.2);
      all = λ e. omega (arith, most, all, m.2);
    }
