use Rattle.std.proofs.Common.{[], Err, sym, ◌∙◌, ap, subst}
use Rattle.serving.proofs.Going.{unserved}
use Rattle.server.specs.Served.{HasNoSite, HasNoClock, HasEnded, HasServed, HasRunBy}
use Rattle.server.proofs.ByOptions.{ran_by, err_is, has_stopped}
use Rattle.server.proofs.serve.serve_until.Goals as goal

pub returns-in_err-set_links-clause-served : goal.returns-in_err-set_links-clause-served
returns-in_err-set_links-clause-served g c = λ T s clean. record {
  given = [];
  served = unserved g.V.Vault.holds g.V.Vault.faults T c.args.server.now.office s;
  did = subst (λ r. HasServed g.V.Vault g.W.Wire g.S.Spool g.L.Listener T c.args.options.now c.args.server.now.office c.args.server.now.wire c.args.spool.now c.args.server.now.listener
      r c.args.server.now.office c.args.server.now.wire c.args.spool.now c.args.server.now.listener [])
      (sym (err_is c.from_residual.result c.in_err-set_links.field-0.0 c.from_residual.ensures.1)) (HasNoSite c.in_err-set_links.field-0.0 c.in_err-set_links.ensures.err);
}

pub returns-in_err-clock-clause-served : goal.returns-in_err-clock-clause-served
returns-in_err-clock-clause-served g c = λ T s clean. record {
  given = [];
  served = unserved g.V.Vault.holds g.V.Vault.faults T c.args.server.now.office s;
  did = subst (λ r. HasServed g.V.Vault g.W.Wire g.S.Spool g.L.Listener T c.args.options.now c.args.server.now.office c.args.server.now.wire c.args.spool.now c.args.server.now.listener
      r c.args.server.now.office c.args.server.now.wire c.args.spool.now c.args.server.now.listener [])
      (sym (err_is c.from_residual-in_err-clock.result c.in_err-clock.field-0.0 c.from_residual-in_err-clock.ensures.1 ∙ ap (λ f. Err f) c.in_err-clock.ensures.err)) HasNoClock;
}

pub returns-clause-served : goal.returns-clause-served
returns-clause-served g c = λ T s clean.
    (let run = c.serve_while.ensures.runs in
    let gone = run.turned.each T s clean in
    let begun = c.in_ok-set_links.ensures.set c.begin-links.ensures.settings c.begin-links.ensures.few c.begin-links.ensures.short in
    let clock = c.serve_while.new.clock in
    let stopped = has_stopped clock.stop clock.notes.items run.stopped run.moments (run.turned.gave [] c.in_ok-clock.ensures.fresh) in
    record {
      given = gone.given;
      served = gone.served;
      did = subst (λ r. HasServed g.V.Vault g.W.Wire g.S.Spool g.L.Listener T c.args.options.now c.args.server.now.office c.args.server.now.wire c.args.spool.now c.args.server.now.listener
          r c.serve_while.new.self.office c.serve_while.new.self.wire c.serve_while.new.spool c.serve_while.new.self.listener gone.given) (sym c.answer.ensures)
          (HasEnded clock.stop _ _ _ _ gone.given (subst (λ b. HasRunBy g.V.Vault g.W.Wire g.S.Spool g.L.Listener T c.args.options.now
          c.args.server.now.office c.args.server.now.wire c.args.spool.now c.args.server.now.listener b c.serve_while.new.self.office c.serve_while.new.self.wire
          c.serve_while.new.spool c.serve_while.new.self.listener gone.given) stopped
          (ran_by g.V.Vault g.W.Wire g.S.Spool g.L.Listener _ T c.args.options.now _ _ _ _ _ _ _ _ _ _ _ _ _ begun c.unwrap_or-turns.ensures run gone)));
    })
