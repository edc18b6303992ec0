use Rattle.std.proofs.Common.{◌≡◌, Ok, Err, sym, ◌∙◌, ap}
use Rattle.server.specs.Served.{site_by}
use Rattle.server.proofs.ByOptions.{set_so, set_by, err_so}
use Rattle.server.proofs.serve.set_links.Goals as goal

pub returns-in_err-site-clause-err : goal.returns-in_err-site-clause-err
returns-in_err-site-clause-err c = err_so c.from_residual.result c.in_err-site.field-0.0 (λ met. site_by c.args.options.now.admin_site ≡ Err met)
    c.from_residual.ensures.1 (sym c.in_err-site.ensures)

pub returns-clause-set : goal.returns-clause-set
returns-clause-set c = λ unset few short.
    set_by c.args.options.now c.args.links.now c.set_site.new.self
    (set_so c.args.options.now c.from.result c.from-2.result
    c.args.links.now c.set_wait.new.self c.set_login_seconds.new.self c.set_make_room.new.self c.set_slow_guesses.new.self c.set_site.new.self
    c.from.ensures c.from-2.ensures unset c.set_wait.ensures.settings c.set_login_seconds.ensures.settings
    c.set_make_room.ensures.settings c.set_slow_guesses.ensures.settings c.set_site.ensures.clients)
    (sym c.in_ok-site.ensures ∙ ap (λ site. Ok site) (sym c.set_site.ensures.site))
    (c.set_site.ensures.requests
    ∙ (c.set_slow_guesses.ensures.requests ∙ (c.set_make_room.ensures.requests ∙ (c.set_login_seconds.ensures.requests ∙ c.set_wait.ensures.requests))))
    few short
