use Rattle.server.specs.Served.{IsUnsaid, IsUnwritten, IsNoSite}
use Rattle.server.proofs.ByOptions.{err_so}
use Rattle.server.proofs.serve.say_start.Goals as goal

pub returns-in_err-say_ports : goal.returns-in_err-say_ports
returns-in_err-say_ports g c = err_so c.from_residual.result c.in_err-say_ports.field-0.0 (IsUnsaid c.args.options.now)
    c.from_residual.ensures.1 (rw c.in_err-say_ports.ensures IsUnwritten)

pub returns-in_err-settings : goal.returns-in_err-settings
returns-in_err-settings g c = err_so c.from_residual-in_err-settings.result c.in_err-settings.field-0.0 (IsUnsaid c.args.options.now)
    c.from_residual-in_err-settings.ensures.1 (IsNoSite c.in_err-settings.field-0.0 c.in_err-settings.ensures.err)
