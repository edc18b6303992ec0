use Rattle.std.proofs.Common.{[], ◌≡◌, ◌∙◌, sym, ap, subst, Some}
use Rattle.std.specs.Ordering.{nat_cmp}
use Rattle.std.specs.BTreeMap.{get}
use Rattle.serving.specs.Wires.{at_port, has_read}
use Rattle.serving.specs.declared.wire.Port.TheVariants.{Pop}
use Rattle.serving.specs.declared.wire.Io.TheVariants.{Later}
use Rattle.proxy.specs.Lines.{IsProxyLine}
use Rattle.proxy.specs.Proxied.{first_line, has_line}
use Rattle.proxy.proofs.Telling.{learns, updated_put, whole_has, whole_first}
use Rattle.std.proofs.Common.{rules}
use Rattle.proxy.proofs.Telling.{entries_same}
use Rattle.proxy.proofs.HandingOn.{line_whole, same_known}
use Rattle.proxy.specs.declared.wire.Progress.TheVariants.{Whole}
use Rattle.proxy.proofs.wire.ProxiedWire.learn.Goals as goal

pub returns-in-Ok-clause-told : goal.returns-in-Ok-clause-told
returns-in-Ok-clause-told g c u (t, h, a, came, is) (front, e, open_yet) =
    let k = c.args.link.number in
    let known = c.args.self.now.known in
    let first : first_line (t.pop.read k) ≡ c.args.line.now = ap first_line (is ∙ e) ∙ (whole_first front open_yet ∙ sym e) in (
      t,
      h,
      learns (get nat_cmp c.args.self.now.begun) (get nat_cmp known) (get nat_cmp c.insert.new.self) t (at_port Pop (λ of. has_read of k Later []) u) k c.in-Some.read.source a
          (updated_put known c.insert.new.self k (Some c.in-Some.read.source) c.in-Ok.ensures.updates)
          (record { came = came; whole = ap has_line (is ∙ e) ∙ whole_has front; says = subst (λ xs. IsProxyLine xs c.in-Some.read.source) (sym first) c.in-Some.ensures }),
    )

pub returns-in-Ok-clause-called : goal.returns-in-Ok-clause-called
returns-in-Ok-clause-called g c room a h =
    let source = c.in-Some.read.source in
    line_whole g.W.Wire.asked c.args.self.now.wire (get nat_cmp c.args.self.now.known)
    (get nat_cmp c.insert.new.self) c.args.self.now.hurries c.args.link source room a (updated_put c.args.self.now.known c.insert.new.self c.args.link.number (Some source) c.in-Ok.ensures.updates) h

pub returns-in_default-clause-called : goal.returns-in_default-clause-called
returns-in_default-clause-called g c room a h = c.break_off.ensures.called 1 Whole room a h

pub returns-in-Err-clause-called : goal.returns-in-Err-clause-called
returns-in-Err-clause-called g c room a h =
    c.break_off-in-Err.ensures.called 1 Whole room a
    (same_known g.W.Wire.asked c.args.self.now.wire (get nat_cmp c.args.self.now.known) (get nat_cmp c.insert.new.self) c.args.self.now.hurries c.args.link Whole a
    (entries_same c.args.self.now.known c.insert.new.self (search rules)) h)
