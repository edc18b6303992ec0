use Rattle.std.proofs.Common.{subst, sym}
use Rattle.mailsql.proofs.ResultLemmas.{if_passed_on}
use Rattle.sqlvault.specs.Uses.{IsOfAnyCall, filled}
use Rattle.sqlvault.proofs.uses.go_through.Goals as goal

pub returns-in_err-filled-clause-cause : goal.returns-in_err-filled-clause-cause
returns-in_err-filled-clause-cause g c clean h =
    if_passed_on c.from_residual.result c.in_err-filled.field-0.0 IsOfAnyCall c.from_residual.ensures.1 (c.in_err-filled.ensures.cause clean h)

pub returns-in_err-mail-clause-cause : goal.returns-in_err-mail-clause-cause
returns-in_err-mail-clause-cause g c clean h =
    let full = c.in_ok-filled.ensures.held (c.look.ensures.clean clean) h in
    if_passed_on c.from_residual-in_err-mail.result c.in_err-mail.field-0.0 IsOfAnyCall c.from_residual-in_err-mail.ensures.1 (c.in_err-mail.ensures.cause full.0 clean full.1)

pub returns-in_err-kept-clause-cause : goal.returns-in_err-kept-clause-cause
returns-in_err-kept-clause-cause g c clean h =
    let full = c.in_ok-filled.ensures.held (c.look.ensures.clean (c.look_up.ensures.clean clean)) h in
    let same = c.in_ok-mail.ensures.same full.0 (c.look_up.ensures.clean clean) full.1 in
    if_passed_on c.from_residual-in_err-kept.result c.in_err-kept.field-0.0 IsOfAnyCall c.from_residual-in_err-kept.ensures.1 (c.in_err-kept.ensures.cause full.0 clean same)

pub returns-in_err-left-clause-cause : goal.returns-in_err-left-clause-cause
returns-in_err-left-clause-cause g c clean h =
    let full = c.in_ok-filled.ensures.held (c.look.ensures.clean (c.look_up.ensures.clean (c.empty.ensures.clean clean))) h in
    let same = c.in_ok-mail.ensures.same full.0 (c.look_up.ensures.clean (c.empty.ensures.clean clean)) full.1 in
    let still = c.in_ok-kept.ensures.same full.0 (c.empty.ensures.clean clean) same in
    let there = subst (λ key. g.V.Vault.holds c.look_up.new.vault (filled key c.args.stock.now))
    (sym (c.in_ok-mail.ensures.key full.0 (c.look_up.ensures.clean (c.empty.ensures.clean clean)) full.1)) still in
    if_passed_on c.from_residual-in_err-left.result c.in_err-left.field-0.0 IsOfAnyCall c.from_residual-in_err-left.ensures.1 (c.in_err-left.ensures.cause clean there)

pub returns-clause-saw : goal.returns-clause-saw
returns-clause-saw g c clean h =
    let full = c.in_ok-filled.ensures.held (c.look.ensures.clean (c.look_up.ensures.clean (c.empty.ensures.clean clean))) h in
    let same = c.in_ok-mail.ensures.same full.0 (c.look_up.ensures.clean (c.empty.ensures.clean clean)) full.1 in
    let still = c.in_ok-kept.ensures.same full.0 (c.empty.ensures.clean clean) same in
    let there = subst (λ key. g.V.Vault.holds c.look_up.new.vault (filled key c.args.stock.now))
    (sym (c.in_ok-mail.ensures.key full.0 (c.look_up.ensures.clean (c.empty.ensures.clean clean)) full.1)) still in
    record {
      new = c.in_ok-filled.ensures.answers (c.look.ensures.clean (c.look_up.ensures.clean (c.empty.ensures.clean clean))) h;
      shown = c.in_ok-mail.ensures.shown full.0 (c.look_up.ensures.clean (c.empty.ensures.clean clean)) full.1;
      held = c.in_ok-kept.ensures.shown full.0 (c.empty.ensures.clean clean) same;
      gone = c.in_ok-left.ensures.none clean there;
    }

pub returns-clause-left : goal.returns-clause-left
returns-clause-left g c clean h =
    let full = c.in_ok-filled.ensures.held (c.look.ensures.clean (c.look_up.ensures.clean (c.empty.ensures.clean clean))) h in
    let same = c.in_ok-mail.ensures.same full.0 (c.look_up.ensures.clean (c.empty.ensures.clean clean)) full.1 in
    let still = c.in_ok-kept.ensures.same full.0 (c.empty.ensures.clean clean) same in
    let there = subst (λ key. g.V.Vault.holds c.look_up.new.vault (filled key c.args.stock.now))
    (sym (c.in_ok-mail.ensures.key full.0 (c.look_up.ensures.clean (c.empty.ensures.clean clean)) full.1)) still in
    c.in_ok-left.ensures.held clean there

pub returns-in_err-filled-clause-clean : goal.returns-in_err-filled-clause-clean
returns-in_err-filled-clause-clean g c clean = c.fill.ensures.clean clean

pub returns-in_err-mail-clause-clean : goal.returns-in_err-mail-clause-clean
returns-in_err-mail-clause-clean g c clean = c.fill.ensures.clean (c.look.ensures.clean clean)

pub returns-in_err-kept-clause-clean : goal.returns-in_err-kept-clause-clean
returns-in_err-kept-clause-clean g c clean = c.fill.ensures.clean (c.look.ensures.clean (c.look_up.ensures.clean clean))

pub returns-in_err-left-clause-clean : goal.returns-in_err-left-clause-clean
returns-in_err-left-clause-clean g c clean = c.fill.ensures.clean (c.look.ensures.clean (c.look_up.ensures.clean (c.empty.ensures.clean clean)))

pub returns-clause-clean : goal.returns-clause-clean
returns-clause-clean g c clean = c.fill.ensures.clean (c.look.ensures.clean (c.look_up.ensures.clean (c.empty.ensures.clean clean)))
