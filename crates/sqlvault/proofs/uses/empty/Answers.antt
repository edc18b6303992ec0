use Rattle.std.proofs.Common.{◌≡◌, subst, sym, ◌∙◌, []}
use Rattle.vault.specs.Calls.{IsRefusal}
use Rattle.mailsql.proofs.ResultLemmas.{if_passed_on}
use Rattle.sqlvault.specs.Uses.{IsOfAnyCall, filled}
use Rattle.sqlvault.proofs.UsesLemmas.{any, same_ok, unmailed, unmanned, removed, no_heads, is_clerk, dropped, is_empty, closed}
use Rattle.sqlvault.proofs.uses.empty.Given.{Over}
use Rattle.sqlvault.proofs.uses.empty.Goals.{In_ok-remove, In_ok-left, In_ok-drop_clerk}
use Rattle.sqlvault.proofs.uses.empty.Goals as goal

-- ---- what is held after each call

mail_removed : (g : Over) (c : In_ok-remove g) → g.V.Vault.is_clean c.remove.new.self → g.V.Vault.holds c.args.vault.now (filled c.args.key c.args.stock.now)
    → g.V.Vault.holds c.remove.new.self (unmailed c.args.stock.now)
mail_removed g c clean h =
    subst (g.V.Vault.holds c.remove.new.self) (removed c.args.key c.args.stock.now) (c.in_ok-remove.ensures.done (filled c.args.key c.args.stock.now) h clean).held

none_left : (g : Over) (c : In_ok-left g) → g.V.Vault.is_clean c.heads.new.self → g.V.Vault.holds c.remove.new.self (unmailed c.args.stock.now)
    → (c.in_ok-left.left.items ≡ []) × g.V.Vault.holds c.heads.new.self (unmailed c.args.stock.now)
none_left g c clean h =
    let none = c.in_ok-left.ensures.done (unmailed c.args.stock.now) h clean in
    (same_ok _ _ (sym (no_heads c.args.stock.now) ∙ none.answer), none.held)

clerk_dropped : (g : Over) (c : In_ok-drop_clerk g) → g.V.Vault.is_clean c.drop_clerk.new.self → g.V.Vault.holds c.heads.new.self (unmailed c.args.stock.now)
    → g.V.Vault.holds c.drop_clerk.new.self (unmanned c.args.stock.now)
clerk_dropped g c clean h =
    subst (g.V.Vault.holds c.drop_clerk.new.self) (dropped c.args.stock.now) (c.in_ok-drop_clerk.ensures.done (unmailed c.args.stock.now) h clean).held

-- ---- each exit

pub returns-in_err-remove-clause-cause : goal.returns-in_err-remove-clause-cause
returns-in_err-remove-clause-cause g c clean h =
    let e = c.in_err-remove.field-0.0 in
    let done = c.in_err-remove.ensures.done (filled c.args.key c.args.stock.now) h clean in
    if_passed_on c.from_residual.result e IsOfAnyCall c.from_residual.ensures.1 (any _ e done.answer)

pub returns-in_err-left-clause-cause : goal.returns-in_err-left-clause-cause
returns-in_err-left-clause-cause g c clean h =
    let it = goal.at.returns-in_err-left-clause-cause g c in
    let left = mail_removed g it.In_ok-remove (c.heads.ensures.looks.clean clean) h in
    let e = c.in_err-left.field-0.0 in
    let done = c.in_err-left.ensures.done (unmailed c.args.stock.now) left clean in
    if_passed_on c.from_residual-in_err-left.result e IsOfAnyCall c.from_residual-in_err-left.ensures.1 (any _ e (subst (λ r. IsRefusal r e) (no_heads c.args.stock.now) done.answer))

pub returns-in_err-drop_clerk-clause-cause : goal.returns-in_err-drop_clerk-clause-cause
returns-in_err-drop_clerk-clause-cause g c clean h =
    let it = goal.at.returns-in_err-drop_clerk-clause-cause g c in
    let seen = c.drop_clerk.ensures.commits.clean clean in
    let none = none_left g it.In_ok-left seen (mail_removed g it.In_ok-remove (c.heads.ensures.looks.clean seen) h) in
    let e = c.in_err-drop_clerk.field-0.0 in
    let done = c.in_err-drop_clerk.ensures.done (unmailed c.args.stock.now) none.1 clean in
    if_passed_on c.from_residual-in_err-drop_clerk.result e IsOfAnyCall c.from_residual-in_err-drop_clerk.ensures.1
    (any _ e (subst (λ r. IsRefusal r e) (is_clerk c.args.stock.now) done.answer))

pub returns-in_err-drop_maildrop-clause-cause : goal.returns-in_err-drop_maildrop-clause-cause
returns-in_err-drop_maildrop-clause-cause g c clean h =
    let it = goal.at.returns-in_err-drop_maildrop-clause-cause g c in
    let freed = c.drop_maildrop.ensures.commits.clean clean in
    let seen = c.drop_clerk.ensures.commits.clean freed in
    let none = none_left g it.In_ok-left seen (mail_removed g it.In_ok-remove (c.heads.ensures.looks.clean seen) h) in
    let e = c.in_err-drop_maildrop.field-0.0 in
    let done = c.in_err-drop_maildrop.ensures.done (unmanned c.args.stock.now) (clerk_dropped g it.In_ok-drop_clerk freed none.1) clean in
    if_passed_on c.from_residual-in_err-drop_maildrop.result e IsOfAnyCall c.from_residual-in_err-drop_maildrop.ensures.1
    (any _ e (subst (λ r. IsRefusal r e) (is_empty c.args.stock.now) done.answer))

pub returns-clause-none : goal.returns-clause-none
returns-clause-none g c clean h =
    let it = goal.at.returns-clause-none g c in
    let seen = c.drop_clerk.ensures.commits.clean (c.drop_maildrop.ensures.commits.clean clean) in
    (none_left g it.In_ok-left seen (mail_removed g it.In_ok-remove (c.heads.ensures.looks.clean seen) h)).0

pub returns-clause-held : goal.returns-clause-held
returns-clause-held g c clean h =
    let it = goal.at.returns-clause-held g c in
    let freed = c.drop_maildrop.ensures.commits.clean clean in
    let seen = c.drop_clerk.ensures.commits.clean freed in
    let none = none_left g it.In_ok-left seen (mail_removed g it.In_ok-remove (c.heads.ensures.looks.clean seen) h) in
    let last = c.in_ok-drop_maildrop.ensures.done (unmanned c.args.stock.now) (clerk_dropped g it.In_ok-drop_clerk freed none.1) clean in
    subst (g.V.Vault.holds c.drop_maildrop.new.self) (closed c.args.stock.now) last.held

pub returns-in_err-remove-clause-clean : goal.returns-in_err-remove-clause-clean
returns-in_err-remove-clause-clean g c clean = c.remove.ensures.commits.clean clean

pub returns-in_err-left-clause-clean : goal.returns-in_err-left-clause-clean
returns-in_err-left-clause-clean g c clean = c.remove.ensures.commits.clean (c.heads.ensures.looks.clean clean)

pub returns-in_err-drop_clerk-clause-clean : goal.returns-in_err-drop_clerk-clause-clean
returns-in_err-drop_clerk-clause-clean g c clean = c.remove.ensures.commits.clean (c.heads.ensures.looks.clean (c.drop_clerk.ensures.commits.clean clean))

pub returns-in_err-drop_maildrop-clause-clean : goal.returns-in_err-drop_maildrop-clause-clean
returns-in_err-drop_maildrop-clause-clean g c clean = c.remove.ensures.commits.clean (c.heads.ensures.looks.clean (c.drop_clerk.ensures.commits.clean (c.drop_maildrop.ensures.commits.clean clean)))

pub returns-clause-clean : goal.returns-clause-clean
returns-clause-clean g c clean = c.remove.ensures.commits.clean (c.heads.ensures.looks.clean (c.drop_clerk.ensures.commits.clean (c.drop_maildrop.ensures.commits.clean clean)))
