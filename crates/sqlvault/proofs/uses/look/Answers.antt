use Rattle.std.proofs.Common.{◌≡◌, ℕ, subst, sym, ap, ◌∙◌, ◌∷◌, []}
use Rattle.vault.specs.Calls.{IsRefusal}
use Rattle.mailsql.proofs.ResultLemmas.{if_passed_on}
use Rattle.sqlvault.specs.Uses.{IsOfAnyCall, filled, head_of, total_of}
use Rattle.sqlvault.proofs.UsesLemmas.{any, same_ok, one_head, one_total, first_key, page_is}
use Rattle.sqlvault.proofs.uses.look.Given.{Over}
use Rattle.sqlvault.proofs.uses.look.Goals.{In_ok-heads}
use Rattle.sqlvault.proofs.uses.look.Goals as goal

-- the total and the head that were answered, and what is still held
listed : (g : Over) (c : In_ok-heads g) (key : ℕ) → g.V.Vault.is_clean c.heads.new.self → g.V.Vault.holds c.args.vault.now (filled key c.args.stock.now)
    → (c.in_ok-totals.totals.items ≡ total_of c.args.stock.now ∷ []) × (c.in_ok-heads.heads.items ≡ head_of key c.args.stock.now ∷ [])
    × g.V.Vault.holds c.heads.new.self (filled key c.args.stock.now)
listed g c key clean h =
    let s = c.args.stock.now in
    let counted = c.in_ok-totals.ensures.done (filled key s) h (c.heads.ensures.looks.clean clean) in
    let seen = c.in_ok-heads.ensures.done (filled key s) counted.held clean in
    (same_ok _ _ counted.answer ∙ one_total key s, same_ok _ _ (sym (one_head key s) ∙ seen.answer), seen.held)

pub returns-in_err-totals-clause-cause : goal.returns-in_err-totals-clause-cause
returns-in_err-totals-clause-cause g c key clean h =
    let all = filled key c.args.stock.now in
    let e = c.in_err-totals.field-0.0 in
    let done = c.in_err-totals.ensures.done all h clean in
    if_passed_on c.from_residual.result e IsOfAnyCall c.from_residual.ensures.1 (any _ e done.answer)

pub returns-in_err-heads-clause-cause : goal.returns-in_err-heads-clause-cause
returns-in_err-heads-clause-cause g c key clean h =
    let counted = c.in_ok-totals.ensures.done (filled key c.args.stock.now) h (c.heads.ensures.looks.clean clean) in
    let e = c.in_err-heads.field-0.0 in
    let done = c.in_err-heads.ensures.done (filled key c.args.stock.now) counted.held clean in
    if_passed_on c.from_residual-in_err-heads.result e IsOfAnyCall c.from_residual-in_err-heads.ensures.1 (any _ e (subst (λ r. IsRefusal r e) (one_head key c.args.stock.now) done.answer))

pub returns-in_err-octets_read-clause-cause : goal.returns-in_err-octets_read-clause-cause
returns-in_err-octets_read-clause-cause g c key clean h =
    let seen = listed g (goal.at.returns-in_err-octets_read-clause-cause g c).In_ok-heads key (c.page.ensures.looks.clean clean) h in
    let e = c.in_err-octets_read.field-0.0 in
    let done = c.in_err-octets_read.ensures.done (filled key c.args.stock.now) seen.2 clean in
    if_passed_on c.from_residual-in_err-octets_read.result e IsOfAnyCall c.from_residual-in_err-octets_read.ensures.1 (any _ e done.answer)

pub returns-clause-same : goal.returns-clause-same
returns-clause-same g c key clean h =
    let seen = listed g (goal.at.returns-clause-same g c).In_ok-heads key (c.page.ensures.looks.clean clean) h in
    (c.in_ok-octets_read.ensures.done (filled key c.args.stock.now) seen.2 clean).held

pub returns-clause-key : goal.returns-clause-key
returns-clause-key g c key clean h =
    let seen = listed g (goal.at.returns-clause-key g c).In_ok-heads key (c.page.ensures.looks.clean clean) h in
    first_key key c.args.stock.now c.deref.result.now c.in_ok-heads.heads.items c.in-Some.head.now c.in-Some.ensures.value c.deref.ensures.value seen.1

pub returns-clause-shown : goal.returns-clause-shown
returns-clause-shown g c key clean h =
    let s = c.args.stock.now in
    let seen = listed g (goal.at.returns-clause-shown g c).In_ok-heads key (c.page.ensures.looks.clean clean) h in
    let named = first_key key s c.deref.result.now c.in_ok-heads.heads.items c.in-Some.head.now c.in-Some.ensures.value c.deref.ensures.value seen.1 in
    let page = page_is key c.in-Some.head.now.key s c.page.new.buffer c.in_ok-octets_read.octets_read named (c.in_ok-octets_read.ensures.done (filled key s) seen.2 clean).answer in
    record {
      total = seen.0;
      head = seen.1 ∙ ap (λ k. head_of k s ∷ []) (sym named);
      fits = page.0;
      page = page.1;
    }

pub returns-in_err-totals-clause-clean : goal.returns-in_err-totals-clause-clean
returns-in_err-totals-clause-clean g c clean = c.maildrops.ensures.looks.clean clean

pub returns-in_err-heads-clause-clean : goal.returns-in_err-heads-clause-clean
returns-in_err-heads-clause-clean g c clean = c.maildrops.ensures.looks.clean (c.heads.ensures.looks.clean clean)

pub returns-in_err-octets_read-clause-clean : goal.returns-in_err-octets_read-clause-clean
returns-in_err-octets_read-clause-clean g c clean = c.maildrops.ensures.looks.clean (c.heads.ensures.looks.clean (c.page.ensures.looks.clean clean))

pub returns-clause-clean : goal.returns-clause-clean
returns-clause-clean g c clean = c.maildrops.ensures.looks.clean (c.heads.ensures.looks.clean (c.page.ensures.looks.clean clean))

pub returns-in-None-clause-clean : goal.returns-in-None-clause-clean
returns-in-None-clause-clean g c clean =
    c.maildrops.ensures.looks.clean (c.heads.ensures.looks.clean clean)
