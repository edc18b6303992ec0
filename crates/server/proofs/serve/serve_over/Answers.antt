use Rattle.std.proofs.Common.{◌≤◌, ap, arith, subst, sym, ◌∙◌, ◌++◌, true≢false}
use Rattle.office.specs.Stands.{vault_of}
use Rattle.office.specs.Taken.{trace_of}
use Rattle.recent.specs.Recalling.{HoldsFitting}
use Rattle.serving.proofs.Working.{grown_more}
use Rattle.server.specs.Served.{opened_by, HasNoLimits, LacksMemory, IsNotOpened, IsOpened, WithoutLimits, WithoutMemory, WithoutOffice, WithOffice}
use Rattle.server.proofs.Ended.{listened_ended, is_served}
use Rattle.server.proofs.Keeping.{keeps_so, fits_none}
use Rattle.server.proofs.serve.serve_over.Goals as goal

pub returns-in_default-clause-done : goal.returns-in_default-clause-done
returns-in_default-clause-done g c = λ T k clean. (T, WithoutLimits (λ idle. true≢false (sym (c.in_default.ensures.valid.1 idle))), k)

pub returns-in_default-from_str-clause-done : goal.returns-in_default-from_str-clause-done
returns-in_default-from_str-clause-done g c = λ T k clean. (T, WithoutMemory, k)

pub returns-in_default-from_str-2-clause-done : goal.returns-in_default-from_str-2-clause-done
returns-in_default-from_str-2-clause-done g c = λ T k clean. (T, WithoutMemory, k)

pub returns-in-Err-clause-done : goal.returns-in-Err-clause-done
returns-in-Err-clause-done g c = λ T k clean.
    (let fresh = c.new-vault.ensures.vault ∙ c.new.ensures in
    let back = c.into_vault-in-Err.ensures ∙ ap (λ x. x.vault) c.into_vault.ensures in
    let clean_err = subst g.V.Vault.is_clean back clean in
    let clean_old = c.in-Err.ensures.clean clean_err in
    let held = c.totals_of-totals.ensures.held k.contents (subst (λ r. HoldsFitting (g.V.Vault.holds r.vault) r.kept r.totals k.contents) (sym fresh)
    (fits_none (g.V.Vault.holds c.args.vault) k.contents k.held)) clean_old in
    let first = subst (λ r. g.V.Vault.faults r.vault ≤ g.V.Vault.faults c.totals_of-totals.new.vault.vault.vault) fresh c.totals_of-totals.ensures.counted in
    let last = subst (λ v. g.V.Vault.faults c.in-Err.vault.vault.vault ≤ g.V.Vault.faults v) (sym back) (omega arith) in (
      T,
      rw c.from.ensures (WithoutOffice c.in-Err.fault c.in-Err.ensures.host (λ store. grown_more (g.V.Vault.faults c.args.vault)
          (g.V.Vault.faults c.totals_of-totals.new.vault.vault.vault) (g.V.Vault.faults c.in-Err.vault.vault.vault) _ first last (c.in-Err.ensures.cause store k.contents held clean_err))),
      keeps_so (g.V.Vault.holds c.args.vault) _ T (λ b h. subst (λ v. g.V.Vault.holds v b) (sym back) (c.in-Err.ensures.kept b (c.totals_of-totals.ensures.held b
          (subst (λ r. HoldsFitting (g.V.Vault.holds r.vault) r.kept r.totals b) (sym fresh) (fits_none (g.V.Vault.holds c.args.vault) b h)) clean_old) clean_err).inside) k,
    ))

pub returns-clause-done : goal.returns-clause-done
returns-clause-done g c = λ T k clean.
    (let fresh = c.new-vault.ensures.vault ∙ c.new.ensures in
    let back = c.into_vault-in-Ok-open-3.ensures ∙ ap (λ x. x.vault) (c.into_vault-in-Ok-open-2.ensures ∙ ap (λ x. x.vault) c.into_vault-in-Ok-open.ensures) in
    let clean_served = subst g.V.Vault.is_clean back clean in
    let clean_open = c.serve-served.ensures.clean clean_served in
    let clean_old = c.in-Ok-open.ensures.clean clean_open in
    let stands = rw c.in-Some.ensures.value at (c.in-Ok-open.ensures.opened T (keeps_so (g.V.Vault.holds c.args.vault) _ T (λ b h. c.totals_of-totals.ensures.held b
    (subst (λ r. HoldsFitting (g.V.Vault.holds r.vault) r.kept r.totals b) (sym fresh) (fits_none (g.V.Vault.holds c.args.vault) b h)) clean_old) k) clean_open) in
    let opened = opened_by c.args.options.now c.args.boot T in
    let first = subst (λ r. g.V.Vault.faults r.vault ≤ g.V.Vault.faults c.totals_of-totals.new.vault.vault.vault) fresh c.totals_of-totals.ensures.counted in
    let opening = c.in-Ok-open.ensures.counted in
    let last = subst (λ v. g.V.Vault.faults (vault_of c.serve-served.result.1).vault.vault ≤ g.V.Vault.faults v) (sym back) (omega arith) in
    let w = c.serve-served.ensures.served opened stands clean_served in (
      trace_of T.base (w.given ++ opened.log),
      WithOffice c.serve-served.result.0 w.given w.served.admitted
          (λ failed. grown_more (g.V.Vault.faults c.args.vault) (g.V.Vault.faults (vault_of c.in-Ok-open.office).vault.vault)
          (g.V.Vault.faults (vault_of c.serve-served.result.1).vault.vault) _ (omega (arith, first, opening)) last (w.served.failed failed))
          (listened_ended _ _ _ _ _ opened c.args.options.now c.in-Ok-open.office c.serve-served.result.0 c.serve-served.result.1 w.given w.did),
      keeps_so _ _ (trace_of T.base (w.given ++ opened.log)) (λ b h. subst (λ v. g.V.Vault.holds v b) (sym back) h.inside) w.served.stands.keeps,
    ))

pub returns-in_default-clause-served : goal.returns-in_default-clause-served
returns-in_default-clause-served g c = λ T k clean.
    (let d = returns-in_default-clause-done g c T k clean in (d.0, is_served c.args.options.now c.args.boot T _ _ _ d.0 d.1, d.2))

pub returns-in_default-from_str-clause-served : goal.returns-in_default-from_str-clause-served
returns-in_default-from_str-clause-served g c = λ T k clean.
    (let d = returns-in_default-from_str-clause-done g c T k clean in (d.0, is_served c.args.options.now c.args.boot T _ _ _ d.0 d.1, d.2))

pub returns-in_default-from_str-2-clause-served : goal.returns-in_default-from_str-2-clause-served
returns-in_default-from_str-2-clause-served g c = λ T k clean.
    (let d = returns-in_default-from_str-2-clause-done g c T k clean in (d.0, is_served c.args.options.now c.args.boot T _ _ _ d.0 d.1, d.2))

pub returns-in-Err-clause-served : goal.returns-in-Err-clause-served
returns-in-Err-clause-served g c = λ T k clean.
    (let d = returns-in-Err-clause-done g c T k clean in (d.0, is_served c.args.options.now c.args.boot T _ _ _ d.0 d.1, d.2))

pub returns-clause-served : goal.returns-clause-served
returns-clause-served g c = λ T k clean.
    (let d = returns-clause-done g c T k clean in (d.0, is_served c.args.options.now c.args.boot T _ _ _ d.0 d.1, d.2))

pub returns-in_default-clause-did : goal.returns-in_default-clause-did
returns-in_default-clause-did g c = λ T k clean. (T, HasNoLimits (λ idle. true≢false (sym (c.in_default.ensures.valid.1 idle))), k)

pub returns-in_default-from_str-clause-did : goal.returns-in_default-from_str-clause-did
returns-in_default-from_str-clause-did g c = λ T k clean. (T, LacksMemory, k)

pub returns-in_default-from_str-2-clause-did : goal.returns-in_default-from_str-2-clause-did
returns-in_default-from_str-2-clause-did g c = λ T k clean. (T, LacksMemory, k)

pub returns-in-Err-clause-did : goal.returns-in-Err-clause-did
returns-in-Err-clause-did g c = λ T k clean.
    (let fresh = c.new-vault.ensures.vault ∙ c.new.ensures in
    let back = c.into_vault-in-Err.ensures ∙ ap (λ x. x.vault) c.into_vault.ensures in
    let clean_err = subst g.V.Vault.is_clean back clean in
    let clean_old = c.in-Err.ensures.clean clean_err in (
      T,
      rw c.from.ensures (IsNotOpened c.in-Err.fault c.in-Err.ensures.host),
      keeps_so (g.V.Vault.holds c.args.vault) _ T
          (λ b h. subst (λ v. g.V.Vault.holds v b) (sym back)
          (c.in-Err.ensures.kept b
          (c.totals_of-totals.ensures.held b
          (subst (λ r. HoldsFitting (g.V.Vault.holds r.vault) r.kept r.totals b) (sym fresh) (fits_none (g.V.Vault.holds c.args.vault) b h)) clean_old)
          clean_err).inside) k,
    ))

pub returns-clause-did : goal.returns-clause-did
returns-clause-did g c = λ T k clean.
    (let fresh = c.new-vault.ensures.vault ∙ c.new.ensures in
    let back = c.into_vault-in-Ok-open-3.ensures
    ∙ ap (λ x. x.vault) (c.into_vault-in-Ok-open-2.ensures ∙ ap (λ x. x.vault) c.into_vault-in-Ok-open.ensures) in
    let clean_served = subst g.V.Vault.is_clean back clean in
    let clean_open = c.serve-served.ensures.clean clean_served in
    let clean_old = c.in-Ok-open.ensures.clean clean_open in
    let stands = rw c.in-Some.ensures.value at (c.in-Ok-open.ensures.opened T
    (keeps_so (g.V.Vault.holds c.args.vault) _ T
    (λ b h. c.totals_of-totals.ensures.held b
    (subst (λ r. HoldsFitting (g.V.Vault.holds r.vault) r.kept r.totals b) (sym fresh) (fits_none (g.V.Vault.holds c.args.vault) b h)) clean_old) k)
    clean_open) in
    let opened = opened_by c.args.options.now c.args.boot T in
    let w = c.serve-served.ensures.served opened stands clean_served in (
      trace_of T.base (w.given ++ opened.log),
      IsOpened c.in-Ok-open.office c.serve-served.result.1 c.serve-served.result.0 w.given stands w.served w.did,
      keeps_so _ _ (trace_of T.base (w.given ++ opened.log)) (λ b h. subst (λ v. g.V.Vault.holds v b) (sym back) h.inside) w.served.stands.keeps,
    ))
