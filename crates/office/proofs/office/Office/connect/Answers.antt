use Rattle.std.proofs.Common.{◌≡◌, ◌+◌, ◌∙◌, false, sym, ap, refl, nat_cmp, string_bytes, rules}
use Rattle.std.specs.Map.{lookup}
use Rattle.std.specs.BTreeMap.{is_at}
use Rattle.office.specs.Expected.{is_full, reason_if}
use Rattle.office.specs.History.{Done, NoMemory}
use Rattle.office.specs.Events.{Connect}
use Rattle.office.specs.Outcomes as outcome
use Rattle.office.proofs.Coming.{nothing_stands, lacked_connect, number_left, after_ok, after_err, greeted, come_stands}
use Rattle.office.proofs.AfterEvents.{unasked_after, ignored_after}
use Rattle.office.proofs.office.Office.connect.Goals as goal

pub returns-then-is_full-clause-after : goal.returns-then-is_full-clause-after
returns-then-is_full-clause-after g c =
    ignored_after g.V.Vault c.args.self.now _ Connect outcome.TooManyConnections (g.met.V.Vault.settled _) (λ q. refl)
    (λ T st. ap (λ b. reason_if b outcome.TooManyConnections) (sym (c.is_full.ensures.value T st) ∙ c.if-is_full.true))

pub returns-in_default-clause-after : goal.returns-in_default-clause-after
returns-in_default-clause-after g c =
    unasked_after g.V.Vault c.args.self.now _ Connect outcome.NoMemory (g.met.V.Vault.settled _) refl tt
    (λ T st clean. nothing_stands g.V.Vault.holds c.args.self.now _ T _ _ st (lacked_connect T (number_left _ _ st.opened (c.is_full.ensures.room c.if-is_full.false)) st.keeps.formed)
    (λ k h. h) refl refl refl refl refl (λ q. refl) (λ d. refl))
    (λ T st. let room : is_full T ≡ false = sym (c.is_full.ensures.value T st) ∙ c.if-is_full.false in record { tag = NoMemory; may = refl; is = rw room refl })

pub returns-then-is_err-clause-after : goal.returns-then-is_err-clause-after
returns-then-is_err-clause-after g c =
    let same = after_err _ (sym c.is_err.ensures.value ∙ c.if-is_err.true) c.insert.ensures.err in
    unasked_after g.V.Vault c.args.self.now _ Connect outcome.NoMemory (g.met.V.Vault.settled _) refl tt
    (λ T st clean. nothing_stands g.V.Vault.holds c.args.self.now _ T _ _ st (lacked_connect T (number_left _ _ st.opened (c.is_full.ensures.room c.if-is_full.false)) st.keeps.formed)
    (λ k h. h) refl refl refl refl refl (λ q. ap (λ es. lookup (is_at (nat_cmp q)) es) same) (λ d. refl))
    (λ T st. let room : is_full T ≡ false = sym (c.is_full.ensures.value T st) ∙ c.if-is_full.false in record { tag = NoMemory; may = refl; is = rw room refl })

pub returns-clause-after : goal.returns-clause-after
returns-clause-after g c =
    let o = c.args.self.now in
    let change = after_ok _ (sym c.is_err.ensures.value ∙ c.if-is_err.false) c.insert.ensures.updates in
    unasked_after g.V.Vault o _ Connect (outcome.Opened (o.opened + 1)) (g.met.V.Vault.settled _) refl tt
    (λ T st clean. come_stands g.V.Vault.holds o _ T st _ c.in-Ok.connection (ap (λ n. n + 1) st.opened)
    (c.in-Ok.ensures ∙ ap (λ h. greeted (o.opened + 1) o.boot h c.removals.result o.moment) c.as_str.ensures.value
    ∙ ap (λ j. greeted (o.opened + 1) o.boot (string_bytes o.host) j o.moment) c.removals.ensures) (number_left _ _ st.opened (c.is_full.ensures.room c.if-is_full.false))
    (λ k h. h) refl refl refl refl refl change (λ d. refl))
    (λ T st. let room : is_full T ≡ false = sym (c.is_full.ensures.value T st) ∙ c.if-is_full.false in record { tag = Done; may = refl; is = rw room (ap (λ n. outcome.Opened (n + 1)) st.opened) })

pub returns-then-is_full-clause-unasked : goal.returns-then-is_full-clause-unasked
returns-then-is_full-clause-unasked g c = search rules

pub overflow_add-c : goal.overflow_add-c
overflow_add-c g c = search rules

pub returns-in_default-clause-unasked : goal.returns-in_default-clause-unasked
returns-in_default-clause-unasked g c = search rules

pub returns-then-is_err-clause-unasked : goal.returns-then-is_err-clause-unasked
returns-then-is_err-clause-unasked g c = search rules

pub returns-clause-unasked : goal.returns-clause-unasked
returns-clause-unasked g c = search rules
