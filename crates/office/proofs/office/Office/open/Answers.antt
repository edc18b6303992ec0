use Rattle.std.proofs.Common.{◌≡◌, ◌<◌, ◌≤◌, true, ap, refl, nat_cmp, rules}
use Rattle.std.specs.Map.{lookup}
use Rattle.std.specs.BTreeMap.{is_at}
use Rattle.creds.specs.Names.{is_host}
use Rattle.office.specs.Answered.{name_cmp}
use Rattle.office.proofs.Coming.{start_stands, start_formed, same_ok}
use Rattle.office.proofs.Stopping.{looked_left}
use Rattle.office.proofs.office.Office.open.Goals as goal

pub returns-then-is_none-clause-stop : goal.returns-then-is_none-clause-stop
returns-then-is_none-clause-stop g c d held clean up = looked_left (g.met.V.Vault.settled _ d clean up held)

pub returns-in_default-clause-stop : goal.returns-in_default-clause-stop
returns-in_default-clause-stop g c d held clean up = looked_left (g.met.V.Vault.settled _ d clean up held)

pub returns-in-Err-NoMemory-clause-stop : goal.returns-in-Err-NoMemory-clause-stop
returns-in-Err-NoMemory-clause-stop g c d held clean up = looked_left (c.in-Err-NoMemory.ensures.looks.stop d clean up held)

pub returns-in-Err-clause-stop : goal.returns-in-Err-clause-stop
returns-in-Err-clause-stop g c d held clean up = looked_left (c.in-Err.ensures.looks.stop d clean up held)

pub returns-clause-opened : goal.returns-clause-opened
returns-clause-opened g c T k clean =
    let h : is_host c.args.host.now ≡ true = search rules in
    let low : 600 ≤ c.args.limits.idle = search rules in
    let high : c.args.limits.idle ≤ 86400 = search rules in
    let boot : c.args.boot < 18446744073709551616 = search rules in
    let done = c.in-Ok-policy.ensures.done k.contents k.held clean in
    start_stands g.V.Vault.holds g.V.Vault.holds c.args.vault _ T c.args.host.now c.args.boot c.args.limits k done.held (same_ok _ _ done.answer) refl c.in-Ok.ensures.ok refl refl
    (start_formed T c.args.host.now c.args.boot c.args.limits h boot low high)
    (λ q. ap (λ es. lookup (is_at (nat_cmp q)) es) c.new.ensures.empty) (λ d. ap (λ es. lookup (is_at (name_cmp d)) es) c.new-in-Ok-policy.ensures.empty)

pub returns-clause-stop : goal.returns-clause-stop
returns-clause-stop g c d held clean up = looked_left (c.in-Ok-policy.ensures.looks.stop d clean up held)
