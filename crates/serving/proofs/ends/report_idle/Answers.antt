use Rattle.std.proofs.Common.{rules, ◌≡◌, ◌∷◌, [], true, false}
use Rattle.office.specs.Trace.{is_open}
use Rattle.serving.specs.Hearing.{HasHeard, idle_ends}
use Rattle.serving.proofs.Releasing.{at_place}
use Rattle.serving.proofs.Seating.{open_so, shut_so}
use Rattle.serving.proofs.Hearing.{idle_open, idle_shut}
use Rattle.serving.proofs.ends.report_idle.Goals as goal

pub returns-then-not-ended : goal.returns-then-not-ended
returns-then-not-ended g c = λ T d s.
    (let l = c.args.listener.now in
    let stays : c.ended.result ≡ false = search rules in
    at_place c.args.clients.now.seats.items c.deref.result.now c.args.place _ (λ q. HasHeard g.L.Listener.heard l l (idle_ends T (q ∷ []))) c.deref.ensures.0 c.requires
    (idle_open g.L.Listener.heard l T _ (open_so (is_open T _) c.ended.result (c.ended.ensures T s) stays)) d)

pub returns : goal.returns
returns g c = λ T d s.
    (let l = c.args.listener.now in
    let over : c.ended.result ≡ true = search rules in
    at_place c.args.clients.now.seats.items c.deref.result.now c.args.place _ (λ q. HasHeard g.L.Listener.heard l c.on_account.new.self (idle_ends T (q ∷ []))) c.deref.ensures.0 c.requires
    (idle_shut g.L.Listener.heard l c.on_account.new.self T _ (shut_so (is_open T _) c.ended.result (c.ended.ensures T s) over) c.on_account.ensures.heard) d)
