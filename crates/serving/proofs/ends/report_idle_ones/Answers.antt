use Rattle.std.proofs.Common.{rules, ◌<◌, ◌≤◌, length}
use Rattle.serving.specs.declared.links.Seat.{Seat}
use Rattle.serving.proofs.Hearing.{hears_none, idle_more, idle_whole}
use Rattle.serving.proofs.ends.report_idle_ones.Goals as goal

-- any seat
no_seat : Seat
no_seat = record { link = record { number = 0 }; connection = 0 }

pub loop-place-init : goal.loop-place-init
loop-place-init g c = record { told = λ T s. hears_none g.L.Listener.heard c.args.listener.now }

pub loop-place-preserved : goal.loop-place-preserved
loop-place-preserved g c =
    let k = c.loop-place in
    let x = c.report_idle in
    let seats = c.args.clients.now.seats.items in
    let within : k.place < length seats = search rules in
    record { told = λ T s. idle_more g.L.Listener.heard c.args.listener.now k.listener x.new.listener T seats k.place no_seat within (k.invariant.told T s) (x.ensures T no_seat s) }

pub returns : goal.returns
returns g c =
    let k = c.loop-place in
    let done : length c.args.clients.now.seats.items ≤ k.place = search rules in
    λ T s. idle_whole g.L.Listener.heard c.args.listener.now k.listener T c.args.clients.now.seats.items k.place done (k.invariant.told T s)
