use Rattle.std.proofs.Common.{rules, ◌≡◌, true, false, take, refl, inl, inr}
use Rattle.serving.specs.Calls.{Looked}
use Rattle.serving.specs.ClientParts.{NotLooked, NotKept}
use Rattle.serving.specs.Wires.{counted}
use Rattle.serving.specs.declared.wire.Io.TheVariants.{Count}
use Rattle.serving.specs.declared.wire.Port.TheVariants.{Pop}
use Rattle.serving.proofs.Awaiting.{kept_if, prepares_same}
use Rattle.serving.proofs.Composing.{does_none, does_call}
use Rattle.serving.proofs.Looking.{serving_seen}
use Rattle.serving.proofs.server.Server.keeps_quit.Goals as goal

pub returns-then-not-is_long_quit-clause-serves : goal.returns-then-not-is_long_quit-clause-serves
returns-then-not-is_long_quit-clause-serves g c = λ seats these has before T elsewhere s clean.
    serving_seen g.V.Vault.holds g.W.Wire.tells T elsewhere _ _ _ seats these c.look.ensures.told s

pub returns-else-not-is_long_quit-clause-serves : goal.returns-else-not-is_long_quit-clause-serves
returns-else-not-is_long_quit-clause-serves g c = λ seats these has before T elsewhere s clean.
    serving_seen g.V.Vault.holds g.W.Wire.tells T elsewhere _ _ _ seats these c.look.ensures.told s

pub returns-in_default-clause-serves : goal.returns-in_default-clause-serves
returns-in_default-clause-serves g c = λ seats these has before T elsewhere s clean. serving_seen g.V.Vault.holds g.W.Wire.tells T elsewhere _ _ _ seats these c.look.ensures.told s

pub returns-then-not-may_keep-clause-works : goal.returns-then-not-may_keep-clause-works
returns-then-not-may_keep-clause-works g c = does_none g.V.Vault g.W.Wire g.L.Listener c.args.self.now _ NotLooked

pub returns-then-not-may_quit_long-clause-works : goal.returns-then-not-may_quit_long-clause-works
returns-then-not-may_quit_long-clause-works g c = does_none g.V.Vault g.W.Wire g.L.Listener c.args.self.now _ NotLooked

pub returns-then-not-is_long_quit-clause-works : goal.returns-then-not-is_long_quit-clause-works
returns-then-not-is_long_quit-clause-works g c =
    let s = c.args.self.now in
    let io = Count c.in-Count.count in
    let piece = take c.in-Count.count c.look.new.buffer in
    does_call g.V.Vault g.W.Wire g.L.Listener s.office s.listener s.wire c.look.new.self (Looked Pop c.args.seat.link io piece) _ c.in-Count.ensures.called (NotKept io piece)

pub returns-else-not-is_long_quit-clause-works : goal.returns-else-not-is_long_quit-clause-works
returns-else-not-is_long_quit-clause-works g c =
    let s = c.args.self.now in
    let piece = take c.in-Count.count c.look.new.buffer in
    let long : c.is_long_quit.result ≡ true = search rules in
    does_call g.V.Vault g.W.Wire g.L.Listener s.office s.listener s.wire c.look.new.self (Looked Pop c.args.seat.link (Count c.in-Count.count) piece) _ c.in-Count.ensures.called
    (kept_if g.V.Vault s.office c.args.seat (Count c.in-Count.count) piece c.keep.result (λ T st. c.is_long_quit.ensures T st long))

pub returns-in_default-clause-works : goal.returns-in_default-clause-works
returns-in_default-clause-works g c =
    let s = c.args.self.now in
    let io = c.look.result in
    let piece = counted io c.look.new.buffer in
    does_call g.V.Vault g.W.Wire g.L.Listener s.office s.listener s.wire c.look.new.self (Looked Pop c.args.seat.link io piece) _ c.look.ensures.called (NotKept io piece)

pub returns-then-not-may_keep-clause-prepares : goal.returns-then-not-may_keep-clause-prepares
returns-then-not-may_keep-clause-prepares g c = prepares_same c.args.quits.now.is_preparing false

pub returns-then-not-may_quit_long-clause-prepares : goal.returns-then-not-may_quit_long-clause-prepares
returns-then-not-may_quit_long-clause-prepares g c = prepares_same c.args.quits.now.is_preparing false

pub returns-then-not-is_long_quit-clause-prepares : goal.returns-then-not-is_long_quit-clause-prepares
returns-then-not-is_long_quit-clause-prepares g c = prepares_same c.args.quits.now.is_preparing false

pub returns-in_default-clause-prepares : goal.returns-in_default-clause-prepares
returns-in_default-clause-prepares g c = prepares_same c.args.quits.now.is_preparing false

pub returns-then-not-may_keep-clause-counts : goal.returns-then-not-may_keep-clause-counts
returns-then-not-may_keep-clause-counts g c = record { same = refl; left = λ e. inl e }

pub returns-then-not-may_quit_long-clause-counts : goal.returns-then-not-may_quit_long-clause-counts
returns-then-not-may_quit_long-clause-counts g c = record { same = refl; left = λ e. inl e }

pub returns-then-not-is_long_quit-clause-counts : goal.returns-then-not-is_long_quit-clause-counts
returns-then-not-is_long_quit-clause-counts g c = record { same = refl; left = λ e. inl e }

pub returns-in_default-clause-counts : goal.returns-in_default-clause-counts
returns-in_default-clause-counts g c = record { same = refl; left = λ e. inl e }

pub returns-else-not-is_long_quit-clause-counts : goal.returns-else-not-is_long_quit-clause-counts
returns-else-not-is_long_quit-clause-counts g c =
    let may : c.may_keep.result ≡ true = search rules in
    record { same = c.keep.ensures.counts; left = λ e. inr (c.may_keep.ensures may) }
