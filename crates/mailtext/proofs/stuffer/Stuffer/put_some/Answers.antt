use Rattle.std.proofs.Common.{◌≡◌, ◌<◌, ◌≤◌, ◌∙◌, ◌++◌, true, ap, sym, get_or, take, drop, length, arith}
use Rattle.std.proofs.lemmas.List.{take_at, get_or-take, length-take, length-take-le}
use Rattle.mailtext.proofs.StreamLemmas.{sent_dot, sent_run}
use Rattle.mailtext.proofs.stuffer.Stuffer.put_some.Goals as goal

pub returns-then-len-eq0-clause-sent : goal.returns-then-len-eq0-clause-sent
returns-then-len-eq0-clause-sent c =
    let piece = c.args.piece.now in
    let room = c.min-room.result in
    let n = c.run_of-len.result.0 in
    let e = c.run_of-len.ensures in
    let none = c.if-len-eq0.true in
    let in_room : 0 < room = omega (arith, c.min-room.ensures, c.requires.piece, c.requires.out) in
    let is_left : n < length (take room piece) = omega (arith, none, length-take room piece, in_room, c.requires.piece) in
    let front : c.args.self.now ≡ true = sym c.self.view_is ∙ (sym (e.none none) ∙ e.front is_left) in
    let behind : get_or (take room piece) n 0 ≡ 46 = e.dot is_left in
    let first : get_or (take room piece) 0 0 ≡ 46 = rw none at behind in
    let dot : get_or piece 0 0 ≡ 46 = sym (get_or-take room piece 0 0 in_room) ∙ first in
    rw front (λ more. sent_dot piece more c.args.out.now c.requires.piece c.requires.out dot)

pub returns-clause-sent : goal.returns-clause-sent
returns-clause-sent c =
    let piece = c.args.piece.now in
    let room = c.min-room.result in
    let n = c.run_of-len.result.0 in
    let e = c.run_of-len.ensures in
    let fits : n ≤ length piece = omega (arith, length-take room piece, e.within) in
    let copied : take n (c.copy_from_slice.new.self ++ drop n c.args.out.now) ≡ take n piece =
    take_at c.copy_from_slice.new.self (drop n c.args.out.now) n (ap length c.copy_from_slice.ensures.after ∙ length-take-le n piece fits)
    ∙ c.copy_from_slice.ensures.after in
    rw (copied, ← c.self.view_is) (sent_run c.self.inside.at_front c.run_of-len.result.1 piece n room e.within e.sent)
