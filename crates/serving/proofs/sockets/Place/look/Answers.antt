use Rattle.std.proofs.Common.{sym, ◌∙◌}
use Rattle.serving.proofs.sockets.Place.look.Goals as goal

pub returns-then-not-is_empty-clause-shown : goal.returns-then-not-is_empty-clause-shown
returns-then-not-is_empty-clause-shown c =
    let ahead = c.args.self.now.ahead in
    c.counted.ensures.shown c.show.new.buffer ∙ (c.show.ensures.shown ∙ sym (c.counted.ensures.shown ahead))
