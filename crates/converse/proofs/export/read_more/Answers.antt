use Rattle.std.proofs.Common.{rules, take}
use Rattle.vault.specs.Calls.{text_under}
use Rattle.converse.proofs.Exporting.{front_more}
use Rattle.converse.proofs.export.read_more.Goals as goal

pub returns-clause-front : goal.returns-clause-front
returns-clause-front g c = λ d h k front.
    front_more c.args.text.now.items c.extend_from_slice.new.self.items _ (take c.in_ok-count.count c.page.new.buffer) (text_under c.args.key d.messages) _
    (search rules) c.in_ok-extend_from_slice.ensures.items (search rules) (c.in_ok-count.ensures.done d h k).answer.1.next front
