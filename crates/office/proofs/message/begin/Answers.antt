use Rattle.std.proofs.Common.{◌≡◌, ◌++◌, ℕ, List, sym, ◌∙◌, ap, ap₂, append_assoc}
use Rattle.std.specs.Prelude.{codes}
use Rattle.std.specs.Fmt.{decimal}
use Rattle.mailtext.specs.Text.{lines_of, stuffed_lines, top_part}
use Rattle.popline.specs.Replies.{Message, one_line, bytes_of}
use Rattle.office.specs.Output.{Output, last_line}
use Rattle.office.proofs.message.begin.Goals as goal

pub returns-in_ok-begin_message-in-None-clause-coming : goal.returns-in_ok-begin_message-in-None-clause-coming
returns-in_ok-begin_message-in-None-clause-coming c = rw c.in-None.is (λ t form size.
    let first = one_line (codes "+OK " ++ decimal c.args.head.now.octets ++ codes " octets") in
    let front : c.begin_message.new.self.ready ≡ first = ap (λ (o : Output). o.ready) c.in_ok-begin_message-in-None.ensures ∙ ap (λ (o : Output). o.ready ++ first) c.requires in
    ap₂ (λ (xs ys : List ℕ). xs ++ ys) front (c.whole.ensures.coming t form)
    ∙ sym (append_assoc first (stuffed_lines (lines_of t)) last_line) ∙ ap (λ n. bytes_of (Message n (stuffed_lines (lines_of t)))) (sym size))

pub returns-in_ok-begin_top-in-Some-clause-coming : goal.returns-in_ok-begin_top-in-Some-clause-coming
returns-in_ok-begin_top-in-Some-clause-coming c = rw c.in-Some.is (λ t form size.
    let first = one_line (codes "+OK top follows") in
    let front : c.begin_top.new.self.ready ≡ first = ap (λ (o : Output). o.ready) c.in_ok-begin_top-in-Some.ensures ∙ ap (λ (o : Output). o.ready ++ first) c.requires in
    ap₂ (λ (xs ys : List ℕ). xs ++ ys) front (c.top.ensures.coming t form)
    ∙ sym (append_assoc first (stuffed_lines (top_part (lines_of t) c.in-Some.lines)) last_line))
