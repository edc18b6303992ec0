use Rattle.std.proofs.Common.{◌≡◌, ℕ, ◌+◌, sym, ◌∙◌, rules}
use Rattle.popline.specs.Replies.{one_line, scan_text}
use Rattle.session.specs.Session.{octets_of}
use Rattle.session.specs.View.{unmarked, sizes_of}
use Rattle.office.proofs.ListedRows.{row_put, next_behind}
use Rattle.office.proofs.output.put_sizes.Goals as goal

pub loop-rows-preserved : goal.loop-rows-preserved
loop-rows-preserved c =
    let s = c.args.session.now in
    let all = sizes_of octets_of (unmarked s.marks s.view) in
    let n = c.loop-rows.done in
    let more : c.in-Some-checked_add.next ≡ n + 1 = search rules in
    record {
      rows = rw more (next_behind c.next.result all c.loop-rows.rows c.next.new.self n c.loop-rows.invariant.rows c.next.ensures.steps);
      put = rw more (c.loop-rows.invariant.put ∙ row_put (λ (row : ℕ × ℕ). one_line (scan_text row)) all n c.loop-rows.ready.items _ c.next.new.self c.put_size.new.ready.items
          (sym c.loop-rows.invariant.rows ∙ c.in-Some.ensures.steps) c.in_ok-put_size.ensures.ok);
      room = search rules;
    }
