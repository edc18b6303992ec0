use Rattle.std.proofs.Common.{◌≡◌, ◌++◌, [], Some, sym, ◌∙◌, ap, subst, true≢false}
use Rattle.std.specs.Prelude.{codes}
use Rattle.std.specs.List.{flat_map}
use Rattle.popline.specs.Replies.{one_line, uid_row_text}
use Rattle.session.specs.Session.{uid_of}
use Rattle.session.specs.View.{unmarked, uids_of}
use Rattle.office.specs.Output.{Output, Owes}
use Rattle.office.proofs.ListedRows.{begun_whole}
use Rattle.office.proofs.listing.list_uids.Goals as goal

pub returns-clause-owed : goal.returns-clause-owed
returns-clause-owed c = λ d.
    let s = c.args.session.now in
    let rows = uids_of uid_of (unmarked s.marks s.view) in
    let first = one_line (codes "+OK unique-id listing follows") in
    let begun : c.begin_uids.new.self.ready ≡ first ++ [] = ap (λ (o : Output). o.ready) c.in_ok-begin_uids.ensures ∙ ap (λ (o : Output). o.ready ++ (first ++ [])) c.requires in
    record {
      owes = subst (λ xs. Owes d (Some s) c.send_uids.new.self xs)
          (begun_whole first (flat_map (λ row. one_line (uid_row_text row)) rows) c.begin_uids.new.self.ready begun) (c.in_ok-send_uids.ensures.owes d);
      serves = λ h. absurd (true≢false (sym h ∙ c.in_ok-send_uids.ensures.kind));
    }
