use Rattle.std.proofs.Common.{◌++◌, ◌∙◌, ap, codes, rules}
use Rattle.popline.specs.Replies.{uid_row_text}
use Rattle.popline.proofs.ListingLemmas.{listing_more}
use Rattle.popline.proofs.lines.put_uid_row.Goals as goal

pub returns-clause-row : goal.returns-clause-row
returns-clause-row c =
    listing_more (codes "+OK unique-id listing follows") uid_row_text (c.args.number, c.args.uid) c.args.out.now.items c.extend_from_slice.new.self.items
    (c.in_ok-extend_from_slice.ensures.items ∙ ap (λ x. c.args.out.now.items ++ x) (c.as_bytes.ensures.value ∙ c.in_ok-row.ensures))

pub returns-clause-ok : goal.returns-clause-ok
returns-clause-ok c = search rules
