use Rattle.std.proofs.Common.{◌≡◌, ◌+◌, sym, ◌∙◌, ap, arith, slice_get}
use Rattle.journal.proofs.Uids.{at_place, nothing_there}
use Rattle.journal.proofs.removed_text.message_at.Goals as goal

pub returns-then-place-len : goal.returns-then-place-len
returns-then-place-len c = nothing_there c.args.removed.now c.args.from c.args.n (omega (arith, c.saturating_add-place.ensures, c.len.ensures, c.if-place-len.true))

pub returns : goal.returns
returns c =
    let place : c.saturating_add-place.result ≡ c.args.from + c.args.n = omega (arith, c.saturating_add-place.ensures, c.len.ensures, c.if-place-len.false) in
    c.get.ensures ∙ (ap (slice_get c.args.removed.now) place ∙ sym (at_place c.args.removed.now c.args.from c.args.n))
