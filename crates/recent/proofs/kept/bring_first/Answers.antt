-- One is taken out, and put in front.
use Rattle.std.proofs.Common.{◌<◌, length, rules}
use Rattle.recent.proofs.Keeping.{taken_out_fits, left_fits, moved_count}
use Rattle.recent.proofs.kept.bring_first.Goals as goal

pub returns-in-Some-clause-fits : goal.returns-in-Some-clause-fits
returns-in-Some-clause-fits c d h =
    let l : c.in-Some.place < length c.args.kept.now.items = search rules in
    c.put_first.ensures.fits d (taken_out_fits _ _ _ d l c.remove-one.ensures.value h)
    (left_fits _ _ _ d c.remove-one.ensures.items h)

pub returns-in-Some-clause-few : goal.returns-in-Some-clause-few
returns-in-Some-clause-few c =
    let l : c.in-Some.place < length c.args.kept.now.items = search rules in
    moved_count _ _ c.put_first.new.kept.items _ _ l c.remove-one.ensures.items c.remove-one.ensures.value c.put_first.ensures.few
