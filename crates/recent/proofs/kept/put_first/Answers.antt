-- One more in front, or none.
use Rattle.std.specs.Prelude.{is_ok}
use Rattle.recent.proofs.Keeping.{put_fits, put_count}
use Rattle.recent.proofs.kept.put_first.Goals as goal

pub returns-clause-fits : goal.returns-clause-fits
returns-clause-fits c d one h = put_fits _ _ _ _ d c.insert.ensures.items one h

pub returns-clause-few : goal.returns-clause-few
returns-clause-few c =
    put_count (is_ok c.insert.result) c.args.one c.args.kept.now.items _ c.insert.ensures.items
