use Rattle.std.proofs.Common.{◌≡◌, inl, slice_get}
use Rattle.std.specs.Option.{option_map}
use Rattle.mailsql.proofs.ErrorLemmas.{reads, fails_to_read_as}
use Rattle.mailsql.proofs.run.first.Goals as goal

pub returns-in-Ok-clause-ok : goal.returns-in-Ok-clause-ok
returns-in-Ok-clause-ok g c clean =
    reads _ _ _ _ _ _ c.as_slice.ensures.value (c.in-Ok.ensures.ok clean) c.read_first.result (λ found rows. found ≡ option_map g.T.Stored.stored (slice_get rows 0)) c.read_first.ensures.ok

pub returns-in-Ok-clause-err : goal.returns-in-Ok-clause-err
returns-in-Ok-clause-err g c clean = fails_to_read_as g.T.Stored.holds _ _ _ _ _ _ c.as_slice.ensures.value (c.in-Ok.ensures.ok clean) _ c.read_first.ensures.memory

pub returns-in-Err-clause-err : goal.returns-in-Err-clause-err
returns-in-Err-clause-err g c clean = inl (c.in-Err.ensures.err clean)
