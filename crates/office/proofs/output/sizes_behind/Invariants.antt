use Rattle.std.proofs.Common.{◌≡◌, drop}
use Rattle.session.specs.Session.{octets_of}
use Rattle.session.specs.View.{unmarked, sizes_of}
use Rattle.office.proofs.output.sizes_behind.Given as goal

abbrev pub invariant-loop : goal.invariant-loop
invariant-loop l = l.rows ≡ drop l.counter (sizes_of octets_of (unmarked l.session.marks l.session.view))
