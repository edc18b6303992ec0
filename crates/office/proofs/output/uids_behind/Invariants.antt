use Rattle.std.proofs.Common.{◌≡◌, drop}
use Rattle.session.specs.Session.{uid_of}
use Rattle.session.specs.View.{unmarked, uids_of}
use Rattle.office.proofs.output.uids_behind.Given as goal

abbrev pub invariant-loop : goal.invariant-loop
invariant-loop l = l.rows ≡ drop l.counter (uids_of uid_of (unmarked l.session.marks l.session.view))
