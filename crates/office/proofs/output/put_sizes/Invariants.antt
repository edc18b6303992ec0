use Rattle.std.proofs.Common.{◌≡◌, ◌≤◌, ◌++◌, drop, length}
use Rattle.session.specs.Session.{octets_of}
use Rattle.session.specs.View.{unmarked, sizes_of}
use Rattle.office.specs.Output.{sizes_coming, most_output}
use Rattle.office.proofs.output.put_sizes.Given as goal

abbrev pub invariant-loop-rows : goal.invariant-loop-rows
invariant-loop-rows l = record {
  rows : l.rows ≡ drop l.done (sizes_of octets_of (unmarked l.session.marks l.session.view));
  put : l.fn.ready.items ++ sizes_coming l.fn.passed l.session ≡ l.ready.items ++ sizes_coming l.done l.session;
  room : length l.ready.items ≤ most_output;
}

abbrev pub decreases-loop-rows : goal.decreases-loop-rows
decreases-loop-rows l = length l.rows
