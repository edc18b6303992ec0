use Rattle.std.proofs.Common.{◌≡◌, ◌+◌, ◌≤◌, Ok, length, map}
use Rattle.std.specs.Prelude.{option_copied}
use Rattle.converse.specs.Script.{line_seen, asks_then, script_of}
use Rattle.converse.proofs.Reading.{rest_asks, left_of}
use Rattle.converse.proofs.script.read_script.Given as goal

-- what the lines that came asked for, and what the others ask for, is the whole
abbrev pub invariant-loop-rest : goal.invariant-loop-rest
invariant-loop-rest l =
    record {
      asks : asks_then (Ok (map line_seen l.lines.items)) (rest_asks (l.number + 1) (option_copied l.rest)) ≡ script_of l.text;
      counted : l.number + left_of (option_copied l.rest) ≤ length l.text + 1;
    }

abbrev pub decreases-loop-rest : goal.decreases-loop-rest
decreases-loop-rest l = left_of (option_copied l.rest)
