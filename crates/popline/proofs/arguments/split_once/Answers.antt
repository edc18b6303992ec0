use Rattle.std.proofs.Common.{◌≤◌, ◌+◌, ◌-◌, length, drop, sym, arith, take_all, length-drop}
use Rattle.popline.proofs.Words.{split_at_space, split_at_none}
use Rattle.popline.proofs.arguments.split_once.Goals as goal

pub returns-in-Some : goal.returns-in-Some
returns-in-Some c =
    let line = c.args.line.now in
    let i = c.in-Some.at in
    let all : length (drop (i + 1) line) ≤ length line - (i + 1) = omega (arith, length-drop (i + 1) line) in
    rw (take_all (length line - (i + 1)) (drop (i + 1) line) all) (split_at_space line i (sym c.in-Some.ensures.value))

pub returns-in-None : goal.returns-in-None
returns-in-None c = split_at_none c.args.line.now (sym c.in-None.ensures.value)
