use denote.Enum.Bare.{sameb}
use Rattle.std.proofs.Common.{◌≡◌, List, ℕ, ◌∙◌, sym, refl, false, rules}
use Rattle.popline.specs.Commands.{arguments, with_arguments, command_with}
use Rattle.popline.specs.contracts.command.Keyword.{the_type}
use Rattle.popline.specs.declared.command.Keyword.{Keyword}
use Rattle.popline.specs.declared.command.Keyword.TheVariants as keyword
use Rattle.popline.proofs.Words.{with_arguments-three}
use Rattle.popline.proofs.command.Keyword.command.Goals as goal

not_pass : (k : Keyword) (line : List ℕ) → false ≡ sameb the_type k keyword.Pass → command_with k line ≡ with_arguments k (arguments line)
not_pass keyword.Pass line h = cc
not_pass k line h = refl

pub returns-in-Some-split_once-2 : goal.returns-in-Some-split_once-2
returns-in-Some-split_once-2 c =
    let parts = rw c.without_trailing_spaces-trimmed.ensures at c.in-Some.ensures in
    sym (not_pass c.args.self c.args.line.now c.if-eq.ensures
    ∙ with_arguments-three c.args.self c.args.line.now c.in-Some.rest.now c.in-Some-split_once.first.now c.in-Some-split_once.second.now c.in-Some.field-0-0.now
    parts c.in-Some-split_once.ensures c.in-Some-split_once-2.field-0.0.now c.in-Some-split_once-2.field-0.1.now c.in-Some-split_once-2.ensures)

pub returns-then-eq : goal.returns-then-eq
returns-then-eq c = search rules
