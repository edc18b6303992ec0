use Rattle.std.proofs.Common.{◌≡◌, ℕ, List, Option, subst}
use Rattle.std.specs.Prelude.{IfOk, ok_or}
use Rattle.converse.specs.LinePlaces.{place_by, place_of, read_seen}
use Rattle.converse.specs.Script.{line_by, line_of}
use Rattle.converse.proofs.Reading.{read_fault, read_ok}
use Rattle.converse.proofs.script.read_line.Goals as goal

pub returns-clause-ok : goal.returns-clause-ok
returns-clause-ok c =
    read_ok c.read_parts.result (line_of c.args.line.now) (place_of c.args.line.now)
    (subst (λ (parts : List ℕ × Option (List ℕ)). IfOk c.read_parts.result (λ read. read_seen read ≡ ok_or (line_by parts) (place_by parts))) c.cut_at.ensures c.read_parts.ensures)

pub returns-clause-fault : goal.returns-clause-fault
returns-clause-fault c =
    read_fault c.read_parts.result (line_of c.args.line.now) (place_of c.args.line.now)
    (subst (λ (parts : List ℕ × Option (List ℕ)). IfOk c.read_parts.result (λ read. read_seen read ≡ ok_or (line_by parts) (place_by parts))) c.cut_at.ensures c.read_parts.ensures)
