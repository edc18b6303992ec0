use Rattle.converse.specs.declared.fault.Fault.TheVariants.{Differs}
use Rattle.converse.proofs.ExportLemmas.{exports_well, exports_ill, reports_fault, why_differing, why_broken}
use Rattle.converse.proofs.export.export.Goals as goal

pub returns-in-Ok-true-clause-exports : goal.returns-in-Ok-true-clause-exports
returns-in-Ok-true-clause-exports g c = exports_well _ _ _ _ _ _ _ _ _ _ _ _ c.in-Ok-true.ensures.puts c.in-Ok-true.field-0-test

pub returns-in-Ok-false-clause-exports : goal.returns-in-Ok-false-clause-exports
returns-in-Ok-false-clause-exports g c = exports_ill _ _ _ _ _ _ _ _ _ _ _ _ _ c.in-Ok-false.ensures.puts c.tell_fault.ensures.status

pub returns-in-Err-clause-exports : goal.returns-in-Err-clause-exports
returns-in-Err-clause-exports g c = exports_ill _ _ _ _ _ _ _ _ _ _ _ _ _ c.in-Err.ensures.puts c.tell_fault-in-Err.ensures.status

pub returns-in-Ok-false-clause-reports : goal.returns-in-Ok-false-clause-reports
returns-in-Ok-false-clause-reports g c =
    reports_fault _ _ _ _ _ Differs c.tell_fault.ensures.status (why_differing _ _ _ _ _ _ _ _ _ _ _ _ c.in-Ok-false.ensures.puts c.in-Ok-false.field-0-test) c.tell_fault.ensures.line

pub returns-in-Err-clause-reports : goal.returns-in-Err-clause-reports
returns-in-Err-clause-reports g c =
    reports_fault _ _ _ _ _ c.in-Err.fault c.tell_fault-in-Err.ensures.status (why_broken _ _ _ _ _ _ _ _ _ _ _ c.in-Err.fault c.in-Err.ensures.puts) c.tell_fault-in-Err.ensures.line
