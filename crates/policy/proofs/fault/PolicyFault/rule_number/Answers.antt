-- The faults without a number.
use Rattle.std.proofs.Common.{rules}
use Rattle.policy.proofs.fault.PolicyFault.rule_number.Goals as goal

pub returns-in-NotToml : goal.returns-in-NotToml
returns-in-NotToml c = search rules

pub returns-in-NotToml-2 : goal.returns-in-NotToml-2
returns-in-NotToml-2 c = search rules

pub returns-in-NotToml-3 : goal.returns-in-NotToml-3
returns-in-NotToml-3 c = search rules
