use Rattle.std.proofs.Common.{arith}
use Rattle.std.proofs.lemmas.Grind.{common_steps}
use Rattle.converse.proofs.fields.escaped_octet.Goals as goal

pub returns-in-114-clause-is : goal.returns-in-114-clause-is
returns-in-114-clause-is c = grind (arith, common_steps)

pub returns-in-110-clause-is : goal.returns-in-110-clause-is
returns-in-110-clause-is c = grind (arith, common_steps)

pub returns-in-92-clause-is : goal.returns-in-92-clause-is
returns-in-92-clause-is c = grind (arith, common_steps)

pub returns-in_ok-octet_of-in-120-clause-is : goal.returns-in_ok-octet_of-in-120-clause-is
returns-in_ok-octet_of-in-120-clause-is c = grind (arith, common_steps)

pub returns-in_err-octet_of-in-120-clause-is : goal.returns-in_err-octet_of-in-120-clause-is
returns-in_err-octet_of-in-120-clause-is c = grind (arith, common_steps)

pub returns-in_default-clause-is : goal.returns-in_default-clause-is
returns-in_default-clause-is c = grind (arith, common_steps)
