use Rattle.std.proofs.Common.{refl}
use Rattle.serving.specs.Running.{FilePrepared}
use Rattle.serving.proofs.server.Server.prepare_file.Goals as goal

pub returns-then-ne-clause-prepares : goal.returns-then-ne-clause-prepares
returns-then-ne-clause-prepares g c = FilePrepared c.prepare_deposit-prepared.result refl c.prepare_deposit-prepared.ensures.looks

pub returns-else-ne-clause-prepares : goal.returns-else-ne-clause-prepares
returns-else-ne-clause-prepares g c = FilePrepared c.prepare_deposit-prepared.result refl c.prepare_deposit-prepared.ensures.looks
