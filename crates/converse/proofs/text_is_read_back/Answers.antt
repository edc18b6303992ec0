use Rattle.converse.proofs.Escaping.{read_back}
use Rattle.converse.proofs.text_is_read_back.Goals as goal

pub returns : goal.returns
returns c = read_back
