use Rattle.serving.proofs.NameTexts.{name_read_back, one_text}
use Rattle.serving.proofs.file_name.names_read_back.Goals as goal

pub returns-clause-names : goal.returns-clause-names
returns-clause-names c = name_read_back

pub returns-clause-texts : goal.returns-clause-texts
returns-clause-texts c = one_text
