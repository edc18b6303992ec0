use Rattle.office.proofs.UniqueIdTexts as laws
use Rattle.office.proofs.history_laws.unique_id_texts_differ.Goals as goal

pub returns : goal.returns
returns c = laws.unique_id_texts_differ
