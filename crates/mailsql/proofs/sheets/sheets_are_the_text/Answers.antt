use Rattle.mailsql.proofs.CutLemmas.{sheets_are_the_text}
use Rattle.mailsql.proofs.sheets.sheets_are_the_text.Goals as goal

pub returns : goal.returns
returns c = sheets_are_the_text
