use Rattle.std.proofs.Common.{◌⊎◌}
use Rattle.std.specs.Prelude.{codes}
use Rattle.mailsql.specs.Rows.{Rows}
use Rattle.mailsql.specs.Changes.{DropsMetaRow, PutsMetaRow}
use Rattle.sqlvault.specs.Keeps.{our_meta_row}
use Rattle.sqlvault.proofs.FrameLemmas.{written_in}
use Rattle.sqlvault.proofs.checkpoint.rewrite_version.Goals as goal

-- what a stop may leave of the two statements
abbrev Either : Rows → Rows → Type 0
Either from to = DropsMetaRow (codes "popbox") from to ⊎ PutsMetaRow our_meta_row from to

pub returns : goal.returns
returns g c = written_in g.S.Store c.args.conn.now c.put_meta_row.new.conn
    (PutsMetaRow our_meta_row) Either c.put_meta_row.result c.put_meta_row.ensures.ok
    c.put_meta_row.ensures.err c.put_meta_row.ensures.survives
