use Rattle.std.proofs.Common.{ap, sym, subst}
use Rattle.sqlite.specs.Held.{state}
use Rattle.mailsql.specs.OlderVersions.{is_first}
use Rattle.sqlvault.specs.Moves.{MovesOld, IsUnmoved, Builds}
use Rattle.sqlvault.proofs.MoveLemmas.{part_old}
use Rattle.sqlvault.proofs.moves.move_old.Goals as goal

pub returns-in-First : goal.returns-in-First
returns-in-First g c =
    subst (λ b. Builds g.S.Store c.args.conn.now c.move_messages.new.conn (IsUnmoved b)
    (MovesOld b) c.move_messages.result) (sym (ap is_first c.in-First.is)) c.move_messages.ensures

pub returns-in-Second : goal.returns-in-Second
returns-in-Second g c = record {
  clean = λ clean. clean;
  part = λ clean u. part_old (is_first c.args.version) (state g.S.Store c.args.conn.now) u.of.under
      (ap is_first c.in-Second.is);
}
