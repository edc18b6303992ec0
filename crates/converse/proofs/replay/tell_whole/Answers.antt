use Rattle.std.proofs.Common.{List, ℕ, subst}
use Rattle.std.proofs.KnownBytes.{Appends-trans}
use Rattle.std.specs.Io.KnownBytes.{Appends}
use Rattle.std.specs.List.{filter}
use Rattle.converse.specs.Told.{ended_lines, has_ended}
use Rattle.converse.proofs.Clauses.{appends_kept}
use Rattle.converse.proofs.Stopping.{on_ok}
use Rattle.converse.proofs.replay.tell_whole.Goals as goal

pub returns-in-Ok-clause-told : goal.returns-in-Ok-clause-told
returns-in-Ok-clause-told g c = λ T st.
    on_ok c.flush.result (appends_kept _ _ _ _
    (Appends-trans _ _ _ _ _ c.in_ok-tell.ensures.told
    (subst (λ (known : List ℕ). Appends (g.W.Write.contents c.tell.new.out) (g.W.Write.contents c.tell_ended.new.out) (ended_lines (filter (has_ended T) known)))
    c.in_ok-add_opened.ensures (c.in-Ok.ensures.told T st))) c.flush.ensures.kept)

pub returns-in-Ok-clause-flushed : goal.returns-in-Ok-clause-flushed
returns-in-Ok-clause-flushed g c = c.flush.ensures.flushed
