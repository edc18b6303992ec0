-- What a spool in memory tells.
use Rattle.std.specs.Prelude.{◌≡◌, List, map}
use Rattle.std.proofs.Common.{sym, ◌∙◌}
use Rattle.serving.specs.Spools.{FileAct, WasRead, WasRemoved, WasRenamed}
use Rattle.serving.specs.declared.script_spool.ScriptAct.{ScriptAct}
use Rattle.serving.specs.declared.script_spool.ScriptAct.TheVariants as kept

-- what happened
abbrev pub act_seen : ScriptAct → FileAct
act_seen (kept.Read n text) = WasRead n text.items
act_seen (kept.Removed n) = WasRemoved n
act_seen (kept.Renamed n) = WasRenamed n

-- it tells one thing
pub tells_once : (kept : List ScriptAct) (a b : List FileAct) → a ≡ map act_seen kept → b ≡ map act_seen kept → a ≡ b
tells_once kept a b h k = h ∙ sym k
