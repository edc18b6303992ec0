use Rattle.std.proofs.Common.{rules}
use Rattle.policy.proofs.sound.are_sound_in_order.Goals as goal

pub returns-then-have_own_names : goal.returns-then-have_own_names
returns-then-have_own_names c = search rules
