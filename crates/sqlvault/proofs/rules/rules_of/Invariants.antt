use Rattle.std.proofs.Common.{◌≡◌, true, pos, List, map, take}
use Rattle.std.specs.List.{list_all}
use Rattle.policy.specs.declared.rule.Rule as rule
use Rattle.policy.specs.Policy.{is_sound_rule}
use Rattle.sqlvault.specs.Keeps.{rule_row, at_place}
use Rattle.sqlvault.proofs.rules.rules_of.Given as goal

abbrev pub invariant-loop-row : goal.invariant-loop-row
invariant-loop-row l = (map (at_place (pos 0)) (take l.row-index l.rows) ≡ map (rule_row (pos 0)) l.rules.items)
    × ((rs : List rule.Rule) → list_all is_sound_rule rs ≡ true → map (at_place (pos 0)) l.rows ≡ map (rule_row (pos 0)) rs → l.rules.items ≡ take l.row-index rs)
