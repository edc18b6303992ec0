use Rattle.std.proofs.Common.{◌≡◌, ◌++◌, ◌-◌, ◌≤◌, take, drop, option_copied, option_to_list, IfSome, true}
use Rattle.mailtext.proofs.LineLemmas.{Unbroken}
use Rattle.journal.specs.MessageIds.{only, id_lines, is_id_line}
use Rattle.journal.proofs.message_ids.only_id_line.Given as goal

-- what was found, and what is still to come
abbrev pub invariant-loop-i : goal.invariant-loop-i
invariant-loop-i l = record {
  begun : l.start ≤ l.i;
  before : only (id_lines l.head) ≡ only (option_to_list (option_copied l.found) ++ id_lines (drop l.start l.head));
  here : Unbroken (take (l.i - l.start) (drop l.start l.head));
  tells : IfSome l.found (λ line. is_id_line line.now ≡ true);
}
