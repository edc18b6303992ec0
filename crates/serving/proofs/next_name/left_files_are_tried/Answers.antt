use Rattle.serving.proofs.Leaving.{are_tried}
use Rattle.serving.proofs.Rounds.{none_is_passed_over}
use Rattle.serving.proofs.next_name.left_files_are_tried.Goals as goal

pub returns-clause-looks : goal.returns-clause-looks
returns-clause-looks c = are_tried

pub returns-clause-rounds : goal.returns-clause-rounds
returns-clause-rounds c = none_is_passed_over
