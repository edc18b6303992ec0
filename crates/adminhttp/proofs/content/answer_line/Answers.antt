use Rattle.std.proofs.Common.{◌≡◌, ◌++◌, IfOk, option_map, string_bytes, Some, codes, ap, sym, subst, ◌∙◌}
use Rattle.creds.specs.Uid.{uid_text}
use Rattle.office.specs.Seen.{answer_seen}
use Rattle.adminhttp.specs.Contents.{answer_line}
use Rattle.adminhttp.proofs.ContentLemmas.{one_line}
use Rattle.adminhttp.proofs.content.answer_line.Goals as goal

pub returns-in-New : goal.returns-in-New
returns-in-New c =
    let is : answer_line (answer_seen c.args.answer.now) ≡ Some (codes "new " ++ uid_text c.in-New.uid) = ap (λ a. answer_line (answer_seen a)) c.in-New.is
    ∙ ap Some (one_line (codes "new " ++ uid_text c.in-New.uid)) in
    subst (λ wanted. IfOk c.new_line.result (λ line. option_map string_bytes line ≡ wanted)) (sym is) c.new_line.ensures

pub returns-in-Known : goal.returns-in-Known
returns-in-Known c =
    let is : answer_line (answer_seen c.args.answer.now) ≡ Some (codes "known " ++ uid_text c.in-Known.uid) = ap (λ a. answer_line (answer_seen a)) c.in-Known.is
    ∙ ap Some (one_line (codes "known " ++ uid_text c.in-Known.uid)) in
    subst (λ wanted. IfOk c.known_line.result (λ line. option_map string_bytes line ≡ wanted)) (sym is) c.known_line.ensures
