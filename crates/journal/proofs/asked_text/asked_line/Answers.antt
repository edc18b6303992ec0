use Rattle.std.proofs.Common.{◌≡◌, ◌++◌, ◌∙◌, ap, rules, List, ℕ, option_map, string_bytes, codes, append_assoc}
use Rattle.adminhttp.specs.Contents.{line_told}
use Rattle.journal.specs.AdminLines.{request_text, status_text, answer_text, sets_policy}
use Rattle.journal.specs.PolicyNames.{policy_value}
use Rattle.journal.proofs.asked_text.asked_line.Goals as goal

pub returns : goal.returns
returns c =
    let line : List ℕ → List ℕ → List ℕ → List ℕ → List ℕ =
    λ request status answer policy. codes "event=admin " ++ (c.args.who.now ++ (request ++ (codes " status=" ++ (status ++ (answer ++ policy))))) in
    let asked = c.args.asked.now in
    let in_force = option_map string_bytes c.args.in_force.now in
    let request = string_bytes c.in_ok-request.request in
    let status = c.status_word-status.result.now in
    let answer = string_bytes c.in_ok-answer.answer in
    let policy = string_bytes c.in_ok-policy.policy in
    let told = policy_value (sets_policy asked.content) in_force in
    let made : string_bytes c.in_ok-text.text ≡ line request status answer policy = search rules in
    let named : policy ≡ told = c.in_ok-policy.ensures ∙ ap (λ is_told. policy_value is_told in_force) c.sets_policy.ensures in
    let h : string_bytes c.in_ok-text.text ≡ line (request_text asked.line) (status_text asked.content c.args.is_sent) (answer_text (line_told asked.content)) told =
    made ∙ (ap (λ r. line r status answer policy) c.in_ok-request.ensures
    ∙ (ap (λ s. line (request_text asked.line) s answer policy) c.status_word-status.ensures
    ∙ (ap (λ a. line (request_text asked.line) (status_text asked.content c.args.is_sent) a policy) c.in_ok-answer.ensures
    ∙ ap (λ p. line (request_text asked.line) (status_text asked.content c.args.is_sent) (answer_text (line_told asked.content)) p) named))) in
    rw h (simp append_assoc)
