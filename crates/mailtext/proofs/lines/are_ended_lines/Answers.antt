use Rattle.std.proofs.Common.{◌≡◌, ◌+◌, ◌-◌, length, take, drop, ◌∙◌, ap, true, rules}
use Rattle.std.proofs.lemmas.List.{take_rest, drop-drop}
use Rattle.std.proofs.lemmas.Bool.{false≢true}
use Rattle.std.proofs.lemmas.Bool.Decides.{nat_tests}
use Rattle.mailtext.specs.Text.{without_return}
use Rattle.mailtext.proofs.Writing.{kept_by_rest, kept_never, kept_without_newline, kept_form-empty}
use Rattle.mailtext.proofs.lines.are_ended_lines.Goals as goal

pub returns-then-without_return-end : goal.returns-then-without_return-end
returns-then-without_return-end c =
    let rest = c.rest.rest.now in
    let end = c.in-Some.end in
    let found = c.in-Some.ensures in
    let same : length (without_return (take end rest)) ≡ end = rw (c.without_return.ensures, c.split_at.ensures.front) at c.if-without_return-end.true in (
      (λ no. absurd (false≢true no)),
      (λ kept. absurd (kept_never rest end found.0.high found.0.before found.1 same (c.rest.invariant.1 kept))),
    )

pub rest-preserved : goal.rest-preserved
rest-preserved c =
    let rest = c.rest.rest.now in
    let end = c.in-Some.end in
    let found = c.in-Some.ensures in
    let behind = c.split_at.result.1.now in
    let left : take (length behind - 1) (drop 1 behind) ≡ drop (end + 1) rest = take_rest behind 1 ∙ (ap (drop 1) c.split_at.ensures.back ∙ drop-drop 1 end rest) in
    let line : c.without_return.result.now ≡ without_return (take end rest) = c.without_return.ensures ∙ ap without_return c.split_at.ensures.front in
    let step = kept_by_rest rest end found.0.high found.0.before found.1 (λ same. c.if-without_return-end.false (ap length line ∙ same)) in
    rw left ((λ h. c.rest.invariant.0 (step.0 h)), (λ h. step.1 (c.rest.invariant.1 h)))

pub returns : goal.returns
returns c =
    let rest = c.rest.rest.now in (
      (λ e.
          let none : length rest ≡ 0 = search (rules, nat_tests) in
          c.rest.invariant.0 (kept_form-empty rest none)),
      (λ kept.
          let none : length rest ≡ 0 = kept_without_newline rest c.in_default.ensures (c.rest.invariant.1 kept) in
          search (rules, nat_tests)),
    )
