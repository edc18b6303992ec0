-- A name that came by is among those that were seen.
use Rattle.std.proofs.Common.{◌∙◌, ap, ap₂}
use Rattle.serving.specs.NextNames.{is_behind, least_after}
use Rattle.serving.proofs.next_name.NextName.see.Goals as goal

pub returns : goal.returns
returns c = λ last names h.
    (let name = c.args.name.now in
    let counts = c.is_file-counts.ensures in
    let follows = c.is_behind-follows.ensures ∙ ap (λ text. is_behind text name) (c.as_str.ensures.value ∙ h.text) in
    record {
      text = h.text;
      least = c.in_ok-keep_least.ensures ∙ ap₂ (λ counted before. least_after counted name before) counts h.least;
      behind = c.in_ok-keep_least-2.ensures ∙ ap₂ (λ counted before. least_after counted name before) follows h.behind;
    })
