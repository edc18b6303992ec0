use Rattle.std.proofs.Common.{[], ◌∷◌, to_z-of_z, SFits, w64, rules}
use Rattle.mailsql.specs.Changes.{AddsRule}
use Rattle.sqlvault.specs.Keeps.{clerks_text, pattern_text, effect_number, actions_number}
use Rattle.sqlvault.specs.Rules.{AddsRules}
use Rattle.sqlvault.proofs.FrameLemmas.{written_as, writes_nothing}
use Rattle.sqlvault.proofs.RuleLemmas.{added_one}
use Rattle.sqlvault.proofs.rules.add_rule.Goals as goal

pub returns : goal.returns
returns g c =
    let r = c.args.rule.now in
    let fits_effect : SFits w64 c.effect_number.result = search rules in
    let fits_actions : SFits w64 c.actions_number.result = search rules in
    let survives = rw (
      to_z-of_z fits_effect,
      to_z-of_z fits_actions,
      c.as_bytes.ensures.value,
      c.effect_number.ensures,
      c.as_slice.ensures.value,
      c.in_ok-clerk.ensures,
      c.pattern_text.ensures,
      c.pattern_text-2.ensures,
      c.actions_number.ensures,
    ) at c.add_rule.ensures.survives in
    written_as g.S.Store c.args.conn.now c.add_rule.new.conn
    (AddsRule r.name (effect_number r.effect) (clerks_text r.clerk) (pattern_text r.maildrop)
    (pattern_text r.class) (actions_number r.actions)) (AddsRules (r ∷ [])) c.add_rule.result
    (λ clean. rw (
      to_z-of_z fits_effect,
      to_z-of_z fits_actions,
      c.as_bytes.ensures.value,
      c.effect_number.ensures,
      c.as_slice.ensures.value,
      c.in_ok-clerk.ensures,
      c.pattern_text.ensures,
      c.pattern_text-2.ensures,
      c.actions_number.ensures,
    ) at (c.add_rule.ensures.ok clean))
    c.add_rule.ensures.err survives (added_one r)

pub returns-in_err-clerk : goal.returns-in_err-clerk
returns-in_err-clerk g c =
    writes_nothing {A = Unit {0}} g.S.Store c.args.conn.now (λ _. AddsRules (c.args.rule.now ∷ []))
    c.from_residual.result _ c.from_residual.ensures.1
