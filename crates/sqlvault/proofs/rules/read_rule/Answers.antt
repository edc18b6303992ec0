use Rattle.std.proofs.Common.{ap, sym, ◌∙◌, to_z-of_z, SFits, w64, rules}
use Rattle.creds.specs.Names.{name_of}
use Rattle.policy.specs.declared.rule.Rule as rule
use Rattle.mailsql.specs.declared.rows.Rule.{Rule}
use Rattle.sqlvault.proofs.RuleLemmas.{some_same, never, name_read, clerks_read, clerks_were, parts, rule_is}
use Rattle.sqlvault.proofs.RowFormLemmas.{name_was, row_read}
use Rattle.sqlvault.proofs.rules.read_rule.Goals as goal

pub returns-clause-read : goal.returns-clause-read
returns-clause-read c r sound same =
    let p = parts r sound in
    let fits_effect : SFits w64 c.args.row.now.effect = search rules in
    let fits_actions : SFits w64 c.args.row.now.actions = search rules in
    let name = some_same c.read.result c.in_ok-read.field-0 r.name c.in_ok-read.was
    (c.read.ensures ∙ ap name_of (c.as_slice.ensures ∙ ap (λ (x : Rule). x.name) same) ∙ name_read r.name p.name) in
    let effect = some_same c.read_effect.result c.in_ok-read_effect.field-0 r.effect c.in_ok-read_effect.was
    (c.read_effect.ensures.read r.effect (to_z-of_z fits_effect ∙ ap (λ (x : Rule). x.effect) same)) in
    let clerk = some_same c.read_clerks.result c.in_ok-read_clerks.field-0 r.clerk c.in_ok-read_clerks.was
    (c.read_clerks.ensures ∙ clerks_read c.as_slice-2.result.now r.clerk p.clerk (c.as_slice-2.ensures ∙ ap (λ (x : Rule). x.clerk) same)) in
    let maildrop = some_same c.read_pattern.result c.in_ok-read_pattern.field-0 r.maildrop c.in_ok-read_pattern.was
    (c.read_pattern.ensures.read r.maildrop p.maildrop (c.as_slice-3.ensures ∙ ap (λ (x : Rule). x.maildrop) same)) in
    let class = some_same c.read_pattern-2.result c.in_ok-read_pattern-2.field-0 r.class c.in_ok-read_pattern-2.was
    (c.read_pattern-2.ensures.read r.class p.class (c.as_slice-4.ensures ∙ ap (λ (x : Rule). x.class) same)) in
    let actions = some_same c.read_actions.result c.in_ok-read_actions.field-0 r.actions c.in_ok-read_actions.was
    (c.read_actions.ensures.read r.actions (to_z-of_z fits_actions ∙ ap (λ (x : Rule). x.actions) same)) in
    rule_is r c.in_ok-read.field-0 c.in_ok-read_effect.field-0 c.in_ok-read_clerks.field-0 c.in_ok-read_pattern.field-0 c.in_ok-read_pattern-2.field-0
    c.in_ok-read_actions.field-0 name effect clerk maildrop class actions

pub returns-clause-row : goal.returns-clause-row
returns-clause-row c =
    let fits_effect : SFits w64 c.args.row.now.effect = search rules in
    let fits_actions : SFits w64 c.args.row.now.actions = search rules in
    let r : rule.Rule = record {
      name = c.in_ok-read.field-0;
      effect = c.in_ok-read_effect.field-0;
      clerk = c.in_ok-read_clerks.field-0;
      maildrop = c.in_ok-read_pattern.field-0;
      class = c.in_ok-read_pattern-2.field-0;
      actions = c.in_ok-read_actions.field-0;
    } in
    row_read c.args.row.now r
    (sym c.as_slice.ensures ∙ name_was c.as_slice.result.now r.name (sym c.read.ensures ∙ c.in_ok-read.was))
    (sym (to_z-of_z fits_effect) ∙ c.in_ok-read_effect.ensures.number)
    (sym c.as_slice-2.ensures ∙ clerks_were c.as_slice-2.result.now c.in_ok-read_clerks.field-0 (sym c.read_clerks.ensures ∙ c.in_ok-read_clerks.was))
    (sym c.as_slice-3.ensures ∙ c.in_ok-read_pattern.ensures.text)
    (sym c.as_slice-4.ensures ∙ c.in_ok-read_pattern-2.ensures.text)
    (sym (to_z-of_z fits_actions) ∙ c.in_ok-read_actions.ensures.number)

pub returns-in_err-read-clause-read : goal.returns-in_err-read-clause-read
returns-in_err-read-clause-read c r sound same =
    never _ c.read.result r.name c.in_err-read.was (c.read.ensures ∙ ap name_of (c.as_slice.ensures ∙ ap (λ (x : Rule). x.name) same) ∙ name_read r.name (parts r sound).name)

pub returns-in_err-read_effect-clause-read : goal.returns-in_err-read_effect-clause-read
returns-in_err-read_effect-clause-read c r sound same =
    let fits_effect : SFits w64 c.args.row.now.effect = search rules in
    never _ c.read_effect.result r.effect c.in_err-read_effect.was (c.read_effect.ensures.read r.effect (to_z-of_z fits_effect ∙ ap (λ (x : Rule). x.effect) same))

pub returns-in_err-read_clerks-clause-read : goal.returns-in_err-read_clerks-clause-read
returns-in_err-read_clerks-clause-read c r sound same =
    never _ c.read_clerks.result r.clerk c.in_err-read_clerks.was
    (c.read_clerks.ensures ∙ clerks_read c.as_slice-2.result.now r.clerk (parts r sound).clerk (c.as_slice-2.ensures ∙ ap (λ (x : Rule). x.clerk) same))

pub returns-in_err-read_pattern-clause-read : goal.returns-in_err-read_pattern-clause-read
returns-in_err-read_pattern-clause-read c r sound same =
    never _ c.read_pattern.result r.maildrop c.in_err-read_pattern.was (c.read_pattern.ensures.read r.maildrop (parts r sound).maildrop (c.as_slice-3.ensures ∙ ap (λ (x : Rule). x.maildrop) same))

pub returns-in_err-read_pattern-2-clause-read : goal.returns-in_err-read_pattern-2-clause-read
returns-in_err-read_pattern-2-clause-read c r sound same =
    never _ c.read_pattern-2.result r.class c.in_err-read_pattern-2.was (c.read_pattern-2.ensures.read r.class (parts r sound).class (c.as_slice-4.ensures ∙ ap (λ (x : Rule). x.class) same))

pub returns-in_err-read_actions-clause-read : goal.returns-in_err-read_actions-clause-read
returns-in_err-read_actions-clause-read c r sound same =
    let fits_actions : SFits w64 c.args.row.now.actions = search rules in
    never _ c.read_actions.result r.actions c.in_err-read_actions.was (c.read_actions.ensures.read r.actions (to_z-of_z fits_actions ∙ ap (λ (x : Rule). x.actions) same))
