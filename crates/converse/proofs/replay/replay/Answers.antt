use Rattle.std.proofs.Common.{refl, ◌≡◌, List, Ok, ap, inr, map, subst, sym, ◌∙◌}
use Rattle.std.proofs.lemmas.Bool.{false≢true}
use Rattle.office.specs.Events.{Trace}
use Rattle.office.specs.Stands.{Keeps}
use Rattle.converse.specs.Played.{HasRun}
use Rattle.converse.specs.Runs.{opened_on}
use Rattle.converse.specs.Script.{ScriptLine, line_seen, script_of}
use Rattle.converse.proofs.Playing.{no_fault, of_known, same_lines}
use Rattle.converse.proofs.Reasons.{unread_told, host_told, none_told}
use Rattle.converse.proofs.Stopping.{has_run_over, has_run_in_part_over}
use Rattle.converse.proofs.replay.replay.Goals as goal

pub returns-clause-told : goal.returns-clause-told
returns-clause-told g c =
    let said = map line_seen c.in-Ok.lines.items in λ well.
    of_known (g.R.Read.remaining c.args.script.now) (λ text. script_of text ≡ Ok said)
    (λ text. (lines : List ScriptLine) → script_of text ≡ Ok lines → (T : Trace) → Keeps (g.V.Vault.holds c.args.vault) T → g.V.Vault.is_clean c.into_vault.result
    → HasRun g.V.Vault.holds c.into_vault.result (g.V.Vault.faults c.args.vault) (g.V.Vault.faults c.into_vault.result)
    (g.W.Write.contents c.args.out.now) (g.W.Write.contents c.play_over-status.new.out) (opened_on T c.args.host.now c.args.boot c.args.removals) lines)
    (λ text is lines read. has_run_over g.V.Vault.holds g.V.Vault.faults g.V.Vault.is_clean
    (λ T. opened_on T c.args.host.now c.args.boot c.args.removals) c.into_vault.ensures c.in-Ok-open_office.ensures.counted c.play_over-status.ensures.clean c.in-Ok-open_office.ensures.opened
    (ap (map line_seen) c.as_slice.ensures.value ∙ same_lines (script_of text) said lines is read) (c.play_over-status.ensures.played well))
    c.in-Ok.ensures.lines

pub returns-clause-kept : goal.returns-clause-kept
returns-clause-kept g c =
    let x = c.play_over-status in
    let o = c.in-Ok-open_office.ensures in
    let ran = has_run_in_part_over g.V.Vault.holds g.V.Vault.faults g.V.Vault.is_clean
    (λ T. opened_on T c.args.host.now c.args.boot c.args.removals) c.into_vault.ensures o.counted x.ensures.clean o.opened (ap (map line_seen) c.as_slice.ensures.value) x.ensures.kept in
    λ T keeps clean.
    inr (map line_seen c.in-Ok.lines.items, c.in-Ok.ensures.lines, ran T keeps clean)

pub returns-in-Err-open_office-clause-unread : goal.returns-in-Err-open_office-clause-unread
returns-in-Err-open_office-clause-unread g c = λ unread. absurd (unread (c.in-Ok.ensures.end refl))

pub returns-in-Err-open_office-clause-bad_line : goal.returns-in-Err-open_office-clause-bad_line
returns-in-Err-open_office-clause-bad_line g c = no_fault (g.R.Read.remaining c.args.script.now) _ _ c.in-Ok.ensures.lines

pub returns-clause-unread : goal.returns-clause-unread
returns-clause-unread g c = λ unread. absurd (unread (c.in-Ok.ensures.end refl))

pub returns-clause-bad_line : goal.returns-clause-bad_line
returns-clause-bad_line g c = no_fault (g.R.Read.remaining c.args.script.now) _ _ c.in-Ok.ensures.lines

pub returns-clause-bad_host : goal.returns-clause-bad_host
returns-clause-bad_host g c = λ bad. absurd (false≢true (sym bad ∙ c.in-Ok-open_office.ensures.host refl))

pub returns-clause-ran : goal.returns-clause-ran
returns-clause-ran g c = λ well.
    (let x = c.play_over-status in
    let o = c.in-Ok-open_office.ensures in
    let ran = has_run_over g.V.Vault.holds g.V.Vault.faults g.V.Vault.is_clean
    (λ T. opened_on T c.args.host.now c.args.boot c.args.removals) c.into_vault.ensures o.counted x.ensures.clean o.opened (ap (map line_seen) c.as_slice.ensures.value) (x.ensures.played well) in
    (map line_seen c.in-Ok.lines.items, c.in-Ok.ensures.lines, ran))

pub returns-clause-clean : goal.returns-clause-clean
returns-clause-clean g c = λ clean.
    c.in-Ok-open_office.ensures.clean (c.play_over-status.ensures.clean (subst g.V.Vault.is_clean c.into_vault.ensures clean))

pub returns-in-Err-clause-why_not : goal.returns-in-Err-clause-why_not
returns-in-Err-clause-why_not g c = unread_told (g.R.Read.remaining c.args.script.now) c.args.host.now _ _ c.in-Err.fault c.in-Err.ensures.fault c.tell_fault.ensures.line

pub returns-in-Err-open_office-clause-why_not : goal.returns-in-Err-open_office-clause-why_not
returns-in-Err-open_office-clause-why_not g c =
    host_told (g.R.Read.remaining c.args.script.now) c.args.host.now _ _
    (map line_seen c.in-Ok.lines.items) c.in-Err-open_office.fault c.in-Err-open_office.ensures.bad_host c.in-Ok.ensures.lines c.tell_fault-in-Err-open_office.ensures.line

pub returns-clause-why_not : goal.returns-clause-why_not
returns-clause-why_not g c = none_told (g.R.Read.remaining c.args.script.now) c.args.host.now _ _ (map line_seen c.in-Ok.lines.items) (c.in-Ok-open_office.ensures.host refl) c.in-Ok.ensures.lines

pub returns-clause-flushed : goal.returns-clause-flushed
returns-clause-flushed g c = c.play_over-status.ensures.flushed
