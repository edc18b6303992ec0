use Rattle.std.proofs.Common.{[], inl, inr, refl, arith, rules, subst, sym, ◌∙◌}
use Rattle.std.proofs.lemmas.Bool.{false≢true}
use Rattle.std.specs.Io.KnownBytes.{IsAtEnd}
use Rattle.vault.specs.Calls.{has_grown}
use Rattle.office.specs.Stands.{vault_of}
use Rattle.converse.specs.Printed.{PrintsPart}
use Rattle.converse.specs.Streams.{reads_failed, writes_failed}
use Rattle.converse.specs.Told.{fault_line}
use Rattle.converse.specs.declared.fault.Fault.{Fault}
use Rattle.converse.specs.Runs.{HasTalked, HasStopped, opened_on}
use Rattle.converse.proofs.Clauses.{grown_since}
use Rattle.converse.proofs.Streaming.{reads_none, writes_none}
use Rattle.converse.proofs.Running.{talked_since, broken_since, keeps_still}
use Rattle.converse.proofs.talk_over_store.talk_over_store.Goals as goal

pub returns-clause-talked : goal.returns-clause-talked
returns-clause-talked g c =
    let x = c.talk_and_tell-status in
    let d = x.ensures.talked in
    let first = g.V.Vault.faults c.args.vault in
    let before = g.V.Vault.faults (vault_of c.in-Ok.office) in
    let now = g.V.Vault.faults (vault_of x.new.office) in
    let at_end = IsAtEnd (g.R.Source.seen x.new.reader).left in
    let reads = reads_failed (g.R.Source.seen c.args.reader.now) (g.R.Source.seen x.new.reader) in
    let writes = writes_failed (g.W.Sink.seen c.args.writer.now) (g.W.Sink.seen x.new.writer) in
    record {
      octets = d.octets;
      written = d.written;
      read = d.read;
      wrote = d.wrote;
      flushed = d.flushed;
      well = λ well T keeps clean.
          let clean2 = subst g.V.Vault.is_clean c.into_vault.ensures clean in
          let opened = opened_on T c.args.host.now c.args.boot c.args.removals in
          subst (λ v. HasTalked g.V.Vault.holds v (has_grown first (g.V.Vault.faults v)) opened d.octets d.written at_end) (sym c.into_vault.ensures)
          (talked_since g.V.Vault.holds (vault_of x.new.office) opened d.octets d.written at_end (has_grown before now) (has_grown first now)
          (grown_since first before now c.in-Ok.ensures.counted) (d.well well opened (c.in-Ok.ensures.opened T keeps (d.clean clean2)) clean2));
      ill = λ ill T keeps clean.
          let clean2 = subst g.V.Vault.is_clean c.into_vault.ensures clean in
          let opened = opened_on T c.args.host.now c.args.boot c.args.removals in
          subst (λ v. HasStopped g.V.Vault.holds v (has_grown first (g.V.Vault.faults v)) reads writes T opened d.octets d.written at_end) (sym c.into_vault.ensures)
          (inr (broken_since g.V.Vault.holds (vault_of x.new.office) opened d.octets d.written at_end (has_grown before now) (has_grown first now)
          (grown_since first before now c.in-Ok.ensures.counted) (d.ill ill opened (c.in-Ok.ensures.opened T keeps (d.clean clean2)) clean2)));
      clean = λ clean. c.in-Ok.ensures.clean (d.clean (subst g.V.Vault.is_clean c.into_vault.ensures clean));
    }

pub returns-in-Err-clause-talked : goal.returns-in-Err-clause-talked
returns-in-Err-clause-talked g c = record {
  octets = [];
  written = [];
  read = reads_none _;
  wrote = writes_none _;
  flushed = λ well. absurd (omega (arith, well, c.tell_fault.ensures.status));
  well = λ well T keeps clean. absurd (omega (arith, well, c.tell_fault.ensures.status));
  ill = λ ill T keeps clean. inl (keeps_still (g.V.Vault.holds c.args.vault) (g.V.Vault.holds c.in-Err.vault) T keeps (c.in-Err.ensures.kept keeps.contents keeps.held clean), refl, refl);
  clean = search rules;
}

pub returns-in-Err-clause-host_told : goal.returns-in-Err-clause-host_told
returns-in-Err-clause-host_told g c = λ bad.
    subst (λ (f : Fault). PrintsPart (g.E.Write.contents c.args.err.now) (g.E.Write.contents c.tell_fault.new.err) (fault_line f)) (c.in-Err.ensures.bad_host bad) c.tell_fault.ensures.line

pub returns-clause-host_told : goal.returns-clause-host_told
returns-clause-host_told g c = λ bad. absurd (false≢true (sym bad ∙ c.in-Ok.ensures.host refl))
