use Rattle.std.proofs.Common.{rules, ◌≡◌, arith}
use Rattle.std.specs.Io.KnownBytes.{IsAtEnd}
use Rattle.office.specs.Stands.{vault_of}
use Rattle.converse.proofs.Running.{has_talked, has_broken}
use Rattle.converse.proofs.talk_over_store.talk_and_tell.Goals as goal

pub returns-in-Ok-clause-talked : goal.returns-in-Ok-clause-talked
returns-in-Ok-clause-talked g c =
    let d = c.in-Ok.ensures.talked in
    let first = g.V.Vault.faults (vault_of c.args.office.now) in
    record {
      octets = d.0;
      written = d.1;
      read = d.2;
      wrote = d.3;
      flushed = search rules;
      well = λ _ T stands clean. has_talked g.V.Vault.holds g.V.Vault.faults first c.talk.new.office T d.0 d.1 (IsAtEnd (g.R.Source.seen c.talk.new.reader).left) c.in-Ok.field-0 (d.4 T stands clean);
      ill = λ (one : 0 ≡ 1). cc;
      clean = search rules;
    }

pub returns-in-Err-clause-talked : goal.returns-in-Err-clause-talked
returns-in-Err-clause-talked g c =
    let d = c.in-Err.ensures.talked in
    record {
      octets = d.0;
      written = d.1;
      read = d.2;
      wrote = d.3;
      flushed = λ well. absurd (omega (arith, well, c.tell_fault.ensures.status));
      well = λ well T stands clean. absurd (omega (arith, well, c.tell_fault.ensures.status));
      ill = λ _ T stands clean. has_broken g.V.Vault.holds g.V.Vault.faults (g.V.Vault.faults (vault_of c.args.office.now)) c.talk.new.office T d.0 d.1
          (IsAtEnd (g.R.Source.seen c.talk.new.reader).left) c.in-Err.fault c.in-Err.ensures.failed (d.4 T stands clean);
      clean = search rules;
    }
