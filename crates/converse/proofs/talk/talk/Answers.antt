use Rattle.std.proofs.Common.{◌≡◌, ◌≤◌, arith, [], Err, refl, sym, subst, eq-eqb}
use Rattle.std.specs.Io.KnownBytes.{IsAtEnd}
use Rattle.vault.specs.Calls.{has_grown}
use Rattle.office.specs.Log.{next_number}
use Rattle.office.specs.Trace.{acts}
use Rattle.office.specs.Seen.{outcome_seen}
use Rattle.office.specs.Stands.{vault_of, lent_by}
use Rattle.converse.specs.Talked.{Extends, StandsSo, ComesOut}
use Rattle.converse.specs.Conversing.{GoesOn}
use Rattle.converse.proofs.Clauses.{refused_as, refused_out, comes_out}
use Rattle.converse.proofs.Streaming.{reads_none, writes_none, failed_none, handed_on, flushed_unread}
use Rattle.converse.proofs.SoFar.{so_by, so_stepped}
use Rattle.converse.proofs.talk.talk.Goals as goal

pub returns-in_err-c-clause-talked : goal.returns-in_err-c-clause-talked
returns-in_err-c-clause-talked g c =
    let f = c.in_err-c.field-0.0 in
    let e : c.from_residual.result ≡ Err f = refused_as c.from_residual.result f c.from_residual.ensures.1 in
    let AtEnd = IsAtEnd (g.R.Source.seen c.args.reader.now).left in
    let grown = has_grown (g.V.Vault.faults (vault_of c.args.office.now)) (g.V.Vault.faults (vault_of c.connect.new.office)) in (
      [],
      [],
      reads_none _,
      writes_none _,
      λ T st clean. so_by (λ L. ComesOut AtEnd grown T (next_number T.log) [] [] c.from_residual.result L)
          (λ L h. subst (λ r. ComesOut AtEnd grown T (next_number T.log) [] [] r L) (sym e) (refused_out AtEnd grown T (next_number T.log) f L h))
          (c.in_err-c.ensures.began T st clean),
    )

pub returns-clause-talked : goal.returns-clause-talked
returns-clause-talked g c =
    let n = c.in_ok-c.c in
    let d = c.converse-talked.ensures.talked in
    let r = c.converse-talked.result in
    let AtEnd = IsAtEnd (g.R.Source.seen c.converse-talked.new.reader).left in
    let first = g.V.Vault.faults (vault_of c.args.office.now) in
    let during = g.V.Vault.faults (vault_of c.converse-talked.new.office) in
    let now = g.V.Vault.faults (vault_of c.step.new.self) in (
      d.0,
      d.1,
      d.2,
      d.3,
      λ T st clean.
          (let clean2 = c.step.ensures.clean clean in
          let k = c.in_ok-c.ensures.began T st (c.converse-talked.ensures.clean clean2) in
          let same : n ≡ next_number T.log = k.so.0 in
          let w : StandsSo g.V.Vault.holds g.V.Vault.faults first c.connect.new.office T n (GoesOn T.base n (acts T) [] []) =
          record {
            log = k.log;
            stands = k.stands;
            own = subst (λ m. Extends m T.log k.log) (sym same) k.own;
            caused = k.caused;
            so =
                subst (λ m. GoesOn T.base m (acts T) [] [] k.log) (sym same) k.so.1;
          } in
          let up = c.in_ok-c.ensures.counted in
          let up2 = c.converse-talked.ensures.counted in
          let longer : first ≤ during = omega (arith, up, up2) in
          let s = c.step.ensures in
          let h = d.4 first T up clean2 w in
          subst (λ m. StandsSo g.V.Vault.holds g.V.Vault.faults first c.step.new.self T m (ComesOut AtEnd (has_grown first now) T m d.0 d.1 r)) same
          (so_stepped g.V.Vault.is_clean (ComesOut AtEnd (has_grown first now) T n d.0 d.1 r)
          (record { stands = s.stands; outcome = s.outcome; cause = s.cause; counted = s.counted }) (eq-eqb n n refl) longer clean h
          (λ L at told cause so. comes_out AtEnd first during now s.counted T n d.0 d.1 r L (lent_by c.converse-talked.new.office) (outcome_seen c.step.result) told so))),
    )

pub returns-in_err-c-clause-failed : goal.returns-in_err-c-clause-failed
returns-in_err-c-clause-failed g c =
    handed_on _ _ c.from_residual.result c.in_err-c.field-0.0 c.from_residual.ensures.1 (failed_none _ _ c.in_err-c.field-0.0 c.in_err-c.ensures.failed)

pub returns-clause-failed : goal.returns-clause-failed
returns-clause-failed g c = c.converse-talked.ensures.failed

pub returns-in_err-c-clause-flushed : goal.returns-in_err-c-clause-flushed
returns-in_err-c-clause-flushed g c =
    flushed_unread _ _ c.from_residual.result c.in_err-c.field-0.0 (refused_as c.from_residual.result c.in_err-c.field-0.0 c.from_residual.ensures.1) c.in_err-c.ensures.failed

pub returns-clause-flushed : goal.returns-clause-flushed
returns-clause-flushed g c = c.converse-talked.ensures.flushed
