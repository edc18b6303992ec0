use Rattle.std.proofs.Common.{Ok, sym, ap, ◌∙◌}
use Rattle.vault.specs.Changes.{totals, records_of}
use Rattle.std.specs.Prelude.{map}
use Rattle.vault.specs.Plain.{capped_total}
use Rattle.sqlite.specs.Held.{state}
use Rattle.sqlvault.proofs.HoldsLemmas.{refused}
use Rattle.sqlvault.proofs.TotalLemmas.{totals_held}
use Rattle.sqlvault.specs.Stands.{Holds}
use Rattle.sqlvault.proofs.FrameLemmas.{looks_then, passed}
use Rattle.sqlvault.proofs.totals.maildrops.Goals as goal

pub returns-clause-done : goal.returns-clause-done
returns-clause-done g c k clean h =
    let first = c.in_ok-names.ensures.looks in
    let second = c.in_ok-totals_of.ensures.looks in
    let clean1 = second.clean clean in
    let h1 = (first.rests clean1 k h).held in
    record {
      answer = ap Ok (sym (totals_held k c.in_ok-names.names.items c.in_ok-totals_of.field-0.items h.sound
          (c.in_ok-names.ensures.names k clean1 h)
          (c.in_ok-totals_of.ensures.totals k clean h1
          ∙ ap (map (capped_total k.messages)) c.deref.ensures.value)));
      held = (second.rests clean k h1).held;
    }

pub returns-in_err-totals_of-clause-done : goal.returns-in_err-totals_of-clause-done
returns-in_err-totals_of-clause-done g c = rw (passed c.from_residual-in_err-totals_of.ensures.1)
    (λ k clean h. let both = looks_then c.in_ok-names.ensures.looks c.in_err-totals_of.ensures.looks in
    refused (Holds (state g.S.Store c.totals_of.new.conn)) k k (Ok (totals (records_of k)))
    c.in_err-totals_of.field-0.0 (both.rests clean k h).held)

pub returns-in_err-names-clause-done : goal.returns-in_err-names-clause-done
returns-in_err-names-clause-done g c = rw (passed c.from_residual.ensures.1)
    (λ k clean h. refused (Holds (state g.S.Store c.names.new.conn)) k k (Ok (totals (records_of k)))
    c.in_err-names.field-0.0 (c.in_err-names.ensures.looks.rests clean k h).held)

pub returns-clause-looks : goal.returns-clause-looks
returns-clause-looks g c = looks_then c.in_ok-names.ensures.looks c.in_ok-totals_of.ensures.looks

pub returns-in_err-totals_of-clause-looks : goal.returns-in_err-totals_of-clause-looks
returns-in_err-totals_of-clause-looks g c = rw (passed c.from_residual-in_err-totals_of.ensures.1)
    (looks_then c.in_ok-names.ensures.looks c.in_err-totals_of.ensures.looks)

pub returns-in_err-names-clause-looks : goal.returns-in_err-names-clause-looks
returns-in_err-names-clause-looks g c = rw (passed c.from_residual.ensures.1) (c.in_err-names.ensures.looks)
