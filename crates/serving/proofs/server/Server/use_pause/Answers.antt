use Rattle.std.proofs.Common.{rules, ◌≡◌, ◌+◌, true, false, refl, sym, ◌∙◌, subst, ap, inl}
use Rattle.serving.specs.Quits.{in_a_row}
use Rattle.serving.specs.Running.{Maintained, Prepared, Maintains, PreparesFile}
use Rattle.serving.proofs.Going.{waits_idle, file_maintains, file_idle}
use Rattle.serving.proofs.server.Server.use_pause.Goals as goal

pub returns-in-Some-clause-pauses : goal.returns-in-Some-clause-pauses
returns-in-Some-clause-pauses g c =
    let preparing : c.args.quits.now.is_preparing ≡ true = search rules in
    record {
      is_coming = false;
      links_are = refl;
      asked_files = λ calls k. k;
      maintains = Prepared c.prepare_quit-prepared.result (inl preparing) c.prepare_quit-prepared.ensures.looks;
    }

pub returns-then-prepare_file-clause-pauses : goal.returns-then-prepare_file-clause-pauses
returns-then-prepare_file-clause-pauses g c =
    let coming : c.prepare_file.result ≡ true = search rules in
    let o = c.args.self.now.office in
    record {
      is_coming = true;
      links_are = refl;
      asked_files = c.prepare_file.ensures.spool.called;
      maintains =
          file_maintains g.V.Vault c.args.quits.now.is_preparing true _ o c.prepare_file.new.self.office refl
          (subst (λ b. PreparesFile g.V.Vault b o c.prepare_file.new.self.office) coming c.prepare_file.ensures.prepares);
    }

pub returns-clause-pauses : goal.returns-clause-pauses
returns-clause-pauses g c =
    let none : c.prepare_file.result ≡ false = search rules in
    let waits : c.poll_now.result ≡ false = search rules in
    let p = c.args.quits.now.is_preparing in
    let l = c.args.links.now in
    let o1 = c.prepare_file.new.self.office in
    let o2 = c.maintain.new.self in
    let same : o1 ≡ c.args.self.now.office = file_idle g.V.Vault c.args.self.now.office o1 (subst (λ b. PreparesFile g.V.Vault b c.args.self.now.office o1) none c.prepare_file.ensures.prepares) in
    record {
      is_coming = false;
      links_are = refl;
      asked_files = c.prepare_file.ensures.spool.called;
      maintains =
          subst (λ x. Maintains g.V.Vault p false l x o2) same
          (Maintained c.maintain.result (waits_idle l (sym c.poll_now.ensures ∙ waits)) c.maintain.ensures.looks);
    }

pub returns-clause-stands : goal.returns-clause-stands
returns-clause-stands g c = λ T stands clean.
    c.maintain.ensures.stands T (c.prepare_file.ensures.stands T stands (c.maintain.ensures.looks.clean clean)) clean

pub returns-in-Some-clause-counts : goal.returns-in-Some-clause-counts
returns-in-Some-clause-counts g c = λ row stayed left.
    ap (λ n. in_a_row c.args.quits.now.is_preparing row + n) c.note_progress.ensures ∙ c.next.ensures.counts row stayed left
