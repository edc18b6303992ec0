use Rattle.std.proofs.Common.{[], ◌∷◌, ◌++◌, refl, sym, ◌∙◌, inl}
use Rattle.office.specs.Seen.{outcome_seen}
use Rattle.office.specs.Stands.{lent_by}
use Rattle.serving.specs.Spools.{WasRead, WasRemoved, WasRenamed}
use Rattle.serving.specs.declared.files.Disposal.TheVariants as disposal
use Rattle.serving.proofs.Depositing.{filed_if, tried_none, tried_one}
use Rattle.std.proofs.lemmas.List.{append-nil}
use Rattle.serving.proofs.Working.{given_one}
use Rattle.serving.proofs.Trying.{tries_unread, tries_read, dealt_so}
use Rattle.std.proofs.Common.{false, subst}
use Rattle.serving.proofs.server.Server.try_file.Goals as goal

pub returns-in_default-clause-tried : goal.returns-in_default-clause-tried
returns-in_default-clause-tried g c = λ T acts s h clean.
    tried_none g.V.Vault.holds g.S.Spool.tells T acts c.args.self.now.office c.read.new.self s (c.in_default.ensures.told acts h)

pub returns-in-Remove-clause-tried : goal.returns-in-Remove-clause-tried
returns-in-Remove-clause-tried g c = λ T acts s h clean.
    (let n = c.args.name.now in
    let text = c.in-Some.text.items in
    let read = acts ++ WasRead n text ∷ [] in
    tried_one g.V.Vault.holds g.S.Spool.tells T acts c.step.new.self c.remove.new.self (lent_by c.args.self.now.office) n c.as_slice.result.now text (outcome_seen c.step.result) disposal.Remove _
    c.as_slice.ensures.value (sym c.in-Remove.is ∙ c.disposal_by-fate.ensures) (c.step.ensures.outcome T s clean) (c.step.ensures.stands T s clean) (c.step.ensures.admitted T s clean)
    (c.remove.ensures.told read (c.in-Some.ensures.told acts h)) (filed_if n text disposal.Remove acts (WasRemoved n) c.remove.result refl))

pub returns-in-Rename-clause-tried : goal.returns-in-Rename-clause-tried
returns-in-Rename-clause-tried g c = λ T acts s h clean.
    (let n = c.args.name.now in
    let text = c.in-Some.text.items in
    tried_one g.V.Vault.holds g.S.Spool.tells T acts c.step.new.self c.rename.new.self (lent_by c.args.self.now.office) n c.as_slice.result.now text (outcome_seen c.step.result) disposal.Rename _
    c.as_slice.ensures.value (sym c.in-Rename.is ∙ c.disposal_by-fate.ensures) (c.step.ensures.outcome T s clean) (c.step.ensures.stands T s clean) (c.step.ensures.admitted T s clean)
    (c.rename.ensures.told (acts ++ WasRead n text ∷ []) (c.in-Some.ensures.told acts h)) (filed_if n text disposal.Rename acts (WasRenamed n) c.rename.result refl))

pub returns-clause-tried : goal.returns-clause-tried
returns-clause-tried g c = λ T acts s h clean.
    (let n = c.args.name.now in
    let text = c.in-Some.text.items in
    tried_one g.V.Vault.holds g.S.Spool.tells T acts c.step.new.self c.read.new.self (lent_by c.args.self.now.office) n c.as_slice.result.now text (outcome_seen c.step.result) disposal.Leave _
    c.as_slice.ensures.value (sym c.in-Leave.is ∙ c.disposal_by-fate.ensures) (c.step.ensures.outcome T s clean) (c.step.ensures.stands T s clean) (c.step.ensures.admitted T s clean)
    (c.in-Some.ensures.told acts h) (inl refl))

pub returns-in_default-clause-works : goal.returns-in_default-clause-works
returns-in_default-clause-works g c =
    record {
      wire = refl;
      listener = refl;
      part =
          tries_unread g.V.Vault g.S.Spool.asked c.args.self.now.office
          c.args.spool.now c.read.new.self c.args.name.now c.in_default.ensures.called;
    }

pub returns-in-Remove-clause-works : goal.returns-in-Remove-clause-works
returns-in-Remove-clause-works g c =
    let o1 = c.step.new.self in
    let out = outcome_seen c.step.result in
    let n = c.args.name.now in
    record {
      wire = refl;
      listener = refl;
      part =
          tries_read g.V.Vault g.S.Spool.asked c.args.self.now.office o1 c.args.spool.now c.read.new.self c.remove.new.self
          (lent_by c.args.self.now.office) n c.as_slice.result.now c.in-Some.text.items out disposal.Remove c.remove.result c.remove.result (dealt_so c.remove.result)
          c.as_slice.ensures.value (sym c.in-Remove.is ∙ c.disposal_by-fate.ensures)
          (given_one g.V.Vault c.args.self.now.office o1 _
          (outcome_seen c.step.result) c.step.ensures.clean c.step.ensures.stands c.step.ensures.admitted c.step.ensures.counted c.step.ensures.cause c.step.ensures.up c.step.ensures.stop)
          c.step.ensures.outcome c.in-Some.ensures.called c.remove.ensures.called;
    }

pub returns-in-Rename-clause-works : goal.returns-in-Rename-clause-works
returns-in-Rename-clause-works g c =
    let o = c.args.self.now.office in
    record {
      wire = refl;
      listener = refl;
      part =
          tries_read g.V.Vault g.S.Spool.asked o c.step.new.self c.args.spool.now c.read.new.self c.rename.new.self
          (lent_by o) c.args.name.now c.as_slice.result.now c.in-Some.text.items (outcome_seen c.step.result) disposal.Rename c.rename.result c.rename.result (dealt_so c.rename.result)
          c.as_slice.ensures.value (sym c.in-Rename.is ∙ c.disposal_by-fate.ensures)
          (given_one g.V.Vault o c.step.new.self _
          (outcome_seen c.step.result) c.step.ensures.clean c.step.ensures.stands c.step.ensures.admitted c.step.ensures.counted c.step.ensures.cause c.step.ensures.up c.step.ensures.stop)
          c.step.ensures.outcome c.in-Some.ensures.called c.rename.ensures.called;
    }

pub returns-clause-works : goal.returns-clause-works
returns-clause-works g c =
    record {
      wire = refl;
      listener = refl;
      part =
          tries_read g.V.Vault g.S.Spool.asked c.args.self.now.office c.step.new.self c.args.spool.now c.read.new.self c.read.new.self
          (lent_by c.args.self.now.office) c.args.name.now c.as_slice.result.now c.in-Some.text.items (outcome_seen c.step.result) disposal.Leave false false refl
          c.as_slice.ensures.value (sym c.in-Leave.is ∙ c.disposal_by-fate.ensures)
          (given_one g.V.Vault c.args.self.now.office c.step.new.self _
          (outcome_seen c.step.result) c.step.ensures.clean c.step.ensures.stands c.step.ensures.admitted c.step.ensures.counted c.step.ensures.cause c.step.ensures.up c.step.ensures.stop)
          c.step.ensures.outcome c.in-Some.ensures.called (λ before k. subst (g.S.Spool.asked c.read.new.self) (sym (append-nil before)) k);
    }
