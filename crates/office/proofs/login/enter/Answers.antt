use Rattle.vault.proofs.CallLemmas.{looks_ok, looks_err, looks_as}
use Rattle.office.proofs.login.enter.Goals as goal
use Rattle.std.proofs.Common.{sym, ◌≡◌, ◌∙◌, ap, Ok, Err, false, rules}
use Rattle.vault.specs.declared.fault.VaultFault.TheVariants as fault
use Rattle.session.specs.Session.{started}
use Rattle.office.specs.Answered.{is_locked_by}
use Rattle.office.proofs.Entering.{opens}

pub returns-clause-said : goal.returns-clause-said
returns-clause-said g c d held clean =
    let found = c.in-Ok.ensures.done d held clean in
    let sound = g.met.V.Vault.sound c.args.vault.now d held (c.heads.ensures.looks.clean clean) in
    let free : is_locked_by c.args.locks.now c.args.name.now.maildrop ≡ false = sym c.contains_key.ensures ∙ c.if-contains_key.false in
    let so = opens d c.args.policy.now c.args.name.now c.args.removals c.args.locks.now _ c.in-Ok-start.session _ _ sound found.answer free
    (c.in-Ok-start.ensures.session ∙ ap
    (λ hs. started c.args.policy.now c.args.removals c.args.name.now.clerk c.args.name.now.maildrop hs) c.deref.ensures.value) c.stat-messages.ensures.messages c.stat-messages.ensures.exact in
    record { answer = ap Ok so.0; held = found.held }

pub returns-then-contains_key-clause-said : goal.returns-then-contains_key-clause-said
returns-then-contains_key-clause-said g c = search rules

pub returns-then-contains_key-clause-session : goal.returns-then-contains_key-clause-session
returns-then-contains_key-clause-session g c = search rules

pub returns-in_default-clause-said : goal.returns-in_default-clause-said
returns-in_default-clause-said g c = search rules

pub returns-in_default-clause-session : goal.returns-in_default-clause-session
returns-in_default-clause-session g c = search rules

pub returns-clause-session : goal.returns-clause-session
returns-clause-session g c = search rules

pub returns-in-Err : goal.returns-in-Err
returns-in-Err g c = record {
  said = search rules;
  session = search rules;
  rule = search rules;
  looks = looks_err g.V.Vault c.in-Err.fault c.in-Err.ensures.looks;
}

pub returns-in-Err-NoMaildrop-clause-looks : goal.returns-in-Err-NoMaildrop-clause-looks
returns-in-Err-NoMaildrop-clause-looks g c =
    looks_as g.V.Vault (Ok _) c.in-Err-NoMaildrop.ensures.looks (λ is. search rules)
    (λ own. search rules)

pub returns-then-contains_key-clause-looks : goal.returns-then-contains_key-clause-looks
returns-then-contains_key-clause-looks g c = looks_ok g.V.Vault c.in-Ok.heads _ c.in-Ok.ensures.looks

pub returns-in_default-clause-looks : goal.returns-in_default-clause-looks
returns-in_default-clause-looks g c =
    looks_as g.V.Vault (Err fault.NoMemory) c.in-Ok.ensures.looks (λ is. search rules) (λ own. tt)

pub returns-clause-looks : goal.returns-clause-looks
returns-clause-looks g c = looks_ok g.V.Vault c.in-Ok.heads _ c.in-Ok.ensures.looks
