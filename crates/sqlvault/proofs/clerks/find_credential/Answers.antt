use Rattle.std.proofs.Common.{List, Ok, sym, ap, subst, ◌∙◌}
use Rattle.std.specs.Prelude.{Option, Some, None}
use Rattle.sqlite.specs.Held.{state}
use Rattle.creds.specs.declared.credential.Credential.{Credential}
use Rattle.vault.specs.Records.{credential_in}
use Rattle.vault.specs.Calls.{IsAnswer}
use Rattle.std.specs.List.{find}
use Rattle.mailsql.specs.declared.rows.Clerk.{Clerk}
use Rattle.mailsql.specs.Rows.{rows_in, is_clerk}
use Rattle.sqlvault.proofs.FrameLemmas.{passed}
use Rattle.sqlvault.proofs.PartRowLemmas.{clerks_of_part}
use Rattle.sqlvault.proofs.HoldsLemmas.{met}
use Rattle.sqlvault.proofs.ClerkLemmas.{is_found, not_found}
use Rattle.sqlvault.proofs.SeesLemmas.{sees_asked, sees_failed}
use Rattle.sqlvault.proofs.clerks.find_credential.Goals as goal

pub returns-in-Some-read_credential-clause-sees : goal.returns-in-Some-read_credential-clause-sees
returns-in-Some-read_credential-clause-sees g c = sees_asked g.S.Store c.args.conn.now c.find_clerk.new.conn c.in_ok-row.ensures.same c.find_clerk.ensures.survives (λ clean tables k keeps.
    let text = c.as_bytes.result.now in
    let rows = rows_in (state g.S.Store c.args.conn.now).now.trees in
    let f = is_found rows k text c.in-Some.row keeps
    (sym c.in-Some.is ∙ c.in_ok-row.ensures.ok clean tables) in
    let read = c.in-Some-read_credential.ensures.read f.clerk f.row_is f.sound in
    subst (λ name. IsAnswer (Ok (credential_in name k.clerks)) (Ok (Some c.in-Some-read_credential.credential)))
    c.as_bytes.ensures.value (ap (λ (x : Option Credential). Ok x) (f.kept ∙ sym read)))

pub returns-in_default-clause-sees : goal.returns-in_default-clause-sees
returns-in_default-clause-sees g c =
    sees_asked g.S.Store c.args.conn.now c.find_clerk.new.conn c.in_ok-row.ensures.same c.find_clerk.ensures.survives
    (λ clean tables k keeps.
    let none = not_found (rows_in (state g.S.Store c.args.conn.now).now.trees) k c.as_bytes.result.now keeps
    (sym c.in_default.is ∙ c.in_ok-row.ensures.ok clean tables) in
    subst (λ name. IsAnswer (Ok (credential_in name k.clerks)) (Ok None))
    c.as_bytes.ensures.value (ap (λ (x : Option Credential). Ok x) none))

pub returns-clause-sees : goal.returns-clause-sees
returns-clause-sees g c =
    sees_asked g.S.Store c.args.conn.now c.find_clerk.new.conn c.in_ok-row.ensures.same c.find_clerk.ensures.survives
    (λ clean tables k keeps. met (Ok (credential_in c.args.clerk.now k.clerks)) c.unreadable.result)

pub returns-in_err-row-clause-sees : goal.returns-in_err-row-clause-sees
returns-in_err-row-clause-sees g c = rw (passed c.from_residual.ensures.1) (sees_failed g.S.Store c.args.conn.now c.find_clerk.new.conn c.in_err-row.ensures.err
    c.find_clerk.ensures.survives
    (λ k. met (Ok (credential_in c.args.clerk.now k.clerks)) c.in_err-row.field-0.0))

pub returns-in-Some-read_credential-clause-beside : goal.returns-in-Some-read_credential-clause-beside
returns-in-Some-read_credential-clause-beside g c = record {
  told = λ clean tables a k spared shown.
      let f = is_found shown.before k c.as_bytes.result.now c.in-Some.row shown.keeps
      (sym c.in-Some.is ∙ c.in_ok-row.ensures.ok clean tables ∙ ap (λ (l : List Clerk). find (is_clerk c.as_bytes.result.now) l) (clerks_of_part a k _ shown)) in
      subst (λ name. IsAnswer (Ok (credential_in name k.clerks)) (Ok (Some c.in-Some-read_credential.credential)))
      c.as_bytes.ensures.value (ap (λ (x : Option Credential). Ok x) (f.kept ∙ sym (c.in-Some-read_credential.ensures.read f.clerk f.row_is f.sound)));
}

pub returns-in_default-clause-beside : goal.returns-in_default-clause-beside
returns-in_default-clause-beside g c = record {
  told = λ clean tables a k spared shown.
      let none = not_found shown.before k c.as_bytes.result.now shown.keeps
      (sym c.in_default.is ∙ c.in_ok-row.ensures.ok clean tables ∙ ap (λ (l : List Clerk). find (is_clerk c.as_bytes.result.now) l) (clerks_of_part a k _ shown)) in
      subst (λ name. IsAnswer (Ok (credential_in name k.clerks)) (Ok None))
      c.as_bytes.ensures.value (ap (λ (x : Option Credential). Ok x) none);
}

pub returns-clause-beside : goal.returns-clause-beside
returns-clause-beside g c =
    record { told = λ clean tables a k spared shown. met (Ok (credential_in c.args.clerk.now k.clerks)) c.unreadable.result }

pub returns-in_err-row-clause-beside : goal.returns-in_err-row-clause-beside
returns-in_err-row-clause-beside g c = rw (passed c.from_residual.ensures.1)
    (record { told = λ clean tables a k spared shown. met (Ok (credential_in c.args.clerk.now k.clerks)) c.in_err-row.field-0.0 })
