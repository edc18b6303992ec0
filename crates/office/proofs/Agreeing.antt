-- What is kept of a connection is the state that the history says.
use Rattle.std.proofs.Common.{◌≡◌, ℕ, true, false, List, Some, None, Result, refl, sym, ap, arith, is_some, min, nat_le}
use Rattle.std.proofs.lemmas.Bool.Decides.{nat_tests}
use Rattle.creds.specs.Credential.{Shown}
use Rattle.creds.specs.declared.login_name.LoginName.{LoginName}
use Rattle.policy.specs.Policy.{Policy}
use Rattle.popline.specs.Commands.{Command}
use Rattle.popline.specs.declared.command.LineFault.{LineFault}
use Rattle.vault.specs.Records.{Records, credential_in, is_one_of, in_maildrop, class_of}
use Rattle.session.specs.View.{is_marked, to_remove}
use Rattle.office.specs.History.{Entry, credential, in_force, exists, is_done}
use Rattle.office.specs.Connections.{user, failures, judging}
use Rattle.office.specs.Sessions.{live, login, in_session, holder, present, marks, view}
use Rattle.office.specs.Replying.{Transaction, InTransaction, state_at, logging_in, login_failed, name_or_nobody, stamp}
use Rattle.office.specs.Accounts.{quit_account, removal_by, removal_seen, was_done, row_at, named_at, named_in}
use Rattle.office.specs.Kept.{LineContext, judged, state_of, most_failures}
use Rattle.office.specs.Answered.{tag_of}
use Rattle.office.specs.declared.account.Account.TheVariants as account
use Rattle.office.specs.declared.login_state.LoginState.{LoginState}
use Rattle.office.specs.declared.login_state.LineOutcome.{LineOutcome}
use Rattle.office.specs.declared.login_state.LineOutcome.TheVariants as outcome
use Rattle.office.proofs.Naming.{named_alike, marked_row}
use Rattle.office.proofs.SameReply.{SameState, marked_alike, to_remove_alike, denying_alike}

-- ---- before a login

same_refusal : (f g : ℕ) → f ≡ min g most_failures → nat_le 2 g ≡ nat_le 2 f
same_refusal f g e = grind (arith, nat_tests, e)

-- What is kept of a connection without a session, and what its lines are judged by, are what the history says.
pub record AgreesInAuthorization (B : Records) (G : List Entry) (c : ℕ) (d : LineContext) (t : LoginState) : Type 0 where
  pub authorization : live G c ≡ false
  pub user : t.user ≡ user G c
  pub failures : t.failures ≡ min (failures G c) most_failures
  pub credentials : (name : List ℕ) → credential_in name d.store.clerks ≡ credential B G name
  pub policy : d.policy ≡ in_force B G
  pub there : (name : List ℕ) → is_one_of name d.store.maildrops ≡ exists B G name
  pub locked : (name : List ℕ) → d.is_locked name ≡ is_some (holder G name)
  pub present : (name : List ℕ) → in_maildrop name d.store.messages ≡ present B G name
  pub stamp : d.stamp ≡ stamp G c

module _ (B : Records) (G : List Entry) (c : ℕ) (d : LineContext) (t : LoginState) (a : AgreesInAuthorization B G c d t) where
  refused : login_failed (failures G c) ≡ login_failed t.failures
  refused = let e = same_refusal t.failures (failures G c) a.failures in rw e refl

  judged_so : (name : LoginName) (proof : Shown) → logging_in B G c name proof ≡ judged d t.failures name proof
  judged_so name proof =
      let k = a.credentials name.clerk in
      let p = a.policy in
      let s = a.stamp in
      let m = a.there name.maildrop in
      let l = a.locked name.maildrop in
      let v = a.present name.maildrop in
      rw (k, s, p, m, l, v, refused) refl

  pub same_authorization : SameState (state_at B G c) (state_of d t None)
  same_authorization = let lv = a.authorization in rw lv (sym a.user, judged_so)

-- ---- in a session

-- What is kept of a session, with its messages and the policy in force, is what the history says.
pub record AgreesInTransaction (B : Records) (G : List Entry) (c : ℕ) (p : Policy) (v : Transaction) : Type 0 where
  pub live : live G c ≡ true
  pub login : login G c ≡ Some v.name
  pub judged : v.removals ≡ judging G
  pub marks : (n : ℕ) → is_marked v.marks n ≡ is_marked (marks G c) n
  pub view : v.view ≡ view B G c
  pub policy : p ≡ in_force B G

done_so : (w : LineOutcome) → is_done (tag_of w) ≡ was_done w
done_so outcome.Done = refl
done_so outcome.Failed = refl

module _ (B : Records) (G : List Entry) (c : ℕ) (p : Policy) (v : Transaction) (a : AgreesInTransaction B G c p v) where
  pub transaction_name : name_or_nobody (login G c) ≡ v.name
  transaction_name = ap name_or_nobody a.login

  pub same_transaction : SameState (state_at B G c) (InTransaction p v)
  same_transaction =
      let lv = a.live in
      rw lv (sym a.policy, record { name = transaction_name; removals = sym a.judged; view = sym a.view; marks = λ n. sym (a.marks n) })

  pub chosen_alike : to_remove class_of p v.name v.marks v.view ≡ to_remove class_of (in_force B G) (name_or_nobody (login G c)) (marks G c) (view B G c)
  chosen_alike =
      let n = transaction_name in
      let w = sym a.view in
      let q = sym a.policy in
      rw (n, w, q) (to_remove_alike v.marks (marks G c) a.marks class_of p v.name v.view)

  -- what a QUIT's account says
  pub transaction_removal : (w : LineOutcome) → quit_account (in_session G c) (removal_by B G c (tag_of w)) ≡ account.Quit (removal_seen w p v)
  transaction_removal w =
      let l = a.live in
      let named = a.login in
      let q = sym a.policy in
      let rows = sym a.view in
      let chosen = to_remove_alike v.marks (marks G c) a.marks class_of p v.name v.view in
      let denied = denying_alike v.marks (marks G c) a.marks class_of p v.name v.view in
      let done = done_so w in
      let counted = marked_alike v.marks (marks G c) a.marks v.view in
      rw (l, named, q, rows, done, chosen, denied, counted) refl

  -- the message that a line names
  pub transaction_names : (r : Result Command LineFault) → named_at B G c r ≡ named_in v r
  transaction_names r =
      let l = a.live in
      let who = a.login in
      let rows = sym a.view in
      rw (l, who, rows) (named_alike (row_at (marks G c) v.view) (row_at v.marks v.view) (λ n. marked_row v.view n _ _ (sym (a.marks n))) r)

  pub transaction_who : name_or_nobody (in_session G c) ≡ v.name
  transaction_who =
      let l = a.live in
      let who = a.login in
      rw (l, who) refl
