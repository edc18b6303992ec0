-- What is kept of a connection judges its next line as the history does, in a session or before one.
use Rattle.std.proofs.Common.{◌≡◌, ℕ, Bool, true, false, not, ◌||◌, ◌&&◌, List, ◌∷◌, Option, Some, None, refl, sym, ◌∙◌, ap, is_some, Result, Ok, append-nil}
use Rattle.creds.specs.declared.login_name.LoginName.{LoginName}
use Rattle.popline.specs.Cutting.{Cut}
use Rattle.popline.specs.Commands.{Command, Pass, Apop}
use Rattle.popline.specs.declared.command.LineFault.{LineFault}
use Rattle.popline.specs.Replies.{Reply, LoginFailedClosing}
use Rattle.vault.specs.declared.record.Keyed.{Keyed}
use Rattle.vault.specs.declared.record.Message as store
use Rattle.vault.specs.Records.{Records, Agree, class_of}
use Rattle.vault.specs.Changes.{Contents, AreSound, records_of}
use Rattle.session.specs.Session.{Session}
use Rattle.session.specs.View.{to_remove}
use Rattle.office.specs.History.{Line, Tag, Entry, Said, Says, is_done, in_force}
use Rattle.office.specs.Connections.{reading, is_quit, closes}
use Rattle.office.specs.Sessions.{live, marks, view, logs_in, in_session, records, removed, removed_after, removed_by, quits_if}
use Rattle.office.specs.Replying.{name_or_nobody, reply_to_cut, line_may_fail, may_fail, state_at}
use Rattle.office.specs.Accounts.{quit_account, removal_by, quit_seen, named_at, named_seen, who_in}
use Rattle.office.specs.Kept.{LineContext, asks, state_of}
use Rattle.office.specs.Transaction.{Transaction, LiesIn, transaction_of}
use Rattle.office.specs.Answered.{reply_of, tag_of, HasTransaction, held_after}
use Rattle.office.specs.Stands.{Seen}
use Rattle.office.specs.declared.login_state.LoginState.{LoginState}
use Rattle.office.specs.declared.login_state.LineOutcome.{LineOutcome}
use Rattle.office.specs.declared.login_state.LineOutcome.TheVariants as outcome
use Rattle.office.proofs.Hearing.{lined}
use Rattle.office.proofs.SameReply.{SameState, same_reply, same_may_fail}
use Rattle.office.proofs.Agreeing.{AgreesInAuthorization, AgreesInTransaction, same_authorization, same_transaction, transaction_removal, transaction_names, transaction_who}
use Rattle.office.proofs.Remembering.{transaction_no_login, transaction_closes}
use Rattle.office.proofs.LineRecords.{agree_line}
use Rattle.office.proofs.SmallLemmas.{no_some, and_false}

-- A line is answered, may be refused, and leaves the records, as the history says.
pub record Judges (B : Records) (G : List Entry) (c : ℕ) (k : Contents) (d : LineContext) (t : LoginState) (old : Option Session) : Type 0 where
  pub transaction : Option Transaction
  pub has_transaction : HasTransaction k old transaction
  pub reply : (x : Cut) (w : LineOutcome) → (w ≡ outcome.Failed → asks d.policy t transaction (reading x) ≡ true) → reply_to_cut B G c x (tag_of w) ≡ reply_of w d t transaction x
  pub quits : (w : LineOutcome) → quit_account (in_session G c) (removal_by B G c (tag_of w)) ≡ quit_seen w d.policy transaction
  pub names : (r : Result Command LineFault) → named_at B G c r ≡ named_seen transaction r
  pub policy : d.policy ≡ in_force B G
  pub who : who_in transaction ≡ name_or_nobody (in_session G c)
  pub fails : (x : Cut) → asks d.policy t transaction (reading x) ≡ true → line_may_fail B G c x ≡ true
  pub agrees : AreSound k → Agree (records_of k) (records B G) → (w : LineOutcome) (x : Cut) (said : Said)
      → Agree (records_of (held_after w d.policy old (reading x) k)) (records B (record { act = Line c x; tag = tag_of w; said = said } ∷ G))
  -- who is in session doesn't log in
  pub stays : (o : Session) → old ≡ Some o → (x : Cut) (w : LineOutcome) (u : Option LoginName) → logs_in (reading x) (Says (reply_of w d t transaction x)) u ≡ None
  -- what closes a connection ends its session
  pub parts : (s : Seen) → s.live ≡ live G c → (found : LoginName → List store.Message) (x : Cut) (w : LineOutcome)
      → closes (reading x) (Says (reply_of w d t transaction x)) ≡ true → (lined s x (reply_of w d t transaction x) found).live ≡ false

-- what is kept is the state that the history says
module _ (B : Records) (G : List Entry) (c : ℕ) (d : LineContext) (t : LoginState) (v : Option Transaction) (same : SameState (state_at B G c) (state_of d t v)) where
  replied : (x : Cut) (w : LineOutcome) → reply_to_cut B G c x (tag_of w) ≡ reply_of w d t v x
  replied x w = same_reply (state_at B G c) (state_of d t v) same x (tag_of w)

  asked : (o : Option Transaction) (r : Result Command LineFault) → may_fail (state_of d t o) r ≡ asks d.policy t o r
  asked None r = refl
  asked (Some v) r = refl

  fails : (x : Cut) → asks d.policy t v (reading x) ≡ true → line_may_fail B G c x ≡ true
  fails x h = same_may_fail (state_at B G c) (state_of d t v) same (reading x) ∙ (asked v (reading x) ∙ h)

-- ---- before a login

refused_in : (r : Result Command LineFault) (u : Option LoginName) → logs_in r (Says LoginFailedClosing) u ≡ None
refused_in (Ok (Pass p)) u = refl
refused_in (Ok (Apop who d)) u = refl
refused_in _ u = refl

authorization_closed : (r : Result Command LineFault) (reply : Reply) (u : Option LoginName) (l : Bool) → l ≡ false → closes r (Says reply) ≡ true
    → (not (is_quit r || false) && (is_some (logs_in r (Says reply) u) || l)) ≡ false
authorization_closed r LoginFailedClosing u l e h = let n = refused_in r u in rw (n, e) (and_false (not (is_quit r || false)))
authorization_closed r _ u l e h = rw h refl

-- who isn't in session removes nothing
authorization_records : (B : Records) (G : List Entry) (c : ℕ) (x : Cut) (t : Tag) (said : Said) → live G c ≡ false → records B (record { act = Line c x; tag = t; said = said } ∷ G) ≡ records B G
authorization_records B G c x t said lv = ap
    (λ rs. record (records B G) { messages = Rattle.vault.specs.Records.without (Rattle.office.specs.History.arrivals B G) rs }) (at (is_quit (reading x) && is_done t))
  where
    at : (b : Bool) → removed_after (quits_if b c)
        (λ n. removed_by (in_session G n) (λ (name : LoginName). to_remove class_of (in_force B G) name (marks G n) (view B G n))) (removed B G) ≡ removed B G
    at true = rw lv (append-nil (removed B G))
    at false = refl

pub authorization_judges : (B : Records) (G : List Entry) (c : ℕ) (k : Contents) (d : LineContext) (t : LoginState) → AgreesInAuthorization B G c d t → Judges B G c k d t None
authorization_judges B G c k d t a = record {
  transaction = None;
  has_transaction = tt;
  reply = λ x w may. replied B G c d t None (same_authorization B G c d t a) x w;
  quits = λ w. let l = a.authorization in rw l refl;
  names = λ r. let l = a.authorization in rw l refl;
  policy = a.policy;
  who = let l = a.authorization in rw l refl;
  fails = fails B G c d t None (same_authorization B G c d t a);
  agrees = λ sound g w x said. rw (authorization_records B G c x (tag_of w) said a.authorization) g;
  stays = λ o e x w u. absurd (no_some o e);
  parts = λ s l found x w h. authorization_closed (reading x) (reply_of w d t None x) s.user s.live (l ∙ a.authorization) h;
}

-- ---- in a session

pub transaction_judges : (B : Records) (G : List Entry) (c : ℕ) (k : Contents) (d : LineContext) (t : LoginState) (o : Session) (kept : List Keyed) → LiesIn k o kept
    → AgreesInTransaction B G c d.policy (transaction_of o kept) → Judges B G c k d t (Some o)
transaction_judges B G c k d t o kept lies a =
    let v = transaction_of o kept in
    record {
      transaction = Some v;
      has_transaction = (kept, lies, refl);
      reply = λ x w may. replied B G c d t (Some v) (same_transaction B G c d.policy v a) x w;
      quits = transaction_removal B G c d.policy v a;
      names = transaction_names B G c d.policy v a;
      policy = a.policy;
      who = sym (transaction_who B G c d.policy v a);
      fails = fails B G c d t (Some v) (same_transaction B G c d.policy v a);
      agrees = λ sound g w x said. agree_line B G c d.policy o kept a k sound lies g w x said;
      stays = λ o' e x w u. transaction_no_login d.policy v w x u;
      parts = λ s l found x w h. let q = sym (transaction_closes d.policy v w x) ∙ h in rw q refl;
    }
