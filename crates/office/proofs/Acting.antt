-- The session that a line leaves: what is kept of it is what the trace says after the line.
use Rattle.std.proofs.Common.{◌≡◌, ℕ, Bool, true, false, List, [], Option, Some, None, refl, sym, ◌∙◌, ap, subst, true≢false, Result, Ok}
use Rattle.creds.specs.declared.login_name.LoginName.{LoginName}
use Rattle.popline.specs.Cutting.{Cut}
use Rattle.popline.specs.Commands.{Command, Pass, Apop, Quit}
use Rattle.popline.specs.declared.command.LineFault.{LineFault}
use Rattle.popline.specs.Replies.{Reply, MaildropHas}
use Rattle.policy.specs.Policy.{Policy}
use Rattle.vault.specs.declared.record.Message as store
use Rattle.vault.specs.Records.{class_of, in_maildrop}
use Rattle.vault.specs.Changes.{Contents, AreSound, records_of, heads}
use Rattle.session.specs.Session.{Session, started}
use Rattle.session.specs.View.{is_marked, visible}
use Rattle.office.specs.History.{Says}
use Rattle.office.specs.Connections.{reading, is_quit}
use Rattle.office.specs.Sessions.{logs_in, marks_after_line}
use Rattle.office.specs.Transaction.{GoesOn}
use Rattle.office.specs.Answered.{SessionAfter, held_after}
use Rattle.office.specs.Stands.{Seen, IsSession, IsTransaction}
use Rattle.office.specs.declared.login_state.LineOutcome.{LineOutcome}
use Rattle.office.specs.declared.login_state.LineOutcome.TheVariants as outcome
use Rattle.office.proofs.Lying.{found, found_messages, lies_found, lies_marked}
use Rattle.office.proofs.GoingOn.{marks_alike}
use Rattle.office.proofs.Hearing.{lined}
use Rattle.office.proofs.SmallLemmas.{no_some}

-- what a login would find by these contents
abbrev pub finds : Contents → Policy → LoginName → List store.Message
finds c p name = visible class_of p name (in_maildrop name.maildrop (records_of c).messages)

-- an accepted login begins without marks
no_marks : (r : Result Command LineFault) (reply : Reply) (u : Option LoginName) (name : LoginName) (ms : List ℕ) → logs_in r (Says reply) u ≡ Some name → marks_after_line (Says reply) ms ≡ []
no_marks (Ok (Pass p)) (MaildropHas n m) u name ms e = refl
no_marks (Ok (Pass p)) _ u name ms e = absurd (no_some name e)
no_marks (Ok (Apop who d)) (MaildropHas n m) u name ms e = refl
no_marks (Ok (Apop who d)) _ u name ms e = absurd (no_some name e)
no_marks _ reply u name ms e = absurd (no_some name e)

-- only a QUIT removes
pub held_same : (w : LineOutcome) (p : Policy) (o : Option Session) (r : Result Command LineFault) (c : Contents) → is_quit r ≡ false → held_after w p o r c ≡ c
held_same w p None r c q = refl
held_same outcome.Failed p (Some s) r c q = refl
held_same outcome.Done p (Some s) (Ok Quit) c q = absurd (true≢false q)
held_same outcome.Done p (Some s) _ c q = refl

module _ (c : Contents) (p : Policy) (s : Seen) (x : Cut) (reply : Reply) where
  abbrev after : Seen
  after = lined s x reply (finds c p)

  quit_after : (u : Option LoginName) → is_quit (reading x) ≡ true → after.live ≡ false
  quit_after u q = rw q refl

  began_after : AreSound c → (name : LoginName) → is_quit (reading x) ≡ false → logs_in (reading x) (Says reply) s.user ≡ Some name
      → IsTransaction c after (started p s.judging name.clerk name.maildrop (heads name.maildrop c))
  began_after sound name q e = record {
    live = rw (q, e) refl;
    login = rw e refl;
    judged = refl;
    marks = λ n. sym (ap (λ ms. is_marked ms n) (no_marks (reading x) reply s.user name s.marks e));
    kept = found c p name;
    lies = lies_found c p name s.judging sound;
    view = rw e (found_messages c p name);
  }

  stayed_after : (k new : Session) → is_quit (reading x) ≡ false → logs_in (reading x) (Says reply) s.user ≡ None → IsTransaction c s k → GoesOn reply k new → IsTransaction c after new
  stayed_after k new q e i on = record {
    live = let l = i.live in rw (q, e, l) refl;
    login = rw e (i.login ∙ ap (λ n. Some n) (sym on.name));
    judged = on.removals ∙ i.judged;
    marks = λ n. on.marks n ∙ marks_alike k.marks s.marks i.marks (Says reply) n;
    kept = i.kept;
    lies = lies_marked c k new i.kept i.lies on.name on.view;
    view = i.view ∙ rw e refl;
  }

  none_after : is_quit (reading x) ≡ false → logs_in (reading x) (Says reply) s.user ≡ None → s.live ≡ false → after.live ≡ false
  none_after q e l = rw (q, e, l) refl

  session_at : (old new : Option Session) (quits : Bool) (o : Option LoginName) → is_quit (reading x) ≡ quits → logs_in (reading x) (Says reply) s.user ≡ o
      → AreSound c → IsSession c s old → SessionAfter quits o c p s.judging reply old new → (c' : Contents) → (quits ≡ false → c' ≡ c) → IsSession c' after new
  session_at old new true o q e sound i became c' same = subst (IsSession c' after) (sym became) (quit_after s.user q)
  session_at old new false (Some name) q e sound i became c' same =
      subst (λ d. IsSession d after new) (sym (same refl)) (subst (IsSession c after) (sym became) (began_after sound name q e))
  session_at None new false None q e sound i became c' same = subst (IsSession c' after) (sym became) (none_after q e i)
  session_at (Some k) (Some new) false None q e sound i became c' same = subst (λ d. IsSession d after (Some new)) (sym (same refl)) (stayed_after k new q e i became)
  session_at (Some k) None false None q e sound i became c' same = absurd became

  -- the session after a line
  pub session_after : (w : LineOutcome) (old new : Option Session) → AreSound c → IsSession c s old
      → SessionAfter (is_quit (reading x)) (logs_in (reading x) (Says reply) s.user) c p s.judging reply old new → IsSession (held_after w p old (reading x) c) after new
  session_after w old new sound i became =
      session_at old new (is_quit (reading x)) (logs_in (reading x) (Says reply) s.user) refl refl sound i became (held_after w p old (reading x) c)
      (λ q. held_same w p old (reading x) c q)
