-- What a store holds after a line of a session agrees with the history's records with that line.
use Rattle.std.proofs.Common.{◌≡◌, ℕ, ◌&&◌, List, ◌∷◌, ◌++◌, Result, Ok, Err, sym, ◌∙◌, ap, subst}
use Rattle.std.specs.Prelude.{map}
use Rattle.creds.specs.declared.login_name.LoginName.{LoginName}
use Rattle.popline.specs.Cutting.{Cut}
use Rattle.popline.specs.Commands.{Command, Quit}
use Rattle.popline.specs.declared.command.LineFault.{LineFault}
use Rattle.policy.specs.Policy.{Policy}
use Rattle.vault.specs.declared.record.Keyed.{Keyed}
use Rattle.vault.specs.declared.record.Message as store
use Rattle.vault.specs.Records.{Records, Agree, class_of, without}
use Rattle.vault.specs.Changes.{Contents, AreSound, records_of}
use Rattle.session.specs.Session.{Session}
use Rattle.session.specs.View.{to_remove}
use Rattle.office.specs.History.{Entry, Line, Tag, Done, Said, is_done, arrivals, in_force}
use Rattle.office.specs.Connections.{is_quit, reading}
use Rattle.office.specs.Sessions.{in_session, marks, view, quits_if, records, removed, removed_after, removed_by}
use Rattle.office.specs.Answered.{tag_of}
use Rattle.office.specs.Transaction.{LiesIn, transaction_of, held_after_line, without_marked}
use Rattle.office.specs.declared.login_state.LineOutcome.{LineOutcome}
use Rattle.office.specs.declared.login_state.LineOutcome.TheVariants as outcome
use Rattle.office.proofs.Bounds.{without_more}
use Rattle.office.proofs.Removing.{agree_removed}
use Rattle.office.proofs.Agreeing.{AgreesInTransaction, chosen_alike, transaction_name}
use Rattle.office.proofs.SmallLemmas.{and_false}

module _ (B : Records) (G : List Entry) (c : ℕ) (p : Policy) (s : Session) (kept : List Keyed) (a : AgreesInTransaction B G c p (transaction_of s kept)) where
  -- what the session of a connection would remove
  abbrev taken_by : ℕ → List store.Message
  taken_by q = removed_by (in_session G q) (λ (name : LoginName). to_remove class_of (in_force B G) name (marks G q) (view B G q))

  abbrev left_by : Result Command LineFault → Tag → Records
  left_by r t = record (records B G) { messages = without (arrivals B G) (removed_after (quits_if (is_quit r && is_done t) c) taken_by (removed B G)) }

  abbrev rows : List store.Message
  rows = map (λ (x : Keyed). x.message) kept

  transaction_taken : taken_by c ≡ to_remove class_of p s.name s.marks rows
  transaction_taken =
      let lv = a.live in
      let lg = a.login in
      rw (lv, lg) (ap (λ n. to_remove class_of (in_force B G) n (marks G c) (view B G c)) (sym (transaction_name B G c p (transaction_of s kept) a))
      ∙ sym (chosen_alike B G c p (transaction_of s kept) a))

  quit_leaves : record (records B G) { messages = without (records B G).messages (to_remove class_of p s.name s.marks rows) }
      ≡ record (records B G) { messages = without (arrivals B G) (removed B G ++ taken_by c) }
  quit_leaves =
      ap (λ ms. record (records B G) { messages = ms })
      (ap (λ ms. without (without (arrivals B G) (removed B G)) ms) (sym transaction_taken) ∙ sym (without_more (arrivals B G) (removed B G) (taken_by c)))

  module _ (k : Contents) (sound : AreSound k) (lies : LiesIn k s kept) (g : Agree (records_of k) (records B G)) where
    after_quit : Agree (records_of (without_marked p s k)) (left_by (Ok Quit) Done)
    after_quit = subst (λ R. Agree (records_of (without_marked p s k)) R) quit_leaves (agree_removed k (records B G) s kept p sound lies g)

    after_reading : (w : LineOutcome) (r : Result Command LineFault) → Agree (records_of (held_after_line w p s r k)) (left_by r (tag_of w))
    after_reading outcome.Failed r = let f = and_false (is_quit r) in rw f g
    after_reading outcome.Done (Err e) = g
    after_reading outcome.Done (Ok Quit) = after_quit
    after_reading outcome.Done (Ok _) = g

    -- whatever was said
    pub agree_line : (w : LineOutcome) (x : Cut) (said : Said)
        → Agree (records_of (held_after_line w p s (reading x) k)) (records B (record { act = Line c x; tag = tag_of w; said = said } ∷ G))
    agree_line w x said = after_reading w (reading x)
