-- What a conversation removes.
use Rattle.std.specs.Prelude.{◌≡◌, ℕ, Bool, true, false, not, ◌&&◌, ◌||◌, List, [], ◌∷◌, ◌++◌, Option, Some, None, filter, cond}
use Rattle.std.proofs.Common.{refl, sym, ◌∙◌, ap, eq-eqb, subst}
use Rattle.std.proofs.lemmas.Bool.{and_right}
use Rattle.std.proofs.lemmas.List.Folds.{list_any-append}
use Rattle.std.specs.List.{list_any, zip}
use Rattle.office.specs.Cutting.{Cut, cut}
use Rattle.office.specs.Replies.{LoginFailedClosing}
use Rattle.office.specs.Records.{Records, without, same_message}
use Rattle.vault.specs.declared.record.Message.{Message}
use Rattle.office.specs.History.{Act, Line, Tag, Said, Says, is_done, arrivals}
use Rattle.office.specs.Connections.{reading, is_quit, closes, connected, closing}
use Rattle.office.specs.Sessions.{records, removed, quits, quits_if}
use Rattle.office.specs.Told.{told, said_to}
use Rattle.converse.specs.Talk.{perhaps_gone, spoken, acted_on, opened_on, goes_on, taken_by_quit, removed_last, without_messages, RemovesByQuitAlone}

-- ---- messages without two lists

more_at : (q : Message → Bool) (a b : Bool) (x : Message) (w k : List Message) → q x ≡ not b → w ≡ filter q k
    → cond (not (a || b)) (x ∷ w) w ≡ filter q (cond (not a) (x ∷ k) k)
more_at q true b x w k e h = h
more_at q false true x w k e h = rw e h
more_at q false false x w k e h = rw e (ap (λ ms. x ∷ ms) h)

without_more : (xs rs ts : List Message) → without xs (rs ++ ts) ≡ without (without xs rs) ts
without_more [] rs ts = refl
without_more (x ∷ xs) rs ts =
    rw (list_any-append (same_message x) rs ts)
    (more_at (λ (m : Message). not (list_any (same_message m) ts)) (list_any (same_message x) rs) (list_any (same_message x) ts) x
    (without xs (rs ++ ts)) (without xs rs) refl (without_more xs rs ts))

without_none : (ms : List Message) → without ms [] ≡ ms
without_none [] = refl
without_none (m ∷ ms) = ap (λ xs. m ∷ xs) (without_none ms)

with_messages : Records → List Message → Records
with_messages B ms = record { clerks = B.clerks; maildrops = B.maildrops; messages = ms; deposits = B.deposits; policy = B.policy }

none_taken : (B : Records) → B ≡ without_messages [] B
unfolding with_messages
none_taken B = ap (λ ms. with_messages B ms) (sym (without_none B.messages))

-- ---- one line

line_keeps : (B : Records) (c : ℕ) (x : Cut) (t : Tag) (H : List (Act × Tag)) → quits (Line c x) t ≡ None
    → records B (told B ((Line c x, t) ∷ H)) ≡ records B (told B H)
line_keeps B c x t H e = rw e refl

line_quits : (B : Records) (c : ℕ) (x : Cut) (t : Tag) (H : List (Act × Tag)) (q : ℕ) → quits (Line c x) t ≡ Some q
    → records B (told B ((Line c x, t) ∷ H)) ≡ without_messages (taken_by_quit B (told B H) (Some q)) (records B (told B H))
unfolding with_messages
line_quits B c x t H q e =
    rw e (ap (λ ms. with_messages (records B (told B H)) ms) (without_more (arrivals B (told B H)) (removed B (told B H)) (taken_by_quit B (told B H) (Some q))))

closes_by_quit : (x : Cut) (s : Said) → is_quit (reading x) ≡ true → closes (reading x) s ≡ true
closes_by_quit x (Says LoginFailedClosing) h = refl
closes_by_quit x _ h = h

quit_of : (n : ℕ) (b d : Bool) (q : ℕ) → quits_if (b && d) n ≡ Some q → b ≡ true
quit_of n true d q e = refl
quit_of n false d q e = absurd (no_some q e)
  where
    no_some : (k : ℕ) → None ≡ Some k → ⊥
    no_some k e = cc

-- after a QUIT no line acts
ends : (B : Records) (c : ℕ) (x : Cut) (t : Tag) (H : List (Act × Tag)) (q : ℕ) → quits (Line c x) t ≡ Some q → goes_on (told B ((Line c x, t) ∷ H)) c ≡ false
ends B c x t H q e =
    let h : is_quit (reading x) ≡ true = quit_of c (is_quit (reading x)) (is_done t) q e in
    let k : closes (reading x) (said_to B (told B H) (Line c x) t) ≡ true = closes_by_quit x (said_to B (told B H) (Line c x) t) h in
    let s : closing (told B ((Line c x, t) ∷ H)) c ≡ true = rw (eq-eqb c c refl, k) refl in
    and_right (connected (told B ((Line c x, t) ∷ H)) c) (not (closing (told B ((Line c x, t) ∷ H)) c)) (ap not s)

stays : (B : Records) (c : ℕ) (lines : List (Cut × Tag)) (H : List (Act × Tag)) → goes_on (told B H) c ≡ false → acted_on B c lines H ≡ H
stays B c [] H e = refl
stays B c ((x, t) ∷ lines) H e = rw e refl

-- ---- all lines

abbrev Took : Records → Records → List (Act × Tag) → Type 0
Took B base H = records B (told B H) ≡ without_messages (removed_last B H) base

took_none : (B base : Records) (H : List (Act × Tag)) → records B (told B H) ≡ base → removed_last B H ≡ [] → Took B base H
took_none B base H e k = rw k (e ∙ none_taken base)

took_line : (B base : Records) (c : ℕ) (x : Cut) (t : Tag) (lines : List (Cut × Tag)) (H : List (Act × Tag)) → records B (told B H) ≡ base
    → (records B (told B ((Line c x, t) ∷ H)) ≡ base → removed_last B ((Line c x, t) ∷ H) ≡ [] → Took B base (acted_on B c lines ((Line c x, t) ∷ H)))
    → (o : Option ℕ) → quits (Line c x) t ≡ o → Took B base (acted_on B c lines ((Line c x, t) ∷ H))
took_line B base c x t lines H e rest None k = rest (line_keeps B c x t H k ∙ e) (rw k refl)
took_line B base c x t lines H e rest (Some q) k =
    subst (λ (K : List (Act × Tag)). Took B base K) (sym (stays B c lines ((Line c x, t) ∷ H) (ends B c x t H q k)))
    (let s : removed_last B ((Line c x, t) ∷ H) ≡ taken_by_quit B (told B H) (Some q) = rw k refl in
    rw s (line_quits B c x t H q k ∙ ap (λ (R : Records). without_messages (taken_by_quit B (told B H) (Some q)) R) e))

took_if : (B base : Records) (b : Bool) (H K : List (Act × Tag)) → Took B base H → Took B base K → Took B base (cond b K H)
took_if B base true H K h k = k
took_if B base false H K h k = h

took_all : (B base : Records) (c : ℕ) (lines : List (Cut × Tag)) (H : List (Act × Tag)) → records B (told B H) ≡ base → removed_last B H ≡ []
    → Took B base (acted_on B c lines H)
took_all B base c [] H e k = took_none B base H e k
took_all B base c ((x, t) ∷ lines) H e k =
    took_if B base (goes_on (told B H) c) H (acted_on B c lines ((Line c x, t) ∷ H)) (took_none B base H e k)
    (took_line B base c x t lines H e (λ f g. took_all B base c lines ((Line c x, t) ∷ H) f g) (quits (Line c x) t) refl)

removed_so : (B base : Records) (c : ℕ) (ends : Bool) (H : List (Act × Tag)) → Took B base H
    → records B (told B (perhaps_gone c ends H)) ≡ without_messages (removed_last B H) base
removed_so B base c true H t = t
removed_so B base c false H t = t

pub removes_by_quit_alone : RemovesByQuitAlone
removes_by_quit_alone B c octets tags H ends =
    removed_so B (records B (told B H)) c ends (spoken B c octets tags H)
    (took_all B (records B (told B H)) c (zip (cut octets) tags) (opened_on c H) refl refl)
