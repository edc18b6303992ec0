-- Bounds that every history keeps: of its messages, its views, its policy and its boot numbers.
use Rattle.std.specs.Prelude.{◌≡◌, ℕ, ◌≤◌, ◌<◌, ◌^◌, Bool, true, false, not, ◌&&◌, ◌||◌, ◌==◌, nat_le, nat_lt, List, [], ◌∷◌, ◌++◌, length, filter, cond, Option, Some, None}
use Rattle.std.proofs.Common.{refl, sym, ◌∙◌, ap, subst, true≢false, inl, inr, eqb-true, le_trans, le_refl, length-append}
use Rattle.std.proofs.lemmas.Bool.{and_parts, leb-true, ltb-true, le-leb}
use Rattle.std.proofs.lemmas.Slice.Eq.{bytes_eq-Decides}
use Rattle.std.proofs.lemmas.List.Folds.{list_all-append, list_any-append}
use Rattle.std.proofs.lemmas.List.Elements.{filter-append}
use native.Mathlib.Omega.{arith}
use Rattle.std.specs.List.{list_any, list_all}
use Rattle.std.specs.Str.{bytes_eq}
use Rattle.mailtext.specs.Text.{kept_form}
use Rattle.creds.specs.declared.login_name.LoginName.{LoginName}
use Rattle.creds.specs.Names.{is_name, is_deposit_id}
use Rattle.policy.specs.Policy.{Policy, is_sound_policy}
use Rattle.vault.specs.Records.{Records, IsSound, is_sound_message, is_sound_receipt, is_receipt_for, is_counted, is_one_of, octets_of, class_of, class_count, receipts_of}
use Rattle.vault.specs.Records.{same_message, without, in_maildrop, most_octets, most_messages, most_deposits}
use Rattle.vault.specs.declared.record.Message.{Message}
use Rattle.vault.specs.declared.record.Receipt.{Receipt}
use Rattle.vault.specs.Changes.{message_for}
use Rattle.session.specs.View.{visible, may_read, to_remove}
use Rattle.session.specs.declared.removals.Removals.{Removals}
use Rattle.office.specs.Answers.{New, SetPolicy}
use Rattle.office.specs.History.{Entry, Act, Open, Deposit, Administer, Restart, Tag, Done, Said, Answers, arrivals, arrivals_after, in_force, policy_after}
use Rattle.office.specs.Connections.{setting, setting_after, user}
use Rattle.office.specs.Sessions.{present, removed, removed_after, quits, view, view_after, login_by, removed_by, in_session, marks}
use Rattle.office.specs.Told.{told, said_to}
use Rattle.office.specs.Formed.{is_u64, is_formed_command}
use Rattle.office.specs.Laws.{In}
use Rattle.office.proofs.UniqueIds.{all_in}
use Rattle.office.proofs.Accepting.{taken}
use Rattle.office.proofs.SmallLemmas.{without_none}
use Rattle.vault.proofs.ListLemmas.{all_filter, filter_fits}

-- ---- lists

pub all_if : {A : Type 0} (p q : A → Bool) (xs : List A) → ((x : A) → In x xs → p x ≡ true → q x ≡ true) → list_all p xs ≡ true → list_all q xs ≡ true
all_if p q [] f h = refl
all_if p q (x ∷ xs) f h =
    let r = and_parts (p x) (list_all p xs) h in
    rw (f x (inl refl) r.0, all_if p q xs (λ y i. f y (inr i)) r.1) refl

pub any_witness : {A : Type 0} (p : A → Bool) (xs : List A) → list_any p xs ≡ true → (x : A) × In x xs × (p x ≡ true)
any_witness p [] h = absurd (true≢false (sym h))
any_witness {A} p (x ∷ xs) h = at (p x) refl h (λ k. any_witness p xs k)
  where
    at : (b : Bool) → p x ≡ b → (b || list_any p xs) ≡ true → (list_any p xs ≡ true → (y : A) × In y xs × (p y ≡ true)) → (y : A) × In y (x ∷ xs) × (p y ≡ true)
    at true e k rest = (x, inl refl, e)
    at false e k rest = let r = rest k in (r.0, inr r.1, r.2)

-- ---- messages without two lists

more_at : (q : Message → Bool) (a b : Bool) (x : Message) (w k : List Message) → q x ≡ not b → w ≡ filter q k
    → cond (not (a || b)) (x ∷ w) w ≡ filter q (cond (not a) (x ∷ k) k)
more_at q true b x w k e h = h
more_at q false true x w k e h = rw e h
more_at q false false x w k e h = rw e (ap (λ ms. x ∷ ms) h)

pub without_more : (xs rs ts : List Message) → without xs (rs ++ ts) ≡ without (without xs rs) ts
without_more [] rs ts = refl
without_more (x ∷ xs) rs ts =
    rw (list_any-append (same_message x) rs ts)
    (more_at (λ (m : Message). not (list_any (same_message m) ts)) (list_any (same_message x) rs) (list_any (same_message x) ts) x
    (without xs (rs ++ ts)) (without xs rs) refl (without_more xs rs ts))

-- ---- acts whose values are of their types

abbrev pub formed_act : Act → Bool
formed_act (Open n) = is_u64 n
formed_act (Restart boot host removals) = is_u64 boot && nat_le (length host) 64
formed_act (Deposit d class id text) = is_name class
formed_act (Administer command) = is_formed_command command
formed_act _ = true

abbrev pub all_formed : List (Act × Tag) → Bool
all_formed H = list_all (λ (x : Act × Tag). formed_act x.0) H

-- ---- messages

-- a message whose class is a name, with a number and octets within the limits
abbrev pub is_small : Message → Bool
is_small m = is_name m.class && nat_le m.k most_deposits && nat_le (octets_of m) most_octets

small : (m : Message) → is_name m.class ≡ true → m.k ≤ most_deposits → octets_of m ≤ most_octets → is_small m ≡ true
small m a b c = rw (a, le-leb m.k most_deposits b, le-leb (octets_of m) most_octets c) refl

-- a sound message has a sound receipt
small_message : (B : Records) → IsSound B → (m : Message) → is_sound_message B m ≡ true → is_small m ≡ true
small_message B s m h =
    let p = and_parts (bytes_eq (kept_form m.text) m.text && nat_lt 0 (octets_of m) && nat_le (octets_of m) most_octets && is_one_of m.maildrop B.maildrops)
    (list_any (is_receipt_for m) B.deposits) h in
    let q = and_parts (bytes_eq (kept_form m.text) m.text && nat_lt 0 (octets_of m) && nat_le (octets_of m) most_octets) (is_one_of m.maildrop B.maildrops) p.0 in
    let r = and_parts (bytes_eq (kept_form m.text) m.text && nat_lt 0 (octets_of m)) (nat_le (octets_of m) most_octets) q.0 in
    let w = any_witness (is_receipt_for m) B.deposits p.1 in
    let t = all_in (is_sound_receipt B) B.deposits w.0 s.deposits w.1 in
    from w.0 w.2 t (leb-true (octets_of m) most_octets r.1)
  where
    from : (r : Receipt) → is_receipt_for m r ≡ true → is_sound_receipt B r ≡ true → octets_of m ≤ most_octets → is_small m ≡ true
    from r e t o =
        let a = and_parts (bytes_eq m.maildrop r.maildrop && bytes_eq m.class r.class) (m.k == r.k) e in
        let b = and_parts (bytes_eq m.maildrop r.maildrop) (bytes_eq m.class r.class) a.0 in
        let class : m.class ≡ r.class = (bytes_eq-Decides m.class r.class).0 b.1 in
        let k : m.k ≡ r.k = eqb-true m.k r.k a.1 in
        let c = and_parts (is_name r.maildrop && is_deposit_id r.id && is_name r.class && is_counted B.deposits r && nat_le (class_count r.class (receipts_of r.maildrop B.deposits)) most_deposits)
        (length r.digest == 32) t in
        let d = and_parts (is_name r.maildrop && is_deposit_id r.id && is_name r.class && is_counted B.deposits r)
        (nat_le (class_count r.class (receipts_of r.maildrop B.deposits)) most_deposits) c.0 in
        let f = and_parts (is_name r.maildrop && is_deposit_id r.id && is_name r.class) (is_counted B.deposits r) d.0 in
        let g = and_parts (is_name r.maildrop && is_deposit_id r.id) (is_name r.class) f.0 in
        let n = and_parts (nat_lt 0 r.k) (nat_le r.k (class_count r.class (receipts_of r.maildrop B.deposits))) f.1 in
        small m (ap is_name class ∙ g.1)
        (subst (λ x. x ≤ most_deposits) (sym k) (le_trans (leb-true r.k (class_count r.class (receipts_of r.maildrop B.deposits)) n.1)
        (leb-true (class_count r.class (receipts_of r.maildrop B.deposits)) most_deposits d.1)))
        o

small_step : (B : Records) (G : List Entry) (a : Act) (t : Tag) (s : Said) → s ≡ said_to B G a t → formed_act a ≡ true
    → list_all is_small (arrivals B G) ≡ true → list_all is_small (arrivals_after a s (arrivals B G)) ≡ true
small_step B G (Deposit d class id text) t (Answers (New uid)) e f h =
    let p = taken B G d class id text t uid e in
    let n = p.number in
    let k : uid.k ≤ most_deposits = let l = p.few in omega arith in
    rw (list_all-append is_small (arrivals B G) (message_for d class (kept_form text) uid.k ∷ []), h, small (message_for d class (kept_form text) uid.k) f k p.size) refl
small_step B G _ t s e f h = h

pub arrivals_small : (B : Records) → IsSound B → (H : List (Act × Tag)) → all_formed H ≡ true → list_all is_small (arrivals B (told B H)) ≡ true
arrivals_small B s [] f = all_if (is_sound_message B) is_small B.messages (λ m i h. small_message B s m h) s.messages
arrivals_small B s ((a, t) ∷ H) f =
    let p = and_parts (formed_act a) (all_formed H) f in
    small_step B (told B H) a t (said_to B (told B H) a t) refl p.0 (arrivals_small B s H p.1)

-- ---- how many are present

fewer : (o : Option ℕ) (chosen : ℕ → List Message) (rs xs : List Message) → length (without xs (removed_after o chosen rs)) ≤ length (without xs rs)
fewer None chosen rs xs = le_refl (length (without xs rs))
fewer (Some c) chosen rs xs = rw (without_more xs rs (chosen c)) (filter_fits (λ (m : Message). not (list_any (same_message m) (chosen c))) (without xs rs))

one_more : (d : List ℕ) (m : Message) (rs xs : List Message) (most : ℕ) → length (without (in_maildrop d xs) rs) ≤ most
    → (bytes_eq m.maildrop d ≡ true → length (without (in_maildrop d xs) rs) < most) → length (without (in_maildrop d (xs ++ m ∷ [])) rs) ≤ most
one_more d m rs xs most h room =
    rw (filter-append (λ (x : Message). bytes_eq x.maildrop d) xs (m ∷ []), filter-append (λ (x : Message). not (list_any (same_message x) rs)) (in_maildrop d xs) (in_maildrop d (m ∷ [])))
    (at (bytes_eq m.maildrop d) refl (not (list_any (same_message m) rs)) refl)
  where
    at : (b : Bool) → bytes_eq m.maildrop d ≡ b → (c : Bool) → not (list_any (same_message m) rs) ≡ c
        → length (without (in_maildrop d xs) rs ++ without (cond b (m ∷ []) []) rs) ≤ most
    at false e c g = let l = length-append (without (in_maildrop d xs) rs) [] in omega arith
    at true e true g = let r = room e in let l = length-append (without (in_maildrop d xs) rs) (m ∷ []) in rw g (omega arith)
    at true e false g = let l = length-append (without (in_maildrop d xs) rs) [] in rw g (omega arith)

fits_step : (B : Records) (G : List Entry) (a : Act) (t : Tag) (s : Said) (d : List ℕ) → s ≡ said_to B G a t → length (present B G d) ≤ most_messages
    → length (without (in_maildrop d (arrivals_after a s (arrivals B G))) (removed B G)) ≤ most_messages
fits_step B G (Deposit d' class id text) t (Answers (New uid)) d e h =
    one_more d (message_for d' class (kept_form text) uid.k) (removed B G) (arrivals B G) most_messages h
    (λ k. subst (λ x. length (present B G x) < most_messages) ((bytes_eq-Decides d' d).0 k) (taken B G d' class id text t uid e).room)
fits_step B G _ t s d e h = h

pub present_fits : (B : Records) → IsSound B → (H : List (Act × Tag)) (d : List ℕ) → length (present B (told B H) d) ≤ most_messages
present_fits B s [] d = rw (without_none (in_maildrop d B.messages)) (s.messages_fit d)
present_fits B s ((a, t) ∷ H) d =
    le_trans
    (fewer (quits a t) (λ c. removed_by (in_session (told B H) c) (λ (name : LoginName). to_remove class_of (in_force B (told B H)) name (marks (told B H) c) (view B (told B H) c)))
    (removed B (told B H)) (in_maildrop d (arrivals_after a (said_to B (told B H) a t) (arrivals B (told B H)))))
    (fits_step B (told B H) a t (said_to B (told B H) a t) d refl (present_fits B s H d))

-- ---- views

abbrev pub IsSmallView : List Message → Type 0
IsSmallView ms = (list_all is_small ms ≡ true) × (length ms ≤ most_messages)

pub in_small : (B : Records) (G : List Entry) (policy : Policy) (name : LoginName) → list_all is_small (arrivals B G) ≡ true
    → length (present B G name.maildrop) ≤ most_messages → IsSmallView (visible class_of policy name (present B G name.maildrop))
in_small B G policy name h k = (
  all_filter is_small (λ (m : Message). may_read policy name m.class) (present B G name.maildrop)
      (all_filter is_small (λ (m : Message). not (list_any (same_message m) (removed B G))) (in_maildrop name.maildrop (arrivals B G))
      (all_filter is_small (λ (m : Message). bytes_eq m.maildrop name.maildrop) (arrivals B G) h)),
  le_trans (filter_fits (λ (m : Message). may_read policy name m.class) (present B G name.maildrop)) k,
)

view_step : (o : Option LoginName) (found : LoginName → List Message) (before : List Message) → ((name : LoginName) → IsSmallView (found name)) → IsSmallView before
    → IsSmallView (view_after o found before)
view_step None found before f h = h
view_step (Some name) found before f h = f name

pub views_small : (B : Records) → IsSound B → (H : List (Act × Tag)) → all_formed H ≡ true → (c : ℕ) → IsSmallView (view B (told B H) c)
views_small B s [] f c = (refl, leb-true 0 most_messages refl)
views_small B s ((a, t) ∷ H) f c =
    let p = and_parts (formed_act a) (all_formed H) f in
    view_step (login_by a (said_to B (told B H) a t) c (user (told B H) c))
    (λ (name : LoginName). visible class_of (in_force B (told B H)) name (present B (told B H) name.maildrop)) (view B (told B H) c)
    (λ name. in_small B (told B H) (in_force B (told B H)) name (arrivals_small B s H p.1) (present_fits B s H name.maildrop))
    (views_small B s H p.1 c)

-- ---- the policy, and the boot number

policy_step : (a : Act) (t : Tag) (p : Policy) → formed_act a ≡ true → is_sound_policy p ≡ true → is_sound_policy (policy_after a t p) ≡ true
policy_step (Administer (SetPolicy policy)) Done p f h = f
policy_step _ _ p f h = h

pub policies_sound : (B : Records) → IsSound B → (H : List (Act × Tag)) → all_formed H ≡ true → is_sound_policy (in_force B (told B H)) ≡ true
policies_sound B s [] f = s.policy
policies_sound B s ((a, t) ∷ H) f =
    let p = and_parts (formed_act a) (all_formed H) f in
    policy_step a t (in_force B (told B H)) p.0 (policies_sound B s H p.1)

abbrev pub IsBoot : ℕ × List ℕ × Removals → Type 0
IsBoot x = (x.0 < 2 ^ 64) × (length x.1 ≤ 64)

boot_step : (a : Act) (before : ℕ × List ℕ × Removals) → formed_act a ≡ true → IsBoot before → IsBoot (setting_after a before)
boot_step (Restart boot host removals) before f h =
    let p = and_parts (is_u64 boot) (nat_le (length host) 64) f in
    (ltb-true boot (2 ^ 64) p.0, leb-true (length host) 64 p.1)
boot_step _ before f h = h

pub boots_small : (B : Records) (H : List (Act × Tag)) → all_formed H ≡ true → IsBoot (setting (told B H))
boots_small B [] f = (ltb-true 0 (2 ^ 64) refl, leb-true 0 64 refl)
boots_small B ((a, t) ∷ H) f =
    let p = and_parts (formed_act a) (all_formed H) f in
    boot_step a (setting (told B H)) p.0 (boots_small B H p.1)
