-- A live session's view stays present.
use Rattle.std.specs.Prelude.{◌≡◌, ℕ, ◌+◌, Bool, true, false, not, ◌&&◌, ◌==◌, List, [], ◌∷◌, ◌++◌, Option, Some, None, Result, Ok, if◌then◌else◌, cond, ◌⊎◌, filter, map}
use Rattle.std.proofs.Common.{refl, sym, ◌∙◌, ap, eq-eqb, ⊎_elim, inl, inr, subst, true≢false}
use Rattle.std.proofs.lemmas.Bool.{cases_Bool, and_parts, or_from, or_parts}
use Rattle.std.proofs.lemmas.Slice.Eq.{bytes_eq-Decides}
use Rattle.std.specs.List.{list_any}
use Rattle.std.specs.Str.{bytes_eq}
use Rattle.mailtext.specs.Text.{kept_form}
use Rattle.creds.specs.declared.login_name.LoginName.{LoginName}
use Rattle.popline.specs.Commands.{Command, Pass, Apop}
use Rattle.popline.specs.declared.command.LineFault.{LineFault}
use Rattle.policy.specs.Policy.{Policy}
use Rattle.vault.specs.Records.{Records, class_of, same_message, in_maildrop}
use Rattle.vault.specs.declared.record.Message.{Message}
use Rattle.session.specs.View.{visible, may_read, to_remove, marked, numbered, numbered_from, may_remove, is_marked}
use Rattle.office.specs.Answers.{New}
use Rattle.office.specs.History.{Entry, Act, Tag, Said, Answers, Line, Open, Gone, Idle, Deposit, Administer, Restart, is_done, arrivals, arrivals_after, in_force}
use Rattle.office.specs.Sessions.{live, login, login_after, login_by, logs_in, quits, quits_if, removed, removed_after, removed_by, view, marks, ends_session, present, holds}
use Rattle.office.specs.Sessions.{is_login_to, in_session, when_live}
use Rattle.office.specs.Connections.{user, reading, is_quit, opens}
use Rattle.office.specs.Told.{told, said_to}
use Rattle.office.specs.Laws.{In, ViewStaysPresent}
use Rattle.office.proofs.Laws.{one_holder, live_side, no_opening}
use Rattle.office.proofs.SmallLemmas.{no_some}
use Rattle.vault.proofs.ListLemmas.{not_true, not_false}

in_filter_at : {A : Type 0} (p : A → Bool) (y : A) (ys fs : List A) (x : A) (b : Bool) → p y ≡ b → (In x fs → In x ys × (p x ≡ true)) → In x (cond b (y ∷ fs) fs) → In x (y ∷ ys) × (p x ≡ true)
in_filter_at p y ys fs x true f rest h = ⊎_elim (λ e. (inl e, ap p e ∙ f)) (λ k. let r = rest k in (inr r.0, r.1)) h
in_filter_at p y ys fs x false f rest h = let r = rest h in (inr r.0, r.1)

pub in_filter : {A : Type 0} (p : A → Bool) (xs : List A) (x : A) → In x (filter p xs) → In x xs × (p x ≡ true)
in_filter p [] x h = absurd h
in_filter p (y ∷ ys) x h = in_filter_at p y ys (filter p ys) x (p y) refl (in_filter p ys x) h

filter_at : {A : Type 0} (p : A → Bool) (y : A) (fs : List A) (x : A) (b : Bool) → p y ≡ b → p x ≡ true → ((x ≡ y) ⊎ In x fs) → In x (cond b (y ∷ fs) fs)
filter_at p y fs x true f t h = h
filter_at p y fs x false f t h = ⊎_elim (λ e. absurd (true≢false (sym t ∙ (ap p e ∙ f)))) (λ k. k) h

pub filter_in : {A : Type 0} (p : A → Bool) (xs : List A) (x : A) → In x xs → p x ≡ true → In x (filter p xs)
filter_in p [] x h t = absurd h
filter_in p (y ∷ ys) x h t = filter_at p y (filter p ys) x (p y) refl t (⊎_elim (λ e. inl e) (λ k. inr (filter_in p ys x k t)) h)

pub in_front : {A : Type 0} (xs ys : List A) (x : A) → In x xs → In x (xs ++ ys)
in_front [] ys x h = absurd h
in_front (z ∷ zs) ys x h = ⊎_elim (λ e. inl e) (λ k. inr (in_front zs ys x k)) h

pub any_false : {A : Type 0} (p : A → Bool) (xs : List A) → ((x : A) → In x xs → p x ≡ true → ⊥) → list_any p xs ≡ false
any_false p [] h = refl
any_false p (x ∷ xs) h = or_from (p x) (list_any p xs) (⊎_elim (λ t. absurd (h x (inl refl) t)) (λ f. f) (cases_Bool (p x))) (any_false p xs (λ y k. h y (inr k)))

any_append : {A : Type 0} (p : A → Bool) (xs ys : List A) → list_any p xs ≡ false → list_any p ys ≡ false → list_any p (xs ++ ys) ≡ false
any_append p [] ys h k = k
any_append p (x ∷ xs) ys h k = let r = or_parts (p x) (list_any p xs) h in or_from (p x) (list_any p (xs ++ ys)) r.0 (any_append p xs ys r.1 k)

in_numbered : (n : ℕ) (ms : List Message) (row : ℕ × Message) → In row (numbered_from n ms) → In row.1 ms
in_numbered n [] row h = absurd h
in_numbered n (m ∷ ms) row h = ⊎_elim (λ e. inl (ap (λ (r : ℕ × Message). r.1) e)) (λ k. inr (in_numbered (n + 1) ms row k)) h

in_map : (rows : List (ℕ × Message)) (m : Message) → In m (map (λ row. row.1) rows) → (row : ℕ × Message) × In row rows × (m ≡ row.1)
in_map [] m h = absurd h
in_map (r ∷ rs) m h = ⊎_elim (λ e. (r, inl refl, e)) (λ k. let p = in_map rs m k in (p.0, inr p.1, p.2)) h

-- what is removed was in the view
pub removed_seen : (policy : Policy) (name : LoginName) (ks : List ℕ) (ms : List Message) (m : Message) → In m (to_remove class_of policy name ks ms) → In m ms
removed_seen policy name ks ms m h =
    let a = in_filter (λ (x : Message). may_remove policy name x.class) (map (λ row. row.1) (marked ks ms)) m h in
    let b = in_map (marked ks ms) m a.0 in
    let c = in_filter (λ (row : ℕ × Message). is_marked ks row.0) (numbered ms) b.0 b.1 in
    subst (λ x. In x ms) (sym b.2) (in_numbered 1 ms b.0 c.0)

-- what arrived stays
pub arrivals_stay : (a : Act) (s : Said) (ms : List Message) (m : Message) → In m ms → In m (arrivals_after a s ms)
arrivals_stay (Deposit d class id text) (Answers (New uid)) ms m h = in_front ms (record { maildrop = d; class = class; k = uid.k; text = kept_form text } ∷ []) m h
arrivals_stay _ s ms m h = h

-- a line that logs in doesn't quit
no_quit : (r : Result Command LineFault) (s : Said) (u : Option LoginName) (name : LoginName) → logs_in r s u ≡ Some name → is_quit r ≡ false
no_quit (Ok (Pass p)) s u name e = refl
no_quit (Ok (Apop who d)) s u name e = refl
no_quit _ s u name e = absurd (no_some name e)

quits_at : (n : ℕ) (b t : Bool) → b ≡ false → quits_if (b && t) n ≡ None
quits_at n true t e = absurd (true≢false e)
quits_at n false t e = refl

when_some : (b : Bool) (o : Option LoginName) (name : LoginName) → (if b then o else None) ≡ Some name → o ≡ Some name
when_some true o name e = e
when_some false o name e = absurd (no_some name e)

login_quits : (a : Act) (t : Tag) (s : Said) (c : ℕ) (u : Option LoginName) (name : LoginName) → login_by a s c u ≡ Some name → quits a t ≡ None
login_quits (Line n x) t s c u name e = quits_at n (is_quit (reading x)) (is_done t) (no_quit (reading x) s u name (when_some (n == c) (logs_in (reading x) s u) name e))
login_quits (Open n) t s c u name e = refl
login_quits (Gone n) t s c u name e = refl
login_quits (Idle n) t s c u name e = refl
login_quits (Deposit a b i x) t s c u name e = refl
login_quits (Administer a) t s c u name e = refl
login_quits (Restart b h r) t s c u name e = refl

quit_at : (n : ℕ) (b t : Bool) (q : ℕ) → quits_if (b && t) n ≡ Some q → (b ≡ true) × (n ≡ q)
quit_at n true true q e = (refl, cc)
quit_at n true false q e = absurd (no_some q e)
quit_at n false t q e = absurd (no_some q e)

-- a line that quits ends its session
quit_ends : (a : Act) (t : Tag) (s : Said) (q : ℕ) → quits a t ≡ Some q → ends_session a t s q ≡ true
quit_ends (Line n x) t s q e =
    let h = quit_at n (is_quit (reading x)) (is_done t) q e in
    rw (h.0, eq-eqb n q h.1) refl
quit_ends (Open n) t s q e = absurd (no_some q e)
quit_ends (Gone n) t s q e = absurd (no_some q e)
quit_ends (Idle n) t s q e = absurd (no_some q e)
quit_ends (Deposit a b i x) t s q e = absurd (no_some q e)
quit_ends (Administer a) t s q e = absurd (no_some q e)
quit_ends (Restart b h r) t s q e = absurd (no_some q e)

-- a message arrived in a maildrop and wasn't removed
pub record IsThere (B : Records) (G : List Entry) (d : List ℕ) (m : Message) : Type 0 where
  pub came : In m (arrivals B G)
  pub within : m.maildrop ≡ d
  pub left : list_any (same_message m) (removed B G) ≡ false

present_in : (B : Records) (G : List Entry) (d : List ℕ) (m : Message) → In m (present B G d) → IsThere B G d m
present_in B G d m h =
    let a = in_filter (λ (x : Message). not (list_any (same_message x) (removed B G))) (in_maildrop d (arrivals B G)) m h in
    let b = in_filter (λ (x : Message). bytes_eq x.maildrop d) (arrivals B G) m a.0 in
    record { came = b.0; within = (bytes_eq-Decides m.maildrop d).0 b.1; left = not_true (list_any (same_message m) (removed B G)) a.1 }

in_present : (B : Records) (G : List Entry) (d : List ℕ) (m : Message) → IsThere B G d m → In m (present B G d)
in_present B G d m p =
    filter_in (λ (x : Message). not (list_any (same_message x) (removed B G))) (in_maildrop d (arrivals B G)) m
    (filter_in (λ (x : Message). bytes_eq x.maildrop d) (arrivals B G) m p.came ((bytes_eq-Decides m.maildrop d).1 p.within))
    (not_false (list_any (same_message m) (removed B G)) p.left)

visible_in : (B : Records) (G : List Entry) (policy : Policy) (name : LoginName) (m : Message) → In m (visible class_of policy name (present B G name.maildrop)) → IsThere B G name.maildrop m
visible_in B G policy name m h = present_in B G name.maildrop m (in_filter (λ (x : Message). may_read policy name x.class) (present B G name.maildrop) m h).0

-- nothing of the message's maildrop is removed by an entry, so long as no other session on it quits by that
removed_rest : (B : Records) (e : Entry) (G : List Entry) (m : Message) → list_any (same_message m) (removed B G) ≡ false
    → ((q : ℕ) (name : LoginName) → quits e.act e.tag ≡ Some q → in_session G q ≡ Some name → (x : Message) → In x (view B G q) → same_message m x ≡ true → ⊥)
    → list_any (same_message m) (removed B (e ∷ G)) ≡ false
removed_rest B e G m h others = at_quit (quits e.act e.tag) refl
  where
    at_session : (q : ℕ) → quits e.act e.tag ≡ Some q → (o : Option LoginName) → in_session G q ≡ o
        → list_any (same_message m) (removed_by o (λ (name : LoginName). to_remove class_of (in_force B G) name (marks G q) (view B G q))) ≡ false
    at_session q eq None f = refl
    at_session q eq (Some name) f =
        any_false (same_message m) (to_remove class_of (in_force B G) name (marks G q) (view B G q))
        (λ x k t. others q name eq f x (removed_seen (in_force B G) name (marks G q) (view B G q) x k) t)

    at_quit : (o : Option ℕ) → quits e.act e.tag ≡ o
        → list_any (same_message m) (removed_after o (λ c. removed_by (in_session G c) (λ (name : LoginName). to_remove class_of (in_force B G) name (marks G c) (view B G c))) (removed B G)) ≡ false
    at_quit None eq = h
    at_quit (Some q) eq =
        any_append (same_message m) (removed B G) (removed_by (in_session G q) (λ (name : LoginName). to_remove class_of (in_force B G) name (marks G q) (view B G q))) h
        (at_session q eq (in_session G q) refl)

same_maildrop : (a b : Message) → same_message a b ≡ true → a.maildrop ≡ b.maildrop
same_maildrop a b h = (bytes_eq-Decides a.maildrop b.maildrop).0
    (and_parts (bytes_eq a.maildrop b.maildrop) (bytes_eq a.class b.class) (and_parts (bytes_eq a.maildrop b.maildrop && bytes_eq a.class b.class) (a.k == b.k) h).0).0

holding : (G : List Entry) (d : List ℕ) (c : ℕ) (name : LoginName) → live G c ≡ true → login G c ≡ Some name → name.maildrop ≡ d → holds G d c ≡ true
holding G d c name l e s =
    let t : is_login_to d (Some name) ≡ true = (bytes_eq-Decides name.maildrop d).1 s in
    rw (l, e, t) refl

abbrev entry : Records → Act → Tag → List (Act × Tag) → Entry
entry B a t H = record { act = a; tag = t; said = said_to B (told B H) a t }

login_came : (o : Option LoginName) (before : Option LoginName) (name : LoginName) → login_after false o before ≡ Some name → (n : LoginName) → o ≡ Some n → n ≡ name
login_came None before name e n f = absurd (no_some n f)
login_came (Some k) before name e n f = cc

session_parts : (b : Bool) (o : Option LoginName) (name : LoginName) → when_live b o ≡ Some name → (b ≡ true) × (o ≡ Some name)
session_parts true o name e = (refl, e)
session_parts false o name e = absurd (no_some name e)

-- the claim, of a front
abbrev Within : Records → List Entry → Type 0
Within B G = (c : ℕ) (name : LoginName) → in_session G c ≡ Some name → (m : Message) → In m (view B G c) → IsThere B G name.maildrop m

module _ (B : Records) (a : Act) (t : Tag) (H : List (Act × Tag)) (before : Within B (told B H)) (c : ℕ) (name : LoginName)
    (l : live (entry B a t H ∷ told B H) c ≡ true) (g : login (entry B a t H ∷ told B H) c ≡ Some name) (m : Message) (h : In m (view B (entry B a t H ∷ told B H) c)) where
  goes_on : (ends_session a t (said_to B (told B H) a t) c ≡ false) × ((login_by a (said_to B (told B H) a t) c (user (told B H) c) ≡ None) → live (told B H) c ≡ true)
  goes_on = live_side (ends_session a t (said_to B (told B H) a t) c) (login_by a (said_to B (told B H) a t) c (user (told B H) c)) (live (told B H) c) l

  not_opened : opens a c ≡ false
  not_opened = no_opening a t (said_to B (told B H) a t) c goes_on.0

  arrived : (n : LoginName) → login_by a (said_to B (told B H) a t) c (user (told B H) c) ≡ Some n → IsThere B (entry B a t H ∷ told B H) name.maildrop m
  arrived n f =
      let g' = rw not_opened at g in
      let same : n ≡ name = login_came (login_by a (said_to B (told B H) a t) c (user (told B H) c)) (login (told B H) c) name g' n f in
      let h' = rw f at h in
      let p = subst (λ (k : LoginName). IsThere B (told B H) k.maildrop m) same (visible_in B (told B H) (in_force B (told B H)) n m h') in
      record {
        came = arrivals_stay a (said_to B (told B H) a t) (arrivals B (told B H)) m p.came;
        within = p.within;
        left = removed_rest B (entry B a t H) (told B H) m p.left (λ q nm eq sq x k e.
            no_some q (sym (login_quits a t (said_to B (told B H) a t) c (user (told B H) c) n f) ∙ eq));
      }

  stayed : login_by a (said_to B (told B H) a t) c (user (told B H) c) ≡ None → IsThere B (entry B a t H ∷ told B H) name.maildrop m
  stayed f =
      let lc = goes_on.1 f in
      let gc : login (told B H) c ≡ Some name = rw (not_opened, f) at g in
      let hc : In m (view B (told B H) c) = rw f at h in
      let sc : in_session (told B H) c ≡ Some name = rw (lc, gc) refl in
      let p = before c name sc m hc in
      record {
        came = arrivals_stay a (said_to B (told B H) a t) (arrivals B (told B H)) m p.came;
        within = p.within;
        left = removed_rest B (entry B a t H) (told B H) m p.left (λ q nm eq sq x k e.
            let px = before q nm sq x k in
            let parts = session_parts (live (told B H) q) (login (told B H) q) nm sq in
            let one : c ≡ q = one_holder B H name.maildrop c q (holding (told B H) name.maildrop c name lc gc refl)
            (holding (told B H) name.maildrop q nm parts.0 parts.1 (sym px.within ∙ (sym (same_maildrop m x e) ∙ p.within))) in
            true≢false (sym (quit_ends a t (said_to B (told B H) a t) q eq) ∙ (ap (λ k. ends_session a t (said_to B (told B H) a t) k) (sym one) ∙ goes_on.0)));
      }

  went_on : (o : Option LoginName) → login_by a (said_to B (told B H) a t) c (user (told B H) c) ≡ o → IsThere B (entry B a t H ∷ told B H) name.maildrop m
  went_on (Some n) f = arrived n f
  went_on None f = stayed f

pub snapshot : (B : Records) (H : List (Act × Tag)) → Within B (told B H)
snapshot B [] c name s m h = absurd h
snapshot B ((a, t) ∷ H) c name s m h =
    let parts = session_parts (live (entry B a t H ∷ told B H) c) (login (entry B a t H ∷ told B H) c) name s in
    went_on B a t H (snapshot B H) c name parts.0 parts.1 m h (login_by a (said_to B (told B H) a t) c (user (told B H) c)) refl

-- A live session's view is part of what its maildrop has, whatever came between.
pub view_stays_present : ViewStaysPresent
view_stays_present B H c name s m h = in_present B (told B H) name.maildrop m (snapshot B H c name s m h)
