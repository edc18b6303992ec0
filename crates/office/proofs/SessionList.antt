-- The sessions, as they are kept and as a history has them.
use Rattle.std.proofs.Common.{◌≡◌, ℕ, ◌+◌, ◌<◌, ◌≤◌, ◌==◌, ◌||◌, Bool, true, false, List, [], ◌∷◌, map, refl, sym, ◌∙◌, ap, ap₂, subst, ⊎_elim, arith, eqb-true, true≢false, Option}
use Rattle.std.proofs.Common.{Some, None, cond, nat_cmp, nat_lt}
use Rattle.std.specs.Prelude.{⊤}
use Rattle.std.proofs.lemmas.Bool.{cases_Bool, cases_eq}
use Rattle.std.proofs.lemmas.Bool.Decides.{nat_tests}
use Rattle.std.proofs.lemmas.Slice.Eq.{bytes_eq-Decides}
use Rattle.std.specs.List.{AllByRecursion, filter_map, list_any, cons_option}
use Rattle.std.specs.List.Sorted.{IsStrictlySortedBy}
use Rattle.std.specs.Str.{bytes_eq}
use Rattle.std.specs.Map.{lookup, keys_of}
use Rattle.std.specs.BTreeMap.{is_at, IsOrdered}
use Rattle.std.specs.declared.cmp.Ordering.TheVariants.{Less}
use Rattle.creds.specs.declared.login_name.LoginName.{LoginName}
use Rattle.vault.specs.Records.{Records}
use Rattle.vault.specs.Changes.{Contents}
use Rattle.session.specs.Session.{Session}
use Rattle.office.specs.History.{Act, Open, Line, Gone, Idle, Deposit, Administer, Restart, Tag, Done, Entry}
use Rattle.office.specs.Connections.{heard, heard_after, put_number}
use Rattle.office.specs.Sessions.{live, login, in_session, when_live, holds}
use Rattle.office.specs.Told.{told, session_row, sessions}
use Rattle.office.specs.Answers.{ListSessions}
use Rattle.office.specs.Answers as answer
use Rattle.office.specs.Events.{Event, Trace}
use Rattle.office.specs.Events as event
use Rattle.office.specs.Outcomes as outcome
use Rattle.office.specs.Trace.{acts, history}
use Rattle.office.specs.Kept.{Kept}
use Rattle.office.specs.InSession.{name_of, name_at, kept_row}
use Rattle.office.specs.Stands.{Seen, seen, IsSession, IsKeptFor, Keeps, StandsFor}
use Rattle.office.specs.declared.office.Office.{Office}
use Rattle.office.proofs.Laws.{held_heard}
use Rattle.office.proofs.Quiet.{Became, done, lacked, keeps_same}
use Rattle.office.proofs.SmallLemmas.{nat_lt-true, less_than, not_above, not_below, at_itself, no_some}

-- ---- entries whose numbers ascend

-- numbers ascend from one on
abbrev Ascends : ℕ → List ℕ → Type 0
Ascends a [] = ⊤
Ascends a (k ∷ ks) = (a ≤ k) × Ascends (k + 1) ks

from_below : (a b : ℕ) (ks : List ℕ) → a ≤ b → Ascends b ks → Ascends a ks
from_below a b [] h up = tt
from_below a b (k ∷ ks) h up = (omega (arith, h, up.0), up.1)

ascends_behind : (k : ℕ) (ks : List ℕ) → AllByRecursion (λ y. nat_cmp k y ≡ Less) ks → IsStrictlySortedBy nat_cmp ks → Ascends (k + 1) ks
unfolding IsStrictlySortedBy
ascends_behind k [] all sorted = tt
ascends_behind k (q ∷ ks) all sorted = (let h = less_than k q all.0 in omega (arith, h), ascends_behind q ks sorted.0 sorted.1)

-- strictly sorted numbers ascend
ascends : (ks : List ℕ) → IsStrictlySortedBy nat_cmp ks → Ascends 0 ks
unfolding IsStrictlySortedBy
ascends [] sorted = tt
ascends (k ∷ ks) sorted = (omega arith, ascends_behind k ks sorted.0 sorted.1)

not_more : (a b : ℕ) → nat_lt a b ≡ false → b ≤ a
not_more a b h = grind (arith, nat_tests, h)

unlike : (a b : ℕ) → (a == b) ≡ false → a ≡ b → ⊥
unlike a b h e = grind (arith, nat_tests, h, e)

at_number : (c k : ℕ) → is_at (nat_cmp c) k ≡ (k == c)
at_number c k = grind (arith, nat_tests)

-- what is found by a number
abbrev found : {X : Type 0} → ℕ → List (ℕ × X) → Option X
found c es = lookup (is_at (nat_cmp c)) es

-- nothing stands below the numbers
none_below : {X : Type 0} (c b : ℕ) (es : List (ℕ × X)) → c < b → Ascends b (keys_of es) → found c es ≡ None
none_below c b [] h up = refl
none_below c b ((k, v) ∷ es) h up = rw (not_above c k (omega (arith, h, up.0))) (none_below c (k + 1) es (omega (arith, h, up.0)) up.1)

found_first : {X : Type 0} (k : ℕ) (v : X) (es : List (ℕ × X)) → found k ((k, v) ∷ es) ≡ Some v
found_first k v es = rw (at_itself k) refl

found_behind : {X : Type 0} (c k : ℕ) (v : X) (es : List (ℕ × X)) → k < c → found c ((k, v) ∷ es) ≡ found c es
found_behind c k v es h = rw (not_below c k h) refl

-- entries that ascend are fixed by what is found in them
same_entries : {X : Type 0} (a : ℕ) (es fs : List (ℕ × X)) → Ascends a (keys_of es) → Ascends a (keys_of fs) → ((c : ℕ) → found c es ≡ found c fs) → es ≡ fs
same_entries a [] [] up to same = refl
same_entries a [] ((q, w) ∷ fs) up to same = absurd (no_some w (same q ∙ found_first q w fs))
same_entries a ((k, v) ∷ es) [] up to same = absurd (no_some v (sym (same k) ∙ found_first k v es))
same_entries {X} a ((k, v) ∷ es) ((q, w) ∷ fs) up to same = ⊎_elim
    (λ (e : k ≡ q). alike e (λ low rest. same_entries (k + 1) es fs up.1 low rest))
    (λ (ne : k ≡ q → ⊥). ⊎_elim (λ h. absurd (missing (nat_lt-true k q h))) (λ h. absurd (added (omega (arith, not_more k q h, ne)))) (cases_Bool (nat_lt k q)))
    (cases_eq k q)
  where
    missing : k < q → ⊥
    missing h = no_some v (sym (none_below k (k + 1) ((q, w) ∷ fs) (omega arith) (omega (arith, h), to.1)) ∙ (sym (same k) ∙ found_first k v es))

    added : q < k → ⊥
    added h = no_some w (sym (none_below q (q + 1) ((k, v) ∷ es) (omega arith) (omega (arith, h), up.1)) ∙ (same q ∙ found_first q w fs))

    behind : k ≡ q → (c : ℕ) → found c es ≡ found c fs
    behind e c = ⊎_elim
        (λ (h : nat_lt k c ≡ true).
        let more = nat_lt-true k c h in
        sym (found_behind c k v es more) ∙ (same c ∙ found_behind c q w fs (omega (arith, more, e))))
        (λ (h : nat_lt k c ≡ false).
        let less = not_more k c h in
        none_below c (k + 1) es (omega (arith, less)) up.1 ∙ sym (none_below c (q + 1) fs (omega (arith, less, e)) to.1))
        (cases_Bool (nat_lt k c))

    alike : k ≡ q → (Ascends (k + 1) (keys_of fs) → ((c : ℕ) → found c es ≡ found c fs) → es ≡ fs) → (k, v) ∷ es ≡ (q, w) ∷ fs
    alike e more =
        let first : Some v ≡ Some w = sym (found_first k v es) ∙ (same k ∙ subst (λ m. found m ((q, w) ∷ fs) ≡ Some w) (sym e) (found_first q w fs)) in
        let value : v ≡ w = cc in
        let rest : es ≡ fs = more (rw e to.1) (behind e) in
        rw (e, value, rest) refl

-- ---- rows

-- entries with whom they name
module _ {X : Type 0} (name : X → Option LoginName) where
  abbrev row : ℕ × X → Option (ℕ × LoginName)
  row e = session_row e.0 (name e.1)

  abbrev rows : List (ℕ × X) → List (ℕ × LoginName)
  rows es = filter_map row es

  abbrev named : Option X → Option LoginName
  named None = None
  named (Some x) = name x

  rows_ascend : (a : ℕ) (es : List (ℕ × X)) → Ascends a (keys_of es) → Ascends a (keys_of (rows es))
  rows_ascend a [] up = tt
  rows_ascend a ((k, x) ∷ es) up = at (name x) refl (rows_ascend (k + 1) es up.1)
    where
      at : (o : Option LoginName) → name x ≡ o → Ascends (k + 1) (keys_of (rows es)) → Ascends a (keys_of (rows ((k, x) ∷ es)))
      at None e h = rw e (from_below a (k + 1) (keys_of (rows es)) (omega (arith, up.0)) h)
      at (Some n) e h = rw e (up.0, h)

  found_row : (a : ℕ) (es : List (ℕ × X)) (c : ℕ) → Ascends a (keys_of es) → found c (rows es) ≡ named (found c es)
  found_row a [] c up = refl
  found_row a ((k, x) ∷ es) c up = at (name x) refl (is_at (nat_cmp c) k) refl (found_row (k + 1) es c up.1)
    where
      none : is_at (nat_cmp c) k ≡ true → found c (rows es) ≡ None
      none e = none_below c (k + 1) (rows es) (omega (arith, eqb-true k c (sym (at_number c k) ∙ e))) (rows_ascend (k + 1) es up.1)

      at : (o : Option LoginName) → name x ≡ o → (b : Bool) → is_at (nat_cmp c) k ≡ b → found c (rows es) ≡ named (found c es)
          → found c (rows ((k, x) ∷ es)) ≡ named (found c ((k, x) ∷ es))
      at None e true f h = rw (e, f) (none f ∙ sym e)
      at None e false f h = rw (e, f) h
      at (Some n) e true f h = rw (e, f) (sym e)
      at (Some n) e false f h = rw (e, f) h

-- ---- numbers that were heard

put_ascends : (n a : ℕ) (xs : List ℕ) → a ≤ n → Ascends a xs → Ascends a (put_number n xs)
put_ascends n a [] h up = (h, tt)
put_ascends n a (x ∷ xs) h up = at (n == x) refl (nat_lt n x) refl (λ low. put_ascends n (x + 1) xs low up.1)
  where
    at : (same : Bool) → (n == x) ≡ same → (less : Bool) → nat_lt n x ≡ less → (x + 1 ≤ n → Ascends (x + 1) (put_number n xs))
        → Ascends a (cond same (x ∷ xs) (cond less (n ∷ x ∷ xs) (x ∷ put_number n xs)))
    at true e less f rest = up
    at false e true f rest = (h, (let less = nat_lt-true n x f in omega (arith, less), up.1))
    at false e false f rest = (up.0, rest (let more = not_more n x f in let ne = unlike n x e in omega (arith, more, ne)))

after_ascends : (a : Act) (xs : List ℕ) → Ascends 0 xs → Ascends 0 (heard_after a xs)
after_ascends (Line n x) xs h = put_ascends n 0 xs (omega arith) h
after_ascends (Open n) xs h = h
after_ascends (Gone n) xs h = h
after_ascends (Idle n) xs h = h
after_ascends (Deposit a b i x) xs h = h
after_ascends (Administer a) xs h = h
after_ascends (Restart b h' r) xs h = h

heard_ascends : (G : List Entry) → Ascends 0 (heard G)
heard_ascends [] = tt
heard_ascends (e ∷ G) = after_ascends e.act (heard G) (heard_ascends G)

-- numbers with what a function gives of them
module _ {X : Type 0} (f : ℕ → X) where
  abbrev paired : List ℕ → List (ℕ × X)
  paired xs = map (λ c. (c, f c)) xs

  keys_paired : (xs : List ℕ) → keys_of (paired xs) ≡ xs
  keys_paired [] = refl
  keys_paired (x ∷ xs) = ap (λ ks. x ∷ ks) (keys_paired xs)

  found_paired : (xs : List ℕ) (c : ℕ) → found c (paired xs) ≡ cond (list_any (λ n. n == c) xs) (Some (f c)) None
  found_paired [] c = refl
  found_paired (x ∷ xs) c = at (x == c) refl (found_paired xs c)
    where
      at : (b : Bool) → (x == c) ≡ b → found c (paired xs) ≡ cond (list_any (λ n. n == c) xs) (Some (f c)) None
          → cond (is_at (nat_cmp c) x) (Some (f x)) (found c (paired xs)) ≡ cond (b || list_any (λ n. n == c) xs) (Some (f c)) None
      at true e h = let here = at_number c x ∙ e in rw here (ap (λ k. Some (f k)) (eqb-true x c e))
      at false e h = let here = at_number c x ∙ e in rw here h

same_rows : (f : ℕ → Option LoginName) (xs : List ℕ) → rows (λ o. o) (paired f xs) ≡ filter_map (λ c. session_row c (f c)) xs
same_rows f [] = refl
same_rows f (x ∷ xs) = at (session_row x (f x)) (same_rows f xs)
  where
    at : (o : Option (ℕ × LoginName)) → rows (λ o. o) (paired f xs) ≡ filter_map (λ c. session_row c (f c)) xs
        → cons_option o (rows (λ o. o) (paired f xs)) ≡ cons_option o (filter_map (λ c. session_row c (f c)) xs)
    at o h = ap (λ ys. cons_option o ys) h

-- ---- who is in session

named_in : (c : Contents) (s : Seen) (o : Option Session) → IsSession c s o → name_of o ≡ when_live s.live s.login
named_in c s None i = sym (ap (λ b. when_live b s.login) i)
named_in c s (Some k) i = sym (ap₂ when_live i.live i.login)

named_at : (c : Contents) (s : Seen) (o : Option Kept) → IsKeptFor c s o → name_at o ≡ when_live s.live s.login
named_at c s None h = sym (ap (λ b. when_live b s.login) h.authorization)
named_at c s (Some k) m = named_in c s k.session m.session

module _ (B : Records) (H : List (Act × Tag)) (c : ℕ) where
  -- who is in session gave a line
  unheard : list_any (λ n. n == c) (heard (told B H)) ≡ false → in_session (told B H) c ≡ None
  unheard h = at (live (told B H) c) refl (login (told B H) c) refl
    where
      at : (b : Bool) → live (told B H) c ≡ b → (o : Option LoginName) → login (told B H) c ≡ o → when_live b o ≡ None
      at false e o f = refl
      at true e None f = refl
      at true e (Some name) f =
          let own : bytes_eq name.maildrop name.maildrop ≡ true = (bytes_eq-Decides name.maildrop name.maildrop).1 refl in
          let held : holds (told B H) name.maildrop c ≡ true = rw (e, f) own in
          absurd (true≢false (sym (held_heard B H name.maildrop c held) ∙ h))

  abbrev who : ℕ → Option LoginName
  who q = in_session (told B H) q

  found_heard : named (λ o. o) (found c (paired who (heard (told B H)))) ≡ in_session (told B H) c
  found_heard = at (list_any (λ n. n == c) (heard (told B H))) refl
    where
      at : (b : Bool) → list_any (λ n. n == c) (heard (told B H)) ≡ b → named (λ o. o) (found c (paired who (heard (told B H)))) ≡ in_session (told B H) c
      at true e =
          let there : found c (paired who (heard (told B H))) ≡ Some (who c) = found_paired who (heard (told B H)) c ∙ ap (λ b. cond b (Some (who c)) None) e in
          ap (named (λ o. o)) there
      at false e =
          let none : found c (paired who (heard (told B H))) ≡ None = found_paired who (heard (told B H)) c ∙ ap (λ b. cond b (Some (who c)) None) e in
          ap (named (λ o. o)) none ∙ sym (unheard e)

named_kept : (o : Option Kept) → named (λ (k : Kept). name_of k.session) o ≡ name_at o
named_kept None = refl
named_kept (Some k) = refl

-- the rows of what is kept are the sessions of the trace
pub kept_sessions : {V : Type 0} (Holds : V → Contents → Type 0) (o : Office V) (T : Trace) → StandsFor Holds o T → IsOrdered nat_cmp o.connections
    → filter_map kept_row o.connections.entries ≡ sessions (history T)
kept_sessions Holds o T st ordered =
    let es = o.connections.entries in
    let by_key : Ascends 0 (keys_of es) = ascends (keys_of es) ordered in
    let fs : List (ℕ × Option LoginName) = paired (in_session (history T)) (heard (history T)) in
    let by_number : Ascends 0 (keys_of fs) = subst (Ascends 0) (sym (keys_paired (in_session (history T)) (heard (history T)))) (heard_ascends (history T)) in
    same_entries 0 (rows (λ (k : Kept). name_of k.session) es) (rows (λ n. n) fs)
    (rows_ascend (λ (k : Kept). name_of k.session) 0 es by_key)
    (rows_ascend (λ n. n) 0 fs by_number)
    (λ c. found_row (λ (k : Kept). name_of k.session) 0 es c by_key
    ∙ (named_kept (found c es)
    ∙ (named_at st.keeps.contents (seen T c) (found c es) (st.connections c)
    ∙ (sym (found_heard T.base (acts T) c) ∙ sym (found_row (λ n. n) 0 fs c by_number)))))
    ∙ same_rows (in_session (history T)) (heard (history T))

-- ---- the command

module _ (T : Trace) {Held : Contents → Type 0} (k : Keeps Held T) (grown : Bool) where
  abbrev list_command : Event
  list_command = event.Admin ListSessions

  pub sessions_listed : (rows : List (ℕ × LoginName)) → rows ≡ sessions (history T) → Became Held k.contents T list_command grown (outcome.Answered (answer.Sessions rows))
  sessions_listed rows e = done T list_command grown (outcome.Answered (answer.Sessions rows)) (ap (λ r. outcome.Answered (answer.Sessions r)) e) (keeps_same T list_command Done k k.held refl refl)

  pub list_lacked : Became Held k.contents T list_command grown outcome.NoMemory
  list_lacked = lacked T list_command grown tt refl k k.held
