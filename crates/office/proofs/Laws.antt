-- A maildrop has at most one holder.
use Rattle.std.specs.Prelude.{◌≡◌, ℕ, Bool, true, false, not, ◌&&◌, ◌||◌, ◌==◌, List, [], ◌∷◌, Option, Some, None, Result, Ok, nat_lt, if◌then◌else◌, cond, is_some, ◌⊎◌, nat_le}
use Rattle.std.proofs.Common.{refl, sym, ◌∙◌, ap, ⊎_elim, inl, inr, eqb-true, eq-eqb, subst, true≢false}
use Rattle.std.proofs.lemmas.Bool.{cases_Bool, and_parts, or_cases, or_left, or_right}
use Rattle.std.proofs.lemmas.Slice.Eq.{bytes_eq-Decides}
use Rattle.std.specs.List.{find, list_any}
use Rattle.creds.specs.declared.login_name.LoginName.{LoginName}
use Rattle.popline.specs.Cutting.{Cut, TooLong}
use Rattle.popline.specs.Cutting as cutting
use Rattle.popline.specs.Commands.{Command, Pass, Apop, command_of}
use Rattle.popline.specs.declared.command.LineFault.{LineFault}
use Rattle.popline.specs.declared.command.Keyword.TheVariants as keyword
use Rattle.popline.specs.Replies.{Reply, MaildropHas, StoreFailed, DeniedBy, NoSuchMaildrop, InUse}
use Rattle.session.specs.View.{visible}
use Rattle.creds.specs.Credential.{Shown, ByPass, ByApop, is_admitted}
use Rattle.vault.specs.Records.{Records, class_of}
use Rattle.office.specs.History.{Entry, Act, Tag, Done, Failed, NoMemory, Said, Says, Silence, Line, Open, Gone, Idle, Deposit, Administer, Restart, credential, in_force, exists}
use Rattle.office.specs.Sessions.{live, login, login_after, login_by, logs_in, ends_session, present, holds, holder, is_login_to}
use Rattle.office.specs.Connections.{user, opens, reading, heard, heard_after, put_number, failures}
use Rattle.office.specs.Told.{told, said_to}
use Rattle.office.specs.Replying.{LineState, InAuthorization, InTransaction, authorization_says, session_says, obeyed, transaction_at, state_at, opening, logging_in, login_failed}
use Rattle.office.specs.Replying.{maildrop_has, reply_to_reading, said_to_line, is_permitted, name_or_nobody, when_permitted, stamp}
use Rattle.office.proofs.SmallLemmas.{no_some}

pub live_side : (ends : Bool) (o : Option LoginName) (before : Bool) → (not ends && (is_some o || before)) ≡ true → (ends ≡ false) × ((o ≡ None) → before ≡ true)
live_side true o before h = absurd (true≢false (sym h))
live_side false None before h = (refl, λ _. h)
live_side false (Some name) before h = (refl, λ e. cc)

-- an opening ends a session
pub no_opening : (a : Act) (t : Tag) (s : Said) (c : ℕ) → ends_session a t s c ≡ false → opens a c ≡ false
no_opening (Open n) t s c h = h
no_opening (Line n x) t s c h = refl
no_opening (Gone n) t s c h = refl
no_opening (Idle n) t s c h = refl
no_opening (Deposit a b i x) t s c h = refl
no_opening (Administer a) t s c h = refl
no_opening (Restart b h' r) t s c h = refl

login_side : (op : Bool) (o : Option LoginName) (before : Option LoginName) (d : List ℕ) → op ≡ false
    → is_login_to d (login_after op o before) ≡ true
    → ((name : LoginName) × (o ≡ Some name) × (is_login_to d (Some name) ≡ true)) ⊎ ((o ≡ None) × (is_login_to d before ≡ true))
login_side true o before d e h = absurd (true≢false e)
login_side false None before d e h = inr (refl, h)
login_side false (Some name) before d e h = inl (name, refl, h)

step : (e : Entry) (G : List Entry) (d : List ℕ) (c : ℕ) → holds (e ∷ G) d c ≡ true
    → ((name : LoginName) × (login_by e.act e.said c (user G c) ≡ Some name) × (is_login_to d (Some name) ≡ true)) ⊎ (holds G d c ≡ true)
step e G d c h =
    let parts = and_parts (live (e ∷ G) c) (is_login_to d (login (e ∷ G) c)) h in
    let lv = live_side (ends_session e.act e.tag e.said c) (login_by e.act e.said c (user G c)) (live G c) parts.0 in
    ⊎_elim
    (λ p. inl p)
    (λ (p : (login_by e.act e.said c (user G c) ≡ None) × (is_login_to d (login G c) ≡ true)). inr (rw (lv.1 p.0) p.1))
    (login_side (opens e.act c) (login_by e.act e.said c (user G c)) (login G c) d (no_opening e.act e.tag e.said c lv.0) parts.1)

silent : (r : Result Command LineFault) (u : Option LoginName) → logs_in r Silence u ≡ None
silent (Ok (Pass p)) u = refl
silent (Ok (Apop n d)) u = refl
silent _ u = refl

-- what a reply has to be that logs in
has_counts : Reply → Bool
has_counts (MaildropHas n m) = true
has_counts _ = false

accepted_pass : (rep : Reply) (p : List ℕ) (u : Option LoginName) (name : LoginName) → logs_in (Ok (Pass p)) (Says rep) u ≡ Some name → (has_counts rep ≡ true) × (u ≡ Some name)
unfolding has_counts
accepted_pass (MaildropHas n m) p u name e = (refl, e)
accepted_pass _ p u name e = absurd (no_some name e)

accepted_apop : (rep : Reply) (who : LoginName) (d : List ℕ) (u : Option LoginName) (name : LoginName) → logs_in (Ok (Apop who d)) (Says rep) u ≡ Some name → (has_counts rep ≡ true) × (who ≡ name)
unfolding has_counts
accepted_apop (MaildropHas n m) who d u name e = (refl, cc)
accepted_apop _ who d u name e = absurd (no_some name e)

failed_counts : (n : ℕ) → has_counts (login_failed n) ≡ false
unfolding has_counts
failed_counts n = ⊎_elim (λ e. rw e refl) (λ e. rw e refl) (cases_Bool (nat_le 2 n))

chosen : (a b c : Bool) (o : Option ℕ) (r1 r2 r3 r4 r5 : Reply) → has_counts r1 ≡ false → has_counts r2 ≡ false → has_counts r3 ≡ false → has_counts r4 ≡ false
    → has_counts (if a then r1 else if b then r2 else if c then r3 else if is_some o then r4 else r5) ≡ true → o ≡ None
chosen true b c o r1 r2 r3 r4 r5 h1 h2 h3 h4 e = absurd (true≢false (sym e ∙ h1))
chosen false true c o r1 r2 r3 r4 r5 h1 h2 h3 h4 e = absurd (true≢false (sym e ∙ h2))
chosen false false true o r1 r2 r3 r4 r5 h1 h2 h3 h4 e = absurd (true≢false (sym e ∙ h3))
chosen false false false None r1 r2 r3 r4 r5 h1 h2 h3 h4 e = refl
chosen false false false (Some x) r1 r2 r3 r4 r5 h1 h2 h3 h4 e = absurd (true≢false (sym e ∙ h4))

-- an accepted login found no holder
free : (B : Records) (G : List Entry) (c : ℕ) (name : LoginName) (p : Shown) → has_counts (logging_in B G c name p) ≡ true → holder G name.maildrop ≡ None
unfolding has_counts
free B G c name p e = chosen (not (is_admitted (credential B G name.clerk) name.clerk (stamp G c) p)) (not (opening B G name).allowed) (not (exists B G name.maildrop))
    (holder G name.maildrop) (login_failed (failures G c)) (DeniedBy (opening B G name).rule) NoSuchMaildrop InUse
    (maildrop_has (visible class_of (in_force B G) name (present B G name.maildrop)))
    (failed_counts (failures G c)) refl refl refl e

-- whatever stands after a permission
permitted_counts : (b : Bool) (rep : Reply) → has_counts (when_permitted b rep) ≡ true → has_counts rep ≡ true
unfolding has_counts
permitted_counts true rep e = e
permitted_counts false rep e = absurd (true≢false (sym e))

refused_counts : (b : Bool) → has_counts (when_permitted b StoreFailed) ≡ true → ⊥
unfolding has_counts
refused_counts true e = true≢false (sym e)
refused_counts false e = true≢false (sym e)

-- no session accepts a login
judged_so : (B : Records) (G : List Entry) (n : ℕ) (command : Command) (live : Bool) → has_counts (session_says (in_force B G) (transaction_at B G n) command) ≡ false
    → has_counts (obeyed (if live then InTransaction (in_force B G) (transaction_at B G n) else InAuthorization (user G n) (logging_in B G n)) command) ≡ true
    → has_counts (authorization_says (user G n) (logging_in B G n) command) ≡ true
unfolding has_counts
judged_so B G n command true h e = absurd (true≢false (sym e ∙ h))
judged_so B G n command false h e = e

lock_done : (B : Records) (G : List Entry) (n : ℕ) (r : Result Command LineFault) (name : LoginName)
    → logs_in r (Says (reply_to_reading (state_at B G n) r Done)) (user G n) ≡ Some name → holder G name.maildrop ≡ None
unfolding has_counts
lock_done B G n (Ok (Pass p)) name e =
    let s = state_at B G n in
    let h = accepted_pass (reply_to_reading s (Ok (Pass p)) Done) p (user G n) name e in
    let f = free B G n (name_or_nobody (user G n)) (ByPass p) (judged_so B G n (Pass p) (live G n) refl (permitted_counts (is_permitted s keyword.Pass) (obeyed s (Pass p)) h.0)) in
    subst (λ (u : Option LoginName). holder G (name_or_nobody u).maildrop ≡ None) h.1 f
lock_done B G n (Ok (Apop who d)) name e =
    let s = state_at B G n in
    let h = accepted_apop (reply_to_reading s (Ok (Apop who d)) Done) who d (user G n) name e in
    let f = free B G n who (ByApop d) (judged_so B G n (Apop who d) (live G n) refl (permitted_counts (is_permitted s keyword.Apop) (obeyed s (Apop who d)) h.0)) in
    subst (λ (w : LoginName). holder G w.maildrop ≡ None) h.1 f
lock_done B G n _ name e = absurd (no_some name e)

lock_failed : (s : LineState) (r : Result Command LineFault) (u : Option LoginName) (name : LoginName) → logs_in r (Says (reply_to_reading s r Failed)) u ≡ Some name → ⊥
lock_failed s (Ok (Pass p)) u name e = refused_counts (is_permitted s keyword.Pass) (accepted_pass (reply_to_reading s (Ok (Pass p)) Failed) p u name e).0
lock_failed s (Ok (Apop who d)) u name e = refused_counts (is_permitted s keyword.Apop) (accepted_apop (reply_to_reading s (Ok (Apop who d)) Failed) who d u name e).0
lock_failed s _ u name e = no_some name e

lock_line : (B : Records) (G : List Entry) (n : ℕ) (x : Cut) (t : Tag) (name : LoginName) → logs_in (reading x) (said_to_line B G n x t) (user G n) ≡ Some name → holder G name.maildrop ≡ None
lock_line B G n x NoMemory name e = absurd (no_some name (sym (silent (reading x) (user G n)) ∙ e))
lock_line B G n TooLong Done name e = absurd (no_some name e)
lock_line B G n TooLong Failed name e = absurd (no_some name e)
lock_line B G n (cutting.Line l) Done name e = lock_done B G n (command_of l) name e
lock_line B G n (cutting.Line l) Failed name e = absurd (lock_failed (state_at B G n) (command_of l) (user G n) name e)

line_number : Act → Option ℕ
line_number (Line n x) = Some n
line_number _ = None

when_equal : (n c : ℕ) (o : Option LoginName) (name : LoginName) → (if n == c then o else None) ≡ Some name → (n ≡ c) × (o ≡ Some name)
when_equal n c o name e = ⊎_elim
    (λ h. (eqb-true n c h, (rw h at e)))
    (λ h. absurd (no_some name (rw h at e)))
    (cases_Bool (n == c))

-- a login is a line of that connection, on a front on which nobody held the maildrop
lock : (B : Records) (G : List Entry) (a : Act) (t : Tag) (c : ℕ) (name : LoginName) → login_by a (said_to B G a t) c (user G c) ≡ Some name
    → (line_number a ≡ Some c) × (holder G name.maildrop ≡ None)
unfolding line_number
lock B G (Line n x) t c name e =
    let h = when_equal n c (logs_in (reading x) (said_to_line B G n x t) (user G c)) name e in
    (ap (λ k. Some k) h.0, lock_line B G n x t name (subst (λ k. logs_in (reading x) (said_to_line B G n x t) (user G k) ≡ Some name) (sym h.0) h.1))
lock B G (Open n) t c name e = absurd (no_some name e)
lock B G (Gone n) t c name e = absurd (no_some name e)
lock B G (Idle n) t c name e = absurd (no_some name e)
lock B G (Deposit a b i x) t c name e = absurd (no_some name e)
lock B G (Administer a) t c name e = absurd (no_some name e)
lock B G (Restart b h r) t c name e = absurd (no_some name e)

same_number : (o : Option ℕ) (c q : ℕ) → o ≡ Some c → o ≡ Some q → c ≡ q
same_number o c q h k = let e : Some c ≡ Some q = sym h ∙ k in cc

none_at : (p : ℕ → Bool) (x : ℕ) (found : Option ℕ) (q : ℕ) (among b : Bool) → p x ≡ b → cond b (Some x) found ≡ None
    → (found ≡ None → among ≡ true → p q ≡ false) → ((x == q) ≡ true) ⊎ (among ≡ true) → p q ≡ false
none_at p x found q among true f e rest m = absurd (no_some x (sym e))
none_at p x found q among false f e rest m = ⊎_elim (λ h. subst (λ k. p k ≡ false) (eqb-true x q h) f) (λ h. rest e h) m

-- a search that found nothing passes over all
pub none_holds : (p : ℕ → Bool) (xs : List ℕ) (q : ℕ) → find p xs ≡ None → list_any (λ n. n == q) xs ≡ true → p q ≡ false
none_holds p [] q e h = absurd (true≢false (sym h))
none_holds p (x ∷ xs) q e h = none_at p x (find p xs) q (list_any (λ n. n == q) xs) (p x) refl e (λ f m. none_holds p xs q f m) (or_cases (x == q) (list_any (λ n. n == q) xs) h)

-- a number that was put in is there, and so are those that were there
put_among : (n x : ℕ) (xs : List ℕ) (c : ℕ) (same less : Bool) → (n == x) ≡ same → (list_any (λ k. k == c) xs ≡ true → list_any (λ k. k == c) (put_number n xs) ≡ true)
    → list_any (λ k. k == c) (x ∷ xs) ≡ true → list_any (λ k. k == c) (cond same (x ∷ xs) (cond less (n ∷ x ∷ xs) (x ∷ put_number n xs))) ≡ true
put_among n x xs c true less f rest h = h
put_among n x xs c false true f rest h = or_right (n == c) (list_any (λ k. k == c) (x ∷ xs)) h
put_among n x xs c false false f rest h = ⊎_elim (λ e. or_left (x == c) (list_any (λ k. k == c) (put_number n xs)) e)
    (λ e. or_right (x == c) (list_any (λ k. k == c) (put_number n xs)) (rest e)) (or_cases (x == c) (list_any (λ k. k == c) xs) h)

still_put : (n : ℕ) (xs : List ℕ) (c : ℕ) → list_any (λ k. k == c) xs ≡ true → list_any (λ k. k == c) (put_number n xs) ≡ true
still_put n [] c h = absurd (true≢false (sym h))
still_put n (x ∷ xs) c h = put_among n x xs c (n == x) (nat_lt n x) refl (still_put n xs c) h

put_at : (n x : ℕ) (xs : List ℕ) (same less : Bool) → (n == x) ≡ same → list_any (λ k. k == n) (put_number n xs) ≡ true
    → list_any (λ k. k == n) (cond same (x ∷ xs) (cond less (n ∷ x ∷ xs) (x ∷ put_number n xs))) ≡ true
put_at n x xs true less f h = or_left (x == n) (list_any (λ k. k == n) xs) (eq-eqb x n (sym (eqb-true n x f)))
put_at n x xs false true f h = or_left (n == n) (list_any (λ k. k == n) (x ∷ xs)) (eq-eqb n n refl)
put_at n x xs false false f h = or_right (x == n) (list_any (λ k. k == n) (put_number n xs)) h

is_put : (n : ℕ) (xs : List ℕ) → list_any (λ k. k == n) (put_number n xs) ≡ true
is_put n [] = or_left (n == n) false (eq-eqb n n refl)
is_put n (x ∷ xs) = put_at n x xs (n == x) (nat_lt n x) refl (is_put n xs)

-- who is live gave a line
heard_more : (a : Act) (xs : List ℕ) (c : ℕ) → list_any (λ n. n == c) xs ≡ true → list_any (λ n. n == c) (heard_after a xs) ≡ true
heard_more (Line n x) xs c h = still_put n xs c h
heard_more (Open n) xs c h = h
heard_more (Gone n) xs c h = h
heard_more (Idle n) xs c h = h
heard_more (Deposit a b i x) xs c h = h
heard_more (Administer a) xs c h = h
heard_more (Restart b h' r) xs c h = h

heard_now : (a : Act) (xs : List ℕ) (c : ℕ) → line_number a ≡ Some c → list_any (λ n. n == c) (heard_after a xs) ≡ true
unfolding line_number
heard_now (Line n x) xs c e = let k : n ≡ c = cc in subst (λ q. list_any (λ m. m == q) (put_number n xs) ≡ true) k (is_put n xs)
heard_now (Open n) xs c e = absurd (no_some c e)
heard_now (Gone n) xs c e = absurd (no_some c e)
heard_now (Idle n) xs c e = absurd (no_some c e)
heard_now (Deposit a b i x) xs c e = absurd (no_some c e)
heard_now (Administer a) xs c e = absurd (no_some c e)
heard_now (Restart b h r) xs c e = absurd (no_some c e)

pub held_heard : (B : Records) (H : List (Act × Tag)) (d : List ℕ) (c : ℕ) → holds (told B H) d c ≡ true → list_any (λ n. n == c) (heard (told B H)) ≡ true
held_heard B [] d c h = absurd (true≢false (sym h))
held_heard B ((a, t) ∷ H) d c h = ⊎_elim
    (λ (p : (name : LoginName) × (login_by a (said_to B (told B H) a t) c (user (told B H) c) ≡ Some name) × (is_login_to d (Some name) ≡ true)).
    heard_now a (heard (told B H)) c (lock B (told B H) a t c p.0 p.1).0)
    (λ (p : holds (told B H) d c ≡ true). heard_more a (heard (told B H)) c (held_heard B H d c p))
    (step (record { act = a; tag = t; said = said_to B (told B H) a t }) (told B H) d c h)

-- if one logs in, no other holds
alone : (B : Records) (H : List (Act × Tag)) (d : List ℕ) (q : ℕ) (name : LoginName) → is_login_to d (Some name) ≡ true → holder (told B H) name.maildrop ≡ None → holds (told B H) d q ≡ true → ⊥
alone B H d q name to none h =
    let same : name.maildrop ≡ d = (bytes_eq-Decides name.maildrop d).0 to in
    let f = none_holds (holds (told B H) d) (heard (told B H)) q (subst (λ x. holder (told B H) x ≡ None) same none) (held_heard B H d q h) in
    true≢false (sym h ∙ f)

-- A maildrop has at most one holder.
pub one_holder : (B : Records) (H : List (Act × Tag)) (d : List ℕ) (c q : ℕ) → holds (told B H) d c ≡ true → holds (told B H) d q ≡ true → c ≡ q
one_holder B [] d c q h k = absurd (true≢false (sym h))
one_holder B ((a, t) ∷ H) d c q h k =
    let e : Entry = record { act = a; tag = t; said = said_to B (told B H) a t } in
    ⊎_elim
    (λ (p : (name : LoginName) × (login_by a (said_to B (told B H) a t) c (user (told B H) c) ≡ Some name) × (is_login_to d (Some name) ≡ true)).
    let l = lock B (told B H) a t c p.0 p.1 in
    ⊎_elim
    (λ (r : (name : LoginName) × (login_by a (said_to B (told B H) a t) q (user (told B H) q) ≡ Some name) × (is_login_to d (Some name) ≡ true)).
    same_number (line_number a) c q l.0 (lock B (told B H) a t q r.0 r.1).0)
    (λ (r : holds (told B H) d q ≡ true). absurd (alone B H d q p.0 p.2 l.1 r))
    (step e (told B H) d q k))
    (λ (p : holds (told B H) d c ≡ true).
    ⊎_elim
    (λ (r : (name : LoginName) × (login_by a (said_to B (told B H) a t) q (user (told B H) q) ≡ Some name) × (is_login_to d (Some name) ≡ true)).
    absurd (alone B H d c r.0 r.2 (lock B (told B H) a t q r.0 r.1).1 p))
    (λ (r : holds (told B H) d q ≡ true). one_holder B H d c q p r)
    (step e (told B H) d q k))
    (step e (told B H) d c h)
