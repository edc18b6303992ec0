-- If boot numbers differ, the timestamps of greetings differ.
use Rattle.std.specs.Prelude.{◌≡◌, ℕ, ◌+◌, ◌≤◌, ◌<◌, ◌^◌, Bool, true, false, not, ◌&&◌, ◌==◌, nat_le, List, [], ◌∷◌, ◌++◌, Option, Some, None, max, ◌%◌}
use Rattle.std.proofs.Common.{refl, sym, ◌∙◌, ap, eq-eqb, ⊎_elim, inl, inr, subst, true≢false, append_assoc}
use Rattle.std.proofs.lemmas.Bool.{and_parts, ltb-true, le-leb}
use Rattle.std.proofs.lemmas.Slice.Eq.{bytes_eq-Decides}
use Rattle.std.proofs.lemmas.List.Folds.{list_all-append}
use Rattle.std.proofs.lemmas.Fmt.{decimal_injective, decimal_by_steps}
use native.Mathlib.Omega.{arith}
use Rattle.std.specs.List.{list_any, list_all}
use Rattle.std.specs.Fmt.{decimal}
use Rattle.std.specs.Str.{bytes_eq}
use Rattle.creds.specs.Names.{is_digit, is_host}
use Rattle.popline.specs.Cutting.{Cut, has_newline}
use Rattle.popline.specs.Replies.{timestamp}
use Rattle.vault.specs.Records.{Records}
use Rattle.policy.specs.Policy.{are_distinct}
use Rattle.session.specs.declared.removals.Removals.{Removals}
use Rattle.office.specs.History.{Act, Open, Gone, Idle, Deposit, Administer, Restart, Tag, Done, Failed, NoMemory, Entry, Said}
use Rattle.office.specs.Connections.{setting, setting_after, judging, serving, closing}
use Rattle.office.specs.Told.{told, said_to}
use Rattle.office.specs.Answers.{AdminCommand}
use Rattle.office.specs.Events.{Event, EventTag, Ignored, Tagged, Log}
use Rattle.office.specs.Events as event
use Rattle.office.specs.Log.{opened, opened_after, next_number, moment}
use Rattle.office.specs.Trace.{acts_at, acts_from, act_of_part, acts_of_took, acts_of_piece, line_act, idle_acts, idle_numbers, next_line, is_left}
use Rattle.office.specs.Formed.{is_u64, are_formed, is_formed}
use Rattle.office.specs.Laws.{In, IsStart, boots, boots_after, stamps, stamps_after, BeginsWithStart, GreetingsDiffer}
use Rattle.office.proofs.Snapshot.{any_false}
use Rattle.office.proofs.UniqueIds.{any_in, apart}
use Rattle.vault.proofs.ListLemmas.{not_true}

-- ---- timestamps

-- two texts of such octets end at the first octet that is none
pub same_front : (p : ℕ → Bool) (stop : ℕ) (xs ys r s : List ℕ) → list_all p xs ≡ true → list_all p ys ≡ true → p stop ≡ false
    → xs ++ (stop ∷ r) ≡ ys ++ (stop ∷ s) → (xs ≡ ys) × (r ≡ s)
same_front p stop [] [] r s a b n e = (refl, cc)
same_front p stop [] (y ∷ ys) r s a b n e =
    let h : stop ≡ y = cc in
    absurd (true≢false (sym (and_parts (p y) (list_all p ys) b).0 ∙ (ap p (sym h) ∙ n)))
same_front p stop (x ∷ xs) [] r s a b n e =
    let h : x ≡ stop = cc in
    absurd (true≢false (sym (and_parts (p x) (list_all p xs) a).0 ∙ (ap p h ∙ n)))
same_front p stop (x ∷ xs) (y ∷ ys) r s a b n e =
    let h : x ≡ y = cc in
    let t : xs ++ (stop ∷ r) ≡ ys ++ (stop ∷ s) = cc in
    let q = same_front p stop xs ys r s (and_parts (p x) (list_all p xs) a).1 (and_parts (p y) (list_all p ys) b).1 n t in
    let k : xs ≡ ys = q.0 in
    (cc, q.1)

digit_of : (d : ℕ) → d < 10 → is_digit (48 + d) ≡ true
digit_of d h = let a : 48 ≤ 48 + d = omega arith in let b : 48 + d ≤ 57 = omega arith in rw (le-leb 48 (48 + d) a, le-leb (48 + d) 57 b) refl

digit_more : (n : ℕ) (ds : List ℕ) → n < 10 → list_all is_digit ds ≡ true → list_all is_digit (ds ++ ((48 + n) ∷ [])) ≡ true
digit_more n ds h k = rw (list_all-append is_digit ds ((48 + n) ∷ []), k, digit_of n h) refl

pub decimal_digits : (n : ℕ) → n < 2 ^ 64 → list_all is_digit (decimal n) ≡ true
decimal_digits n h = decimal_by_steps (λ m ds. list_all is_digit ds ≡ true)
    (λ m l. let e = digit_of m l in rw e refl)
    (λ m ds l k. digit_more (m % 10) ds (omega arith) k) n h

normal : (c b : ℕ) (host : List ℕ) → timestamp c b host ≡ 60 ∷ (decimal c ++ (46 ∷ (decimal b ++ (64 ∷ (host ++ (62 ∷ []))))))
normal c b host = simp append_assoc

same_tail : (x : ℕ) (xs ys : List ℕ) → (x ∷ xs) ≡ (x ∷ ys) → xs ≡ ys
same_tail x xs ys e = cc

-- equal timestamps have equal numbers and boot numbers
same_numbers : (c b d a : ℕ) (host other : List ℕ) → c < 2 ^ 64 → b < 2 ^ 64 → d < 2 ^ 64 → a < 2 ^ 64
    → timestamp c b host ≡ timestamp d a other → (c ≡ d) × (b ≡ a)
same_numbers c b d a host other hc hb hd ha e =
    let n = same_tail 60 (decimal c ++ (46 ∷ (decimal b ++ (64 ∷ (host ++ (62 ∷ [])))))) (decimal d ++ (46 ∷ (decimal a ++ (64 ∷ (other ++ (62 ∷ []))))))
    (sym (normal c b host) ∙ (e ∙ normal d a other)) in
    let p = same_front is_digit 46 (decimal c) (decimal d) (decimal b ++ (64 ∷ (host ++ (62 ∷ [])))) (decimal a ++ (64 ∷ (other ++ (62 ∷ []))))
    (decimal_digits c hc) (decimal_digits d hd) refl n in
    let q = same_front is_digit 64 (decimal b) (decimal a) (host ++ (62 ∷ [])) (other ++ (62 ∷ [])) (decimal_digits b hb) (decimal_digits a ha) refl p.1 in
    (decimal_injective c d hc hd p.0, decimal_injective b a hb ha q.0)

-- ---- what a history and its events say of greetings

-- a timestamp of one of these boot numbers; those of the last number are of connections that were opened
record IsPast (bs : List ℕ) (now opens : ℕ) (stamp : List ℕ) : Type 0 where
  number : ℕ
  boot : ℕ
  host : List ℕ
  is : stamp ≡ timestamp number boot host
  number_fits : number < 2 ^ 64
  boot_fits : boot < 2 ^ 64
  known : In boot bs
  counted : boot ≡ now → number ≤ opens

-- the boot numbers are bs, and so many connections were opened since the last
record IsGreeted (G : List Entry) (bs : List ℕ) (opens : ℕ) : Type 0 where
  past : (s : List ℕ) → In s (stamps G) → IsPast bs (setting G).0 opens s
  apart : are_distinct bytes_eq (stamps G) ≡ true
  current : In (setting G).0 bs
  current_fits : (setting G).0 < 2 ^ 64

-- ---- acts that neither open a connection nor restart

is_quiet : Act → Bool
is_quiet (Open n) = false
is_quiet (Restart boot host removals) = false
is_quiet _ = true

quiet_stamps : (a : Act) (s : Said) (before : List (List ℕ)) → is_quiet a ≡ true → stamps_after a s before ≡ before
unfolding is_quiet
quiet_stamps (Open n) s before h = absurd (true≢false (sym h))
quiet_stamps _ s before h = refl

quiet_boot : (a : Act) (before : ℕ × List ℕ × Removals) → is_quiet a ≡ true → setting_after a before ≡ before
unfolding is_quiet
quiet_boot (Restart boot host removals) before h = absurd (true≢false (sym h))
quiet_boot _ before h = refl

all_quiet : List (Act × Tag) → Bool
all_quiet As = list_all (λ (x : Act × Tag). is_quiet x.0) As

quiet : (B : Records) (As H : List (Act × Tag)) → all_quiet As ≡ true
    → (stamps (told B (As ++ H)) ≡ stamps (told B H)) × (setting (told B (As ++ H)) ≡ setting (told B H))
unfolding all_quiet
quiet B [] H h = (refl, refl)
quiet B ((a, t) ∷ As) H h =
    let p = and_parts (is_quiet a) (list_all (λ (x : Act × Tag). is_quiet x.0) As) h in
    let q = quiet B As H p.1 in (
      quiet_stamps a (said_to B (told B (As ++ H)) a t) (stamps (told B (As ++ H))) p.0 ∙ q.0,
      quiet_boot a (setting (told B (As ++ H))) p.0 ∙ q.1,
    )

quietly : (B : Records) (As H : List (Act × Tag)) (bs : List ℕ) (n : ℕ) → all_quiet As ≡ true → IsGreeted (told B H) bs n → IsGreeted (told B (As ++ H)) bs n
quietly B As H bs n h g =
    let q = quiet B As H h in
    let e : (setting (told B (As ++ H))).0 ≡ (setting (told B H)).0 = ap (λ (x : ℕ × List ℕ × Removals). x.0) q.1 in
    record {
      past = λ s i. let i' = subst (λ xs. In s xs) q.0 i in subst (λ k. IsPast bs k n s) (sym e) (g.past s i');
      apart = ap (λ xs. are_distinct bytes_eq xs) q.0 ∙ g.apart;
      current = subst (λ k. In k bs) (sym e) g.current;
      current_fits = subst (λ k. k < 2 ^ 64) (sym e) g.current_fits;
    }

-- ---- a restart, and an opening

not_known : (b : ℕ) (bs : List ℕ) → list_any (λ n. b == n) bs ≡ false → In b bs → ⊥
not_known b bs h i = any_in (λ n. b == n) bs b h i (eq-eqb b b refl)

restarted : (B : Records) (H : List (Act × Tag)) (bs : List ℕ) (n b : ℕ) (host : List ℕ) (r : Removals) (t : Tag) → IsGreeted (told B H) bs n
    → list_any (λ k. b == k) bs ≡ false → b < 2 ^ 64 → IsGreeted (told B ((Restart b host r, t) ∷ H)) (b ∷ bs) 0
restarted B H bs n b host r t g new fits = record {
  past = λ s i. let p = g.past s i in record {
    number = p.number;
    boot = p.boot;
    host = p.host;
    is = p.is;
    number_fits = p.number_fits;
    boot_fits = p.boot_fits;
    known = inr p.known;
    counted = λ e. absurd (not_known b bs new (subst (λ k. In k bs) e p.known));
  };
  apart = g.apart;
  current = inl refl;
  current_fits = fits;
}

started : (B : Records) (b : ℕ) (host : List ℕ) (r : Removals) (t : Tag) → b < 2 ^ 64 → IsGreeted (told B ((Restart b host r, t) ∷ [])) (b ∷ []) 0
started B b host r t fits = record { past = λ s i. absurd i; apart = refl; current = inl refl; current_fits = fits }

opens_more : (B : Records) (H : List (Act × Tag)) (bs : List ℕ) (n : ℕ) → IsGreeted (told B H) bs n → n + 1 < 2 ^ 64 → IsGreeted (told B ((Open (n + 1), Done) ∷ H)) bs (n + 1)
opens_more B H bs n g fits =
    let b : ℕ = (setting (told B H)).0 in
    let host : List ℕ = (setting (told B H)).1 in
    record {
      past = λ s i. ⊎_elim
          (λ (e : s ≡ timestamp (n + 1) b host). record {
            number = n + 1;
            boot = b;
            host = host;
            is = e;
            number_fits = fits;
            boot_fits = g.current_fits;
            known = g.current;
            counted = λ k. omega arith;
          })
          (λ (k : In s (stamps (told B H))). let p = g.past s k in record {
            number = p.number;
            boot = p.boot;
            host = p.host;
            is = p.is;
            number_fits = p.number_fits;
            boot_fits = p.boot_fits;
            known = p.known;
            counted = λ e. let c : p.number ≤ n = p.counted e in omega arith;
          })
          i;
      apart = apart (list_any (bytes_eq (timestamp (n + 1) b host)) (stamps (told B H))) (are_distinct bytes_eq (stamps (told B H)))
          (any_false (bytes_eq (timestamp (n + 1) b host)) (stamps (told B H)) (λ s i t.
          let p = g.past s i in
          let e : timestamp (n + 1) b host ≡ timestamp p.number p.boot p.host = (bytes_eq-Decides (timestamp (n + 1) b host) s).0 t ∙ p.is in
          let q = same_numbers (n + 1) b p.number p.boot host p.host fits g.current_fits p.number_fits p.boot_fits e in
          let c : p.number ≤ n = p.counted (sym q.1) in
          let k : n + 1 ≡ p.number = q.0 in
          absurd (omega arith)))
          g.apart;
      current = g.current;
      current_fits = g.current_fits;
    }

-- ---- the acts of an event

quiet_line : (c : ℕ) (t : Tag) (o : Option Cut) → all_quiet (line_act c t o) ≡ true
unfolding all_quiet is_quiet
quiet_line c t None = refl
quiet_line c t (Some x) = refl

quiet_piece : (b : Bool) (c : ℕ) (t : Tag) (o : Option Cut) → all_quiet (acts_of_piece b c t o) ≡ true
unfolding all_quiet
quiet_piece true c t o = quiet_line c t o
quiet_piece false c t o = refl

quiet_part : (serving : Bool) (c : ℕ) (t : Tag) → all_quiet (act_of_part serving c t) ≡ true
unfolding all_quiet is_quiet
quiet_part true c Done = refl
quiet_part true c Failed = refl
quiet_part true c NoMemory = refl
quiet_part false c Done = refl
quiet_part false c Failed = refl
quiet_part false c NoMemory = refl

quiet_took : (left serving closing : Bool) (c : ℕ) (t : Tag) (o : Option Cut) → all_quiet (acts_of_took left serving closing c t o) ≡ true
unfolding all_quiet
quiet_took true serving closing c t o = quiet_part serving c t
quiet_took false serving true c t o = refl
quiet_took false serving false c t o = quiet_line c t o

quiet_idle : (cs : List ℕ) → all_quiet (idle_acts cs) ≡ true
unfolding all_quiet is_quiet
quiet_idle [] = refl
quiet_idle (c ∷ cs) = rw (list_all-append (λ (x : Act × Tag). is_quiet x.0) (idle_acts cs) ((Idle c, Done) ∷ []), quiet_idle cs) refl

quiet_gone : (c : ℕ) (t : Tag) → all_quiet ((Gone c, t) ∷ []) ≡ true
unfolding all_quiet is_quiet
quiet_gone c t = refl

quiet_deposit : (d class id text : List ℕ) (t : Tag) → all_quiet ((Deposit d class id text, t) ∷ []) ≡ true
unfolding all_quiet is_quiet
quiet_deposit d class id text t = refl

quiet_admin : (command : AdminCommand) (t : Tag) → all_quiet ((Administer command, t) ∷ []) ≡ true
unfolding all_quiet is_quiet
quiet_admin command t = refl

-- ---- all events

ignored_boots : (e : Event) (before : List ℕ) → boots_after e Ignored before ≡ before
ignored_boots (event.Start host boot limits) before = refl
ignored_boots _ before = refl

ignored_opened : (e : Event) (before : ℕ) → opened_after e Ignored before ≡ before
ignored_opened (event.Start host boot limits) before = refl
ignored_opened _ before = refl

abbrev AreGreeted : Records → Log → Type 0
AreGreeted B T = IsGreeted (told B (acts_from B T)) (boots T) (opened T)

abbrev differ : ℕ → ℕ → Bool
differ n m = n == m

new_boot : (b : ℕ) (bs : List ℕ) → are_distinct differ (b ∷ bs) ≡ true → (list_any (λ k. b == k) bs ≡ false) × (are_distinct differ bs ≡ true)
new_boot b bs h = let p = and_parts (not (list_any (differ b) bs)) (are_distinct differ bs) h in (not_true (list_any (differ b) bs) p.0, p.1)

fits_u64 : (n : ℕ) → is_u64 n ≡ true → n < 2 ^ 64
fits_u64 n h = ltb-true n (2 ^ 64) h

next : (B : Records) (T : Log) (e : Event) (m : EventTag) → (are_formed T ≡ true → are_distinct differ (boots T) ≡ true → AreGreeted B T)
    → are_formed ((e, m) ∷ T) ≡ true → are_distinct differ (boots ((e, m) ∷ T)) ≡ true → AreGreeted B ((e, m) ∷ T)
next B T e Ignored rest f d =
    let d' = rw (ignored_boots e (boots T)) at d in
    rw (ignored_boots e (boots T), ignored_opened e (opened T)) (rest f d')
next B T (event.Start host boot limits) (Tagged t) rest f d =
    let p = and_parts (is_formed T (event.Start host boot limits)) (are_formed T) f in
    let a = and_parts (is_host host && is_u64 boot && nat_le 600 limits.idle) (nat_le limits.idle 86400) p.0 in
    let b = and_parts (is_host host && is_u64 boot) (nat_le 600 limits.idle) a.0 in
    let n = new_boot boot (boots T) d in
    restarted B (acts_from B T) (boots T) (opened T) boot host limits.removals t (rest p.1 n.1) n.0 (fits_u64 boot (and_parts (is_host host) (is_u64 boot) b.0).1)
next B T (event.Restart boot) (Tagged t) rest f d =
    let p = and_parts (is_u64 boot) (are_formed T) f in
    let n = new_boot boot (boots T) d in
    restarted B (acts_from B T) (boots T) (opened T) boot (setting (told B (acts_from B T))).1 (judging (told B (acts_from B T))) t (rest p.1 n.1) n.0 (fits_u64 boot p.0)
next B T event.Connect (Tagged Done) rest f d =
    let p = and_parts (is_u64 (next_number T)) (are_formed T) f in
    opens_more B (acts_from B T) (boots T) (opened T) (rest p.1 d) (fits_u64 (next_number T) p.0)
next B T event.Connect (Tagged Failed) rest f d = rest (and_parts (is_u64 (next_number T)) (are_formed T) f).1 d
next B T event.Connect (Tagged NoMemory) rest f d = rest (and_parts (is_u64 (next_number T)) (are_formed T) f).1 d
next B T (event.Bytes c piece) (Tagged t) rest f d =
    quietly B (acts_at T (told B (acts_from B T)) (event.Bytes c piece) (Tagged t)) (acts_from B T) (boots T) (opened T)
    (quiet_piece (has_newline piece) c t (next_line T (told B (acts_from B T)) c piece)) (rest f d)
next B T (event.Took c octets) (Tagged t) rest f d =
    quietly B (acts_at T (told B (acts_from B T)) (event.Took c octets) (Tagged t)) (acts_from B T) (boots T) (opened T)
    (quiet_took (is_left T (told B (acts_from B T)) c octets) (serving (told B (acts_from B T)) c) (closing (told B (acts_from B T)) c) c t
    (next_line T (told B (acts_from B T)) c [])) (rest f d)
next B T (event.Gone c) (Tagged t) rest f d = quietly B ((Gone c, t) ∷ []) (acts_from B T) (boots T) (opened T) (quiet_gone c t) (rest f d)
next B T (event.Tick now) (Tagged t) rest f d =
    quietly B (acts_at T (told B (acts_from B T)) (event.Tick now) (Tagged t)) (acts_from B T) (boots T) (opened T)
    (quiet_idle (idle_numbers T (told B (acts_from B T)) (max (moment T) now))) (rest f d)
next B T (event.Deposit d' class id text) (Tagged t) rest f d =
    let p = and_parts (is_formed T (event.Deposit d' class id text)) (are_formed T) f in
    quietly B ((Deposit d' class id text, t) ∷ []) (acts_from B T) (boots T) (opened T) (quiet_deposit d' class id text t) (rest p.1 d)
next B T (event.Admin command) (Tagged t) rest f d =
    let p = and_parts (is_formed T (event.Admin command)) (are_formed T) f in
    quietly B ((Administer command, t) ∷ []) (acts_from B T) (boots T) (opened T) (quiet_admin command t) (rest p.1 d)

first : (B : Records) (e : Event) (m : EventTag) → IsStart e m → are_formed ((e, m) ∷ []) ≡ true → AreGreeted B ((e, m) ∷ [])
first B (event.Start host boot limits) (Tagged t) s f =
    let p = and_parts (is_formed [] (event.Start host boot limits)) true f in
    let a = and_parts (is_host host && is_u64 boot && nat_le 600 limits.idle) (nat_le limits.idle 86400) p.0 in
    let b = and_parts (is_host host && is_u64 boot) (nat_le 600 limits.idle) a.0 in
    started B boot host limits.removals t (fits_u64 boot (and_parts (is_host host) (is_u64 boot) b.0).1)
first B e m s f = absurd s

greeted : (B : Records) (T : Log) → BeginsWithStart T → are_formed T ≡ true → are_distinct differ (boots T) ≡ true → AreGreeted B T
greeted B [] s f d = absurd s
greeted B ((e, m) ∷ []) s f d = first B e m s f
greeted B ((e, m) ∷ x ∷ T) s f d = next B (x ∷ T) e m (λ g k. greeted B (x ∷ T) s g k) f d

pub greetings_differ : GreetingsDiffer
greetings_differ T s f d = (greeted T.base T.log s f d).apart
