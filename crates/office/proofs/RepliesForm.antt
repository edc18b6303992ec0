-- Over sound records and events of their types, every reply has the form that replies have.
use Rattle.std.specs.Prelude.{◌≡◌, ℕ, zero, suc, ◌+◌, ◌≤◌, ◌<◌, ◌^◌, Bool, true, false, not, ◌&&◌, ◌||◌, ◌==◌, nat_le, List, [], ◌∷◌, ◌++◌, length, sum_by, Option, Some, None}
use Rattle.std.specs.Prelude.{Result, Ok, Err, is_some, if◌then◌else◌, max}
use Rattle.std.proofs.Common.{refl, subst, inl, inr}
use Rattle.std.proofs.lemmas.Bool.{and_parts, leb-true, ltb-true, le-leb}
use Rattle.std.proofs.lemmas.List.Folds.{list_all-append}
use Rattle.std.proofs.lemmas.List.Sums.{sum_by-le, AllPass-from_list_all}
use Rattle.std.proofs.lemmas.Option.{slice_get_within, get_or_from_slice_get}
use native.Mathlib.Omega.{arith}
use Rattle.std.specs.List.{list_all, find, slice_split}
use Rattle.std.specs.Option.{option_map}
use Rattle.std.specs.Str.{bytes_eq}
use Rattle.mailtext.specs.Text.{lines_of, stuffed_lines, top_part}
use Rattle.creds.specs.Names.{is_name, has_length, is_name_octet, is_host, is_host_octet, is_host_part, is_deposit_id}
use Rattle.creds.specs.declared.login_name.LoginName.{LoginName}
use Rattle.creds.specs.Credential.{Shown, ByPass, ByApop, is_admitted}
use Rattle.policy.specs.Policy.{Policy, decide, decision_of, matches, are_clerks, are_sound_groups, are_sound_rules, know_groups, is_sound_policy, is_sound_rule, are_distinct}
use Rattle.policy.specs.Policy.{same_name, default_rule, is_pattern, lists_any, is_any, most_rules}
use Rattle.policy.specs.declared.decide.Decision.{Decision}
use Rattle.policy.specs.declared.rule.Rule.{Rule}
use Rattle.policy.specs.declared.rule.Action.{Action}
use Rattle.policy.specs.declared.rule.Action.TheVariants as to
use Rattle.popline.specs.Cutting.{Cut, TooLong, has_newline}
use Rattle.popline.specs.Cutting as cutting
use Rattle.popline.specs.Commands.{Command, Pass, Apop, Quit, Stat, ListOne, UidlOne, Top, Retr, Dele, Rset, command_of, keyword_of}
use Rattle.popline.specs.declared.command.Keyword.{Keyword}
use Rattle.popline.specs.declared.command.Keyword.TheVariants as keyword
use Rattle.popline.specs.declared.command.LineFault.{LineFault}
use Rattle.popline.specs.declared.command.LineFault.TheVariants.{Unknown, Syntax}
use Rattle.popline.specs.Replies.{Reply, LoginFailed, LoginFailedClosing, NoSuchMessage, AlreadyMarked, Marked, DeniedBy, ScanLine, UidLine, Message as MessageReply, TopPart}
use Rattle.popline.specs.ReplyForm.{IsSized, IsWellFormed}
use Rattle.popline.proofs.FormLemmas.{form_of_replies}
use Rattle.vault.specs.Records.{Records, IsSound, octets_of, uid_of, class_of, most_octets, most_messages, most_deposits}
use Rattle.vault.specs.declared.record.Message.{Message}
use Rattle.session.specs.View.{visible, numbered, numbered_from, at_number, is_marked, referred, unmarked, marked, retrieval, removal, may_remove, total_of}
use Rattle.session.specs.declared.removals.Removals.TheVariants.{JudgedAtDele, JudgedAtQuit}
use Rattle.session.specs.declared.removals.Removals.{Removals}
use Rattle.office.specs.History.{Entry, Act, Open, Line, Gone, Idle, Deposit, Administer, Restart, Tag, Done, Failed, NoMemory, in_force, credential, exists}
use Rattle.office.specs.Connections.{setting, user, failures, serving, closing}
use Rattle.office.specs.Sessions.{present, view, marks, login, live, holder}
use Rattle.office.specs.Replying.{Transaction, LineState, InAuthorization, InTransaction, transaction_at, state_at, stamp, login_failed, maildrop_has, opening, logging_in}
use Rattle.office.specs.Replying.{deleted_if, served_if, quit_says, authorization_says, session_says, is_permitted, when_permitted, refusal, name_or_nobody, obeyed}
use Rattle.office.specs.Replying.{reply_to_command, reply_to_reading, reply_to, reply_to_cut, said_to_line}
use Rattle.office.specs.Told.{told, said_to, answers_if_done, deposited, administered}
use Rattle.office.specs.Answers.{Answer}
use Rattle.office.specs.Events.{Event, Ignored, Tagged, Log}
use Rattle.office.specs.Events as event
use Rattle.office.specs.Log.{moment}
use Rattle.office.specs.Trace.{acts_at, acts_from, line_act, act_of_part, acts_of_took, acts_of_piece, idle_acts, idle_numbers, next_line, is_left}
use Rattle.office.specs.Formed.{is_u64, are_formed, is_formed}
use Rattle.office.specs.Laws.{In, IfReply, AllReplies, RepliesHaveTheirForm}
use Rattle.office.proofs.UniqueIds.{all_in}
use Rattle.office.proofs.Bounds.{formed_act, all_formed, is_small, IsSmallView, IsBoot, in_small, views_small, policies_sound, boots_small, arrivals_small, present_fits}
use Rattle.vault.proofs.ListLemmas.{all_filter, filter_fits}

-- ---- names of rules

abbrev IsShort : List ℕ → Type 0
IsShort text = length text ≤ 32

pub short_name : (text : List ℕ) → is_name text ≡ true → IsShort text
short_name text h =
    let a = and_parts (has_length 1 32 text) (list_all is_name_octet text) h in
    let b = and_parts (nat_le 1 (length text)) (nat_le (length text) 32) a.0 in
    leb-true (length text) 32 b.1

found_in : {A : Type 0} (p : A → Bool) (xs : List A) (x : A) → find p xs ≡ Some x → In x xs
found_in {A} p [] x e = absurd (none_some x e)
  where
    none_some : (y : A) → None ≡ Some y → ⊥
    none_some y e = cc
found_in {A} p (y ∷ ys) x e = at (p y) e (λ k. found_in p ys x k)
  where
    same : (z w : A) → Some z ≡ Some w → w ≡ z
    same z w e = cc

    at : (b : Bool) → (if b then Some y else find p ys) ≡ Some x → (find p ys ≡ Some x → In x ys) → In x (y ∷ ys)
    at true k rest = inl (same y x k)
    at false k rest = inr (rest k)

sound_rule_name : (r : Rule) → is_sound_rule r ≡ true → is_name r.name ≡ true
sound_rule_name r h =
    let a = and_parts (is_name r.name && not (bytes_eq r.name default_rule) && are_clerks r.clerk && is_pattern r.maildrop && is_pattern r.class && lists_any r.actions)
    (not r.actions.open || is_any r.class) h in
    let b = and_parts (is_name r.name && not (bytes_eq r.name default_rule) && are_clerks r.clerk && is_pattern r.maildrop && is_pattern r.class) (lists_any r.actions) a.0 in
    let c = and_parts (is_name r.name && not (bytes_eq r.name default_rule) && are_clerks r.clerk && is_pattern r.maildrop) (is_pattern r.class) b.0 in
    let d = and_parts (is_name r.name && not (bytes_eq r.name default_rule) && are_clerks r.clerk) (is_pattern r.maildrop) c.0 in
    let f = and_parts (is_name r.name && not (bytes_eq r.name default_rule)) (are_clerks r.clerk) d.0 in
    (and_parts (is_name r.name) (not (bytes_eq r.name default_rule)) f.0).0

short_decision : (rules : List Rule) (o : Option Rule) → list_all is_sound_rule rules ≡ true → ((r : Rule) → o ≡ Some r → In r rules) → IsShort (decision_of o).rule
short_decision rules None h f = leb-true 7 32 refl
short_decision rules (Some r) h f = short_name r.name (sound_rule_name r (all_in is_sound_rule rules r h (f r refl)))

-- the rule that decides has a short name
short_rule : (p : Policy) (clerk d class : List ℕ) (action : Action) → is_sound_policy p ≡ true → IsShort (decide p clerk d class action).rule
short_rule p clerk d class action h =
    let whole = and_parts (are_sound_groups p.groups && are_sound_rules p.rules) (know_groups p.groups p.rules) h in
    let rules = (and_parts (are_sound_groups p.groups) (are_sound_rules p.rules) whole.0).1 in
    let a = and_parts (list_all is_sound_rule p.rules && are_distinct same_name p.rules) (nat_le (length p.rules) most_rules) rules in
    let b = and_parts (list_all is_sound_rule p.rules) (are_distinct same_name p.rules) a.0 in
    short_decision p.rules (find (matches p.groups clerk d class action) p.rules) b.0 (λ r e. found_in (matches p.groups clerk d class action) p.rules r e)

-- ---- messages of a small view

record IsFound (view : List Message) (n : ℕ) (m : Message) : Type 0 where
  number : n < 2 ^ 64
  class : IsShort m.class
  k : m.k < 2 ^ 64
  octets : octets_of m < 2 ^ 64

small_parts : (m : Message) → is_small m ≡ true → (IsShort m.class) × (m.k ≤ most_deposits) × (octets_of m ≤ most_octets)
small_parts m h =
    let a = and_parts (is_name m.class && nat_le m.k most_deposits) (nat_le (octets_of m) most_octets) h in
    let b = and_parts (is_name m.class) (nat_le m.k most_deposits) a.0 in
    (short_name m.class b.0, leb-true m.k most_deposits b.1, leb-true (octets_of m) most_octets a.1)

found_small : (view : List Message) (n : ℕ) (m : Message) → IsSmallView view → at_number view n ≡ Some m → IsFound view n m
found_small view zero m s e = absurd (none_some m e)
  where
    none_some : (y : Message) → None ≡ Some y → ⊥
    none_some y e = cc
found_small view (suc n) m s e =
    let i = slice_get_within view n m e in
    let p = AllPass-from_list_all is_small view s.0 n m i in
    let q : is_small m ≡ true = subst (λ (x : Message). is_small x ≡ true) (get_or_from_slice_get view n m m e) p in
    let r = small_parts m q in
    let k = r.1 in let o = r.2 in let l = s.1 in
    record { number = omega arith; class = r.0; k = omega arith; octets = omega arith }

numbered_len : (n : ℕ) (ms : List Message) → length (numbered_from n ms) ≡ length ms
numbered_len n [] = refl
numbered_len n (m ∷ ms) = let e = numbered_len (n + 1) ms in omega arith

numbered_small : (n : ℕ) (ms : List Message) → list_all is_small ms ≡ true → list_all (λ (row : ℕ × Message). is_small row.1) (numbered_from n ms) ≡ true
numbered_small n [] h = refl
numbered_small n (m ∷ ms) h = let p = and_parts (is_small m) (list_all is_small ms) h in rw (p.0, numbered_small (n + 1) ms p.1) refl

-- the octets of a small list
total_small : {A : Type 0} (f : A → Message) (xs : List A) → list_all (λ x. is_small (f x)) xs ≡ true → length xs ≤ most_messages → sum_by (λ x. octets_of (f x)) xs < 2 ^ 64
total_small f xs h l =
    let a = sum_by-le (λ x. octets_of (f x)) most_octets xs (λ k d i. (small_parts (f _) (AllPass-from_list_all (λ x. is_small (f x)) xs h k d i)).2) in
    omega arith

unmarked_small : (marks : List ℕ) (ms : List Message) → IsSmallView ms → (length (unmarked marks ms) < 2 ^ 64) × (total_of octets_of (unmarked marks ms) < 2 ^ 64)
unmarked_small marks ms s =
    let p = λ (row : ℕ × Message). not (is_marked marks row.0) in
    let a = filter_fits p (numbered ms) in
    let b = numbered_len 1 ms in
    let l = s.1 in
    let c = all_filter (λ (row : ℕ × Message). is_small row.1) p (numbered ms) (numbered_small 1 ms s.0) in
    (omega arith, total_small (λ (row : ℕ × Message). row.1) (unmarked marks ms) c (omega arith))

-- ---- replies

sized_if : (b : Bool) (x y : Reply) → IsSized x → IsSized y → IsSized (if b then x else y)
sized_if true x y h k = h
sized_if false x y h k = k

sized_failed : (n : ℕ) → IsSized (login_failed n)
sized_failed n = sized_if (nat_le 2 n) LoginFailedClosing LoginFailed tt tt

sized_has : (ms : List Message) → IsSmallView ms → IsSized (maildrop_has ms)
sized_has ms s = let l = s.1 in (omega arith, total_small (λ (m : Message). m) ms s.0 s.1)

sized_referred : (o : Option Message) (b : Bool) (n : ℕ) (f : Message → Reply) → ((m : Message) → o ≡ Some m → (n < 2 ^ 64) × IsSized (f m))
    → IsSized (referred o b NoSuchMessage (AlreadyMarked n) f)
sized_referred None b n f h = tt
sized_referred (Some m) true n f h = (h m refl).0
sized_referred (Some m) false n f h = (h m refl).1

sized_deleted : (j : Removals) (d : Decision) (n : ℕ) → n < 2 ^ 64 → IsShort d.rule → IsSized (deleted_if j d n)
sized_deleted JudgedAtQuit d n h k = h
sized_deleted JudgedAtDele d n h k = sized_if d.allowed (Marked n) (DeniedBy d.rule) h k

sized_served : (d : Decision) (reply : Reply) → IsSized reply → IsShort d.rule → IsSized (served_if d reply)
sized_served d reply h k = sized_if d.allowed reply (DeniedBy d.rule) h k

-- the rule that a QUIT names
denied_short : (policy : Policy) (name : LoginName) (o : Option (ℕ × Message)) → is_sound_policy policy ≡ true
    → IsSized (quit_says (option_map (λ (row : ℕ × Message). (removal policy name row.1.class).rule) o))
denied_short policy name None h = tt
denied_short policy name (Some row) h = short_rule policy name.clerk name.maildrop row.1.class to.Remove h

sized_session : (p : Policy) (v : Transaction) (command : Command) → is_sound_policy p ≡ true → IsSmallView v.view → IsSized (session_says p v command)
sized_session p v Stat sound s = unmarked_small v.marks v.view s
sized_session p v (ListOne n) sound s = sized_referred (at_number v.view n) (is_marked v.marks n) n (λ m. ScanLine n (octets_of m))
    (λ m e. let f = found_small v.view n m s e in (f.number, (f.number, f.octets)))
sized_session p v (UidlOne n) sound s = sized_referred (at_number v.view n) (is_marked v.marks n) n (λ m. UidLine n (uid_of m))
    (λ m e. let f = found_small v.view n m s e in (f.number, (f.number, f.k, f.class)))
sized_session p v (Retr n) sound s =
    sized_referred (at_number v.view n) (is_marked v.marks n) n (λ (m : Message). served_if (retrieval p v.name m.class) (MessageReply (octets_of m) (stuffed_lines (lines_of m.text))))
    (λ m e. let f = found_small v.view n m s e in
    (f.number, sized_served (retrieval p v.name m.class) (MessageReply (octets_of m) (stuffed_lines (lines_of m.text))) f.octets (short_rule p v.name.clerk v.name.maildrop m.class to.Read sound)))
sized_session p v (Top n k) sound s =
    sized_referred (at_number v.view n) (is_marked v.marks n) n (λ (m : Message). served_if (retrieval p v.name m.class) (TopPart (stuffed_lines (top_part (lines_of m.text) k))))
    (λ m e. let f = found_small v.view n m s e in
    (f.number, sized_served (retrieval p v.name m.class) (TopPart (stuffed_lines (top_part (lines_of m.text) k))) tt (short_rule p v.name.clerk v.name.maildrop m.class to.Read sound)))
sized_session p v (Dele n) sound s =
    sized_referred (at_number v.view n) (is_marked v.marks n) n (λ (m : Message). deleted_if v.removals (removal p v.name m.class) n)
    (λ m e. let f = found_small v.view n m s e in
    (f.number, sized_deleted v.removals (removal p v.name m.class) n f.number (short_rule p v.name.clerk v.name.maildrop m.class to.Remove sound)))
sized_session p v Rset sound s = sized_has v.view s
sized_session p v Quit sound s =
    denied_short p v.name (find (λ (row : ℕ × Message). not (may_remove p v.name (class_of row.1))) (marked v.marks v.view)) sound
sized_session p v _ sound s = tt

-- what a state keeps within bounds
abbrev IsBoundedState : LineState → Type 0
IsBoundedState (InAuthorization user login) = (name : LoginName) (proof : Shown) → IsSized (login name proof)
IsBoundedState (InTransaction p v) = (is_sound_policy p ≡ true) × IsSmallView v.view

sized_authorization : (user : Option LoginName) (login : LoginName → Shown → Reply) → ((name : LoginName) (proof : Shown) → IsSized (login name proof)) → (command : Command)
    → IsSized (authorization_says user login command)
sized_authorization user login h (Pass password) = h (name_or_nobody user) (ByPass password)
sized_authorization user login h (Apop name digest) = h name (ByApop digest)
sized_authorization user login h _ = tt

sized_obeyed : (s : LineState) (command : Command) → IsBoundedState s → IsSized (obeyed s command)
sized_obeyed (InAuthorization user login) command b = sized_authorization user login b command
sized_obeyed (InTransaction p v) command b = sized_session p v command b.0 b.1

sized_permitted : (b : Bool) (r : Reply) → IsSized r → IsSized (when_permitted b r)
sized_permitted true r h = h
sized_permitted false r h = tt

sized_refusal : (k : Keyword) → IsSized (refusal k)
sized_refusal keyword.Quit = tt
sized_refusal _ = tt

sized_command : (s : LineState) (command : Command) (t : Tag) → IsBoundedState s → IsSized (reply_to_command s command t)
sized_command s command Failed b = sized_refusal (keyword_of command)
sized_command s command Done b = sized_obeyed s command b
sized_command s command NoMemory b = sized_obeyed s command b

sized_reading : (s : LineState) (r : Result Command LineFault) (t : Tag) → IsBoundedState s → IsSized (reply_to_reading s r t)
sized_reading s (Err Unknown) t b = tt
sized_reading s (Err (Syntax k)) t b = sized_permitted (is_permitted s k) _ tt
sized_reading s (Ok command) t b = sized_permitted (is_permitted s (keyword_of command)) (reply_to_command s command t) (sized_command s command t b)

sized_reply : (s : LineState) (x : Cut) (t : Tag) → IsBoundedState s → IsSized (reply_to s x t)
sized_reply s TooLong t b = tt
sized_reply s (cutting.Line l) t b = sized_reading s (command_of l) t b

-- what a front keeps within bounds
record IsBounded (B : Records) (G : List Entry) : Type 0 where
  policy : is_sound_policy (in_force B G) ≡ true
  views : (c : ℕ) → IsSmallView (view B G c)
  found : (name : LoginName) → IsSmallView (visible class_of (in_force B G) name (present B G name.maildrop))
  boot : IsBoot (setting G)

sized_login : (B : Records) (G : List Entry) (c : ℕ) (name : LoginName) (proof : Shown) → IsBounded B G → IsSized (logging_in B G c name proof)
sized_login B G c name proof b =
    sized_if (not (is_admitted (credential B G name.clerk) name.clerk (stamp G c) proof)) (login_failed (failures G c)) _ (sized_failed (failures G c))
    (sized_if (not (opening B G name).allowed) (DeniedBy (opening B G name).rule) _ (short_rule (in_force B G) name.clerk name.maildrop [] to.Open b.policy)
    (sized_if (not (exists B G name.maildrop)) _ _ tt
    (sized_if (is_some (holder G name.maildrop)) _ _ tt (sized_has (visible class_of (in_force B G) name (present B G name.maildrop)) (b.found name)))))

bounded_state : (B : Records) (G : List Entry) (c : ℕ) → IsBounded B G → IsBoundedState (state_at B G c)
bounded_state B G c b = at (live G c)
  where
    at : (l : Bool) → IsBoundedState (if l then InTransaction (in_force B G) (transaction_at B G c) else InAuthorization (user G c) (logging_in B G c))
    at true = (b.policy, b.views c)
    at false = λ name proof. sized_login B G c name proof b

sized_cut : (B : Records) (G : List Entry) (c : ℕ) (x : Cut) (t : Tag) → IsBounded B G → IsSized (reply_to_cut B G c x t)
sized_cut B G c x t b = sized_reply (state_at B G c) x t (bounded_state B G c b)

-- ---- what is said

said_line : (B : Records) (G : List Entry) (c : ℕ) (x : Cut) (t : Tag) → IsBounded B G → IfReply IsWellFormed (said_to_line B G c x t)
said_line B G c x NoMemory b = tt
said_line B G c x Done b = form_of_replies (reply_to_cut B G c x Done) (sized_cut B G c x Done b)
said_line B G c x Failed b = form_of_replies (reply_to_cut B G c x Failed) (sized_cut B G c x Failed b)

said_answer : (t : Tag) (a : Answer) → IfReply IsWellFormed (answers_if_done t a)
said_answer Done a = tt
said_answer Failed a = tt
said_answer NoMemory a = tt

said_form : (B : Records) (G : List Entry) (a : Act) (t : Tag) → formed_act a ≡ true → IsBounded B G → IfReply IsWellFormed (said_to B G a t)
said_form B G (Open c) t f b = form_of_replies _ (ltb-true c (2 ^ 64) f, b.boot.0, b.boot.1)
said_form B G (Line c x) t f b = said_line B G c x t b
said_form B G (Deposit d class id text) t f b = said_answer t (deposited B G d class id text)
said_form B G (Administer command) t f b = said_answer t (administered B G command)
said_form B G (Gone c) t f b = tt
said_form B G (Idle c) t f b = tt
said_form B G (Restart boot host removals) t f b = tt

small_found : (B : Records) → IsSound B → (H : List (Act × Tag)) → all_formed H ≡ true → (name : LoginName)
    → IsSmallView (visible class_of (in_force B (told B H)) name (present B (told B H) name.maildrop))
small_found B s H f name = in_small B (told B H) (in_force B (told B H)) name (arrivals_small B s H f) (present_fits B s H name.maildrop)

bounded : (B : Records) → IsSound B → (H : List (Act × Tag)) → all_formed H ≡ true → IsBounded B (told B H)
bounded B s H f = record { policy = policies_sound B s H f; views = views_small B s H f; found = small_found B s H f; boot = boots_small B H f }

all_said : (B : Records) → IsSound B → (H : List (Act × Tag)) → all_formed H ≡ true → AllReplies IsWellFormed (told B H)
all_said B s [] f = tt
all_said B s ((a, t) ∷ H) f =
    let p = and_parts (formed_act a) (all_formed H) f in
    (said_form B (told B H) a t p.0 (bounded B s H p.1), all_said B s H p.1)

-- ---- the acts of formed events are formed

formed_line : (c : ℕ) (t : Tag) (o : Option Cut) → all_formed (line_act c t o) ≡ true
formed_line c t None = refl
formed_line c t (Some x) = refl

formed_piece : (b : Bool) (c : ℕ) (t : Tag) (o : Option Cut) → all_formed (acts_of_piece b c t o) ≡ true
formed_piece true c t o = formed_line c t o
formed_piece false c t o = refl

formed_part : (serving : Bool) (c : ℕ) (t : Tag) → all_formed (act_of_part serving c t) ≡ true
formed_part true c Done = refl
formed_part true c Failed = refl
formed_part true c NoMemory = refl
formed_part false c Done = refl
formed_part false c Failed = refl
formed_part false c NoMemory = refl

formed_took : (left serving closing : Bool) (c : ℕ) (t : Tag) (o : Option Cut) → all_formed (acts_of_took left serving closing c t o) ≡ true
formed_took true serving closing c t o = formed_part serving c t
formed_took false serving true c t o = refl
formed_took false serving false c t o = formed_line c t o

formed_idle : (cs : List ℕ) → all_formed (idle_acts cs) ≡ true
formed_idle [] = refl
formed_idle (c ∷ cs) = rw (list_all-append (λ (x : Act × Tag). formed_act x.0) (idle_acts cs) ((Idle c, Done) ∷ []), formed_idle cs) refl

formed_more : (As H : List (Act × Tag)) → all_formed As ≡ true → all_formed H ≡ true → all_formed (As ++ H) ≡ true
formed_more As H a h = rw (list_all-append (λ (x : Act × Tag). formed_act x.0) As H, a, h) refl

host_fits : (host : List ℕ) → is_host host ≡ true → nat_le (length host) 64 ≡ true
host_fits host h =
    let a = and_parts (has_length 1 64 host && list_all is_host_octet host) (list_all is_host_part (slice_split (λ b. b == 46) host)) h in
    let b = and_parts (has_length 1 64 host) (list_all is_host_octet host) a.0 in
    (and_parts (nat_le 1 (length host)) (nat_le (length host) 64) b.0).1

formed_event : (B : Records) (T : Log) (e : Event) (t : Tag) → all_formed (acts_from B T) ≡ true → is_formed T e ≡ true
    → all_formed (acts_at T (told B (acts_from B T)) e (Tagged t)) ≡ true
formed_event B T (event.Start host boot limits) t h f =
    let a = and_parts (is_host host && is_u64 boot && nat_le 600 limits.idle) (nat_le limits.idle 86400) f in
    let b = and_parts (is_host host && is_u64 boot) (nat_le 600 limits.idle) a.0 in
    let c = and_parts (is_host host) (is_u64 boot) b.0 in
    rw (c.1, host_fits host c.0) refl
formed_event B T event.Connect Done h f = rw f refl
formed_event B T event.Connect Failed h f = refl
formed_event B T event.Connect NoMemory h f = refl
formed_event B T (event.Bytes c piece) t h f = formed_piece (has_newline piece) c t (next_line T (told B (acts_from B T)) c piece)
formed_event B T (event.Took c octets) t h f =
    formed_took (is_left T (told B (acts_from B T)) c octets) (serving (told B (acts_from B T)) c) (closing (told B (acts_from B T)) c) c t (next_line T (told B (acts_from B T)) c [])
formed_event B T (event.Gone c) t h f = refl
formed_event B T (event.Tick now) t h f = formed_idle (idle_numbers T (told B (acts_from B T)) (max (moment T) now))
formed_event B T (event.Deposit d class id text) t h f =
    let a = and_parts (is_name d && is_name class) (is_deposit_id id) f in
    rw ((and_parts (is_name d) (is_name class) a.0).1) refl
formed_event B T (event.Admin command) t h f = rw f refl
formed_event B T (event.Restart boot) t h f =
    let b = boots_small B (acts_from B T) h in
    rw (f, le-leb (length (setting (told B (acts_from B T))).1) 64 b.1) refl

pub formed_acts : (B : Records) (T : Log) → are_formed T ≡ true → all_formed (acts_from B T) ≡ true
formed_acts B [] f = refl
formed_acts B ((e, Ignored) ∷ T) f = formed_acts B T f
formed_acts B ((e, Tagged t) ∷ T) f =
    let p = and_parts (is_formed T e) (are_formed T) f in
    let h = formed_acts B T p.1 in
    formed_more (acts_at T (told B (acts_from B T)) e (Tagged t)) (acts_from B T) (formed_event B T e t h p.0) h

pub replies_have_their_form : RepliesHaveTheirForm
replies_have_their_form T s f = all_said T.base s (acts_from T.base T.log) (formed_acts T.base T.log f)
