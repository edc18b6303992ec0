-- A deposit that is hidden from a connection changes none of its sights, so long as it doesn't change what else is there.
use Rattle.std.specs.Prelude.{◌≡◌, ℕ, Bool, true, false, not, ◌&&◌, ◌||◌, ◌==◌, nat_le, List, [], ◌∷◌, ◌++◌, Option, Some, None, Result, Ok, Err, filter, cond, if◌then◌else◌, is_some}
use Rattle.std.proofs.Common.{refl, sym, ◌∙◌, ap, subst, eqb-true, inl, inr, true≢false}
use Rattle.std.proofs.lemmas.Bool.{and_parts}
use Rattle.std.proofs.lemmas.Slice.Eq.{bytes_eq-Decides}
use Rattle.std.specs.List.{find, list_any}
use Rattle.std.specs.Option.{option_map}
use Rattle.std.specs.Str.{bytes_eq}
use Rattle.creds.specs.Credential.{Shown, ByPass, ByApop, is_admitted}
use Rattle.creds.specs.declared.login_name.LoginName.{LoginName}
use Rattle.popline.specs.Cutting.{Cut, TooLong}
use Rattle.popline.specs.Cutting as cutting
use Rattle.popline.specs.Commands.{Command, Capa, User, Pass, Apop, command_of}
use Rattle.popline.specs.declared.command.LineFault.{LineFault}
use Rattle.popline.specs.declared.command.LineFault.TheVariants.{Unknown, Syntax}
use Rattle.popline.specs.Replies.{Reply, LoginFailedClosing, LoginFailed, MaildropHas, timestamp}
use Rattle.policy.specs.Policy.{Policy, decide}
use Rattle.policy.specs.declared.rule.Action.TheVariants as to
use Rattle.policy.specs.declared.decide.Decision.{Decision}
use Rattle.vault.specs.Records.{Records, class_of, in_maildrop, same_message, credential_in, is_one_of}
use Rattle.vault.specs.Changes.{put_clerk_answer}
use Rattle.vault.specs.declared.record.Message.{Message}
use Rattle.session.specs.View.{visible, may_read}
use Rattle.office.specs.Answers.{PutClerk, DropClerk, EndSession, Ended, NoSuchSession, Replaced, Dropped, NoSuchClerk}
use Rattle.office.specs.History.{Act, Open, Line, Gone, Idle, Deposit, Administer, Restart, Tag, Done, Failed, NoMemory, is_no_memory, Said, Says, Entry}
use Rattle.office.specs.History.{in_force, policy_after, clerks, clerks_after}
use Rattle.office.specs.History.{credential, exists, maildrops, arrivals}
use Rattle.office.specs.Connections.{setting, setting_after, user, user_after, user_after_line, failures, reading, heard, heard_after, opens, sent}
use Rattle.office.specs.Sessions.{live, login, login_after, login_by, logs_in, ends_session, holder, holds, is_login_to, present, removed}
use Rattle.office.specs.Replying.{Transaction, InAuthorization, InTransaction, login_asked, login_reply, login_failed, logging_in, opening, reply_to_reading, said_to_line}
use Rattle.office.specs.Replying.{state_at, transaction_at, stamp}
use Rattle.office.specs.Told.{told, said_to, answers_if_done, answer_of_put}
use Rattle.office.specs.Sights.{Opened, Gave, Ended, door, found, sight, sights, sights_after, is_of}
use Rattle.office.specs.Sights.{others, SameOtherwise, AlwaysSameOtherwise, IsHiddenFrom, HiddenDepositLeavesNoTrace, Sight, UnlessOpens}
use Rattle.office.specs.Laws.{In}
use Rattle.office.proofs.Sights.{hidden_mail_leaves_no_trace}
use Rattle.office.proofs.Snapshot.{in_filter}

-- ---- lists

find_agree : {A : Type 0} (p q : A → Bool) → ((x : A) → p x ≡ q x) → (xs : List A) → find p xs ≡ find q xs
find_agree p q h [] = refl
find_agree p q h (x ∷ xs) = ap (λ b. cond b (Some x) (find p xs)) (h x) ∙ ap (λ o. cond (q x) (Some x) o) (find_agree p q h xs)

drop_twice : {A : Type 0} (p : A → Bool) (x : A) (b : Bool) (fs gs : List A) → (b ≡ false → p x ≡ false) → fs ≡ filter p gs → cond (p x) (x ∷ fs) fs ≡ filter p (cond b (x ∷ gs) gs)
drop_twice p x true fs gs h e = ap (λ ys. cond (p x) (x ∷ ys) ys) e
drop_twice p x false fs gs h e = ap (λ b. cond b (x ∷ fs) fs) (h refl) ∙ e

-- leaving out what fails anyway
filter_fewer : {A : Type 0} (p q : A → Bool) (xs : List A) → ((x : A) → In x xs → q x ≡ false → p x ≡ false) → filter p xs ≡ filter p (filter q xs)
filter_fewer p q [] h = refl
filter_fewer p q (x ∷ xs) h = drop_twice p x (q x) (filter p xs) (filter q xs) (h x (inl refl)) (filter_fewer p q xs (λ y i. h y (inr i)))

if_alike : {A : Type 0} (b : Bool) (x y z w : A) → (b ≡ true → x ≡ y) → z ≡ w → cond b x z ≡ cond b y w
if_alike true x y z w h e = h refl
if_alike false x y z w h e = e

not_not : (b : Bool) → not b ≡ false → b ≡ true
not_not true e = refl
not_not false e = absurd (true≢false e)

-- ---- what a line changes, whatever a login finds

-- a login is accepted or not, whatever it finds and however many failed before
module _ (L : Reply → Option LoginName) (failed : L LoginFailed ≡ L LoginFailedClosing) (has : (n m i j : ℕ) → L (MaildropHas n m) ≡ L (MaildropHas i j)) where
  failure_alike : (n : ℕ) → L (login_failed n) ≡ L LoginFailed
  failure_alike n = at (nat_le 2 n)
    where
      at : (b : Bool) → L (if b then LoginFailedClosing else LoginFailed) ≡ L LoginFailed
      at true = sym failed
      at false = refl

  accepted_alike : (a : Bool) (n k : ℕ) (o : Decision) (b : Bool) → o.allowed ≡ b → (there locked : Bool) (ms ns : List Message)
      → L (login_reply a n o there locked ms) ≡ L (login_reply a k o there locked ns)
  accepted_alike false n k o b e there locked ms ns = failure_alike n ∙ sym (failure_alike k)
  accepted_alike true n k o false e there locked ms ns = rw e refl
  accepted_alike true n k o true e false locked ms ns = rw e refl
  accepted_alike true n k o true e true true ms ns = rw e refl
  accepted_alike true n k o true e true false ms ns = rw e (has _ _ _ _)

-- whom a line logs in, and the name in force after it
record SameEffect (r : Result Command LineFault) (u : Option LoginName) (x y : Said) : Type 0 where
  logs : logs_in r x u ≡ logs_in r y u
  names : user_after_line r x u ≡ user_after_line r y u

in_transaction : (p q : Policy) (v w : Transaction) (u : Option LoginName) (r : Result Command LineFault) (t : Tag)
    → SameEffect r u (Says (reply_to_reading (InTransaction p v) r t)) (Says (reply_to_reading (InTransaction q w) r t))
in_transaction p q v w u (Ok Capa) Done = record { logs = refl; names = refl }
in_transaction p q v w u (Ok Capa) Failed = record { logs = refl; names = refl }
in_transaction p q v w u (Ok Capa) NoMemory = record { logs = refl; names = refl }
in_transaction p q v w u r t = record { logs = refl; names = refl }

module _ (u : Option LoginName) (f g : LoginName → Shown → Reply)
    (same : (name : LoginName) (proof : Shown) (L : Reply → Option LoginName) → L LoginFailed ≡ L LoginFailedClosing → ((n m i j : ℕ) → L (MaildropHas n m) ≡ L (MaildropHas i j))
    → L (f name proof) ≡ L (g name proof)) where
  logged_alike : (r : Result Command LineFault) → logs_in r (Says (reply_to_reading (InAuthorization u f) r Done)) u ≡ logs_in r (Says (reply_to_reading (InAuthorization u g) r Done)) u
  logged_alike (Ok (Pass password)) = passed u
    where
      passed : (o : Option LoginName) → logs_in (Ok (Pass password)) (Says (reply_to_reading (InAuthorization o f) (Ok (Pass password)) Done)) o
          ≡ logs_in (Ok (Pass password)) (Says (reply_to_reading (InAuthorization o g) (Ok (Pass password)) Done)) o
      passed None = refl
      passed (Some name) = same name (ByPass password) (λ reply. logs_in (Ok (Pass password)) (Says reply) (Some name)) refl (λ n m i j. refl)
  logged_alike (Ok (Apop name digest)) = same name (ByApop digest) (λ reply. logs_in (Ok (Apop name digest)) (Says reply) u) refl (λ n m i j. refl)
  logged_alike _ = refl

  named_alike : (r : Result Command LineFault) → user_after_line r (Says (reply_to_reading (InAuthorization u f) r Done)) u ≡ user_after_line r (Says (reply_to_reading (InAuthorization u g) r Done)) u
  named_alike (Ok Capa) = refl
  named_alike (Ok (User name)) = refl
  named_alike _ = refl

  in_authorization : (r : Result Command LineFault) (t : Tag) → is_no_memory t ≡ false
      → SameEffect r u (Says (reply_to_reading (InAuthorization u f) r t)) (Says (reply_to_reading (InAuthorization u g) r t))
  in_authorization r NoMemory e = absurd (true≢false e)
  in_authorization r Done e = record { logs = logged_alike r; names = named_alike r }
  in_authorization (Ok command) Failed e = record { logs = refl; names = refl }
  in_authorization (Err Unknown) Failed e = record { logs = refl; names = refl }
  in_authorization (Err (Syntax k)) Failed e = record { logs = refl; names = refl }

-- ---- two histories that differ in what is hidden

-- what they have in common, but for the mail
record Alike (B : Records) (G K : List Entry) : Type 0 where
  policy : in_force B G ≡ in_force B K
  clerks_are : clerks B G ≡ clerks B K
  setting_is : setting G ≡ setting K
  heard_are : heard G ≡ heard K
  users : (q : ℕ) → user G q ≡ user K q
  lives : (q : ℕ) → live G q ≡ live K q
  logins : (q : ℕ) → login G q ≡ login K q

module _ (B : Records) (G K : List Entry) (a : Alike B G K) (there : maildrops B G ≡ maildrops B K) where
  held_alike : (d : List ℕ) → holder G d ≡ holder K d
  held_alike d =
      find_agree (holds G d) (holds K d) (λ q. ap (λ l. l && is_login_to d (login G q)) (a.lives q) ∙ ap (λ o. live K q && is_login_to d o) (a.logins q)) (heard G)
      ∙ ap (λ ns. find (holds K d) ns) a.heard_are

  door_alike : (name : LoginName) → door B G name ≡ door B K name
  door_alike name =
      let c = a.clerks_are in
      let h = held_alike name.maildrop in
      rw (c, there, h) refl

  entered_alike : (c : ℕ) (name : LoginName) (proof : Shown) (L : Reply → Option LoginName) → L LoginFailed ≡ L LoginFailedClosing → ((n m i j : ℕ) → L (MaildropHas n m) ≡ L (MaildropHas i j))
      → L (logging_in B G c name proof) ≡ L (logging_in B K c name proof)
  entered_alike c name proof L failed has =
      let p = a.policy in
      let k = a.clerks_are in
      let s = a.setting_is in
      let h = held_alike name.maildrop in
      accepted_alike L failed has (is_admitted (credential B G name.clerk) name.clerk (stamp G c) proof) (failures G c) (failures K c) (opening B G name) (opening B G name).allowed refl
      (exists B G name.maildrop) (is_some (holder G name.maildrop))
      (visible class_of (in_force B G) name (present B G name.maildrop)) (visible class_of (in_force B K) name (present B K name.maildrop))
      ∙ ap (λ (x : Bool). L (login_reply x (failures K c) (opening B G name) (exists B G name.maildrop) (is_some (holder G name.maildrop))
      (visible class_of (in_force B K) name (present B K name.maildrop))))
      (ap (λ cs. is_admitted (credential_in name.clerk cs) name.clerk (stamp G c) proof) k ∙ ap (λ x. is_admitted (credential B K name.clerk) name.clerk (timestamp c x.0 x.1) proof) s)
      ∙ ap (λ (q : Policy). L (login_reply (is_admitted (credential B K name.clerk) name.clerk (stamp K c) proof) (failures K c) (decide q name.clerk name.maildrop [] to.Open)
      (exists B G name.maildrop) (is_some (holder G name.maildrop)) (visible class_of (in_force B K) name (present B K name.maildrop)))) p
      ∙ ap (λ ds. L (login_reply (is_admitted (credential B K name.clerk) name.clerk (stamp K c) proof) (failures K c) (opening B K name)
      (is_one_of name.maildrop ds) (is_some (holder G name.maildrop)) (visible class_of (in_force B K) name (present B K name.maildrop)))) there
      ∙ ap (λ o. L (login_reply (is_admitted (credential B K name.clerk) name.clerk (stamp K c) proof) (failures K c) (opening B K name)
      (exists B K name.maildrop) (is_some o) (visible class_of (in_force B K) name (present B K name.maildrop)))) h

  -- a line
  effect_in : (n : ℕ) (octets : List ℕ) (l : Bool) → live K n ≡ l → (t : Tag) → is_no_memory t ≡ false
      → SameEffect (command_of octets) (user K n) (Says (reply_to_reading (state_at B G n) (command_of octets) t)) (Says (reply_to_reading (state_at B K n) (command_of octets) t))
  effect_in n octets true f t e =
      let l = a.lives n ∙ f in
      rw (l, f) (in_transaction (in_force B G) (in_force B K) (transaction_at B G n) (transaction_at B K n) (user K n) (command_of octets) t)
  effect_in n octets false f t e =
      let l = a.lives n ∙ f in
      let u = a.users n in
      rw (l, f, u) (in_authorization (user K n) (logging_in B G n) (logging_in B K n) (entered_alike n) (command_of octets) t e)

  effect : (n : ℕ) (x : Cut) (t : Tag) → SameEffect (reading x) (user K n) (said_to_line B G n x t) (said_to_line B K n x t)
  effect n x NoMemory = record { logs = refl; names = refl }
  effect n TooLong Done = record { logs = refl; names = refl }
  effect n TooLong Failed = record { logs = refl; names = refl }
  effect n (cutting.Line octets) Done = effect_in n octets (live K n) refl Done refl
  effect n (cutting.Line octets) Failed = effect_in n octets (live K n) refl Failed refl

  logged_at : (n q : ℕ) (x : Cut) (t : Tag) → (n == q) ≡ true → logs_in (reading x) (said_to_line B G n x t) (user G q) ≡ logs_in (reading x) (said_to_line B K n x t) (user K q)
  logged_at n q x t e =
      ap (λ u. logs_in (reading x) (said_to_line B G n x t) u) (a.users q)
      ∙ subst (λ k. logs_in (reading x) (said_to_line B G n x t) (user K k) ≡ logs_in (reading x) (said_to_line B K n x t) (user K k)) (eqb-true n q e) (effect n x t).logs

  named_at : (n q : ℕ) (x : Cut) (t : Tag) → (n == q) ≡ true
      → user_after_line (reading x) (said_to_line B G n x t) (user G q) ≡ user_after_line (reading x) (said_to_line B K n x t) (user K q)
  named_at n q x t e =
      ap (λ u. user_after_line (reading x) (said_to_line B G n x t) u) (a.users q)
      ∙ subst (λ k. user_after_line (reading x) (said_to_line B G n x t) (user K k) ≡ user_after_line (reading x) (said_to_line B K n x t) (user K k)) (eqb-true n q e) (effect n x t).names

  -- an entry
  ends_alike : (act : Act) (t : Tag) (q : ℕ) → ends_session act t (said_to B G act t) q ≡ ends_session act t (said_to B K act t) q
  ends_alike (Administer (EndSession n)) t q =
      ap (λ l. ends_session (Administer (EndSession n)) t (answers_if_done t (if l then Ended else NoSuchSession)) q) (a.lives n)
  ends_alike (Administer _) t q = refl
  ends_alike (Open n) t q = refl
  ends_alike (Line n x) t q = refl
  ends_alike (Gone n) t q = refl
  ends_alike (Idle n) t q = refl
  ends_alike (Deposit d class id text) t q = refl
  ends_alike (Restart boot host removals) t q = refl

  logins_alike : (act : Act) (t : Tag) (q : ℕ) → login_by act (said_to B G act t) q (user G q) ≡ login_by act (said_to B K act t) q (user K q)
  logins_alike (Line n x) t q = if_alike (n == q) _ _ None None (logged_at n q x t) refl
  logins_alike (Open n) t q = refl
  logins_alike (Gone n) t q = refl
  logins_alike (Idle n) t q = refl
  logins_alike (Deposit d class id text) t q = refl
  logins_alike (Administer command) t q = refl
  logins_alike (Restart boot host removals) t q = refl

  users_alike : (act : Act) (t : Tag) (q : ℕ) → user_after act (said_to B G act t) q (user G q) ≡ user_after act (said_to B K act t) q (user K q)
  users_alike (Line n x) t q = if_alike (n == q) _ _ _ _ (named_at n q x t) (a.users q)
  users_alike (Open n) t q = ap (λ u. if n == q then None else u) (a.users q)
  users_alike (Gone n) t q = a.users q
  users_alike (Idle n) t q = a.users q
  users_alike (Deposit d class id text) t q = a.users q
  users_alike (Administer command) t q = a.users q
  users_alike (Restart boot host removals) t q = a.users q

  clerks_alike : (act : Act) (t : Tag) → clerks_after act (said_to B G act t) (clerks B G) ≡ clerks_after act (said_to B K act t) (clerks B K)
  clerks_alike (Administer (PutClerk name given)) t =
      ap (λ cs. clerks_after (Administer (PutClerk name given)) (answers_if_done t (answer_of_put Replaced (put_clerk_answer name cs))) cs) a.clerks_are
  clerks_alike (Administer (DropClerk name)) t =
      ap (λ cs. clerks_after (Administer (DropClerk name)) (answers_if_done t (if is_some (credential_in name cs) then Dropped else NoSuchClerk)) cs) a.clerks_are
  clerks_alike (Administer _) t = a.clerks_are
  clerks_alike (Open n) t = a.clerks_are
  clerks_alike (Line n x) t = a.clerks_are
  clerks_alike (Gone n) t = a.clerks_are
  clerks_alike (Idle n) t = a.clerks_are
  clerks_alike (Deposit d class id text) t = a.clerks_are
  clerks_alike (Restart boot host removals) t = a.clerks_are

  next : (act : Act) (t : Tag) → Alike B (record { act = act; tag = t; said = said_to B G act t } ∷ G) (record { act = act; tag = t; said = said_to B K act t } ∷ K)
  next act t = record {
    policy = ap (policy_after act t) a.policy;
    clerks_are = clerks_alike act t;
    setting_is = ap (setting_after act) a.setting_is;
    heard_are = ap (heard_after act) a.heard_are;
    users = users_alike act t;
    lives = λ q.
        ap (λ b. not b && (is_some (login_by act (said_to B G act t) q (user G q)) || live G q)) (ends_alike act t q)
        ∙ (ap (λ o. not (ends_session act t (said_to B K act t) q) && (is_some o || live G q)) (logins_alike act t q)
        ∙ ap (λ l. not (ends_session act t (said_to B K act t) q) && (is_some (login_by act (said_to B K act t) q (user K q)) || l)) (a.lives q));
    logins = λ q.
        ap (λ o. login_after (opens act q) o (login G q)) (logins_alike act t q)
        ∙ ap (λ o. login_after (opens act q) (login_by act (said_to B K act t) q (user K q)) o) (a.logins q);
  }

-- ---- what a login finds

module _ (B : Records) (d class : List ℕ) (G K : List Entry) (a : Alike B G K) (s : SameOtherwise B d class G K) where
  shown : (X : List Entry) (name : LoginName) → (name.maildrop ≡ d → may_read (in_force B G) name class ≡ false)
      → visible class_of (in_force B G) name (present B X name.maildrop) ≡ visible class_of (in_force B G) name (others d class (present B X name.maildrop))
  shown X name hidden = filter_fewer (λ (m : Message). may_read (in_force B G) name m.class) (λ (m : Message). not (is_of d class m)) (present B X name.maildrop) fails
    where
      fails : (m : Message) → In m (present B X name.maildrop) → not (is_of d class m) ≡ false → may_read (in_force B G) name m.class ≡ false
      fails m i e =
          let p = and_parts (bytes_eq m.maildrop d) (bytes_eq m.class class) (not_not (is_of d class m) e) in
          let x = in_filter (λ (x : Message). not (list_any (same_message x) (removed B X))) (in_maildrop name.maildrop (arrivals B X)) m i in
          let y = in_filter (λ (x : Message). bytes_eq x.maildrop name.maildrop) (arrivals B X) m x.0 in
          let of_name : m.maildrop ≡ name.maildrop = (bytes_eq-Decides m.maildrop name.maildrop).0 y.1 in
          let of_class : m.class ≡ class = (bytes_eq-Decides m.class class).0 p.1 in
          ap (λ k. may_read (in_force B G) name k) of_class ∙ hidden (sym of_name ∙ (bytes_eq-Decides m.maildrop d).0 p.0)

  found_alike : (o : Option LoginName) → ((name : LoginName) → o ≡ Some name → name.maildrop ≡ d → may_read (in_force B G) name class ≡ false) → found B G o ≡ found B K o
  found_alike None hidden = refl
  found_alike (Some name) hidden =
      shown G name (hidden name refl)
      ∙ (ap (λ ms. visible class_of (in_force B G) name ms) (s.messages name.maildrop)
      ∙ (sym (shown K name (hidden name refl)) ∙ ap (λ (p : Policy). visible class_of p name (present B K name.maildrop)) a.policy))

  sight_alike : (c n : ℕ) (x : Cut) (t : Tag) → (n == c) ≡ true
      → ((name : LoginName) → logs_in (reading x) (said_to_line B G n x t) (user G c) ≡ Some name → name.maildrop ≡ d → may_read (in_force B G) name class ≡ false)
      → sight B G c x t (said_to_line B G n x t) ≡ sight B K c x t (said_to_line B K n x t)
  sight_alike c n x t e hidden =
      let p = a.policy in
      let q = a.setting_is in
      let u = a.users c in
      let f = found_alike (logs_in (reading x) (said_to_line B G n x t) (user G c)) hidden ∙ ap (found B K) (logged_at B G K a s.maildrops n c x t e) in
      let o : option_map (door B G) (login_asked (reading x) (user G c)) ≡ option_map (door B K) (login_asked (reading x) (user K c)) =
      doors_alike (login_asked (reading x) (user G c)) ∙ ap (λ w. option_map (door B K) (login_asked (reading x) w)) u in
      ap (λ w. Gave x t w (setting G) (option_map (door B G) (login_asked (reading x) (user G c))) (found B G (logs_in (reading x) (said_to_line B G n x t) (user G c)))) p
      ∙ (ap (λ w. Gave x t (in_force B K) w (option_map (door B G) (login_asked (reading x) (user G c))) (found B G (logs_in (reading x) (said_to_line B G n x t) (user G c)))) q
      ∙ (ap (λ w. Gave x t (in_force B K) (setting K) w (found B G (logs_in (reading x) (said_to_line B G n x t) (user G c)))) o
      ∙ ap (λ w. Gave x t (in_force B K) (setting K) (option_map (door B K) (login_asked (reading x) (user K c))) w) f))
    where
      doors_alike : (o : Option LoginName) → option_map (door B G) o ≡ option_map (door B K) o
      doors_alike None = refl
      doors_alike (Some name) = ap (λ w. Some w) (door_alike B G K a s.maildrops name)

  sights_alike : (c : ℕ) (act : Act) (t : Tag)
      → ((name : LoginName) → login_by act (said_to B G act t) c (user G c) ≡ Some name → name.maildrop ≡ d → may_read (in_force B G) name class ≡ false)
      → sights B G c ≡ sights B K c
      → sights_after B G c act t (said_to B G act t) (sights B G c) ≡ sights_after B K c act t (said_to B K act t) (sights B K c)
  sights_alike c (Open n) t hidden e = if_alike (n == c) _ _ _ _ (λ b. ap (λ w. Opened w ∷ []) a.setting_is) e
  sights_alike c (Line n x) t hidden e = if_alike (n == c) _ _ _ _ (λ b. ap (λ w. w ∷ sights B G c) (sight_alike c n x t b (own b)) ∙ ap (λ ss. sight B K c x t (said_to_line B K n x t) ∷ ss) e) e
    where
      own : (n == c) ≡ true → (name : LoginName) → logs_in (reading x) (said_to_line B G n x t) (user G c) ≡ Some name → name.maildrop ≡ d → may_read (in_force B G) name class ≡ false
      own b name k = hidden name (rw b k)
  sights_alike c (Gone n) t hidden e = ap (λ ss. if n == c then Ended ∷ ss else ss) e
  sights_alike c (Idle n) t hidden e = ap (λ ss. if n == c then Ended ∷ ss else ss) e
  sights_alike c (Deposit k b i x) t hidden e = e
  sights_alike c (Administer command) t hidden e =
      ap (λ ss. if ends_session (Administer command) t (said_to B G (Administer command) t) c then Ended ∷ ss else ss) e
      ∙ ap (λ b. if b then Ended ∷ sights B K c else sights B K c) (ends_alike B G K a s.maildrops (Administer command) t c)
  sights_alike c (Restart boot host removals) t hidden e = ap (λ ss. Ended ∷ ss) e

-- ---- the whole

otherwise_now : (B : Records) (d class : List ℕ) (later these those : List (Act × Tag)) → AlwaysSameOtherwise B d class later these those
    → SameOtherwise B d class (told B (later ++ these)) (told B (later ++ those))
otherwise_now B d class [] these those h = h
otherwise_now B d class (x ∷ later) these those h = h.0

-- an opening begins anew
opened_sights : (B : Records) (G : List Entry) (c : ℕ) (act : Act) (t : Tag) (said : Said) (before : List Sight) → opens act c ≡ true
    → sights_after B G c act t said before ≡ Opened (setting G) ∷ []
opened_sights B G c (Open n) t said before e = rw e refl
opened_sights B G c _ t said before e = absurd (true≢false (sym e))

module _ (B : Records) (H : List (Act × Tag)) (d class id text : List ℕ) (t : Tag) (c : ℕ) where
  abbrev deposited : List (Act × Tag)
  deposited = (Deposit d class id text, t) ∷ H

  all_alike : (later : List (Act × Tag)) → AlwaysSameOtherwise B d class later deposited H → Alike B (told B (later ++ deposited)) (told B (later ++ H))
  all_alike [] h = record { policy = refl; clerks_are = refl; setting_is = refl; heard_are = refl; users = λ q. refl; lives = λ q. refl; logins = λ q. refl }
  all_alike ((a, u) ∷ later) h =
      next B (told B (later ++ deposited)) (told B (later ++ H)) (all_alike later h.1) (otherwise_now B d class later deposited H h.1).maildrops a u

  all_sights : (later : List (Act × Tag)) → AlwaysSameOtherwise B d class later deposited H → IsHiddenFrom B d class c (told B (later ++ deposited))
      → sights B (told B (later ++ deposited)) c ≡ sights B (told B (later ++ H)) c
  all_sights [] h i = refl
  all_sights ((a, u) ∷ later) h i = at (λ k. all_sights later h.1 k) (opens a c) refl i
    where
      at : (IsHiddenFrom B d class c (told B (later ++ deposited)) → sights B (told B (later ++ deposited)) c ≡ sights B (told B (later ++ H)) c) → (b : Bool) → opens a c ≡ b
          → UnlessOpens b (((name : LoginName) → login_by a (said_to B (told B (later ++ deposited)) a u) c (user (told B (later ++ deposited)) c) ≡ Some name → name.maildrop ≡ d
          → may_read (in_force B (told B (later ++ deposited))) name class ≡ false) × IsHiddenFrom B d class c (told B (later ++ deposited)))
          → sights_after B (told B (later ++ deposited)) c a u (said_to B (told B (later ++ deposited)) a u) (sights B (told B (later ++ deposited)) c)
          ≡ sights_after B (told B (later ++ H)) c a u (said_to B (told B (later ++ H)) a u) (sights B (told B (later ++ H)) c)
      at before true e k =
          opened_sights B (told B (later ++ deposited)) c a u (said_to B (told B (later ++ deposited)) a u) (sights B (told B (later ++ deposited)) c) e
          ∙ (ap (λ s. Opened s ∷ []) (all_alike later h.1).setting_is
          ∙ sym (opened_sights B (told B (later ++ H)) c a u (said_to B (told B (later ++ H)) a u) (sights B (told B (later ++ H)) c) e))
      at before false e k =
          sights_alike B d class (told B (later ++ deposited)) (told B (later ++ H)) (all_alike later h.1) (otherwise_now B d class later deposited H h.1) c a u k.0 (before k.1)

pub hidden_deposit_leaves_no_trace : HiddenDepositLeavesNoTrace
hidden_deposit_leaves_no_trace B acts later H d class id text t c e h i =
    ap (λ xs. sent (told B xs) c) e
    ∙ hidden_mail_leaves_no_trace B (later ++ (Deposit d class id text, t) ∷ H) B (later ++ H) c (all_sights B H d class id text t c later h (subst (λ xs. IsHiddenFrom B d class c (told B xs)) e i))
