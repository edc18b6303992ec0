-- How what is kept of a connection follows the trace as a piece comes or is resumed.
use Rattle.std.proofs.Common.{◌≡◌, ℕ, zero, suc, ◌+◌, ◌≤◌, Bool, true, false, not, ◌||◌, ◌&&◌, cond, List, [], ◌∷◌, ◌++◌, drop, length, map, refl, sym, ◌∙◌, ap, arith, Some, None}
use Rattle.std.proofs.Common.{is_some, slice_get, append-nil, ◌==◌, length-append, add-one, length-drop, min, subst, true≢false}
use Rattle.std.proofs.lemmas.Bool.Decides.{nat_tests}
use Rattle.std.proofs.lemmas.List.{drop-append-le, length-take}
use Rattle.std.specs.Bool.{if◌then◌else◌}
use Rattle.popline.specs.Cutting.{Cut, cut_of, cut, pieces, onto_first, begun, prefixed, fed, whole_line, coming, through_newline, has_newline, before_newline}
use Rattle.popline.specs.Replies.{Reply, Greeting, LineTooLong, UnknownCommand, WrongState, BadArguments, Capabilities, SendPass, LoginFailed, LoginFailedClosing, DeniedBy}
use Rattle.popline.specs.Replies.{NoSuchMaildrop, InUse, MaildropHas, DropListing, ScanListing, ScanLine, UidListing, UidLine, Message, TopPart, Marked, Okay, NoSuchMessage}
use Rattle.popline.specs.Replies.{AlreadyMarked, Bye, RemovalDenied, RemovalFailed, StoreFailed, bytes_of}
use Rattle.office.specs.History.{Says}
use Rattle.office.specs.Connections.{reading, closes, is_quit, user_after_line, is_failure, has_message}
use Rattle.creds.specs.declared.login_name.LoginName.{LoginName}
use Rattle.vault.specs.declared.record.Message as store
use Rattle.vault.specs.Changes.{Contents}
use Rattle.office.specs.Sessions.{logs_in, login_after, marks_after_line, view_after}
use Rattle.office.specs.Replying.{is_empty}
use Rattle.office.specs.Expected.{most_in_a_piece}
use Rattle.office.specs.Output.{Output, nothing_owed, reads_text, Owes, OwesReply}
use Rattle.office.specs.Kept.{Kept, answered, line_after, login_state_after, one_more_failure, most_failures}
use Rattle.office.specs.Stands.{Seen, Matches, IsSession, is_seen_open, untaken_of, most_in_a_line}
use Rattle.office.specs.declared.login_state.LoginState.{LoginState}
use Rattle.office.proofs.Owing.{owes_none}

-- failures, counted to the most
one_more_counted : (f g : ℕ) → f ≡ min g most_failures
    → one_more_failure f ≡ min (g + 1) most_failures
one_more_counted f g e = grind (arith, nat_tests, e)

failures_counted : (b : Bool) (f g : ℕ) → f ≡ min g most_failures
    → (if b then one_more_failure f else f) ≡ min (if b then g + 1 else g) most_failures
failures_counted true f g e = one_more_counted f g e
failures_counted false f g e = e

-- what stands at a place, and what follows it
pub at_drop : {A : Type 0} (n : ℕ) (xs : List A) (x : A) (ys : List A) → drop n xs ≡ x ∷ ys → (slice_get xs n ≡ Some x) × (drop (n + 1) xs ≡ ys)
at_drop zero [] x ys e = cc
at_drop zero (a ∷ xs) x ys e = (cc, cc)
at_drop (suc n) [] x ys e = cc
at_drop (suc n) (a ∷ xs) x ys e = let h = at_drop n xs x ys e in (h.0, rw add-one (rw add-one at h.1))

-- nothing stands if nothing is left
pub at_end : {A : Type 0} (n : ℕ) (xs : List A) → drop n xs ≡ [] → slice_get xs n ≡ None
at_end zero [] e = refl
at_end zero (a ∷ xs) e = cc
at_end (suc n) [] e = refl
at_end (suc n) (a ∷ xs) e = at_end n xs e

-- what a trace says of a connection after more octets came at a moment, after some were taken, and after a line got this reply
abbrev pub streamed : Seen → List ℕ → (now : ℕ) → Seen
streamed s p now = record {
  connected = s.connected;
  closing = s.closing;
  live = s.live;
  stream = s.stream
      ++ p;
  acted = s.acted;
  serving = s.serving;
  sent = s.sent;
  taken = s.taken;
  user = s.user;
  failures = s.failures;
  stamp = s.stamp;
  judging = s.judging;
  login = s.login;
  marks = s.marks;
  view = s.view;
  clock = if has_newline p then now else s.clock;
}

abbrev pub took : Seen → ℕ → (now : ℕ) → Seen
took s n now = record {
  connected = s.connected;
  closing = s.closing;
  live = s.live;
  stream = s.stream;
  acted = s.acted;
  serving = s.serving;
  sent = s.sent;
  taken = s.taken + n;
  user = s.user;
  failures = s.failures;
  stamp = s.stamp;
  judging = s.judging;
  login = s.login;
  marks = s.marks;
  view = s.view;
  clock = now;
}

-- `found` is what a login would find
abbrev pub lined : Seen → Cut → Reply → (found : LoginName → List store.Message) → Seen
lined s x r found = record {
  connected = s.connected;
  closing = closes (reading x) (Says r) || s.closing;
  live = not (is_quit (reading x) || false) && (is_some (logs_in (reading x) (Says r) s.user) || s.live);
  stream = s.stream;
  acted = s.acted + 1;
  serving = has_message (Says r);
  sent = s.sent ++ bytes_of r;
  taken = s.taken;
  user = user_after_line (reading x) (Says r) s.user;
  failures = if is_failure (Says r) then s.failures + 1 else s.failures;
  stamp = s.stamp;
  judging = s.judging;
  login = login_after false (logs_in (reading x) (Says r) s.user) s.login;
  marks = marks_after_line (Says r) s.marks;
  view = view_after (logs_in (reading x) (Says r) s.user) found s.view;
  clock = s.clock;
}

-- no reply is empty
pub says_something : (r : Reply) → is_empty (bytes_of r) ≡ false
says_something (Greeting number boot host) = refl
says_something LineTooLong = refl
says_something UnknownCommand = refl
says_something WrongState = refl
says_something BadArguments = refl
says_something Capabilities = refl
says_something SendPass = refl
says_something LoginFailed = refl
says_something LoginFailedClosing = refl
says_something (DeniedBy rule) = refl
says_something NoSuchMaildrop = refl
says_something InUse = refl
says_something (MaildropHas n m) = refl
says_something (DropListing n m) = refl
says_something (ScanListing rows) = refl
says_something (ScanLine n m) = refl
says_something (UidListing rows) = refl
says_something (UidLine n uid) = refl
says_something (Message octets lines) = refl
says_something (TopPart lines) = refl
says_something (Marked n) = refl
says_something Okay = refl
says_something NoSuchMessage = refl
says_something (AlreadyMarked n) = refl
says_something Bye = refl
says_something (RemovalDenied rule) = refl
says_something RemovalFailed = refl
says_something StoreFailed = refl

pub not_nil : (xs : List ℕ) → is_empty xs ≡ false → xs ≡ [] → ⊥
not_nil [] e h = cc
not_nil (x ∷ xs) e h = cc

pub open_still : (a b c : Bool) → (a && not b) ≡ true → (a && not (c && false)) ≡ true
open_still true b true h = refl
open_still true b false h = refl
open_still false b c h = h

first_closes : (a b : Bool) → b ≡ false → (a || b) ≡ true → a ≡ true
first_closes true b e h = refl
first_closes false b e h = absurd (true≢false (sym h ∙ e))

-- what is owed after a reply
pub owed_more : (s : Seen) (x : Cut) (r : Reply) (found : LoginName → List store.Message) → s.taken ≤ length s.sent → untaken_of s ≡ [] → untaken_of (lined s x r found) ≡ bytes_of r
owed_more s x r found le e = drop-append-le s.taken s.sent (bytes_of r) le ∙ ap (λ o. o ++ bytes_of r) e

-- if there is no LF, all is cut
one_through : (b : ℕ) (bs : List ℕ) (t : Bool) → cond t true (has_newline bs) ≡ false → (has_newline bs ≡ false → drop (through_newline bs) bs ≡ [])
    → drop (cond t 1 (through_newline bs + 1)) (b ∷ bs) ≡ []
one_through b bs true e rest = cc
one_through b bs false e rest = rw add-one (rest e)

pub through_all : (p : List ℕ) → has_newline p ≡ false → drop (through_newline p) p ≡ []
through_all [] e = refl
through_all (b ∷ bs) e = one_through b bs (b == 10) e (through_all bs)

none_more : (b : ℕ) (bs : List ℕ) (t : Bool) → cond t true (has_newline bs) ≡ false → (has_newline bs ≡ false → pieces bs ≡ []) → cond t ([] ∷ pieces bs) (onto_first b (pieces bs)) ≡ []
none_more b bs true e rest = cc
none_more b bs false e rest = rw (rest e) refl

pub pieces_none : (p : List ℕ) → has_newline p ≡ false → pieces p ≡ []
pieces_none [] e = refl
pieces_none (b ∷ bs) e = none_more b bs (b == 10) e (pieces_none bs)

-- Before an answer: what is kept owes nothing, and the lines that are left come from what is held and these octets.
pub record Awaits (c : Contents) (s : Seen) (k : Kept) (octets : List ℕ) : Type 0 where
  pub opened : is_seen_open s ≡ true
  pub taken : s.taken ≤ length s.sent
  pub nothing : k.output ≡ nothing_owed
  pub owed : untaken_of s ≡ []
  pub session : IsSession c s k.session
  pub open_yet : s.closing ≡ false
  pub closing : k.state.closing ≡ s.closing
  pub user : k.state.user ≡ s.user
  pub failures : k.state.failures ≡ min s.failures most_failures
  pub stamp : k.stamp ≡ s.stamp
  pub judged : k.state.removals ≡ s.judging
  pub clock : k.clock ≡ s.clock
  pub lines : (more : List ℕ) → drop s.acted (cut (s.stream ++ more)) ≡ coming k.held (octets ++ more)
  pub piece : length octets ≤ most_in_a_piece

-- `answer` is the reply to the line that is whole, if one is
module _ (c : Contents) (s : Seen) (k k' : Kept) (p : List ℕ) (answer : Reply) (m : Awaits c s k p) (e : k' ≡ answered k p answer k'.session k'.output)
    (law : (more : List ℕ) → coming k.held (p ++ more) ≡ whole_line k'.held ++ coming k'.held (k'.pending ++ more)) where
  line_fits : length k'.held.octets ≤ most_in_a_line
  line_fits = rw e (omega (arith, length-take most_in_a_line (begun k.held ++ before_newline p)))

  piece_fits : length k'.pending ≤ most_in_a_piece
  piece_fits = rw e (omega (arith, m.piece, length-drop (through_newline p) p))

  whole_is : k'.held.whole ≡ has_newline p
  whole_is = ap (λ (k : Kept). k.held.whole) e

  -- no line closes it, if none acts
  quiet_yet : s.closing ≡ true → s.live ≡ false
  quiet_yet h = absurd (true≢false (sym h ∙ m.open_yet))

  -- the lines that are left, before and after
  left : (more : List ℕ) → drop s.acted (cut (s.stream ++ more)) ≡ whole_line k'.held ++ coming k'.held (k'.pending ++ more)
  left more = m.lines more ∙ law more

  pub part_heard : has_newline p ≡ false → k'.session ≡ k.session → k'.output ≡ nothing_owed → Matches c s k'
  part_heard h same none =
      let e' = rw h at e in
      let w : k'.held.whole ≡ false = whole_is ∙ h in
      record {
        opened = m.opened;
        taken = m.taken;
        owed = subst (λ xs. Owes c k'.session k'.output xs) (sym m.owed) (owes_none c k'.session k'.output none);
        serving = λ t. absurd (true≢false (sym t ∙ ap (λ (o : Output). reads_text o.source) none));
        session = subst (IsSession c s) (sym same) m.session;
        parted = quiet_yet;
        closing = ap (λ (k : Kept). k.state.closing) e' ∙ m.closing;
        user = ap (λ (k : Kept). k.state.user) e' ∙ m.user;
        failures = ap (λ (k : Kept). k.state.failures) e' ∙ m.failures;
        judged = ap (λ (k : Kept). k.state.removals) e' ∙ m.judged;
        stamp = ap (λ (k : Kept). k.stamp) e ∙ m.stamp;
        clock = ap (λ (k : Kept). k.clock) e ∙ m.clock;
        lines = λ more. left more ∙ ap (λ xs. xs ++ coming k'.held (k'.pending ++ more)) (let q : whole_line k'.held ≡ [] = rw w refl in q);
        cut_whole = λ _. ap (λ (k : Kept). k.pending) e ∙ through_all p h;
        line_kept = line_fits;
        piece_kept = piece_fits;
      }

  pub none_next : has_newline p ≡ false → slice_get (cut s.stream) s.acted ≡ None
  none_next h = at_end s.acted (cut s.stream) (ap (λ q. drop s.acted (cut q)) (sym (append-nil s.stream)) ∙ (m.lines []
      ∙ (ap (λ q. coming k.held q) (append-nil p) ∙ ap (λ ps. map cut_of (prefixed (begun k.held) ps)) (pieces_none p h))))

  -- the line that acts
  abbrev acting : Cut
  acting = cut_of k'.held.octets

  acting_is : acting ≡ line_after k p
  acting_is = ap (λ (k : Kept). cut_of k.held.octets) e

  shown_is : has_newline p ≡ true → whole_line k'.held ≡ acting ∷ []
  shown_is h = let w : k'.held.whole ≡ true = whole_is ∙ h in rw w refl

  next : has_newline p ≡ true → (more : List ℕ) → drop s.acted (cut (s.stream ++ more)) ≡ acting ∷ coming k'.held (k'.pending ++ more)
  next h more = left more ∙ ap (λ xs. xs ++ coming k'.held (k'.pending ++ more)) (shown_is h)

  pub acts_next : has_newline p ≡ true → slice_get (cut s.stream) s.acted ≡ Some (line_after k p)
  acts_next h = (at_drop s.acted (cut s.stream) acting (coming k'.held (k'.pending ++ [])) (ap (λ q. drop s.acted (cut q)) (sym (append-nil s.stream)) ∙ next h [])).0
      ∙ ap Some acting_is

  heard_at : (c' : Contents) (found : LoginName → List store.Message) (x : Cut) → x ≡ acting → has_newline p ≡ true → IsSession c' (lined s x answer found) k'.session
      → OwesReply c' k'.session k'.output answer → (closes (reading x) (Says answer) ≡ true → (lined s x answer found).live ≡ false) → Matches c' (lined s x answer found) k'
  heard_at c' found x same h sits owes parts =
      let e' = rw h at e in
      let more_owed = owed_more s x answer found m.taken m.owed in
      let said = says_something answer in
      let held_is : k'.held ≡ fed k.held p = ap (λ (k : Kept). k.held) e in
      let login_state_is : k'.state ≡ login_state_after x answer k.state =
      ap (λ (k : Kept). k.state) e' ∙ ap (λ y. login_state_after y answer k.state) (sym (same ∙ acting_is)) in
      record {
        opened = rw (more_owed, said) (open_still s.connected (s.closing && is_empty (untaken_of s)) (closes (reading x) (Says answer) || s.closing) m.opened);
        session = sits;
        parted = λ t. parts (first_closes (closes (reading x) (Says answer)) s.closing m.open_yet t);
        taken = omega (arith, m.taken, length-append s.sent (bytes_of answer));
        owed = subst (λ xs. Owes c' k'.session k'.output xs) (sym more_owed) owes.owes;
        serving = owes.serves;
        closing = ap (λ (t : LoginState). t.closing) login_state_is ∙ ap (λ b. closes (reading x) (Says answer) || b) m.closing;
        user = ap (λ (t : LoginState). t.user) login_state_is ∙ ap (user_after_line (reading x) (Says answer)) m.user;
        judged = ap (λ (t : LoginState). t.removals) login_state_is ∙ m.judged;
        failures = ap (λ (t : LoginState). t.failures) login_state_is ∙ failures_counted (is_failure (Says answer)) k.state.failures s.failures m.failures;
        stamp = ap (λ (k : Kept). k.stamp) e ∙ m.stamp;
        clock = ap (λ (k : Kept). k.clock) e ∙ m.clock;
        lines = λ more. (at_drop s.acted (cut (s.stream ++ more)) acting (coming k'.held (k'.pending ++ more)) (next h more)).1;
        cut_whole = λ n. absurd (not_nil (bytes_of answer) said (sym more_owed ∙ n));
        line_kept = line_fits;
        piece_kept = piece_fits;
      }

  pub line_heard : (c' : Contents) (found : LoginName → List store.Message) → has_newline p ≡ true → IsSession c' (lined s (line_after k p) answer found) k'.session
      → OwesReply c' k'.session k'.output answer
      → (closes (reading (line_after k p)) (Says answer) ≡ true → (lined s (line_after k p) answer found).live ≡ false) → Matches c' (lined s (line_after k p) answer found) k'
  line_heard c' found h sits owes parts = heard_at c' found (line_after k p) (sym acting_is) h sits owes parts
