-- What one more event on a connection says of its conversation.
use Rattle.std.proofs.Common.{◌≡◌, ℕ, zero, suc, ◌<◌, ◌≤◌, Bool, true, false, not, ◌&&◌, List, [], ◌∷◌, ◌++◌, length, drop, refl, sym, ◌∙◌, ap, arith, slice_get, Some, None}
use Rattle.std.proofs.Common.{Option, length-append, subst, eq-eqb, nat_lt, inl, ⊎_elim}
use Rattle.std.proofs.lemmas.Bool.{cases_Bool}
use Rattle.std.specs.Bool.{if◌then◌else◌}
use Rattle.popline.specs.Cutting.{Cut, cut, has_newline}
use Rattle.vault.specs.Records.{Records}
use Rattle.office.specs.History.{Act, Line, Tag, Done, Failed, NoMemory, is_no_memory}
use Rattle.office.specs.Connections.{connected, closing, sent}
use Rattle.office.specs.Replying.{is_empty}
use Rattle.office.specs.Told.{told}
use Rattle.office.specs.Events.{Tagged, Log}
use Rattle.office.specs.Events as event
use Rattle.office.specs.Log.{stream, taken}
use Rattle.office.specs.Trace.{acts, history, rest, rest_if, is_open, untaken, next_line}
use Rattle.office.specs.Expected.{IsOutcome, ignored, shown_at, or_ignored, reason_if, may_show, most_in_a_piece}
use Rattle.office.specs.Outcomes.{Outcome, Reason, NoSuchConnection, NotReady, PieceTooLong, event_tag_of}
use Rattle.office.specs.Outcomes as outcome
use Rattle.converse.specs.Talk.{may_be}
use Rattle.converse.specs.Talked.{trace_of}
use Rattle.converse.specs.Conversing.{Spoke, GoesOn, Waits, Breaks}
use Rattle.converse.proofs.Lines.{further}
use Rattle.converse.proofs.Saying.{lines_on, spoke_on, lines_line, spoke_line, line_owes}

-- ---- outcomes

-- an outcome is want of memory
abbrev pub is_lack : Outcome → Bool
is_lack outcome.NoMemory = true
is_lack _ = false

-- what isn't ignored shows its tag
pub record Shows (t : Tag) (o : Outcome) : Type 0 where
  pub event_tag : event_tag_of o ≡ Tagged t
  pub lack : is_lack o ≡ is_no_memory t
  pub failed : t ≡ Failed → o ≡ outcome.Failed

pub shows : (s : Tag → Outcome) → s Done ≡ outcome.Done → s Failed ≡ outcome.Failed → s NoMemory ≡ outcome.NoMemory → (r : Option Reason) → r ≡ None → (t : Tag) (o : Outcome)
    → o ≡ or_ignored r (s t) → Shows t o
shows s d f n r none Done o e =
    let k : o ≡ outcome.Done = e ∙ (ap (λ q. or_ignored q (s Done)) none ∙ d) in
    record { event_tag = rw k refl; lack = rw k refl; failed = λ w. cc }
shows s d f n r none Failed o e =
    let k : o ≡ outcome.Failed = e ∙ (ap (λ q. or_ignored q (s Failed)) none ∙ f) in
    record { event_tag = rw k refl; lack = rw k refl; failed = λ w. k }
shows s d f n r none NoMemory o e =
    let k : o ≡ outcome.NoMemory = e ∙ (ap (λ q. or_ignored q (s NoMemory)) none ∙ n) in
    record { event_tag = rw k refl; lack = rw k refl; failed = λ w. cc }

-- ---- open, and ready

both_open : (b : Bool) (u : List ℕ) → (b && is_empty (rest_if b u)) ≡ true → (b ≡ true) × (is_empty u ≡ true)
both_open true u e = (refl, e)
both_open false u e = cc

not_closing : (k cl e : Bool) → (k && not (cl && e)) ≡ true → e ≡ true → cl ≡ false
not_closing true true true h e = cc
not_closing true true false h e = cc
not_closing true false e h f = refl
not_closing false cl e h f = cc

pub empty_past : (n : ℕ) (xs : List ℕ) → is_empty (drop n xs) ≡ true → length xs ≤ n
empty_past zero [] e = omega arith
empty_past zero (x ∷ xs) e = cc
empty_past (suc n) [] e = omega arith
empty_past (suc n) (x ∷ xs) e = let h = empty_past n xs e in omega (arith, h)

-- who waits isn't closing, and all its replies are written
pub record Ready (B : Records) (c : ℕ) (written : List ℕ) (L : Log) : Type 0 where
  pub opened : is_open (trace_of B L) c ≡ true
  pub empty : is_empty (rest (trace_of B L) c) ≡ true
  pub shut : closing (history (trace_of B L)) c ≡ false
  pub paid : length (sent (history (trace_of B L)) c) ≤ length written

rest_empty : (b : Bool) (u : List ℕ) → (b && is_empty (rest_if b u)) ≡ true → is_empty (rest_if b u) ≡ true
rest_empty true u e = e
rest_empty false u e = cc

pub ready_so : (B : Records) (c : ℕ) (old : List (Act × Tag)) (octets written : List ℕ) (L : Log) → Waits B c old octets written L → Ready B c written L
ready_so B c old octets written L w =
    let G = history (trace_of B L) in
    let u = untaken L G c in
    let b = both_open (is_open (trace_of B L) c) u w.ready in
    record {
      opened = b.0;
      empty = rest_empty (is_open (trace_of B L) c) u w.ready;
      shut = not_closing (connected G c) (closing G c) (is_empty u) b.0 b.1;
      paid = let t = w.on.took in let h = empty_past (taken L c) (sent G c) b.1 in omega (arith, t, h);
    }

-- ---- a piece

seam : {A : Type 0} (xs more : List A) → 0 < length more → (x : A) × (slice_get (xs ++ more) (length xs) ≡ Some x)
seam [] [] h = absurd (omega arith)
seam [] (m ∷ more) h = (m, refl)
seam (x ∷ xs) more h = seam xs more h

bytes_if : (o e s : Bool) → o ≡ true → e ≡ true → s ≡ false
    → (if not o then Some NoSuchConnection else if not e then Some NotReady else reason_if s PieceTooLong) ≡ None
bytes_if o e s a b d = rw (a, b, d) refl

module _ (B : Records) (c : ℕ) (old : List (Act × Tag)) (octets written piece : List ℕ) (L : Log) where
  pub bytes_shows : Waits B c old octets written L → nat_lt most_in_a_piece (length piece) ≡ false → (lent : ℕ → ℕ) (o : Outcome)
      → (h : IsOutcome (trace_of B L) lent (event.Bytes c piece) o) → Shows h.tag o
  bytes_shows w short lent o h =
      let r = ready_so B c old octets written L w in
      shows (λ t. shown_at B L (history (trace_of B L)) (event.Bytes c piece) t) refl refl refl (ignored (trace_of B L) lent (event.Bytes c piece))
      (bytes_if (is_open (trace_of B L) c) (is_empty (rest (trace_of B L) c)) (nat_lt most_in_a_piece (length piece)) r.opened r.empty short) h.tag o h.is

  -- the line that comes next with a LF
  bytes_next : (w : Waits B c old octets written L) → has_newline piece ≡ true
      → (x : Cut) × (slice_get (cut (octets ++ piece)) (length w.on.tags) ≡ Some x)
  bytes_next w h =
      let r = ready_so B c old octets written L w in
      let f = further octets piece in
      let s = seam (cut octets) f.more (f.some h) in
      let a = w.on.each r.shut r.paid in
      let b = w.on.spoke.lines.some in
      let n : length w.on.tags ≡ length (cut octets) = omega (arith, a, b) in
      (s.0, rw (f.is, n) s.1)

  bytes_line : (w : Waits B c old octets written L) (x : Cut) → slice_get (cut (octets ++ piece)) (length w.on.tags) ≡ Some x
      → next_line L (history (trace_of B L)) c piece ≡ Some x
  bytes_line w x e = rw (w.on.heard, w.on.spoke.count) e

  bytes_acts : (w : Waits B c old octets written L) (x : Cut) (t : Tag) → has_newline piece ≡ true → slice_get (cut (octets ++ piece)) (length w.on.tags) ≡ Some x
      → acts (trace_of B ((event.Bytes c piece, Tagged t) ∷ L)) ≡ (Line c x, t) ∷ acts (trace_of B L)
  bytes_acts w x t h e = let n = bytes_line w x e in rw (h, n) refl

  bytes_kept : (t : Tag) → has_newline piece ≡ false → acts (trace_of B ((event.Bytes c piece, Tagged t) ∷ L)) ≡ acts (trace_of B L)
  bytes_kept t h = rw h refl

  bytes_may : (x : Cut) (t : Tag) → has_newline piece ≡ true → next_line L (history (trace_of B L)) c piece ≡ Some x → may_show (trace_of B L) (event.Bytes c piece) t ≡ true
      → may_be B (history (trace_of B L)) c x t ≡ true
  bytes_may x Done h n m = refl
  bytes_may x NoMemory h n m = refl
  bytes_may x Failed h n m = rw (h, n) at m

  bytes_stream : (t : Tag) → is_no_memory t ≡ false → stream ((event.Bytes c piece, Tagged t) ∷ L) c ≡ stream L c ++ piece
  bytes_stream Done e = let q = eq-eqb c c refl in rw q refl
  bytes_stream Failed e = let q = eq-eqb c c refl in rw q refl
  bytes_stream NoMemory e = cc

  bytes_kept_goes : Waits B c old octets written L → (t : Tag) → is_no_memory t ≡ false → has_newline piece ≡ false
      → GoesOn B c old (octets ++ piece) written ((event.Bytes c piece, Tagged t) ∷ L)
  bytes_kept_goes w t kept h =
      let f = further octets piece in
      let same = bytes_kept t h in
      record {
        tags = w.on.tags;
        heard = bytes_stream t kept ∙ ap (λ (s : List ℕ). s ++ piece) w.on.heard;
        took = w.on.took;
        spoke = subst (λ (H : List (Act × Tag)). Spoke B c old (octets ++ piece) written w.on.tags H) (sym same) (spoke_on B c old octets written piece w.on.tags (acts (trace_of B L)) w.on.spoke);
        each = λ shut paid.
            (let s : closing (told B (acts (trace_of B L))) c ≡ false = subst (λ (H : List (Act × Tag)). closing (told B H) c ≡ false) same shut in
            let p : length (sent (told B (acts (trace_of B L))) c) ≤ length written = subst (λ (H : List (Act × Tag)). length (sent (told B H) c) ≤ length written) same paid in
            let n = w.on.each s p in
            let k = f.none h in
            rw (f.is, k) (omega (arith, n, length-append (cut octets) [])));
      }

  bytes_kept_breaks : Waits B c old octets written L → (t : Tag) → has_newline piece ≡ false → Breaks B c old (octets ++ piece) written true ((event.Bytes c piece, Tagged t) ∷ L)
  bytes_kept_breaks w t h =
      record {
        tags = w.on.tags;
        spoken_so = acts (trace_of B L);
        lines = lines_on B c old octets written piece w.on.tags (acts (trace_of B L)) w.on.spoke.lines;
        ample = λ e. cc;
        broken = inl (bytes_kept t h, w.on.took);
      }

  bytes_line_goes : (w : Waits B c old octets written L) (x : Cut) (t : Tag) → is_no_memory t ≡ false → has_newline piece ≡ true
      → slice_get (cut (octets ++ piece)) (length w.on.tags) ≡ Some x → may_show (trace_of B L) (event.Bytes c piece) t ≡ true
      → GoesOn B c old (octets ++ piece) written ((event.Bytes c piece, Tagged t) ∷ L)
  bytes_line_goes w x t kept h e may =
      let r = ready_so B c old octets written L w in
      let same = bytes_acts w x t h e in
      let s = spoke_on B c old octets written piece w.on.tags (acts (trace_of B L)) w.on.spoke in
      record {
        tags = w.on.tags ++ t ∷ [];
        heard = bytes_stream t kept ∙ ap (λ (s : List ℕ). s ++ piece) w.on.heard;
        took = w.on.took;
        spoke = subst (λ (H : List (Act × Tag)). Spoke B c old (octets ++ piece) written (w.on.tags ++ t ∷ []) H) (sym same)
            (spoke_line B c old (octets ++ piece) written w.on.tags (acts (trace_of B L)) s x t r.shut r.paid e (bytes_may x t h (bytes_line w x e) may) kept);
        each = λ shut paid.
            (let p : length (sent (told B ((Line c x, t) ∷ acts (trace_of B L))) c) ≤ length written = subst (λ (H : List (Act × Tag)). length (sent (told B H) c) ≤ length written) same paid in
            let owes = line_owes B c old (octets ++ piece) written w.on.tags (acts (trace_of B L)) s x t kept in
            absurd (omega (arith, p, owes)));
      }

  bytes_line_breaks : (w : Waits B c old octets written L) (x : Cut) (t : Tag) → has_newline piece ≡ true
      → slice_get (cut (octets ++ piece)) (length w.on.tags) ≡ Some x → may_show (trace_of B L) (event.Bytes c piece) t ≡ true
      → Breaks B c old (octets ++ piece) written true ((event.Bytes c piece, Tagged t) ∷ L)
  bytes_line_breaks w x t h e may =
      let r = ready_so B c old octets written L w in
      let s = spoke_on B c old octets written piece w.on.tags (acts (trace_of B L)) w.on.spoke in
      record {
        tags = w.on.tags ++ t ∷ [];
        spoken_so = (Line c x, t) ∷ acts (trace_of B L);
        lines = lines_line B c old (octets ++ piece) written w.on.tags (acts (trace_of B L)) s x t r.shut r.paid e (bytes_may x t h (bytes_line w x e) may);
        ample = λ e. cc;
        broken = inl (bytes_acts w x t h e, w.on.took);
      }

  bytes_goes_on : Waits B c old octets written L → (t : Tag) → is_no_memory t ≡ false → may_show (trace_of B L) (event.Bytes c piece) t ≡ true
      → GoesOn B c old (octets ++ piece) written ((event.Bytes c piece, Tagged t) ∷ L)
  bytes_goes_on w t kept may =
      ⊎_elim
      (λ (h : has_newline piece ≡ true). let n = bytes_next w h in bytes_line_goes w n.0 t kept h n.1 may)
      (λ (h : has_newline piece ≡ false). bytes_kept_goes w t kept h)
      (cases_Bool (has_newline piece))

  bytes_break : Waits B c old octets written L → (t : Tag) → may_show (trace_of B L) (event.Bytes c piece) t ≡ true
      → Breaks B c old (octets ++ piece) written true ((event.Bytes c piece, Tagged t) ∷ L)
  bytes_break w t may =
      ⊎_elim
      (λ (h : has_newline piece ≡ true). let n = bytes_next w h in bytes_line_breaks w n.0 t h n.1 may)
      (λ (h : has_newline piece ≡ false). bytes_kept_breaks w t h)
      (cases_Bool (has_newline piece))

  -- by its outcome
  pub hears_on : Waits B c old octets written L → nat_lt most_in_a_piece (length piece) ≡ false → (lent : ℕ → ℕ) (o : Outcome) → IsOutcome (trace_of B L) lent (event.Bytes c piece) o
      → is_lack o ≡ false → GoesOn B c old (octets ++ piece) written ((event.Bytes c piece, event_tag_of o) ∷ L)
  hears_on w short lent o h kept =
      let s = bytes_shows w short lent o h in
      subst (λ m. GoesOn B c old (octets ++ piece) written ((event.Bytes c piece, m) ∷ L)) (sym s.event_tag) (bytes_goes_on w h.tag (sym s.lack ∙ kept) h.may)

  pub hears_last : Waits B c old octets written L → nat_lt most_in_a_piece (length piece) ≡ false → (lent : ℕ → ℕ) (o : Outcome) → IsOutcome (trace_of B L) lent (event.Bytes c piece) o
      → Breaks B c old (octets ++ piece) written true ((event.Bytes c piece, event_tag_of o) ∷ L)
  hears_last w short lent o h =
      let s = bytes_shows w short lent o h in
      subst (λ m. Breaks B c old (octets ++ piece) written true ((event.Bytes c piece, m) ∷ L)) (sym s.event_tag) (bytes_break w h.tag h.may)
