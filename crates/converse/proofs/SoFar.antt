-- How far a conversation has come: so much was read and written, and what the office stands for by then.
use Rattle.std.specs.Prelude.{MatchResult, Result, Ok, Err, cond}
use Rattle.std.proofs.Common.{◌≡◌, ℕ, ◌<◌, ◌≤◌, ◌+◌, Bool, true, false, not, List, [], ◌∷◌, ◌++◌, length, take, length-append, sym, arith, subst, inl, inr, append-nil, append_assoc}
use Rattle.std.specs.Io.KnownBytes.{IsAtEnd}
use Rattle.vault.specs.Changes.{Contents}
use Rattle.office.specs.Events.{Event, Log, Trace}
use Rattle.office.specs.Events as event
use Rattle.office.specs.Expected.{IsOutcome, most_in_a_piece}
use Rattle.office.specs.Outcomes.{Outcome, event_tag_of, HasCause}
use Rattle.office.specs.Stands.{StandsFor, lent_by, vault_of}
use Rattle.office.specs.Trace.{acts, is_open, rest, IsLent}
use Rattle.office.specs.declared.office.Office.{Office}
use Rattle.converse.specs.declared.talk.TalkFault.{TalkFault}
use Rattle.converse.specs.declared.talk.TalkFault.TheVariants as fault
use Rattle.converse.specs.Streams.{Reading, Writing, Reads, Writes}
use Rattle.converse.specs.Talked.{trace_of, is_own, StandsSo}
use Rattle.converse.specs.Conversing.{GoesOn, Waits, Midway, IsPaid, IsDone, IsCut, memory_by}
use Rattle.converse.proofs.Clauses.{hears, one_more, taking, takes, waits_now, open_by, shut_by, none_written, some_written, not_ok}
use Rattle.converse.proofs.Ends.{midway_broken}
use Rattle.converse.proofs.Playing.{caused_next}
use Rattle.converse.proofs.Streaming.{reads_none, reads_then, writes_none, writes_then, writes_kept}

-- A claim about the log of an office: by the count of faults before, the trace before, and what was read and written.
abbrev pub Claim : Type 1
Claim = (before : ℕ) → Trace → (octets written : List ℕ) → Log → Type 0

abbrev pub IsOn : ℕ → Claim
IsOn c before T octets written L = GoesOn T.base c (acts T) octets written L

abbrev pub Awaits : ℕ → Claim
Awaits c before T octets written L = Waits T.base c (acts T) octets written L

abbrev pub IsCutBy : TalkFault → ℕ → Claim
IsCutBy f c before T octets written L = IsCut f T.base c (acts T) octets written L

-- what is said if a call came to its end, and else how its fault cut the conversation
abbrev pub Or : {A : Type 0} → Result A TalkFault → ℕ → (A → Claim) → Claim
Or r c Well before T octets written L =
    MatchResult r (λ x. Well x before T octets written L) (λ e. IsCut e T.base c (acts T) octets written L)

-- if something was read, it goes on; else it waits
abbrev pub MayGoOn : Bool → ℕ → Claim
MayGoOn more c before T octets written L = cond more (GoesOn T.base c (acts T) octets written L) (Waits T.base c (acts T) octets written L)

module _ {V : Type 0} (faults : V → ℕ) where
  abbrev pub IsMidway : Office V → ℕ → Claim
  IsMidway o c before T octets written L = Midway before (faults (vault_of o)) T.base c (acts T) octets written L

  abbrev pub OwesNone : Office V → ℕ → Claim
  OwesNone o c before T octets written L = IsPaid before (faults (vault_of o)) T.base c (acts T) octets written L

  abbrev pub IsThrough : Type 0 → Office V → ℕ → Claim
  IsThrough AtEnd o c before T octets written L = IsDone AtEnd before (faults (vault_of o)) T.base c (acts T) octets written L

  -- if more was written, it is midway; else nothing is owed
  abbrev pub MayOwe : Bool → Office V → ℕ → Claim
  MayOwe some o c before T octets written L =
      cond some (Midway before (faults (vault_of o)) T.base c (acts T) octets written L) (IsPaid before (faults (vault_of o)) T.base c (acts T) octets written L)

module _ {V : Type 0} (Holds : V → Contents → Type 0) (faults : V → ℕ) (IsClean : V → Type 0) where
  -- one event, by what `step` promises
  pub record Steps (old new : Office V) (e : Event) (o : Outcome) : Type 0 where
    pub stands : (T : Trace) → StandsFor Holds old T → IsClean (vault_of new) → StandsFor Holds new (trace_of T.base ((e, event_tag_of o) ∷ T.log))
    pub outcome : (T : Trace) → StandsFor Holds old T → IsClean (vault_of new) → IsOutcome T (lent_by old) e o
    pub cause : (T : Trace) → StandsFor Holds old T → IsClean (vault_of new) → HasCause (faults (vault_of old)) (faults (vault_of new)) o
    pub counted : faults (vault_of old) ≤ faults (vault_of new)

  -- what a call that writes so much says of a conversation that was midway
  abbrev pub Pays : Claim → (old new : Office V) (c : ℕ) (more : List ℕ) → Type 0
  Pays P old new c more = (before : ℕ) (T : Trace) (octets written : List ℕ) → before ≤ faults (vault_of old) → IsClean (vault_of new)
      → StandsSo Holds faults before old T c (Midway before (faults (vault_of old)) T.base c (acts T) octets written)
      → StandsSo Holds faults before new T c (P before T octets (written ++ more))

  -- what a call that reads so much says of one that waited
  abbrev pub Hears : Claim → (old new : Office V) (c : ℕ) (piece : List ℕ) → Type 0
  Hears P old new c piece = (before : ℕ) (T : Trace) (octets written : List ℕ) → before ≤ faults (vault_of old) → IsClean (vault_of new)
      → StandsSo Holds faults before old T c (Waits T.base c (acts T) octets written)
      → StandsSo Holds faults before new T c (P before T (octets ++ piece) written)

  -- what one says of one that went on with nothing read or written
  abbrev pub Converses : Claim → (old new : Office V) (c : ℕ) (octets written : List ℕ) → Type 0
  Converses P old new c octets written = (before : ℕ) (T : Trace) → before ≤ faults (vault_of old) → IsClean (vault_of new)
      → StandsSo Holds faults before old T c (GoesOn T.base c (acts T) [] []) → StandsSo Holds faults before new T c (P before T octets written)

  -- so much more was written
  pub record WroteSoFar (P : Claim) (old new : Office V) (c : ℕ) (held holds : Writing) (turns : ℕ) : Type 0 where
    pub more : List ℕ
    pub writes : Writes held holds more
    pub enough : turns ≤ length more
    pub stands : Pays P old new c more
    pub counted : faults (vault_of old) ≤ faults (vault_of new)
    pub clean : IsClean (vault_of new) → IsClean (vault_of old)

  -- so much was read and written
  pub record TalkedSoFar (P : Claim) (old new : Office V) (c : ℕ) (was_left left : Reading) (held holds : Writing) (turns : ℕ) : Type 0 where
    pub octets : List ℕ
    pub written : List ℕ
    pub reads : Reads was_left left octets
    pub writes : Writes held holds written
    pub enough : turns ≤ length octets
    pub stands : Converses P old new c octets written
    pub counted : faults (vault_of old) ≤ faults (vault_of new)
    pub clean : IsClean (vault_of new) → IsClean (vault_of old)

  abbrev pub IsTold : Office V → ℕ → Bool → Type 0
  IsTold o c ended = (T : Trace) → StandsFor Holds o T → ended ≡ not (is_open T c)

-- a fault that a `?` hands on
pub cut_as : {A : Type 0} (r : Result A TalkFault) (f : TalkFault) (c : ℕ) (Well : A → Claim) → r ≡ Err f
    → (before : ℕ) (T : Trace) (octets written : List ℕ) (L : Log) → IsCut f T.base c (acts T) octets written L → Or r c Well before T octets written L
cut_as r f c Well e before T octets written L h = subst (λ q. Or q c Well before T octets written L) (sym e) h

module _ {V : Type 0} {Holds : V → Contents → Type 0} {faults : V → ℕ} where
  -- ---- what is said of one log is said of it in other words

  pub so_with : {before : ℕ} {o : Office V} {T : Trace} {c : ℕ} {P : Log → Type 0} (Q : Log → Type 0) → ((L : Log) → StandsFor Holds o (trace_of T.base L) → P L → Q L)
      → StandsSo Holds faults before o T c P → StandsSo Holds faults before o T c Q
  so_with Q f w = record { log = w.log; stands = w.stands; own = w.own; caused = w.caused; so = f w.log w.stands w.so }

  pub so_by : {before : ℕ} {o : Office V} {T : Trace} {c : ℕ} {P : Log → Type 0} (Q : Log → Type 0) → ((L : Log) → P L → Q L)
      → StandsSo Holds faults before o T c P → StandsSo Holds faults before o T c Q
  so_by Q f w = so_with Q (λ L st h. f L h) w

module _ {V : Type 0} {Holds : V → Contents → Type 0} {faults : V → ℕ} (IsClean : V → Type 0) where
  -- ---- one event of the connection

  pub so_stepped : {before : ℕ} {old new : Office V} {T : Trace} {c : ℕ} {e : Event} {o : Outcome} {P : Log → Type 0} (Q : Log → Type 0)
      → Steps Holds faults IsClean old new e o → is_own c (e, event_tag_of o) ≡ true → before ≤ faults (vault_of old) → IsClean (vault_of new)
      → StandsSo Holds faults before old T c P
      → ((L : Log) → StandsFor Holds old (trace_of T.base L) → IsOutcome (trace_of T.base L) (lent_by old) e o
      → HasCause (faults (vault_of old)) (faults (vault_of new)) o → P L → Q ((e, event_tag_of o) ∷ L))
      → StandsSo Holds faults before new T c Q
  so_stepped {before} {old} {new} {T} {c} {e} {o} {P} Q s own first clean w f =
      let U = trace_of T.base w.log in
      let cause = s.cause U w.stands clean in
      record {
        log = (e, event_tag_of o) ∷ w.log;
        stands = s.stands U w.stands clean;
        own = one_more c T.log w.log (e, event_tag_of o) own w.own;
        caused = caused_next before (faults (vault_of old)) (faults (vault_of new)) T w.log e o first s.counted w.caused cause;
        so = f w.log w.stands (s.outcome U w.stands clean) cause w.so;
      }

  -- ---- a piece is heard

  pub heard : {old new : Office V} {c : ℕ} {piece : List ℕ} {o : Outcome} (r : Result Unit TalkFault) → r ≡ memory_by o → length piece ≤ most_in_a_piece
      → is_own c (event.Bytes c piece, event_tag_of o) ≡ true → Steps Holds faults IsClean old new (event.Bytes c piece) o → Hears Holds faults IsClean (Or r c (λ _. IsOn c)) old new c piece
  heard {old} {new} {c} {piece} {o} r is short own s before T octets written first clean w =
      so_stepped (Or r c (λ _. IsOn c) before T (octets ++ piece) written) s own first clean w
      (λ L st told cause h. subst (λ q. Or q c (λ _. IsOn c) before T (octets ++ piece) written ((event.Bytes c piece, event_tag_of o) ∷ L)) (sym is)
      (hears T.base c (acts T) octets written piece L h short (lent_by old) o told))

  -- nothing was heard
  pub heard_none : {o : Office V} {c : ℕ} → Hears Holds faults IsClean (Awaits c) o o c []
  heard_none {o} {c} before T octets written first clean w =
      so_by (Awaits c before T (octets ++ []) written) (λ L h. subst (λ (xs : List ℕ). Awaits c before T xs written L) (sym (append-nil octets)) h) w

  -- ---- some of what is owed is taken

  pub paid_some : {old new : Office V} {c n : ℕ} {lent : List ℕ} {o : Outcome} (r : Result Unit TalkFault) → r ≡ memory_by o → 0 < n → n ≤ length lent
      → ((T : Trace) → StandsFor Holds old T → IsLent (rest T c) lent) → length lent ≡ lent_by old c
      → is_own c (event.Took c n, event_tag_of o) ≡ true → Steps Holds faults IsClean old new (event.Took c n) o
      → Pays Holds faults IsClean (Or r c (λ _. IsMidway faults new c)) old new c (take n lent)
  paid_some {old} {new} {c} {n} {lent} {o} r is some fits lends count own s before T octets written first clean w =
      let was = faults (vault_of old) in
      let now = faults (vault_of new) in
      let Then = Or r c (λ _. IsMidway faults new c) before T octets (written ++ take n lent) in
      so_stepped Then s own first clean w
      (λ L st told cause h.
      (let k = taking T.base c (acts T) octets written L n lent before was h some fits (lends (trace_of T.base L) st) in
      subst (λ q. Or q c (λ _. IsMidway faults new c) before T octets (written ++ take n lent) ((event.Took c n, event_tag_of o) ∷ L)) (sym is)
      (takes T.base c (acts T) octets written L n lent k (lent_by old) count before was now first o told cause)))

  -- nothing was written
  pub paid_none : {o : Office V} {c : ℕ} {P : Claim} → ((before : ℕ) (T : Trace) (octets written : List ℕ) (L : Log) → StandsFor Holds o (trace_of T.base L)
      → IsMidway faults o c before T octets written L → P before T octets written L) → Pays Holds faults IsClean P o o c []
  paid_none {o} {c} {P} f before T octets written first clean w =
      so_with (P before T octets (written ++ []))
      (λ L st h. subst (λ (xs : List ℕ). P before T octets xs L) (sym (append-nil written)) (f before T octets written L st h)) w

  -- a call of the sink failed
  pub paid_cut : {o : Office V} {c : ℕ} → Pays Holds faults IsClean (IsCutBy fault.Write c) o o c []
  paid_cut {o} {c} = paid_none (λ before T octets written L st h. midway_broken T.base c (acts T) octets written before (faults (vault_of o)) L h)

  pays_by : {old new : Office V} {c : ℕ} {more : List ℕ} {P : Claim} (Q : Claim)
      → ((before : ℕ) (T : Trace) (octets written : List ℕ) (L : Log) → P before T octets written L → Q before T octets written L)
      → Pays Holds faults IsClean P old new c more → Pays Holds faults IsClean Q old new c more
  pays_by {old} {new} {c} {more} Q f p before T octets written first clean w =
      so_by (Q before T octets (written ++ more)) (λ L h. f before T octets (written ++ more) L h) (p before T octets written first clean w)

  pub hears_by : {old new : Office V} {c : ℕ} {piece : List ℕ} {P : Claim} (Q : Claim)
      → ((before : ℕ) (T : Trace) (octets written : List ℕ) (L : Log) → P before T octets written L → Q before T octets written L)
      → Hears Holds faults IsClean P old new c piece → Hears Holds faults IsClean Q old new c piece
  hears_by {old} {new} {c} {piece} Q f p before T octets written first clean w =
      so_by (Q before T (octets ++ piece) written) (λ L h. f before T (octets ++ piece) written L h) (p before T octets written first clean w)

  -- what `write_some` says at a fault
  pub some_cut : {old new : Office V} {c : ℕ} {held holds : Writing} (more : List ℕ) (r : Result Bool TalkFault) (f : TalkFault) → r ≡ Err f
      → Writes held holds more → Pays Holds faults IsClean (IsCutBy f c) old new c more
      → (more : List ℕ) × Writes held holds more × (r ≡ Ok true → 0 < length more) × Pays Holds faults IsClean (Or r c (λ some. MayOwe faults some new c)) old new c more
  some_cut {new = new} {c = c} more r f e writes p = (
    more,
    writes,
    (λ q. absurd (not_ok r f true e q)),
    pays_by (Or r c (λ some. MayOwe faults some new c)) (cut_as r f c (λ some. MayOwe faults some new c) e) p,
  )

  -- what `listen` says at a fault
  pub listen_cut : {old new : Office V} {c : ℕ} {was_left left : Reading} {AtEnd : Type 0} (piece : List ℕ) (r : Result Bool TalkFault) (f : TalkFault) → r ≡ Err f → Reads was_left left piece
      → Hears Holds faults IsClean (IsCutBy f c) old new c piece
      → (piece : List ℕ) × Reads was_left left piece × (r ≡ Ok true → 0 < length piece) × (r ≡ Ok false → AtEnd) × Hears Holds faults IsClean (Or r c (λ more. MayGoOn more c)) old new c piece
  listen_cut {c = c} piece r f e reads p = (
    piece,
    reads,
    (λ q. absurd (not_ok r f true e q)),
    (λ q. absurd (not_ok r f false e q)),
    hears_by (Or r c (λ more. MayGoOn more c)) (cut_as r f c (λ more. MayGoOn more c) e) p,
  )

module _ {V : Type 0} {Holds : V → Contents → Type 0} {faults : V → ℕ} {IsClean : V → Type 0} where
  -- ---- a loop that writes

  -- nothing yet
  pub wrote_none : {o : Office V} {c : ℕ} {held : Writing} → WroteSoFar Holds faults IsClean (IsMidway faults o c) o o c held held 0
  wrote_none {o} {c} {held} = record {
    more = [];
    writes = writes_none held;
    enough = omega (arith);
    stands = paid_none IsClean (λ before T octets written L st h. h);
    counted = omega (arith);
    clean = λ k. k;
  }

  -- a turn of it
  pub wrote_then : {old mid new : Office V} {c : ℕ} {held during holds : Writing} {turns : ℕ} {P : Claim} (later : ℕ) (more : List ℕ) → later ≤ turns + length more
      → WroteSoFar Holds faults IsClean (IsMidway faults mid c) old mid c held during turns
      → Writes during holds more → faults (vault_of mid) ≤ faults (vault_of new) → (IsClean (vault_of new) → IsClean (vault_of mid)) → Pays Holds faults IsClean P mid new c more
      → WroteSoFar Holds faults IsClean P old new c held holds later
  wrote_then {old} {mid} {new} {c} {held} {during} {holds} {turns} {P} later more long s writes up back next =
      let long2 = s.enough in
      let up2 = s.counted in
      record {
        more = s.more ++ more;
        writes = writes_then held during holds s.more more s.writes writes;
        enough = omega (arith, long, long2, length-append s.more more);
        stands = λ before T octets written first clean w. subst (λ (xs : List ℕ). StandsSo Holds faults before new T c (P before T octets xs)) (append_assoc written s.more more)
            (next before T octets (written ++ s.more) (omega (arith, first, up2)) clean (s.stands before T octets written first (back clean) w));
        counted = omega (arith, up, up2);
        clean = λ k. s.clean (back k);
      }

  -- in which something was written
  pub wrote_more : {old mid new : Office V} {c : ℕ} {held during holds : Writing} {turns : ℕ} (some : Bool) (more : List ℕ) → some ≡ true → 0 < length more
      → WroteSoFar Holds faults IsClean (IsMidway faults mid c) old mid c held during turns
      → Writes during holds more → faults (vault_of mid) ≤ faults (vault_of new) → (IsClean (vault_of new) → IsClean (vault_of mid))
      → Pays Holds faults IsClean (MayOwe faults some new c) mid new c more
      → WroteSoFar Holds faults IsClean (IsMidway faults new c) old new c held holds (turns + 1)
  wrote_more {new = new} {c = c} {turns = turns} some more on long s writes up back next =
      wrote_then (turns + 1) more (omega (arith, long)) s writes up back
      (pays_by IsClean (IsMidway faults new c) (λ before T octets written L h.
      some_written some (IsMidway faults new c before T octets written) (OwesNone faults new c before T octets written) L on h) next)

  -- in which nothing is left
  pub wrote_all : {old mid new : Office V} {c : ℕ} {held during holds after : Writing} {turns : ℕ} (some : Bool) (more : List ℕ) → some ≡ false
      → WroteSoFar Holds faults IsClean (IsMidway faults mid c) old mid c held during turns
      → Writes during holds more → faults (vault_of mid) ≤ faults (vault_of new) → (IsClean (vault_of new) → IsClean (vault_of mid))
      → Pays Holds faults IsClean (MayOwe faults some new c) mid new c more
      → Writes holds after [] → WroteSoFar Holds faults IsClean (OwesNone faults new c) old new c held after 0
  wrote_all {new = new} {c = c} {during = during} {holds = holds} {after = after} some more off s writes up back next flushed =
      wrote_then 0 more (omega (arith)) s (writes_kept during holds after more writes flushed) up back
      (pays_by IsClean (OwesNone faults new c) (λ before T octets written L h.
      none_written some (IsMidway faults new c before T octets written) (OwesNone faults new c before T octets written) L off h) next)

  -- what `write_owed` says then
  pub wrote_out : {old new : Office V} {c : ℕ} {held holds : Writing} {turns : ℕ} {P : Claim} (r : Result Unit TalkFault) → WroteSoFar Holds faults IsClean P old new c held holds turns
      → ((before : ℕ) (T : Trace) (octets written : List ℕ) (L : Log) → turns ≤ length written → P before T octets written L → Or r c (λ _. OwesNone faults new c) before T octets written L)
      → (more : List ℕ) × Writes held holds more × Pays Holds faults IsClean (Or r c (λ _. OwesNone faults new c)) old new c more
  wrote_out {old} {new} {c} {held} {holds} {turns} {P} r s f =
      let long = s.enough in (
        s.more,
        s.writes,
        λ before T octets written first clean w. so_by (Or r c (λ _. OwesNone faults new c) before T octets (written ++ s.more))
            (λ L h. f before T octets (written ++ s.more) L (omega (arith, long, length-append written s.more)) h) (s.stands before T octets written first clean w),
      )

  -- a fault of a call in it
  pub wrote_cut : {old new : Office V} {c : ℕ} {held holds : Writing} {turns : ℕ} (r : Result Unit TalkFault) (f : TalkFault) → r ≡ Err f
      → WroteSoFar Holds faults IsClean (IsCutBy f c) old new c held holds turns
      → (more : List ℕ) × Writes held holds more × Pays Holds faults IsClean (Or r c (λ _. OwesNone faults new c)) old new c more
  wrote_cut {new = new} {c = c} r f e s = wrote_out r s (λ before T octets written L long h. cut_as r f c (λ _. OwesNone faults new c) e before T octets written L h)

  -- the sink couldn't be flushed
  pub wrote_unflushed : {old new : Office V} {c : ℕ} {held holds : Writing} {turns : ℕ} (r : Result Unit TalkFault) → r ≡ Err fault.Write
      → WroteSoFar Holds faults IsClean (OwesNone faults new c) old new c held holds turns
      → (more : List ℕ) × Writes held holds more × Pays Holds faults IsClean (Or r c (λ _. OwesNone faults new c)) old new c more
  wrote_unflushed {new = new} {c = c} r e s = wrote_out r s (λ before T octets written L long h.
      cut_as r fault.Write c (λ _. OwesNone faults new c) e before T octets written L
      (midway_broken T.base c (acts T) octets written before (faults (vault_of new)) L h.midway))

  -- ---- a loop that writes and reads

  pub talked_none : {o : Office V} {c : ℕ} {left : Reading} {held : Writing} → TalkedSoFar Holds faults IsClean (IsOn c) o o c left left held held 0
  talked_none {o} {c} {left} {held} = record {
    octets = [];
    written = [];
    reads = reads_none left;
    writes = writes_none held;
    enough = omega (arith);
    stands = λ before T first clean w. w;
    counted = omega (arith);
    clean = λ k. k;
  }

  -- the same in other words
  pub talked_by : {old new : Office V} {c : ℕ} {was_left left : Reading} {held holds : Writing} {turns : ℕ} {P : Claim} (Q : Claim)
      → ((before : ℕ) (T : Trace) (octets written : List ℕ) (L : Log) → StandsFor Holds new (trace_of T.base L) → P before T octets written L → Q before T octets written L)
      → TalkedSoFar Holds faults IsClean P old new c was_left left held holds turns → TalkedSoFar Holds faults IsClean Q old new c was_left left held holds turns
  talked_by Q f s = record {
    octets = s.octets;
    written = s.written;
    reads = s.reads;
    writes = s.writes;
    enough = s.enough;
    stands = λ before T first clean w. so_with (Q before T s.octets s.written) (λ L st h. f before T s.octets s.written L st h) (s.stands before T first clean w);
    counted = s.counted;
    clean = s.clean;
  }

  -- what comes of writing more
  pub talked_then : {old mid new : Office V} {c : ℕ} {was_left left : Reading} {held during holds : Writing} {turns : ℕ} {P : Claim} (more : List ℕ)
      → TalkedSoFar Holds faults IsClean (IsOn c) old mid c was_left left held during turns
      → Writes during holds more → faults (vault_of mid) ≤ faults (vault_of new) → (IsClean (vault_of new) → IsClean (vault_of mid)) → Pays Holds faults IsClean P mid new c more
      → TalkedSoFar Holds faults IsClean P old new c was_left left held holds turns
  talked_then {old} {mid} {new} {c} {was_left} {left} {held} {during} {holds} more s writes up back next =
      let up2 = s.counted in
      record {
        octets = s.octets;
        written = s.written ++ more;
        reads = s.reads;
        writes = writes_then held during holds s.written more s.writes writes;
        enough = s.enough;
        stands = λ before T first clean w. next before T s.octets s.written (omega (arith, first, up2)) clean
            (so_by (IsMidway faults mid c before T s.octets s.written) (λ L h. inl h) (s.stands before T first (back clean) w));
        counted = omega (arith, up, up2);
        clean = λ k. s.clean (back k);
      }

  -- nothing is owed, and it is open: it waits
  pub talked_waits : {old new : Office V} {c : ℕ} {was_left left : Reading} {held holds : Writing} {turns : ℕ} (ended : Bool) → IsTold Holds faults IsClean new c ended → ended ≡ false
      → TalkedSoFar Holds faults IsClean (OwesNone faults new c) old new c was_left left held holds turns
      → TalkedSoFar Holds faults IsClean (Awaits c) old new c was_left left held holds turns
  talked_waits {new = new} {c = c} ended told off s =
      talked_by (Awaits c) (λ before T octets written L st p. waits_now before (faults (vault_of new)) T.base c (acts T) octets written L p
      (open_by ended (is_open (trace_of T.base L) c) (told (trace_of T.base L) st) off)) s

  -- nothing is owed, and it isn't open: it is over
  pub talked_over : {old new : Office V} {c : ℕ} {was_left left : Reading} {held holds : Writing} {turns : ℕ} (AtEnd : Type 0) (ended : Bool) → IsTold Holds faults IsClean new c ended → ended ≡ true
      → TalkedSoFar Holds faults IsClean (OwesNone faults new c) old new c was_left left held holds turns
      → TalkedSoFar Holds faults IsClean (IsThrough faults AtEnd new c) old new c was_left left held holds turns
  talked_over {new = new} {c = c} AtEnd ended told on s =
      talked_by (IsThrough faults AtEnd new c) (λ before T octets written L st p. inr (record {
        midway = p.midway;
        shut = shut_by ended (is_open (trace_of T.base L) c) (told (trace_of T.base L) st) on;
      })) s

  -- what comes of reading then
  pub talked_on : {old mid new : Office V} {c : ℕ} {was_left during left : Reading} {held holds : Writing} {turns : ℕ} {P : Claim} (later : ℕ) (piece : List ℕ) → later ≤ turns + length piece
      → Reads during left piece → faults (vault_of mid) ≤ faults (vault_of new) → (IsClean (vault_of new) → IsClean (vault_of mid)) → Hears Holds faults IsClean P mid new c piece
      → TalkedSoFar Holds faults IsClean (Awaits c) old mid c was_left during held holds turns
      → TalkedSoFar Holds faults IsClean P old new c was_left left held holds later
  talked_on {old} {mid} {new} {c} {was_left} {during} {left} {held} {holds} later piece long reads up back next s =
      let long2 = s.enough in
      let up2 = s.counted in
      record {
        octets = s.octets ++ piece;
        written = s.written;
        reads = reads_then was_left during left s.octets piece s.reads reads;
        writes = s.writes;
        enough = omega (arith, long, long2, length-append s.octets piece);
        stands = λ before T first clean w. next before T s.octets s.written (omega (arith, first, up2)) clean (s.stands before T first (back clean) w);
        counted = omega (arith, up, up2);
        clean = λ k. s.clean (back k);
      }

  -- something was read
  pub talked_more : {old new : Office V} {c : ℕ} {was_left left : Reading} {held holds : Writing} {turns : ℕ} (more : Bool) → more ≡ true
      → TalkedSoFar Holds faults IsClean (MayGoOn more c) old new c was_left left held holds turns → TalkedSoFar Holds faults IsClean (IsOn c) old new c was_left left held holds turns
  talked_more {c = c} more on s = talked_by (IsOn c) (λ before T octets written L st h. some_written more (IsOn c before T octets written) (Awaits c before T octets written) L on h) s

  -- nothing was, at the source's end
  pub talked_all : {old new : Office V} {c : ℕ} {was_left left : Reading} {held holds : Writing} {turns : ℕ} (more : Bool) → more ≡ false → {AtEnd : Type 0} → AtEnd
      → TalkedSoFar Holds faults IsClean (MayGoOn more c) old new c was_left left held holds turns
      → TalkedSoFar Holds faults IsClean (IsThrough faults AtEnd new c) old new c was_left left held holds turns
  talked_all {new = new} {c = c} more off {AtEnd} at_end s =
      talked_by (IsThrough faults AtEnd new c) (λ before T octets written L st h.
      inl (none_written more (IsOn c before T octets written) (Awaits c before T octets written) L off h, at_end)) s

  -- what `converse` says then
  pub talked_out : {old new : Office V} {c : ℕ} {was_left left : Reading} {held holds : Writing} {turns : ℕ} {P : Claim} (r : Result Unit TalkFault)
      → ((before : ℕ) (T : Trace) (octets written : List ℕ) (L : Log) → turns ≤ length octets → P before T octets written L
      → Or r c (λ _. IsThrough faults (IsAtEnd left.left) new c) before T octets written L)
      → TalkedSoFar Holds faults IsClean P old new c was_left left held holds turns
      → (octets written : List ℕ) × Reads was_left left octets × Writes held holds written
      × Converses Holds faults IsClean (Or r c (λ _. IsThrough faults (IsAtEnd left.left) new c)) old new c octets written
  talked_out {new = new} {c = c} {left = left} r f s = (
    s.octets,
    s.written,
    s.reads,
    s.writes,
    λ before T first clean w. so_by (Or r c (λ _. IsThrough faults (IsAtEnd left.left) new c) before T s.octets s.written)
        (λ L h. f before T s.octets s.written L s.enough h) (s.stands before T first clean w),
  )

  -- a fault of a call in it
  pub talked_cut : {old new : Office V} {c : ℕ} {was_left left : Reading} {held holds : Writing} {turns : ℕ} (r : Result Unit TalkFault) (f : TalkFault) → r ≡ Err f
      → TalkedSoFar Holds faults IsClean (IsCutBy f c) old new c was_left left held holds turns
      → (octets written : List ℕ) × Reads was_left left octets × Writes held holds written
      × Converses Holds faults IsClean (Or r c (λ _. IsThrough faults (IsAtEnd left.left) new c)) old new c octets written
  talked_cut {new = new} {c = c} {left = left} r f e s =
      talked_out r (λ before T octets written L long h. cut_as r f c (λ _. IsThrough faults (IsAtEnd left.left) new c) e before T octets written L h) s
