-- That turns, one after the other, go on from any trace, and what a turn's wait changes.
use Rattle.vault.specs.declared.vault.Vault.{Ghosts}
use Rattle.std.proofs.Common.{◌≡◌, ◌≤◌, ◌||◌, ℕ, Bool, true, false, List, [], ◌∷◌, ◌++◌, map, sym, ◌∙◌, ap, arith, Some, None, Option, ⊎_elim, inr, subst, append_assoc, length, ◌+◌, length-append}
use Rattle.std.specs.Bool.{if◌then◌else◌}
use Rattle.std.specs.List.{list_any}
use Rattle.std.proofs.lemmas.Bool.{or_cases}
use Rattle.std.proofs.lemmas.List.{append-nil, map-append}
use Rattle.std.proofs.lemmas.List.Folds.{list_any-append}
use Rattle.vault.specs.Changes.{Contents}
use Rattle.office.specs.Events.{Trace}
use Rattle.office.specs.Taken.{trace_of}
use Rattle.office.specs.Stands.{StandsFor, vault_of}
use Rattle.office.specs.declared.office.Office.{Office}
use Rattle.serving.specs.Calls.{Call, Waited, WasAsked}
use Rattle.serving.specs.Spools.{FileCall}
use Rattle.serving.specs.Hearing.{Hearing}
use Rattle.serving.specs.Works.{is_failed}
use Rattle.serving.specs.Seen.{given_in}
use Rattle.serving.specs.Turns.{Works, millis_of}
use Rattle.serving.specs.Wires.{ToldOfPorts}
use Rattle.serving.specs.Spools.{FileAct}
use Rattle.serving.specs.Served.{Serves}
use Rattle.serving.specs.Parts.{Part}
use Rattle.serving.specs.ClientParts.{IsPassed}
use Rattle.serving.specs.declared.links.Seat.{Seat}
use Rattle.serving.specs.declared.requests.Exchange.{Exchange}
use Rattle.adminhttp.specs.Sites.{Site}
use Rattle.serving.specs.Quits.{in_a_row, most_in_a_row}
use Rattle.serving.specs.Running.{NoTurn, OneMore, HasGoneOn, LeavesAsFound, Maintains, Maintained, Prepared, Deferred, Pauses, PreparesFile, FilePrepared, NotPrepared, answers, HasTurned, WasServed}
use Rattle.serving.specs.declared.links.Links.{Links}
use Rattle.serving.proofs.Working.{newly_then, grown_more, asked_then}

-- ---- what a clock answered

none_yet : (before : List (Option ℕ)) → before ≡ before ++ answers false []
none_yet before = sym (append-nil before)

one_more : (before : List (Option ℕ)) (moments : List ℕ) (now : ℕ) → (before ++ answers false moments) ++ Some now ∷ [] ≡ before ++ answers false (moments ++ now ∷ [])
one_more before moments now =
    append_assoc before (answers false moments) (Some now ∷ [])
    ∙ ap (λ xs. before ++ xs) (ap (λ xs. xs ++ Some now ∷ []) (append-nil (map (λ m. Some m) moments))
    ∙ (sym (map-append (λ m. Some m) moments (now ∷ [])) ∙ sym (append-nil (map (λ m. Some m) (moments ++ now ∷ [])))))

none_more : (before : List (Option ℕ)) (moments : List ℕ) → (before ++ answers false moments) ++ None ∷ [] ≡ before ++ answers true moments
none_more before moments =
    append_assoc before (answers false moments) (None ∷ []) ∙ ap (λ xs. before ++ (xs ++ None ∷ [])) (append-nil (map (λ m. Some m) moments))

-- ---- a turn's wait

-- a wire was asked to wait as long as a turn does
pub waited_for : {W : Type 0} (Asked : W → List Call → Type 0) (w w1 : W) (links : Links) (millis : ℕ) → millis ≡ millis_of links
    → ((before : List Call) → Asked w before → Asked w1 (before ++ Waited millis ∷ [])) → WasAsked Asked w w1 (Waited (millis_of links) ∷ [])
waited_for Asked w w1 links millis is called = record { is = λ before k. subst (λ n. Asked w1 (before ++ Waited n ∷ [])) is (called before k) }

-- of a wire that waited the same is told, and an office that stands for what it stood for serves as before
pub serves_on : {V W S : Type 0} (Holds : V → Contents → Type 0) (Tells : W → ToldOfPorts → Type 0) (TellsFiles : S → List FileAct → Type 0) (T : Trace) (o o1 : Office V) (w w1 : W) (f f1 : S)
    (seats : List Seat) (held : List Exchange) (site : Site) → ((t : ToldOfPorts) → Tells w t → Tells w1 t) → ((a : List FileAct) → TellsFiles f a → TellsFiles f1 a)
    → ((U : Trace) → StandsFor Holds o U → StandsFor Holds o1 U)
    → Serves Holds Tells TellsFiles T o w f seats held site → Serves Holds Tells TellsFiles T o1 w1 f1 seats held site
serves_on Holds Tells TellsFiles T o o1 w w1 f f1 seats held site told told_files still s = record {
  elsewhere = s.elsewhere;
  tells = told_files s.elsewhere.acts s.tells;
  is = record {
    log = s.is.log;
    told = s.is.told;
    owner = s.is.owner;
    stands = still (trace_of T.base s.is.log) s.is.stands;
    admitted = s.is.admitted;
    tells = told (record { pop = s.is.told; admin = s.elsewhere.admin }) s.is.tells;
    served = s.is.served;
    seated = s.is.seated;
    adds = s.is.adds;
  };
  sent = s.sent;
  requests = s.requests;
  of_site = s.of_site;
}

-- the moment after a wait
pub passed_by : {V W : Type 0} (vault : Ghosts V) (Asked : W → List Call → Type 0) (o o1 : Office V) (w w0 w1 : W) (wait : Call) (now : ℕ)
    → WasAsked Asked w w0 (wait ∷ []) → Part vault Asked o w0 o1 w1 (IsPassed [] now) → Part vault Asked o w o1 w1 (IsPassed (wait ∷ []) now)
passed_by vault Asked o o1 w w0 w1 wait now waited p = record {
  given = p.given;
  calls = wait ∷ p.calls;
  was_given = p.was_given;
  was_asked = asked_then Asked w w0 w1 (wait ∷ []) p.calls waited p.was_asked;
  facts = record { event_tag = p.facts.event_tag; given_is = p.facts.given_is; calls_are = ap (λ calls. wait ∷ calls) p.facts.calls_are };
}

-- ---- turns

-- a turn waits if nothing more can be done at once
pub waits_idle : (links : Links) → (links.clients.poll_now || links.requests.poll_now) ≡ false → millis_of links ≡ 1000
waits_idle links none = ap (λ more. if more then 0 else 1000) none

-- a maintenance counts faults on, and makes no store clean
module _ {V : Type 0} (vault : Ghosts V) (p b : Bool) (l : Links) (o o1 : Office V) where
  maintained_more : Maintains vault p b l o o1 → vault.faults (vault_of o) ≤ vault.faults (vault_of o1)
  maintained_more (Maintained answer idle looks) = looks.counted.kept
  maintained_more (Prepared answer preparing looks) = looks.counted.kept
  maintained_more (Deferred busy same) = subst (λ x. vault.faults (vault_of o) ≤ vault.faults (vault_of x)) (sym same) (omega arith)

  pub maintained_clean : Maintains vault p b l o o1 → vault.is_clean (vault_of o1) → vault.is_clean (vault_of o)
  maintained_clean (Maintained answer idle looks) = looks.clean
  maintained_clean (Prepared answer preparing looks) = looks.clean
  maintained_clean (Deferred busy same) = λ k. subst (λ x. vault.is_clean (vault_of x)) same k

  -- a large file is read, or its deposit is prepared
  pub file_maintains : millis_of l ≡ 0 → PreparesFile vault true o o1 → Maintains vault p true l o o1
  file_maintains busy (FilePrepared answer coming looks) = Prepared answer (inr coming) looks
  file_maintains busy (NotPrepared same) = Deferred busy same

-- no file is coming
pub file_idle : {V : Type 0} (vault : Ghosts V) (o o1 : Office V) → PreparesFile vault false o o1 → o1 ≡ o
file_idle vault o o1 (FilePrepared answer coming looks) = cc
file_idle vault o o1 (NotPrepared same) = same

-- an office that was given nothing
pub unserved : {V : Type 0} (Holds : V → Contents → Type 0) (Faults : V → ℕ) (T : Trace) (o : Office V) → StandsFor Holds o T → WasServed Holds Faults T o o []
unserved Holds Faults T o stands = record { stands = stands; admitted = tt; counted = omega arith; failed = λ e. cc }

module _ {V W S H : Type 0} (vault : Ghosts V) (Asked : W → List Call → Type 0) (AskedFiles : S → List FileCall → Type 0) (Heard : H → List Hearing → Type 0) (T : Trace) where
  gone_none : (l : Links) (o : Office V) (w : W) (s : S) (h : H) → StandsFor vault.holds o T → HasGoneOn vault Asked AskedFiles Heard T [] 0 l o w s h l o w s h
  gone_none l o w s h stands = record { given = []; turns = NoTurn; served = unserved vault.holds vault.faults T o stands }

  gone_more : (moments : List ℕ) (row : ℕ) (l : Links) (o : Office V) (w : W) (s : S) (h : H) (l1 : Links) (o1 : Office V) (w1 : W) (s1 : S) (h1 : H) (now : ℕ)
      (l2 : Links) (o2 : Office V) (w2 : W) (s2 : S) (h2 : H) (l3 : Links) (o3 : Office V) (s3 : S)
      → (a : HasGoneOn vault Asked AskedFiles Heard T moments row l o w s h l1 o1 w1 s1 h1)
      → (turn : Works vault Asked AskedFiles Heard (trace_of T.base (a.given ++ T.log)) now l1 o1 w1 s1 h1 o2 l2 w2 s2 h2)
      → LeavesAsFound now l1 l2
      → Pauses vault AskedFiles turn.seen.is_preparing l2 o2 s2 l3 o3 s3
      → in_a_row turn.seen.is_preparing row ≤ most_in_a_row
      → ((U : Trace) → StandsFor vault.holds o2 U → StandsFor vault.holds o3 U)
      → HasGoneOn vault Asked AskedFiles Heard T (moments ++ now ∷ []) (in_a_row turn.seen.is_preparing row) l o w s h l3 o3 w2 s3 h2
  gone_more moments row l o w s h l1 o1 w1 s1 h1 now l2 o2 w2 s2 h2 l3 o3 s3 a turn left kept few still =
      let more : vault.faults (vault_of o2) ≤ vault.faults (vault_of o3) = maintained_more vault turn.seen.is_preparing kept.is_coming l3 o2 o3 kept.maintains in
      record {
        given = given_in turn.seen ++ a.given;
        turns = OneMore moments row a.given l1 o1 w1 s1 h1 now l2 o2 w2 s2 h2 l3 o3 s3 a.turns turn left kept few;
        served = record {
          stands = subst (λ x. StandsFor vault.holds o3 (trace_of T.base x)) (sym (append_assoc (given_in turn.seen) a.given T.log))
              (still (trace_of T.base (given_in turn.seen ++ (a.given ++ T.log))) turn.stands);
          admitted = newly_then T.base T.log a.given (given_in turn.seen) a.served.admitted turn.admitted;
          counted = (let p = a.served.counted in let q = turn.counted in omega (arith, p, q, more));
          failed = λ e.
              ⊎_elim
              (λ (later : list_any is_failed (given_in turn.seen) ≡ true).
              grown_more (vault.faults (vault_of o)) (vault.faults (vault_of o1)) (vault.faults (vault_of o2)) (vault.faults (vault_of o3)) a.served.counted more (turn.failed later))
              (λ (first : list_any is_failed a.given ≡ true).
              (let q = turn.counted in
              grown_more (vault.faults (vault_of o)) (vault.faults (vault_of o)) (vault.faults (vault_of o1)) (vault.faults (vault_of o3))
              (omega arith) (omega (arith, q, more)) (a.served.failed first)))
              (or_cases (list_any is_failed (given_in turn.seen)) (list_any is_failed a.given) (sym (list_any-append is_failed (given_in turn.seen) a.given) ∙ e));
        };
      }

module _ {V W S H C : Type 0} (vault : Ghosts V) (Asked : W → List Call → Type 0) (AskedFiles : S → List FileCall → Type 0) (Heard : H → List Hearing → Type 0) (Gave : C → List (Option ℕ) → Type 0)
    (l : Links) (o : Office V) (w : W) (s : S) (h : H) (k : C) where
  pub turned_none : HasTurned vault Asked AskedFiles Heard Gave false [] 0 l o w s h k l o w s h k
  turned_none = record {
    gave = λ before g. subst (Gave k) (none_yet before) g;
    each = λ T stands clean. gone_none vault Asked AskedFiles Heard T l o w s h stands;
  }

  pub turned_more : (moments : List ℕ) (row : ℕ) (l1 : Links) (o1 : Office V) (w1 : W) (s1 : S) (h1 : H) (k1 : C) (now : ℕ)
      (l2 : Links) (o2 : Office V) (w2 : W) (s2 : S) (h2 : H) (p : Bool) (l3 : Links) (o3 : Office V) (s3 : S) (k2 : C)
      → HasTurned vault Asked AskedFiles Heard Gave false moments row l o w s h k l1 o1 w1 s1 h1 k1
      → ((before : List (Option ℕ)) → Gave k1 before → Gave k2 (before ++ Some now ∷ []))
      → (vault.is_clean (vault_of o2) → vault.is_clean (vault_of o1))
      → ((T : Trace) → StandsFor vault.holds o1 T → vault.is_clean (vault_of o2)
      → (turn : Works vault Asked AskedFiles Heard T now l1 o1 w1 s1 h1 o2 l2 w2 s2 h2) × (turn.seen.is_preparing ≡ p))
      → LeavesAsFound now l1 l2
      → Pauses vault AskedFiles p l2 o2 s2 l3 o3 s3
      → in_a_row p row ≤ most_in_a_row
      → ((U : Trace) → StandsFor vault.holds o2 U → vault.is_clean (vault_of o3) → StandsFor vault.holds o3 U)
      → HasTurned vault Asked AskedFiles Heard Gave false (moments ++ now ∷ []) (in_a_row p row) l o w s h k l3 o3 w2 s3 h2 k2
  turned_more moments row l1 o1 w1 s1 h1 k1 now l2 o2 w2 s2 h2 p l3 o3 s3 k2 a called clean works left kept few still = record {
    gave = λ before g. subst (Gave k2) (one_more before moments now) (called (before ++ answers false moments) (a.gave before g));
    each = λ T stands z.
        (let z2 = maintained_clean vault p kept.is_coming l3 o2 o3 kept.maintains z in
        let g = a.each T stands (clean z2) in
        let turn = works (trace_of T.base (g.given ++ T.log)) g.served.stands z2 in
        subst (λ b. HasGoneOn vault Asked AskedFiles Heard T (moments ++ now ∷ []) (in_a_row b row) l o w s h l3 o3 w2 s3 h2) turn.1
        (gone_more vault Asked AskedFiles Heard T moments row l o w s h l1 o1 w1 s1 h1 now l2 o2 w2 s2 h2 l3 o3 s3 g
        turn.0 left (subst (λ b. Pauses vault AskedFiles b l2 o2 s2 l3 o3 s3) (sym turn.1) kept)
        (subst (λ b. in_a_row b row ≤ most_in_a_row) (sym turn.1) few) (λ U st. still U st z)));
  }

  pub turned_stopped : (moments : List ℕ) (row : ℕ) (l1 : Links) (o1 : Office V) (w1 : W) (s1 : S) (h1 : H) (k1 k2 : C)
      → HasTurned vault Asked AskedFiles Heard Gave false moments row l o w s h k l1 o1 w1 s1 h1 k1
      → ((before : List (Option ℕ)) → Gave k1 before → Gave k2 (before ++ None ∷ []))
      → HasTurned vault Asked AskedFiles Heard Gave true moments row l o w s h k l1 o1 w1 s1 h1 k2
  turned_stopped moments row l1 o1 w1 s1 h1 k1 k2 a called = record {
    gave = λ before g. subst (Gave k2) (none_more before moments) (called (before ++ answers false moments) (a.gave before g));
    each = a.each;
  }

pub one_longer : (moments : List ℕ) (now n : ℕ) → length moments ≡ n → length (moments ++ now ∷ []) ≡ n + 1
one_longer moments now n e = length-append moments (now ∷ []) ∙ ap (λ k. k + 1) e
