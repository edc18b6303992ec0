-- What an event makes of an office, in one word: an event that asks no store, one that asks a call which only looks, and one that asks a call which changes records once.
use Rattle.std.proofs.Common.{◌≡◌, ◌≤◌, ◌⊎◌, inl, ℕ, Bool, true, false, Some, None, Result, Ok, Err, refl, sym, ◌∙◌, subst, arith, nat_cmp}
use Rattle.std.specs.Prelude.{⊤}
use Rattle.std.specs.BTreeMap.{BTreeMap, get}
use Rattle.policy.specs.Policy.{Policy}
use Rattle.vault.specs.declared.fault.VaultFault.{VaultFault}
use Rattle.vault.specs.declared.fault.VaultFault.TheVariants as fault
use Rattle.vault.specs.declared.vault.Vault.{Ghosts}
use Rattle.vault.specs.Changes.{Contents}
use Rattle.vault.specs.Calls.{has_grown}
use Rattle.vault.specs.Stops.{SaySame, IsOwn}
use Rattle.vault.specs.Call.{Looks, Commits}
use Rattle.vault.proofs.CallLemmas.{Settles}
use Rattle.office.specs.History.{Tag, Done, in_force}
use Rattle.office.specs.Events.{Event, Tagged, Trace, given}
use Rattle.office.specs.Trace.{history, is_open}
use Rattle.office.specs.Expected.{IsOutcome, ignored}
use Rattle.office.specs.Outcomes.{Outcome, Reason, event_tag_of, HasCause}
use Rattle.office.specs.Outcomes as outcome
use Rattle.office.specs.Kept.{Kept}
use Rattle.office.specs.Stands.{Matches, IsOver, IsKeptFor, Keeps, StandsFor, seen, lent_by}
use Rattle.office.specs.Stopping.{SaysTrace, IsAnswered}
use Rattle.office.specs.AfterEvent.{StandsAfter, AfterEvent}
use Rattle.office.specs.declared.office.Office.{Office}
use Rattle.office.proofs.Coming.{nothing_stands, ignored_event}
use Rattle.office.proofs.Quiet.{IsQuiet, IsStill, Became, became-ruled, became-outcome, became-cause, still_rules, still_quiet}
use Rattle.office.proofs.Stopping.{stop_leaves, settled_leaves, either_left, before_left, became_left, own}

-- ---- what is kept of a connection says whether it is open

module _ {V : Type 0} {Holds : V → Contents → Type 0} {o : Office V} (T : Trace) (c : ℕ) (st : StandsFor Holds o T) where
  pub kept_at : (k : Kept) → get nat_cmp o.connections c ≡ Some k → Matches st.keeps.contents (seen T c) k
  kept_at k found = subst (IsKeptFor st.keeps.contents (seen T c)) found (st.connections c)

  pub open_at : (k : Kept) → get nat_cmp o.connections c ≡ Some k → is_open T c ≡ true
  open_at k found = (kept_at k found).opened

  pub closed_at : get nat_cmp o.connections c ≡ None → is_open T c ≡ false
  closed_at found = let over : IsOver (seen T c) = subst (IsKeptFor st.keeps.contents (seen T c)) found (st.connections c) in over.closed

-- ---- no store is asked

-- an outcome other than Failed
abbrev pub IsNotFailed : Outcome → Type 0
IsNotFailed outcome.Failed = ⊥
IsNotFailed _ = ⊤

no_cause : (before now : ℕ) (w : Outcome) → IsNotFailed w → HasCause before now w
no_cause before now (outcome.Opened c) h = tt
no_cause before now outcome.Done h = tt
no_cause before now outcome.Failed h = absurd h
no_cause before now outcome.NoMemory h = tt
no_cause before now (outcome.Ignored reason) h = tt
no_cause before now (outcome.Answered answer) h = tt

module _ {V : Type 0} (vault : Ghosts V) where
  -- what a stop leaves, by whether it is answered
  pub stands_after : (o o' : Office V) (T : Trace) (e : Event) (w : Outcome) → StandsFor vault.holds o' (given T e (event_tag_of w)) → IsOutcome T (lent_by o) e w
      → HasCause (vault.faults o.vault) (vault.faults o'.vault) w → (vault.is_up o.vault → IsAnswered w → vault.is_up o'.vault)
      → (vault.is_up o.vault → (left : Contents) → vault.may_leave o'.vault left → SaysTrace left T ⊎ SaysTrace left (given T e (Tagged Done)))
      → Settles vault o'.vault → vault.is_clean o'.vault → StandsAfter vault o o' e w T
  stands_after o o' T e w stands outcome cause up either settles clean = record {
    stands = stands;
    outcome = outcome;
    cause = cause;
    up = up;
    stop = λ was. stop_leaves T e w (either was) (λ answered. settled_leaves (given T e (event_tag_of w)) stands.keeps (λ d held. settles d clean (up was answered) held));
  }

  -- the store is as it was
  pub unasked_after : (o o' : Office V) (e : Event) (w : Outcome) → Settles vault o'.vault → o'.vault ≡ o.vault → IsNotFailed w
      → ((T : Trace) → StandsFor vault.holds o T → vault.is_clean o'.vault → StandsFor vault.holds o' (given T e (event_tag_of w)))
      → ((T : Trace) → StandsFor vault.holds o T → IsOutcome T (lent_by o) e w) → AfterEvent vault o o' e w
  unasked_after o o' e w settles same not_failed stands outcome = record {
    counted = subst (λ (v : V). vault.faults o.vault ≤ vault.faults v) (sym same) (omega arith);
    clean = λ clean. subst vault.is_clean same clean;
    each = λ T st clean. stands_after o o' T e w (stands T st clean) (outcome T st) (no_cause (vault.faults o.vault) (vault.faults o'.vault) w not_failed)
        (λ up answered. subst vault.is_up (sym same) up)
        (λ up left may. inl (settled_leaves T (subst (λ (v : V). Keeps (vault.holds v) T) (sym same) st.keeps)
        (λ d held. settles d clean (subst vault.is_up (sym same) up) held) left may)) settles clean;
  }

  -- an event that is ignored: what was looked at stands where it stood
  pub ignored_after : (o : Office V) (connections : BTreeMap ℕ Kept) (e : Event) (reason : Reason) → Settles vault o.vault
      → ((q : ℕ) → get nat_cmp connections q ≡ get nat_cmp o.connections q) → ((T : Trace) → StandsFor vault.holds o T → ignored T (lent_by o) e ≡ Some reason)
      → AfterEvent vault o (record o { connections = connections }) e (outcome.Ignored reason)
  ignored_after o connections e reason settles same is = unasked_after o (record o { connections = connections }) e (outcome.Ignored reason) settles refl tt
      (λ T st clean. nothing_stands vault.holds o (record o { connections = connections }) T e _ st (ignored_event T e st.keeps.formed) (λ k h. h) refl refl refl refl refl same (λ d. refl))
      (λ T st. let why = is T st in record { tag = Done; may = refl; is = rw why refl })

  -- ---- the store is asked

  -- what became of it, by what the store answered
  became_after : (o : Office V) (v : V) (policy : Policy) (e : Event) (w : Outcome) → IsQuiet e → vault.faults o.vault ≤ vault.faults v → (vault.is_clean v → vault.is_clean o.vault)
      → Settles vault v
      → ((T : Trace) (st : StandsFor vault.holds o T) → vault.is_clean v → Became (vault.holds v) st.keeps.contents T e (has_grown (vault.faults o.vault) (vault.faults v)) w)
      → ((T : Trace) → StandsFor vault.holds o T → (t : Tag) → event_tag_of w ≡ Tagged t → policy ≡ in_force T.base (history (given T e (Tagged t))))
      → ((c : Contents) → vault.holds o.vault c → vault.is_clean v → vault.is_up o.vault → IsAnswered w → vault.is_up v)
      → ((T : Trace) → StandsFor vault.holds o T → vault.is_clean v → vault.is_up o.vault → (left : Contents) → vault.may_leave v left → SaysTrace left T ⊎ SaysTrace left (given T e (Tagged Done)))
      → AfterEvent vault o (record o { vault = v; policy = policy }) e w
  became_after o v policy e w quiet counted clean settles became rules up stop = record {
    counted = counted;
    clean = clean;
    each = λ T st clean.
        let b = became T st clean in
        stands_after o (record o { vault = v; policy = policy }) T e w
        (became-ruled vault.holds o (record o { vault = v; policy = policy }) T e _ w quiet st b (rules T st) refl refl refl refl (λ q. refl) (λ d. refl))
        (became-outcome T e _ w quiet b (lent_by o)) (became-cause (vault.faults o.vault) (vault.faults v) T e w quiet b)
        (λ was answered. up st.keeps.contents st.keeps.held clean was answered) (λ was. stop T st clean was) settles clean;
  }

  -- the policy in force is that of before
  rules_stay : (o : Office V) (e : Event) → IsStill e → (T : Trace) → StandsFor vault.holds o T → (t : Tag) → o.policy ≡ in_force T.base (history (given T e (Tagged t)))
  rules_stay o e still T st t = st.policy ∙ sym (still_rules T e t still)

  -- it was answered without the store
  pub unchanged_after : (o : Office V) (e : Event) (w : Outcome) → IsQuiet e → Settles vault o.vault
      → ((T : Trace) (st : StandsFor vault.holds o T) → Became (vault.holds o.vault) st.keeps.contents T e (has_grown (vault.faults o.vault) (vault.faults o.vault)) w)
      → ((T : Trace) → StandsFor vault.holds o T → (t : Tag) → event_tag_of w ≡ Tagged t → o.policy ≡ in_force T.base (history (given T e (Tagged t))))
      → AfterEvent vault o o e w
  unchanged_after o e w quiet settles became rules = became_after o o.vault o.policy e w quiet (omega arith) (λ clean. clean) settles (λ T st clean. became T st) rules
      (λ c held clean up answered. up) (λ T st clean up left may. inl (settled_leaves T st.keeps (λ d held. settles d clean up held) left may))

  pub answered_after : (o : Office V) (e : Event) (w : Outcome) → IsStill e → Settles vault o.vault
      → ((T : Trace) (st : StandsFor vault.holds o T) → Became (vault.holds o.vault) st.keeps.contents T e (has_grown (vault.faults o.vault) (vault.faults o.vault)) w)
      → AfterEvent vault o o e w
  answered_after o e w still settles became = unchanged_after o e w (still_quiet e still) settles became (λ T st t m. rules_stay o e still T st t)

  -- one call that looks
  pub looked_after : {A : Type 0} (o : Office V) (v : V) (e : Event) (w : Outcome) {answered : Result A VaultFault} → IsStill e
      → Looks vault.holds vault.faults vault.is_clean vault.is_up vault.may_leave o.vault v answered → (IsAnswered w → IsOwn answered) → Settles vault v
      → ((T : Trace) (st : StandsFor vault.holds o T) → vault.is_clean v → Became (vault.holds v) st.keeps.contents T e (has_grown (vault.faults o.vault) (vault.faults v)) w)
      → AfterEvent vault o (record o { vault = v }) e w
  looked_after o v e w still looks own settles became = became_after o v o.policy e w (still_quiet e still) looks.counted.kept looks.clean settles became
      (λ T st t m. rules_stay o e still T st t) (λ c held clean up answered. looks.up c clean held up (own answered))
      (λ T st clean up. before_left T e st.keeps (looks.stop st.keeps.contents clean up st.keeps.held))

  -- one call that changes records once: `see` is the outcome, by its answer
  module _ {A : Type 0} (o : Office V) (v : V) (e : Event) (see : Result A VaultFault → Outcome) (DoneBy : Contents → (Contents → Type 0) → Result A VaultFault → Type 0)
      (answered : Result A VaultFault) (commits : Commits vault.holds vault.faults vault.is_clean vault.is_up vault.may_leave o.vault v DoneBy answered)
      (done : (c : Contents) → vault.holds o.vault c → vault.is_clean v → DoneBy c (vault.holds v) answered) (settles : Settles vault v)
      (makes : (After : Contents → Type 0) (T : Trace) (st : StandsFor vault.holds o T) (grown : Bool) (r : Result A VaultFault) → DoneBy st.keeps.contents After r
      → (r ≡ Err fault.Store → grown ≡ true) → Became After st.keeps.contents T e grown (see r))
      (store : see (Err fault.Store) ≡ outcome.Failed) (memory : see (Err fault.NoMemory) ≡ outcome.NoMemory) (marks : (x : A) → event_tag_of (see (Ok x)) ≡ Tagged Done) where
    -- the policy is set to this one, or stays
    pub ruled_after : (policy : Policy) → IsQuiet e
        → ((T : Trace) → StandsFor vault.holds o T → (t : Tag) → event_tag_of (see answered) ≡ Tagged t → policy ≡ in_force T.base (history (given T e (Tagged t))))
        → AfterEvent vault o (record o { vault = v; policy = policy }) e (see answered)
    ruled_after policy quiet rules = became_after o v policy e (see answered) quiet commits.counted.kept commits.clean settles
        (λ T st clean. makes (vault.holds v) T st _ answered (done st.keeps.contents st.keeps.held clean) commits.counted.cause) rules
        (λ c held clean up is. commits.up c clean held up (own see answered store memory is))
        (λ T st clean up. either_left T e st.keeps (λ Held r. DoneBy st.keeps.contents Held r) (commits.stop st.keeps.contents clean up st.keeps.held)
        (λ left x did. became_left left st.keeps.contents T e true (see (Ok x)) quiet (marks x) (makes (SaySame left) T st true (Ok x) did (λ s. refl))))

    pub committed_after : IsStill e → AfterEvent vault o (record o { vault = v }) e (see answered)
    committed_after still = ruled_after o.policy (still_quiet e still) (λ T st t m. rules_stay o e still T st t)
