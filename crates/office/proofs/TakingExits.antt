-- A taking in which no line acts, on a trace: it was refused, something is left, or all is taken of a connection that is closing.
use Rattle.std.proofs.Common.{◌≡◌, ◌≤◌, ℕ, true, false, List, drop, length, Some, None, refl, sym, ◌∙◌, ap, subst, nat_cmp}
use Rattle.std.specs.BTreeMap.{BTreeMap, get, is_at, Updates}
use Rattle.vault.specs.declared.vault.Vault.{Ghosts}
use Rattle.vault.specs.Changes.{Contents}
use Rattle.vault.specs.Parts.{OnlyLooks}
use Rattle.vault.proofs.CallLemmas.{Settles}
use Rattle.office.specs.History.{Tag, Done, Failed, NoMemory}
use Rattle.office.specs.Connections.{closing, serving}
use Rattle.office.specs.Replying.{is_empty}
use Rattle.office.specs.Sessions.{holder, records}
use Rattle.office.specs.Events.{Event, Trace, Took, Tagged, given}
use Rattle.office.specs.Trace.{history, is_left, act_of_part, gone_act}
use Rattle.office.specs.Expected.{IsOutcome}
use Rattle.office.specs.Outcomes.{Outcome, event_tag_of, HasCause}
use Rattle.office.specs.Outcomes as outcome
use Rattle.office.specs.Output.{nothing_owed, is_feeding, reads_text, Owes}
use Rattle.office.specs.Kept.{Kept, maildrop_of}
use Rattle.office.specs.Locks.{Released}
use Rattle.office.specs.Stands.{Matches, IsOver, IsKeptFor, StandsFor, seen, untaken_of, lent_by}
use Rattle.office.specs.Stopping.{IsAnswered}
use Rattle.office.specs.AfterEvent.{AfterEvent}
use Rattle.office.specs.declared.office.Office.{Office}
use Rattle.office.proofs.AfterEvents.{stands_after}
use Rattle.office.proofs.Ending.{ended_by, took_ends}
use Rattle.office.proofs.Events.{moved, is_apart, whole-took, seen-took_other, seen-took_part, records-took_part, seen-took_closing, records-took_closing}
use Rattle.office.proofs.Events.{left_over, all_over, closed_took, same_part, same_closing}
use Rattle.office.proofs.Memory.{more_than_lent}
use Rattle.office.proofs.Owing.{text_feeds}
use Rattle.office.proofs.Stopping.{before_left}
use Rattle.office.proofs.Taking.{took_more, took_less, took_all, some_taken, lacking_ends, refused_ends}
use Rattle.office.proofs.TakingDone.{IsTaking}

-- ---- the store was only looked at

-- what an event is on a trace: the office stands, it was answered, and it ended as its own answers do
pub record Exits {V : Type 0} (vault : Ghosts V) (Own : Type 0) (o o' : Office V) (T : Trace) (e : Event) (w : Outcome) : Type 0 where
  pub stands : StandsFor vault.holds o' (given T e (event_tag_of w))
  pub answered : IsOutcome T (lent_by o) e w
  pub cause : HasCause (vault.faults o.vault) (vault.faults o'.vault) w
  pub own : IsAnswered w → Own

pub exits_after : {V Own : Type 0} (vault : Ghosts V) (o o' : Office V) (e : Event) (w : Outcome) → OnlyLooks vault o.vault o'.vault Own → Settles vault o'.vault
    → ((T : Trace) → StandsFor vault.holds o T → vault.is_clean o'.vault → Exits vault Own o o' T e w) → AfterEvent vault o o' e w
exits_after vault o o' e w looks settles exits = record {
  counted = looks.counted;
  clean = looks.clean;
  each = λ T st clean.
      let x = exits T st clean in
      stands_after vault o o' T e w x.stands x.answered x.cause (λ up answered. looks.up st.keeps.contents st.keeps.held clean up (x.own answered))
      (λ up. before_left T e st.keeps (looks.stop st.keeps.contents st.keeps.held clean up)) settles clean;
}

-- ---- a taking on a trace

module _ {V : Type 0} (vault : Ghosts V) {o : Office V} {T : Trace} {st : StandsFor vault.holds o T} {x n : ℕ} {k : Kept} (at : IsTaking st x n k) where
  -- a reply of which more is to come isn't taken whole
  pub feeds_left : is_feeding k.output.source ≡ true → is_left T.log (history T) x n ≡ true
  feeds_left feeds = left_over (seen T x) n (took_more st.keeps.contents (seen T x) k n o.moment at.matches at.fits feeds)

  pub reads_left : reads_text k.output.source ≡ true → is_left T.log (history T) x n ≡ true
  reads_left reads = feeds_left (text_feeds k.output.source reads)

  -- the office after it, if it ends the connection: what is kept of the others stays
  module _ (v : V) (middle connections : BTreeMap ℕ Kept) (locks : BTreeMap (List ℕ) ℕ) (k' : Kept) (held : (c : Contents) → vault.holds o.vault c → vault.holds v c)
      (first : Updates nat_cmp o.connections middle x (Some k')) (second : Updates nat_cmp middle connections x None) (freed : Released (maildrop_of k.session) o.locks locks) where
    abbrev cut : Office V
    cut = record o { vault = v; connections = connections; locks = locks }

    cut_stands : (t : Tag) → is_left T.log (history T) x n ≡ true → act_of_part (serving (history T) x) x t ≡ gone_act x → StandsFor vault.holds cut (given T (Took x n) (Tagged t))
    cut_stands t more ends = ended_by vault.holds o cut T (Took x n) t x (took_ends T x n t more ends) st k at.found held refl refl refl refl refl second.1 (λ q e. second.2 q e ∙ first.2 q e) freed

    pub lacking_exit : {Own : Type 0} → is_feeding k.output.source ≡ true → Exits vault Own o cut T (Took x n) outcome.NoMemory
    lacking_exit feeds =
        let more = feeds_left feeds in
        let beyond = more_than_lent st.keeps.contents T x k at.matches feeds in
        record {
          stands = cut_stands NoMemory more (lacking_ends (serving (history T) x) x);
          answered = record { tag = NoMemory; may = rw (more, beyond) refl; is = rw at.goes refl };
          cause = tt;
          own = λ answered. absurd answered;
        }

    pub failing_exit : {Own : Type 0} → reads_text k.output.source ≡ true → HasCause (vault.faults o.vault) (vault.faults v) outcome.Failed → Exits vault Own o cut T (Took x n) outcome.Failed
    failing_exit reads cause =
        let more = reads_left reads in
        let serves : serving (history T) x ≡ true = at.matches.serving reads in
        record {
          stands = cut_stands Failed more (refused_ends (serving (history T) x) x serves);
          answered = record { tag = Failed; may = rw (more, serves) refl; is = rw at.goes refl };
          cause = cause;
          own = λ answered. absurd answered;
        }

  -- what is kept of the connection after the taking, if that was done
  module _ (k' : Kept) (kept : k' ≡ record k { output = k'.output; clock = o.moment }) (owes : Owes st.keeps.contents k.session k'.output (drop n (untaken_of (seen T x)))) where
    pub part_left : is_empty k'.output.ready ≡ false → is_left T.log (history T) x n ≡ true
    part_left some = left_over (seen T x) n (took_less st.keeps.contents (seen T x) k n o.moment at.matches at.fits k'.output owes some)

    all : k'.output ≡ nothing_owed → length (untaken_of (seen T x)) ≤ n
    all none = took_all st.keeps.contents (seen T x) k n o.moment at.matches at.fits k'.output owes none

    pub all_left : k'.output ≡ nothing_owed → is_left T.log (history T) x n ≡ false
    all_left none = all_over (seen T x) n (all none)

    pub still_closing : k'.state.closing ≡ true → closing (history T) x ≡ true
    still_closing closed = sym at.matches.closing ∙ (sym (ap (λ (k : Kept). k.state.closing) kept) ∙ closed)

    -- the office after it: the store holds what it held, and the locks stay
    module _ (v : V) (connections : BTreeMap ℕ Kept) (held : vault.holds v st.keeps.contents) where
      abbrev gone_on : Office V
      gone_on = record o { vault = v; connections = connections }

      done_exit : {Own : Type 0} → Own → ((q : ℕ) → is_at (nat_cmp x) q ≡ false → get nat_cmp connections q ≡ get nat_cmp o.connections q)
          → records T.base (history (given T (Took x n) (Tagged Done))) ≡ records T.base (history T)
          → IsKeptFor st.keeps.contents (seen (given T (Took x n) (Tagged Done)) x) (get nat_cmp connections x)
          → ((d : List ℕ) → holder (history (given T (Took x n) (Tagged Done))) d ≡ holder (history T) d) → Exits vault Own o gone_on T (Took x n) outcome.Done
      done_exit own others stored here holders = record {
        stands = moved vault.holds o gone_on T (Took x n) (Tagged Done) Done x refl st refl refl refl refl refl refl (whole-took T x n Done) refl refl (rw at.found refl)
            (λ q e. seen-took_other T x n q Done e) (λ q ne. others q (is_apart x q ne)) (record {
              contents = st.keeps.contents;
              held = held;
              agree = rw stored st.keeps.agree;
              here = here;
              carried = λ q e i. i;
              locks = λ d. st.locks d ∙ sym (holders d);
            });
        answered = record { tag = Done; may = refl; is = rw at.goes refl };
        cause = tt;
        own = λ answered. own;
      }

      pub part_exit : {Own : Type 0} → Own → Updates nat_cmp o.connections connections x (Some k') → is_empty k'.output.ready ≡ false
          → (reads_text k'.output.source ≡ true → reads_text k.output.source ≡ true) → Exits vault Own o gone_on T (Took x n) outcome.Done
      part_exit own change some kind =
          let more = part_left some in
          let now_is : Matches st.keeps.contents (seen (given T (Took x n) (Tagged Done)) x) k' = subst (λ y. Matches st.keeps.contents y k') (sym (seen-took_part T x n o.moment st.moment more))
          (some_taken st.keeps.contents (seen T x) k n o.moment at.matches at.fits k'.output owes k' kept some kind) in
          done_exit own change.2 (records-took_part T x n more) (subst (IsKeptFor st.keeps.contents (seen (given T (Took x n) (Tagged Done)) x)) (sym change.1) now_is) (same_part T x n more)

      pub closing_exit : {Own : Type 0} (middle : BTreeMap ℕ Kept) → Own → Updates nat_cmp o.connections middle x (Some k') → Updates nat_cmp middle connections x None → k'.output ≡ nothing_owed
          → k'.state.closing ≡ true → Exits vault Own o gone_on T (Took x n) outcome.Done
      closing_exit middle own first second none closed =
          let over = all_left none in
          let closes = still_closing closed in
          let gone : IsOver (seen (given T (Took x n) (Tagged Done)) x) = rw (seen-took_closing T x n o.moment st.moment over closes)
          (record { closed = closed_took (seen T x) n o.moment (all none) closes; authorization = at.matches.parted closes }) in
          done_exit own (λ q e. second.2 q e ∙ first.2 q e) (records-took_closing T x n over closes)
          (subst (IsKeptFor st.keeps.contents (seen (given T (Took x n) (Tagged Done)) x)) (sym second.1) gone) (same_closing T x n over closes)
