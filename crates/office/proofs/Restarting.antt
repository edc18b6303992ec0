-- A restart: no connection is left, and no lock.
use Rattle.std.proofs.Common.{◌≡◌, ℕ, ◌<◌, ◌^◌, true, true≢false, List, refl, sym, ◌∙◌, arith, ap, lt-ltb, None, string_bytes, nat_cmp}
use Rattle.std.specs.BTreeMap.{get}
use Rattle.vault.specs.Changes.{Contents}
use Rattle.office.specs.History.{Done}
use Rattle.office.specs.Events.{Limits, Trace, Tagged, given}
use Rattle.office.specs.Events as event
use Rattle.office.specs.Trace.{acts}
use Rattle.office.specs.Formed.{is_formed}
use Rattle.office.specs.Answered.{name_cmp}
use Rattle.office.specs.Stands.{StandsFor}
use Rattle.office.specs.declared.office.Office.{Office}
use Rattle.office.proofs.Standing.{counters}
use Rattle.office.proofs.Locked.{holder_is}
use Rattle.office.proofs.Beginning.{begins_on, begun_on}

pub boot_formed : (T : Trace) (boot : ℕ) → boot < 18446744073709551616 → is_formed T.log (event.Restart boot) ≡ true
boot_formed T boot fits = lt-ltb boot (2 ^ 64) (omega (arith, fits))

-- the store, the policy, the host's name and the settings stay
pub restart_stands : {V : Type 0} (Holds : V → Contents → Type 0) (o o' : Office V) (T : Trace) (boot : ℕ) → (st : StandsFor Holds o T) → is_formed T.log (event.Restart boot) ≡ true
    → ((k : Contents) → Holds o.vault k → Holds o'.vault k) → o'.policy ≡ o.policy → o'.boot ≡ boot → string_bytes o'.host ≡ string_bytes o.host → o'.limits ≡ o.limits → counters o' ≡ (0, 0)
    → ((q : ℕ) → get nat_cmp o'.connections q ≡ None) → ((d : List ℕ) → get name_cmp o'.locks d ≡ None) → StandsFor Holds o' (given T (event.Restart boot) (Tagged Done))
restart_stands Holds o o' T boot st formed on p b s l n connections locks =
    let T' = given T (event.Restart boot) (Tagged Done) in
    record {
      keeps = record {
        contents = st.keeps.contents;
        held = on st.keeps.contents st.keeps.held;
        agree = st.keeps.agree;
        sound = st.keeps.sound;
        formed = rw formed st.keeps.formed;
        began = begun_on
            (event.Restart boot) (Tagged Done) T.log st.began;
      };
      began = begins_on (event.Restart boot) (Tagged Done) T.log st.began;
      policy = p ∙ st.policy;
      boot = b;
      host = s ∙ st.host;
      judged = ap (λ (x : Limits). x.removals) l ∙ st.judged;
      limits = l ∙ st.limits;
      moment = ap (λ (x : ℕ × ℕ). x.1) n;
      numbered = λ q some. let none = connections q in absurd (true≢false (sym (rw none at some)));
      opened = ap (λ (x : ℕ × ℕ). x.0) n;
      connections = λ q. let none = connections q in rw none (record { closed = refl; authorization = refl });
      locks = λ d. locks d ∙ sym (holder_is T.base (acts T') d None (λ q. refl));
    }
