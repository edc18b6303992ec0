-- Parts of a turn that leave the clients' links and openings alone.
use Rattle.vault.specs.declared.vault.Vault.{Ghosts}
use Rattle.std.proofs.Common.{◌≡◌, ℕ, List, [], ◌∷◌, ◌++◌, refl, Option}
use Rattle.std.proofs.lemmas.List.Elements.{All-nil, All-cons}
use Rattle.vault.specs.Records.{Records}
use Rattle.office.specs.Answers.{AdminCommand}
use Rattle.office.specs.Events.{EventTag, Log}
use Rattle.office.specs.Events as event
use Rattle.office.specs.Taken.{trace_of}
use Rattle.office.specs.Stands.{StandsFor, vault_of}
use Rattle.office.specs.declared.office.Office.{Office}
use Rattle.serving.specs.declared.wire.Link.{Link}
use Rattle.serving.specs.declared.wire.Port.TheVariants.{Admin}
use Rattle.serving.specs.declared.wire.Io.{Io}
use Rattle.serving.specs.Calls.{Call, Accepted, Read, Wrote, Closed}
use Rattle.serving.specs.Works.{HasCause}
use Rattle.serving.specs.Parts.{WasGiven, Part, Asking, Giving, IsQuiet, Also}
use Rattle.serving.specs.HttpParts.{DidApart, AskedApart}
use Rattle.serving.proofs.Working.{given_none, asked_none, asked_one, asked_then, asking_then, part_then, quiet_then, quiet_none, caused_then}

-- ---- one call

pub quiet_accepted : (came : Option Link) → IsQuiet [] (Accepted Admin came ∷ [])
quiet_accepted came = record { no_moments = refl; no_openings = refl; no_refusals = refl; no_waits = refl; no_arrivals = refl; no_closings = refl }

pub quiet_read : (link : Link) (room : ℕ) (io : Io) (octets : List ℕ) → IsQuiet [] (Read Admin link room io octets ∷ [])
quiet_read link room io octets = record { no_moments = refl; no_openings = refl; no_refusals = refl; no_waits = refl; no_arrivals = refl; no_closings = refl }

pub quiet_wrote : (link : Link) (offered : ℕ) (io : Io) (octets : List ℕ) → IsQuiet [] (Wrote Admin link offered io octets ∷ [])
quiet_wrote link offered io octets = record { no_moments = refl; no_openings = refl; no_refusals = refl; no_waits = refl; no_arrivals = refl; no_closings = refl }

pub quiet_closed : (link : Link) → IsQuiet [] (Closed Admin link ∷ [])
quiet_closed link = record { no_moments = refl; no_openings = refl; no_refusals = refl; no_waits = refl; no_arrivals = refl; no_closings = refl }

module _ {W : Type 0} (Asked : W → List Call → Type 0) where
  pub asks_none : (w : W) (F : List Call → Type 0) → F [] → Asking Asked w w (AskedApart F)
  asks_none w F f = record { calls = []; was_asked = asked_none Asked w; facts = (quiet_none, f) }

  pub asks_one : (w w1 : W) (call : Call) (F : List Call → Type 0) → IsQuiet [] (call ∷ []) → F (call ∷ [])
      → ((before : List Call) → Asked w before → Asked w1 (before ++ call ∷ [])) → Asking Asked w w1 (AskedApart F)
  asks_one w w1 call F quiet f is = record { calls = call ∷ []; was_asked = asked_one Asked w w1 call is; facts = (quiet, f) }

  pub asks_two : (w w1 w2 : W) (x y : Call) (F : List Call → Type 0) → IsQuiet [] (x ∷ []) → IsQuiet [] (y ∷ []) → F (x ∷ y ∷ [])
      → ((before : List Call) → Asked w before → Asked w1 (before ++ x ∷ [])) → ((before : List Call) → Asked w1 before → Asked w2 (before ++ y ∷ [])) → Asking Asked w w2 (AskedApart F)
  asks_two w w1 w2 x y F q1 q2 f is1 is2 = record {
    calls = x ∷ y ∷ [];
    was_asked = asked_then Asked w w1 w2 (x ∷ []) (y ∷ []) (asked_one Asked w w1 x is1) (asked_one Asked w1 w2 y is2);
    facts = (quiet_then [] [] (x ∷ []) (y ∷ []) q1 q2, f);
  }

  pub asks_then : (w w1 w2 : W) (F G H : List Call → Type 0) → ((c1 c2 : List Call) → F c1 → G c2 → H (c1 ++ c2)) → Asking Asked w w1 (AskedApart F)
      → Asking Asked w1 w2 (AskedApart G) → Asking Asked w w2 (AskedApart H)
  asks_then w w1 w2 F G H join a b =
      asking_then Asked w w1 w2 (AskedApart F) (AskedApart G) (AskedApart H) (λ c1 c2 p q. (quiet_then [] [] c1 c2 p.0 q.0, join c1 c2 p.1 q.1)) a b

  -- of the same calls something else holds
  pub asks_so : (w w1 : W) (F G : List Call → Type 0) → ((c : List Call) → F c → G c) → Asking Asked w w1 (AskedApart F) → Asking Asked w w1 (AskedApart G)
  asks_so w w1 F G so a = record { calls = a.calls; was_asked = a.was_asked; facts = (a.facts.0, so a.calls a.facts.1) }

-- with no event, and of whose calls this holds
abbrev pub NoEvent : (List Call → Type 0) → Records → Log → Log → List Call → Type 0
NoEvent Facts B L given calls = (given ≡ []) × Facts calls

-- this call, and no other
abbrev pub IsOne : Call → List Call → Type 0
IsOne call calls = calls ≡ call ∷ []

-- ---- one event

module _ {V : Type 0} (vault : Ghosts V) where
  pub gives_none : (o : Office V) (Did : Records → Log → Log → List Call → Type 0) → ((B : Records) (L : Log) → Did B L [] [])
      → Giving vault o o (λ given. DidApart vault.holds vault.is_clean o o Did given [])
  gives_none o Did did = record {
    given = [];
    was_given = given_none vault o;
    facts = record { quiet = quiet_none; caused = All-nil (HasCause [] []); did = λ B L s k. did B L };
  }

  -- the same, of an office that stands for the log
  pub gives_none_standing : (o : Office V) (Did : Records → Log → Log → List Call → Type 0) → ((B : Records) (L : Log) → StandsFor vault.holds o (trace_of B L) → Did B L [] [])
      → Giving vault o o (λ given. DidApart vault.holds vault.is_clean o o Did given [])
  gives_none_standing o Did did = record {
    given = [];
    was_given = given_none vault o;
    facts = record { quiet = quiet_none; caused = All-nil (HasCause [] []); did = λ B L s k. did B L s };
  }

  pub gives_command : (o o1 : Office V) (command : AdminCommand) (m : EventTag) (Did : Records → Log → Log → List Call → Type 0)
      → WasGiven vault o o1 ((event.Admin command, m) ∷ [])
      → ((B : Records) (L : Log) → StandsFor vault.holds o (trace_of B L) → vault.is_clean (vault_of o1) → Did B L ((event.Admin command, m) ∷ []) [])
      → Giving vault o o1 (λ given. DidApart vault.holds vault.is_clean o o1 Did given [])
  gives_command o o1 command m Did is did = record {
    given = (event.Admin command, m) ∷ [];
    was_given = is;
    facts = record {
      quiet = record { no_moments = refl; no_openings = refl; no_refusals = refl; no_waits = refl; no_arrivals = refl; no_closings = refl };
      caused = All-cons (HasCause [] []) (event.Admin command, m) [] tt (All-nil (HasCause [] []));
      did = did;
    };
  }

-- ---- parts

module _ {V W : Type 0} (vault : Ghosts V) (Asked : W → List Call → Type 0) where
  pub did_none : (o : Office V) (w : W) (Did : Records → Log → Log → List Call → Type 0) → ((B : Records) (L : Log) → Did B L [] [])
      → Part vault Asked o w o w (DidApart vault.holds vault.is_clean o o Did)
  did_none o w Did did = record {
    given = [];
    calls = [];
    was_given = given_none vault o;
    was_asked = asked_none Asked w;
    facts = record { quiet = quiet_none; caused = All-nil (HasCause [] []); did = λ B L s k. did B L };
  }

  pub did_asked : (o : Office V) (w w1 : W) (F : List Call → Type 0) (Did : Records → Log → Log → List Call → Type 0) → ((B : Records) (L : Log) (c : List Call) → F c → Did B L [] c)
      → Asking Asked w w1 (AskedApart F) → Part vault Asked o w o w1 (DidApart vault.holds vault.is_clean o o Did)
  did_asked o w w1 F Did did a = record {
    given = [];
    calls = a.calls;
    was_given = given_none vault o;
    was_asked = a.was_asked;
    facts = record { quiet = a.facts.0; caused = All-nil (HasCause [] a.calls); did = λ B L s k. did B L a.calls a.facts.1 };
  }

  pub did_given : (o o1 : Office V) (w : W) (Did : Records → Log → Log → List Call → Type 0) → Giving vault o o1 (λ given. DidApart vault.holds vault.is_clean o o1 Did given [])
      → Part vault Asked o w o1 w (DidApart vault.holds vault.is_clean o o1 (λ B L given calls. (calls ≡ []) × Did B L given []))
  did_given o o1 w Did a = record {
    given = a.given;
    calls = [];
    was_given = a.was_given;
    was_asked = asked_none Asked w;
    facts = record { quiet = a.facts.quiet; caused = a.facts.caused; did = λ B L s k. (refl, a.facts.did B L s k) };
  }

  -- of which this holds besides
  pub also_asked : (o : Office V) (w w1 : W) (F M : List Call → Type 0)
      → Asking Asked w w1 (AskedApart (λ c. F c × M c)) → Part vault Asked o w o w1 (Also (DidApart vault.holds vault.is_clean o o (NoEvent F)) M)
  also_asked o w w1 F M a = record {
    given = [];
    calls = a.calls;
    was_given = given_none vault o;
    was_asked = a.was_asked;
    facts = (record { quiet = a.facts.0; caused = All-nil (HasCause [] a.calls); did = λ B L s k. (refl, a.facts.1.0) }, a.facts.1.1);
  }

  pub also_then : (o o1 o2 : Office V) (w w1 w2 : W) (D E F : Records → Log → Log → List Call → Type 0) (M N K : List Call → Type 0)
      → ((B : Records) (L g1 g2 : Log) (c1 c2 : List Call) → D B L g1 c1 → E B (g1 ++ L) g2 c2 → F B L (g2 ++ g1) (c1 ++ c2)) → ((c1 c2 : List Call) → M c1 → N c2 → K (c1 ++ c2))
      → Part vault Asked o w o1 w1 (Also (DidApart vault.holds vault.is_clean o o1 D) M)
      → Part vault Asked o1 w1 o2 w2 (Also (DidApart vault.holds vault.is_clean o1 o2 E) N)
      → Part vault Asked o w o2 w2 (Also (DidApart vault.holds vault.is_clean o o2 F) K)
  also_then o o1 o2 w w1 w2 D E F M N K join more a b =
      part_then vault Asked o o1 o2 w w1 w2 (Also (DidApart vault.holds vault.is_clean o o1 D) M)
      (Also (DidApart vault.holds vault.is_clean o1 o2 E) N) (Also (DidApart vault.holds vault.is_clean o o2 F) K)
      (λ g1 g2 c1 c2 wa wb p q. (
        record {
          quiet = quiet_then g1 g2 c1 c2 p.0.quiet q.0.quiet;
          caused = caused_then [] g1 g2 c1 c2 p.0.caused q.0.caused;
          did = λ B L s k. join B L g1 g2 c1 c2 (p.0.did B L s (wb.clean k)) (q.0.did B (g1 ++ L) (wa.stands B L s (wb.clean k)) k);
        },
        more c1 c2 p.1 q.1,
      ))
      a b

  pub also_so : (o o1 : Office V) (w w1 : W) (D E : Records → Log → Log → List Call → Type 0) (M N : List Call → Type 0) → ((B : Records) (L g : Log) (c : List Call) → D B L g c → E B L g c)
      → ((c : List Call) → M c → N c)
      → Part vault Asked o w o1 w1 (Also (DidApart vault.holds vault.is_clean o o1 D) M)
      → Part vault Asked o w o1 w1 (Also (DidApart vault.holds vault.is_clean o o1 E) N)
  also_so o o1 w w1 D E M N so more a = record {
    given = a.given;
    calls = a.calls;
    was_given = a.was_given;
    was_asked = a.was_asked;
    facts = (record { quiet = a.facts.0.quiet; caused = a.facts.0.caused; did = λ B L s k. so B L a.given a.calls (a.facts.0.did B L s k) }, more a.calls a.facts.1);
  }

  pub also_from : (o o1 : Office V) (w w1 : W) (D : Records → Log → Log → List Call → Type 0) (M : List Call → Type 0) → ((c : List Call) → M c)
      → Part vault Asked o w o1 w1 (DidApart vault.holds vault.is_clean o o1 D) → Part vault Asked o w o1 w1 (Also (DidApart vault.holds vault.is_clean o o1 D) M)
  also_from o o1 w w1 D M more a = record { given = a.given; calls = a.calls; was_given = a.was_given; was_asked = a.was_asked; facts = (a.facts, more a.calls) }

  pub did_then : (o o1 o2 : Office V) (w w1 w2 : W) (D E F : Records → Log → Log → List Call → Type 0)
      → ((B : Records) (L g1 g2 : Log) (c1 c2 : List Call) → D B L g1 c1 → E B (g1 ++ L) g2 c2 → F B L (g2 ++ g1) (c1 ++ c2))
      → Part vault Asked o w o1 w1 (DidApart vault.holds vault.is_clean o o1 D) → Part vault Asked o1 w1 o2 w2 (DidApart vault.holds vault.is_clean o1 o2 E)
      → Part vault Asked o w o2 w2 (DidApart vault.holds vault.is_clean o o2 F)
  did_then o o1 o2 w w1 w2 D E F join a b =
      part_then vault Asked o o1 o2 w w1 w2 (DidApart vault.holds vault.is_clean o o1 D) (DidApart vault.holds vault.is_clean o1 o2 E) (DidApart vault.holds vault.is_clean o o2 F)
      (λ g1 g2 c1 c2 wa wb p q. record {
        quiet = quiet_then g1 g2 c1 c2 p.quiet q.quiet;
        caused = caused_then [] g1 g2 c1 c2 p.caused q.caused;
        did = λ B L s k. join B L g1 g2 c1 c2 (p.did B L s (wb.clean k)) (q.did B (g1 ++ L) (wa.stands B L s (wb.clean k)) k);
      })
      a b

  -- of the same part something else holds
  pub did_so : (o o1 : Office V) (w w1 : W) (D E : Records → Log → Log → List Call → Type 0) → ((B : Records) (L g : Log) (c : List Call) → D B L g c → E B L g c)
      → Part vault Asked o w o1 w1 (DidApart vault.holds vault.is_clean o o1 D) → Part vault Asked o w o1 w1 (DidApart vault.holds vault.is_clean o o1 E)
  did_so o o1 w w1 D E so a = record {
    given = a.given;
    calls = a.calls;
    was_given = a.was_given;
    was_asked = a.was_asked;
    facts = record { quiet = a.facts.quiet; caused = a.facts.caused; did = λ B L s k. so B L a.given a.calls (a.facts.did B L s k) };
  }
