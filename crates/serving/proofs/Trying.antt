-- One file of a spool is tried.
use Rattle.vault.specs.declared.vault.Vault.{Ghosts}
use Rattle.std.proofs.Common.{◌≡◌, ◌||◌, ℕ, Bool, true, false, List, [], ◌∷◌, ◌++◌, Option, Some, None, append_assoc, refl, sym, ◌∙◌, ap, subst}
use Rattle.office.specs.Events.{Tagged, Trace}
use Rattle.office.specs.Trace.{history}
use Rattle.office.specs.Expected.{IsOutcome, shown_at}
use Rattle.office.specs.Outcomes.{Outcome, event_tag_of}
use Rattle.office.specs.Stands.{StandsFor, vault_of}
use Rattle.office.specs.declared.office.Office.{Office}
use Rattle.serving.specs.declared.file_name.FileName.{FileName}
use Rattle.serving.specs.declared.files.Disposal.{Disposal}
use Rattle.serving.specs.Spools.{FileCall, Next, Read, disposal_of}
use Rattle.serving.specs.Parts.{WasGiven}
use Rattle.serving.specs.SpoolTurns.{disposing, deposit_of, IsTrying, CouldNotRead, WasTried, IsSpoolTurn, NoFileThere, TriesOne, has_dealt, SpoolPart}
use Rattle.serving.proofs.Depositing.{deposit_mark}
use Rattle.serving.proofs.Working.{given_none}

none_more : (b : Bool) → b ≡ (b || false)
none_more true = refl
none_more false = refl

-- a file is dealt with if it was removed or renamed
pub dealt_so : (b : Bool) → b ≡ (b || false)
dealt_so b = none_more b

-- what was to become of a file is what its answer says
trying_so : (T : Trace) (lent : ℕ → ℕ) (n : FileName) (text read : List ℕ) (o : Outcome) (d : Disposal) (is_done : Bool) → text ≡ read → d ≡ disposal_of o
    → IsOutcome T lent (deposit_of n text) o → IsTrying n T ((deposit_of n text, event_tag_of o) ∷ []) (Read n (Some read) ∷ disposing n is_done d)
trying_so T lent n text read o d is_done same fate h =
    let e = deposit_of n text in
    let m : event_tag_of o ≡ Tagged h.tag = ap event_tag_of h.is ∙ deposit_mark T.base T.log (history T) n.maildrop n.class n.id text h.tag in
    let disposal_is : d ≡ disposal_of (shown_at T.base T.log (history T) e h.tag) = fate ∙ ap disposal_of h.is in
    subst (λ x. IsTrying n T ((e, x) ∷ []) (Read n (Some read) ∷ disposing n is_done d)) (sym m)
    (subst (λ x. IsTrying n T ((e, Tagged h.tag) ∷ []) (Read n (Some x) ∷ disposing n is_done d)) same
    (subst (λ x. IsTrying n T ((e, Tagged h.tag) ∷ []) (Read n (Some text) ∷ disposing n is_done x)) (sym disposal_is) (WasTried text h.tag is_done)))

module _ {V S : Type 0} (vault : Ghosts V) (Asked : S → List FileCall → Type 0) where
  two_calls : (s s1 s2 : S) (call : FileCall) (calls : List FileCall) → ((before : List FileCall) → Asked s before → Asked s1 (before ++ call ∷ []))
      → ((before : List FileCall) → Asked s1 before → Asked s2 (before ++ calls)) → (before : List FileCall) → Asked s before → Asked s2 (before ++ call ∷ calls)
  two_calls s s1 s2 call calls a b before k = subst (Asked s2) (append_assoc before (call ∷ []) calls) (b (before ++ call ∷ []) (a before k))

  pub tries_none : (o : Office V) (s s1 : S) (last : Option FileName) → ((before : List FileCall) → Asked s before → Asked s1 (before ++ Next last None ∷ []))
      → (b : Bool)
      → SpoolPart vault Asked o s o s1 (λ T given calls. IsSpoolTurn last last T given calls × (b ≡ (b || has_dealt calls)))
  tries_none o s s1 last is b = record {
    given = [];
    calls = Next last None ∷ [];
    was_given =
        given_none vault o;
    was_asked = is;
    deposits = tt;
    facts = λ T st k. (NoFileThere T, none_more b);
  }

  pub tries_one : (o o1 : Office V) (s s1 s2 : S) (last : Option FileName) (name : FileName) (b dealt : Bool)
      → ((before : List FileCall) → Asked s before → Asked s1 (before ++ Next last (Some name) ∷ []))
      → SpoolPart vault Asked o s1 o1 s2 (λ T given calls. IsTrying name T given calls × (dealt ≡ has_dealt calls))
      → SpoolPart vault Asked o s o1 s2 (λ T given calls. IsSpoolTurn last (Some name) T given calls × ((b || dealt) ≡ (b || has_dealt calls)))
  tries_one o o1 s s1 s2 last name b dealt is a = record {
    given = a.given;
    calls = Next last (Some name) ∷ a.calls;
    was_given = a.was_given;
    was_asked = two_calls s s1 s2 (Next last (Some name)) a.calls is a.was_asked;
    deposits = a.deposits;
    facts = λ T st k. (let f = a.facts T st k in (TriesOne name T a.given a.calls f.0, ap (λ x. b || x) f.1));
  }

  pub tries_unread : (o : Office V) (s s1 : S) (name : FileName)
      → ((before : List FileCall) → Asked s before → Asked s1 (before ++ Read name None ∷ []))
      → SpoolPart vault Asked o s o s1 (λ T given calls. IsTrying name T given calls × (false ≡ has_dealt calls))
  tries_unread o s s1 name is = record {
    given = [];
    calls = Read name None ∷ [];
    was_given =
        given_none vault o;
    was_asked = is;
    deposits = tt;
    facts = λ T st k. (CouldNotRead, refl);
  }

  -- a file was read and deposited, and these further calls were made
  pub tries_read : (o o1 : Office V) (s s1 s2 : S) (lent : ℕ → ℕ) (name : FileName) (text read : List ℕ) (out : Outcome) (d : Disposal) (is_done dealt : Bool)
      → dealt ≡ has_dealt (disposing name is_done d) → text ≡ read → d ≡ disposal_of out
      → WasGiven vault o o1 ((deposit_of name text, event_tag_of out) ∷ [])
      → ((T : Trace) → StandsFor vault.holds o T → vault.is_clean (vault_of o1) → IsOutcome T lent (deposit_of name text) out)
      → ((before : List FileCall) → Asked s before → Asked s1 (before ++ Read name (Some read) ∷ []))
      → ((before : List FileCall) → Asked s1 before → Asked s2 (before ++ disposing name is_done d))
      → SpoolPart vault Asked o s o1 s2 (λ T given calls. IsTrying name T given calls × (dealt ≡ has_dealt calls))
  tries_read o o1 s s1 s2 lent name text read out d is_done dealt is_dealt same fate given outcome a b = record {
    given = (deposit_of name text, event_tag_of out) ∷ [];
    calls = Read name (Some read) ∷ disposing name is_done d;
    was_given = given;
    was_asked = two_calls s s1 s2 (Read name (Some read)) (disposing name is_done d) a b;
    deposits = tt;
    facts = λ T st k. (trying_so T lent name text read out d is_done same fate (outcome T st k), is_dealt);
  }
