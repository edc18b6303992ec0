-- A text that a sink takes piece by piece.
use Rattle.std.proofs.Common.{◌≡◌, ℕ, ◌<◌, ◌≤◌, ◌+◌, ◌⊎◌, inl, inr, ⊎_elim, true, List, [], length, take, drop, zero, suc, refl, sym, subst, arith, length-drop, take-add}
use Rattle.std.proofs.Common.{take-append-drop, take_all, Result, Ok, Err, IfErr, IsErrAnd}
use Rattle.converse.specs.Streams.{Writing, Writes, WritesPart, writes_failed}
use Rattle.converse.proofs.Clauses.{grown_still}
use Rattle.converse.proofs.Streaming.{writes_then, writes_kept, writes_failed_then}

-- So much of a text was taken: an octet at each call, unless one failed.
pub record WroteSo (first now : Writing) (text : List ℕ) (done calls : ℕ) : Type 0 where
  pub within : done ≤ length text
  pub writes : Writes first now (take done text)
  pub some : (calls ≤ done) ⊎ (writes_failed first now ≡ true)

some_more : (first before after : Writing) (done calls count : ℕ) (a b : List ℕ) → Writes first before a → Writes before after b
    → (count ≡ 0 → writes_failed before after ≡ true) → (calls ≤ done) ⊎ (writes_failed first before ≡ true) → (calls + 1 ≤ done + count) ⊎ (writes_failed first after ≡ true)
some_more first before after done calls zero a b p q none s = inr (writes_failed_then first before after a p (none refl))
some_more first before after done calls (suc n) a b p q none (inl s) = inl (omega (arith, s))
some_more first before after done calls (suc n) a b p q none (inr s) = inr (grown_still first.faults before.faults after.faults q.kept s)

pub wrote_more : (first before after : Writing) (text : List ℕ) (done calls count : ℕ) → WroteSo first before text done calls → count ≤ length (drop done text)
    → Writes before after (take count (drop done text)) → (count ≡ 0 → writes_failed before after ≡ true) → WroteSo first after text (done + count) (calls + 1)
wrote_more first before after text done calls count s fits w none =
    let left = length-drop done text in
    let within = s.within in
    record {
      within = omega (arith, fits, left, within);
      writes = subst (λ (t : List ℕ). Writes first after t) (sym (take-add done count text)) (writes_then first before after (take done text) (take count (drop done text)) s.writes w);
      some = some_more first before after done calls count (take done text) (take count (drop done text)) s.writes w none s.some;
    }

-- a beginning of it was taken, and then perhaps no more
pub wrote_part : (first before now : Writing) (text : List ℕ) (done calls : ℕ) → WroteSo first before text done calls → Writes before now [] → WritesPart first now text
wrote_part first before now text done calls s w = record {
  told = take done text;
  rest = drop done text;
  is = sym (take-append-drop done text);
  writes = writes_kept first before now (take done text) s.writes w;
}

-- all of it was
pub wrote_all : (first before now : Writing) (text : List ℕ) (done calls : ℕ) → WroteSo first before text done calls → Writes before now [] → length text ≤ done → Writes first now text
wrote_all first before now text done calls s w all =
    subst (λ (t : List ℕ). Writes first now t) (take_all done text all) (writes_kept first before now (take done text) s.writes w)

-- as many calls as there may be were made
pub some_failed : (first now : Writing) (text : List ℕ) (done calls : ℕ) → WroteSo first now text done calls → length text < calls → writes_failed first now ≡ true
some_failed first now text done calls s long =
    let within = s.within in
    ⊎_elim (λ (l : calls ≤ done). absurd (omega (arith, l, within, long))) (λ (e : writes_failed first now ≡ true). e) s.some

-- ---- faults

pub if_err_still : {A E : Type 0} (r : Result A E) (P Q : E → Type 0) → ((e : E) → P e → Q e) → IfErr r P → IfErr r Q
if_err_still (Ok x) P Q f h = tt
if_err_still (Err e) P Q f h = f e h

-- what a `?` hands on
pub handed_as : {A E : Type 0} (r : Result A E) (e : E) (Is : E → Type 0) → IsErrAnd r (λ y. y ≡ e) → Is e → IfErr r Is
handed_as (Ok x) e Is same h = absurd same
handed_as (Err y) e Is same h = subst Is (sym same) h
