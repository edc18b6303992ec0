-- What sources gave and sinks took, call by call; and that a fault has its cause.
use Rattle.std.proofs.Common.{◌≡◌, ℕ, ◌<◌, Bool, true, false, List, [], ◌∷◌, ◌++◌, ◌==◌, length, append-nil, append_assoc, sym, ◌∙◌, ap, subst, arith, Ok, Err, Result, IsErrAnd, IfErr}
use Rattle.converse.specs.Streams.{Reading, Writing, Reads, Writes, reads_failed, writes_failed}
use Rattle.converse.specs.Talked.{HasFailed, IsFlushedBy}
use Rattle.converse.specs.declared.talk.TalkFault.{TalkFault}
use Rattle.converse.specs.declared.talk.TalkFault.TheVariants as fault
use Rattle.converse.proofs.Clauses.{appends_none, consumes_none, keeps_same, appends_then, consumes_then, grown_since}

-- ---- octets

pub reads_none : (r : Reading) → Reads r r []
reads_none r = record { gave = sym (append-nil r.given); told = consumes_none r.left r.left (keeps_same r.left); kept = omega (arith) }

pub writes_none : (w : Writing) → Writes w w []
writes_none w = record { took = sym (append-nil w.taken); told = appends_none w.holds w.holds (keeps_same w.holds); kept = omega (arith) }

pub reads_then : (r s t : Reading) (a b : List ℕ) → Reads r s a → Reads s t b → Reads r t (a ++ b)
reads_then r s t a b x y =
    let p = x.kept in
    let q = y.kept in
    record {
      told = consumes_then r.left s.left t.left a b x.told y.told;
      gave = y.gave ∙ (ap (λ (t : List ℕ). t ++ b) x.gave ∙ append_assoc r.given a b);
      kept = omega (arith, p, q);
    }

pub writes_then : (w x y : Writing) (a b : List ℕ) → Writes w x a → Writes x y b → Writes w y (a ++ b)
writes_then w x y a b p q =
    let k = p.kept in
    let l = q.kept in
    record {
      told = appends_then w.holds x.holds y.holds a b p.told q.told;
      took = q.took ∙ (ap (λ (t : List ℕ). t ++ b) p.took ∙ append_assoc w.taken a b);
      kept = omega (arith, k, l);
    }

pub writes_kept : (w x y : Writing) (a : List ℕ) → Writes w x a → Writes x y [] → Writes w y a
writes_kept w x y a p q = subst (λ (o : List ℕ). Writes w y o) (append-nil a) (writes_then w x y a [] p q)

-- ---- faults

pub reads_failed_then : (r s t : Reading) (a : List ℕ) → Reads r s a → reads_failed s t ≡ true → reads_failed r t ≡ true
reads_failed_then r s t a x e = grown_since r.faults s.faults t.faults x.kept e

pub writes_failed_then : (w x y : Writing) (a : List ℕ) → Writes w x a → writes_failed x y ≡ true → writes_failed w y ≡ true
writes_failed_then w x y a p e = grown_since w.faults x.faults y.faults p.kept e

pub failed_more : (reads writes more further : Bool) (e : TalkFault) → (reads ≡ true → more ≡ true) → (writes ≡ true → further ≡ true) → HasFailed reads writes e → HasFailed more further e
failed_more reads writes more further fault.Read f g h = f h
failed_more reads writes more further fault.Write f g h = g h
failed_more reads writes more further fault.TooManyConnections f g h = h
failed_more reads writes more further fault.NoMemory f g h = h
failed_more reads writes more further fault.Endless f g h = h

-- what a `?` hands on
pub handed_on : {A : Type 0} (reads writes : Bool) (r : Result A TalkFault) (e : TalkFault) → IsErrAnd r (λ y. y ≡ e) → HasFailed reads writes e → IfErr r (HasFailed reads writes)
handed_on reads writes (Ok a) e is h = absurd is
handed_on reads writes (Err y) e is h = subst (HasFailed reads writes) (sym is) h

pub failed_none : (more further : Bool) (e : TalkFault) → HasFailed false false e → HasFailed more further e
failed_none more further e h = failed_more false false more further e (λ q. absurd (cc)) (λ q. absurd (cc)) h

-- ---- flushed

-- what isn't a failed read leaves nothing to be flushed
pub flushed_unread : (writes flushed : Bool) (r : Result Unit TalkFault) (e : TalkFault) → r ≡ Err e → HasFailed false writes e → IsFlushedBy r flushed
flushed_unread writes flushed r fault.Read is h = absurd (cc)
flushed_unread writes flushed r fault.Write is h = subst (λ r. IsFlushedBy r flushed) (sym is) tt
flushed_unread writes flushed r fault.TooManyConnections is h = subst (λ r. IsFlushedBy r flushed) (sym is) tt
flushed_unread writes flushed r fault.NoMemory is h = subst (λ r. IsFlushedBy r flushed) (sym is) tt
flushed_unread writes flushed r fault.Endless is h = subst (λ r. IsFlushedBy r flushed) (sym is) tt

-- what is flushed is so at each answer
pub flushed_anyway : (flushed : Bool) (r : Result Unit TalkFault) → flushed ≡ true → IsFlushedBy r flushed
flushed_anyway flushed (Ok done) h = h
flushed_anyway flushed (Err fault.Read) h = h
flushed_anyway flushed (Err fault.Write) h = tt
flushed_anyway flushed (Err fault.TooManyConnections) h = tt
flushed_anyway flushed (Err fault.NoMemory) h = tt
flushed_anyway flushed (Err fault.Endless) h = tt

-- if nothing isn't lent, something is
pub some_lent : (b : Bool) (xs : List ℕ) → b ≡ false → b ≡ (length xs == 0) → 0 < length xs
some_lent b [] e f = absurd (cc)
some_lent b (x ∷ xs) e f = omega (arith)
