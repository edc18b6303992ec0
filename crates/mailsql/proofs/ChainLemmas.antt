-- Two statements, one after the other.
use Rattle.std.proofs.Common.{◌≡◌, ◌⊎◌, inl, inr, Bool, true, false, cond, IsTrue, refl, sym, ap, ◌∙◌, arith}
use Rattle.sqlite.specs.State.{State, HasCleanDisk, Survives}
use Rattle.sqlite.proofs.StateLemmas.{survives_weaker, survives_then}
use Rattle.mailsql.specs.Rows.{Rows, IsReady, Changes, MayLeave, IsUndone, IsHalted}

committed_then : (b : Bool) (first mid last : State) → first.in_transaction ≡ b → mid.in_transaction ≡ b
    → mid.committed ≡ cond first.in_transaction first.committed mid.now → last.committed ≡ cond mid.in_transaction mid.committed last.now
    → last.committed ≡ cond first.in_transaction first.committed last.now
committed_then true first mid last p q a b = (rw q at b) ∙ (rw p at a) ∙ (λ i. cond (sym p i) first.committed last.now)
committed_then false first mid last p q a b = (rw q at b) ∙ (λ i. cond (sym p i) first.committed last.now)

module _ (P Q R : Rows → Rows → Type 0) (both : (a b c : Rows) → P a b → Q b c → R a c) (first mid last : State) where
  pub changes_then : Changes P first mid → (IsReady mid → Changes Q mid last) → Changes R first last
  changes_then p does =
      let q = does (p.shown.is_open, p.kept) in
      record {
        change = both _ _ _ p.change q.change;
        kept = q.kept;
        shown = record {
          was_open = p.shown.was_open;
          is_open = q.shown.is_open;
          now_is = refl;
          committed_is = committed_then first.in_transaction first mid last refl p.shown.mode p.shown.committed_is q.shown.committed_is;
          mode = q.shown.mode ∙ p.shown.mode;
        };
      }

  pub stops_then : (HasCleanDisk mid → IsReady first → Changes P first mid) → Survives first mid (MayLeave P first)
      → Survives mid last (MayLeave Q mid) → Survives first last (MayLeave (λ a b. P a b ⊎ R a b) first)
  stops_then does one two =
      survives_then first mid last _ _ _ (λ _ db may ready. let it = may ready in (it.0, inl it.1))
      (λ clean db may ready.
      let clean1 : HasCleanDisk mid = omega (arith, two.clean) in
      let p = does clean1 ready in
      let it = may (p.shown.is_open, p.kept) in
      (sym p.shown.mode ∙ it.0, inr (both _ _ _ p.change it.1))) one two

pub stops_first : (P R : Rows → Rows → Type 0) (first last : State) → Survives first last (MayLeave P first) → Survives first last (MayLeave (λ a b. P a b ⊎ R a b) first)
stops_first P R first last one = survives_weaker first last _ _ (λ _ db may ready. let it = may ready in (it.0, inl it.1)) one

pub halts_first : (first last : State) → IsTrue first.in_transaction → IsUndone first last → IsHalted first last
halts_first first last inside (inl same) = inl (record { was_open = same.0.was_open; is_open = same.0.is_open; now_is = refl; committed_is = same.0.committed_is; mode = same.0.mode ∙ inside })
halts_first first last inside (inr back) = inr (record { was_open = back.was_open; undone = back.undone; autocommit = back.autocommit })

pub halts_then : (P : Rows → Rows → Type 0) (first mid last : State) → IsTrue first.in_transaction → Changes P first mid → IsUndone mid last → IsHalted first last
halts_then P first mid last inside p (inl same) =
    let kept : mid.committed ≡ first.committed = p.shown.committed_is ∙ ap (λ b. cond b first.committed mid.now) inside in
    inl (record { was_open = p.shown.was_open; is_open = same.0.is_open; now_is = refl; committed_is = same.0.committed_is ∙ kept; mode = same.0.mode ∙ p.shown.mode ∙ inside })
halts_then P first mid last inside p (inr back) =
    let kept : mid.committed ≡ first.committed = p.shown.committed_is ∙ ap (λ b. cond b first.committed mid.now) inside in
    inr (record { was_open = λ _. p.shown.was_open; undone = λ o. let it = back.undone o in (it.0 ∙ kept, it.1 ∙ kept); autocommit = back.autocommit })
