-- The locks follow the sessions: each locked maildrop is its holder's, before and after what happens on one connection.
use Rattle.std.proofs.Common.{◌≡◌, ℕ, Bool, true, false, ◌&&◌, List, Option, Some, None, refl, sym, ◌∙◌, ap, subst, true≢false, eqb, eqb-true, eq-eqb, cond, ⊎_elim}
use Rattle.std.proofs.lemmas.Bool.{cases_Bool}
use Rattle.std.proofs.lemmas.Map.Text.{is_eq-slice_cmp}
use Rattle.std.specs.BTreeMap.{BTreeMap, get, Updates}
use Rattle.std.specs.Str.{bytes_eq}
use Rattle.vault.specs.Changes.{Contents}
use Rattle.session.specs.Session.{Session}
use Rattle.office.specs.Sessions.{is_login_to}
use Rattle.office.specs.Answered.{name_cmp, LocksFollow}
use Rattle.office.specs.Stands.{Seen, IsSession, IsTransaction}

-- who holds a maildrop by what a trace says of each connection
abbrev pub holds_by : Seen → List ℕ → Bool
holds_by s d = s.live && is_login_to d s.login

-- the connection that holds a maildrop, or that none does
abbrev pub IsLockBy : (ℕ → Seen) → List ℕ → Option ℕ → Type 0
IsLockBy S d None = (q : ℕ) → holds_by (S q) d ≡ false
IsLockBy S d (Some q) = holds_by (S q) d ≡ true

lock_same : (S S' : ℕ → Seen) (d : List ℕ) (o : Option ℕ) → ((q : ℕ) → holds_by (S' q) d ≡ holds_by (S q) d) → IsLockBy S d o → IsLockBy S' d o
lock_same S S' d None e h = λ q. e q ∙ h q
lock_same S S' d (Some q) e h = e q ∙ h

module _ (S S' : ℕ → Seen) (c : ℕ) (others : (q : ℕ) → eqb c q ≡ false → S' q ≡ S q) (L L' : BTreeMap (List ℕ) ℕ) (before : (d : List ℕ) → IsLockBy S d (get name_cmp L d)) where
  all_same : (d : List ℕ) → holds_by (S' c) d ≡ holds_by (S c) d → (q : ℕ) → holds_by (S' q) d ≡ holds_by (S q) d
  all_same d e q = ⊎_elim
      (λ h. subst (λ k. holds_by (S' k) d ≡ holds_by (S k) d) (eqb-true c q h) e)
      (λ h. ap (λ s. holds_by s d) (others q h))
      (cases_Bool (eqb c q))

  -- the same maildrop is held, or none
  locks_stay : ((d : List ℕ) → holds_by (S' c) d ≡ holds_by (S c) d) → ((d : List ℕ) → get name_cmp L' d ≡ get name_cmp L d) → (d : List ℕ) → IsLockBy S' d (get name_cmp L' d)
  locks_stay e same d = subst (IsLockBy S' d) (sym (same d)) (lock_same S S' d (get name_cmp L d) (all_same d (e d)) (before d))

  -- a maildrop is taken
  lock_taken : (m : List ℕ) → ((d : List ℕ) → holds_by (S c) d ≡ false) → ((d : List ℕ) → holds_by (S' c) d ≡ bytes_eq m d) → Updates name_cmp L L' m (Some c)
      → (d : List ℕ) → IsLockBy S' d (get name_cmp L' d)
  lock_taken m none now u d = at (bytes_eq m d) refl
    where
      at : (b : Bool) → bytes_eq m d ≡ b → IsLockBy S' d (get name_cmp L' d)
      at true e =
          let found : get name_cmp L' d ≡ Some c = u.0 d ∙ ap (λ b. cond b (Some c) (get name_cmp L d)) (is_eq-slice_cmp m d ∙ e) in
          subst (IsLockBy S' d) (sym found) (now d ∙ e)
      at false e =
          let found : get name_cmp L' d ≡ get name_cmp L d = u.0 d ∙ ap (λ b. cond b (Some c) (get name_cmp L d)) (is_eq-slice_cmp m d ∙ e) in
          subst (IsLockBy S' d) (sym found) (lock_same S S' d (get name_cmp L d) (all_same d (now d ∙ (e ∙ sym (none d)))) (before d))

  -- a maildrop is let go
  lock_gone : (m : List ℕ) → ((d : List ℕ) (q : ℕ) → holds_by (S c) d ≡ true → holds_by (S q) d ≡ true → c ≡ q)
      → ((d : List ℕ) → holds_by (S c) d ≡ bytes_eq m d) → ((d : List ℕ) → holds_by (S' c) d ≡ false) → Updates name_cmp L L' m None
      → (d : List ℕ) → IsLockBy S' d (get name_cmp L' d)
  lock_gone m one held none u d = at (bytes_eq m d) refl
    where
      free : bytes_eq m d ≡ true → (q : ℕ) → (b : Bool) → eqb c q ≡ b → (h : Bool) → holds_by (S q) d ≡ h → holds_by (S' q) d ≡ false
      free e q true f h g = subst (λ k. holds_by (S' k) d ≡ false) (eqb-true c q f) (none d)
      free e q false f true g = absurd (true≢false (sym (subst (λ k. eqb c k ≡ true) (one d q (held d ∙ e) g) (own c)) ∙ f))
        where
          own : (n : ℕ) → eqb n n ≡ true
          own n = eq-eqb n n refl
      free e q false f false g = ap (λ s. holds_by s d) (others q f) ∙ g

      at : (b : Bool) → bytes_eq m d ≡ b → IsLockBy S' d (get name_cmp L' d)
      at true e =
          let found : get name_cmp L' d ≡ None = u.0 d ∙ ap (λ b. cond b None (get name_cmp L d)) (is_eq-slice_cmp m d ∙ e) in
          subst (IsLockBy S' d) (sym found) (λ q. free e q (eqb c q) refl (holds_by (S q) d) refl)
      at false e =
          let found : get name_cmp L' d ≡ get name_cmp L d = u.0 d ∙ ap (λ b. cond b None (get name_cmp L d)) (is_eq-slice_cmp m d ∙ e) in
          subst (IsLockBy S' d) (sym found) (lock_same S S' d (get name_cmp L d) (all_same d (none d ∙ sym (held d ∙ e))) (before d))

  not_live : (s : Seen) → s.live ≡ false → (d : List ℕ) → holds_by s d ≡ false
  not_live s e d = rw e refl

  sits : (k : Contents) (s : Seen) (o : Session) → IsTransaction k s o → (d : List ℕ) → holds_by s d ≡ bytes_eq o.name.maildrop d
  sits k s o i d = let l = i.live in let n = i.login in rw (l, n) refl

  -- the locks after a session began, ended or went on
  pub locks_follow : (k k' : Contents) (old new : Option Session) → IsSession k (S c) old → IsSession k' (S' c) new
      → ((d : List ℕ) (q : ℕ) → holds_by (S c) d ≡ true → holds_by (S q) d ≡ true → c ≡ q)
      → ((o : Session) → old ≡ Some o → (S' c).login ≡ (S c).login) → LocksFollow c old new L L' → (d : List ℕ) → IsLockBy S' d (get name_cmp L' d)
  locks_follow k k' None None i i' one same f = locks_stay (λ d. not_live (S' c) i' d ∙ sym (not_live (S c) i d)) f
  locks_follow k k' None (Some n) i i' one same f = lock_taken n.name.maildrop (not_live (S c) i) (sits k' (S' c) n i') f
  locks_follow k k' (Some o) None i i' one same f = lock_gone o.name.maildrop one (sits k (S c) o i) (not_live (S' c) i') f
  locks_follow k k' (Some o) (Some n) i i' one same f =
      let lg = same o refl in
      let l = i.live in
      let l' = i'.live in
      locks_stay (λ d. rw (l, l', lg) refl) f
