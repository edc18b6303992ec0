-- What a line makes of its connection, in one word: for the line that is whole, if one is, by how the octets were cut.
use Rattle.std.proofs.Common.{◌≡◌, ℕ, Bool, true, false, cond, List, [], ◌∷◌, ◌++◌, ◌+◌, drop, drop-drop, Option, refl, sym, ◌∙◌, ap, subst, Result, Ok, Err}
use Rattle.std.specs.Result.{OnErr}
use Rattle.std.specs.BTreeMap.{BTreeMap}
use Rattle.popline.specs.Cutting.{Cut, Held, fed, whole_line, coming, through_newline, has_newline}
use Rattle.popline.specs.Replies.{Reply}
use Rattle.popline.proofs.Cuts.{coming-fed}
use Rattle.policy.specs.Policy.{Policy}
use Rattle.vault.specs.Changes.{Contents}
use Rattle.vault.specs.declared.vault.Vault.{Ghosts}
use Rattle.session.specs.Session.{Session}
use Rattle.office.specs.History.{Says}
use Rattle.office.specs.Connections.{reading}
use Rattle.office.specs.Output.{Output, OwesIf, nothing_owed}
use Rattle.office.specs.Transaction.{Transaction}
use Rattle.office.specs.Accounts.{state_account, account_if}
use Rattle.office.specs.Kept.{Kept, login_state_after, asks, clocked}
use Rattle.office.specs.Answered.{judged_at, BecomesIf, held_after, held_if}
use Rattle.office.specs.Stopping.{ActsOnce}
use Rattle.office.specs.AfterLine.{AfterLine, AfterNext, cut_through, line_of, replied, reply_next}
use Rattle.office.specs.declared.account.Account.{Account}
use Rattle.office.specs.declared.account.Account.TheVariants as account
use Rattle.office.specs.declared.login_state.LoginState.{LoginState}
use Rattle.office.specs.declared.login_state.LineOutcome.{LineOutcome}
use Rattle.office.specs.declared.login_state.LineOutcome.TheVariants as outcome
use Rattle.office.proofs.Keeping.{shown_whole, shown_line, none_shown}

-- ---- how the octets are cut

-- a piece was cut, and set the clock if it has an LF
pub piece_cut : (k0 k : Kept) → k0 ≡ k → (w : Held) (p rest : List ℕ) (now clock : ℕ) → w ≡ fed k0.held p → rest ≡ drop (through_newline p) p → clock ≡ cond (has_newline p) now k0.clock
    → record k0 { held = w; pending = rest; clock = clock } ≡ cut_through p (clocked now p k)
piece_cut k0 k v w p rest now clock e r t = subst (λ (k : Kept). record k0 { held = w; pending = rest; clock = clock } ≡ cut_through p (clocked now p k)) v (rw (e, r, t) refl)

-- the octets that were pending were cut: those after the first `cut` of all
pub rest_cut : (k0 k : Kept) → k0 ≡ k → (w : Held) (cut n : ℕ) (octets piece : List ℕ) → piece ≡ k0.pending → k0.pending ≡ drop cut octets → w ≡ fed k0.held piece → n ≡ through_newline piece
    → record k0 { held = w; pending = drop (cut + n) octets } ≡ cut_through k.pending k
rest_cut k0 k v w cut n octets piece given left e taken =
    let rest : drop (cut + n) octets ≡ drop (through_newline k0.pending) k0.pending = sym (drop-drop n cut octets)
    ∙ (ap (drop n) (sym left) ∙ ap (λ m. drop m k0.pending) (taken ∙ ap through_newline given)) in
    let fed_is : w ≡ fed k0.held k0.pending = e ∙ ap (fed k0.held) given in
    subst (λ (k : Kept). record k0 { held = w; pending = drop (cut + n) octets } ≡ cut_through k.pending k) v (rw (fed_is, rest) refl)

-- the lines to come, if a line was answered
pub lines_go : (k new : Kept) (p : List ℕ) (reply : Reply) (session : Option Session) (output : Output) → new ≡ replied (cut_through p k) reply session output
    → (more : List ℕ) → coming k.held (p ++ more) ≡ whole_line new.held ++ coming new.held (new.pending ++ more)
lines_go k new p reply session output is more =
    coming-fed k.held new.held p (through_newline p) (ap (λ (k : Kept). k.held) is) refl more
    ∙ ap (λ rest. whole_line new.held ++ coming new.held (rest ++ more)) (sym (ap (λ (k : Kept). k.pending) is))

-- ---- an error

-- what holds whether there is an error or not
pub err_or_not : {A E P : Type 0} (r : Result A E) → P → OnErr r P
err_or_not (Ok x) it = tt
err_or_not (Err e) it = it

-- ---- the line that is whole

module _ (k : Kept) (x : Cut) (there : x ∷ [] ≡ whole_line k.held) where
  pub is_whole : k.held.whole ≡ true
  is_whole = shown_whole k.held.whole x (line_of k) there

  pub is_next : x ≡ line_of k
  is_next = shown_line k.held.whole x (line_of k) is_whole there

  -- it asks the store, or not
  pub asks_next : (p : Policy) (v : Option Transaction) → (k.held.whole ≡ true → asks p k.state v (reading (line_of k)) ≡ false) → asks p k.state v (reading x) ≡ false
  asks_next p v none = subst (λ (y : Cut). asks p k.state v (reading y) ≡ false) (sym is_next) (none is_whole)

  -- what it makes of the store
  pub acts_next : {V : Type 0} (vault : Ghosts V) (old new : V) (Own : Type 0) (p : Policy) → ActsOnce vault old new Own (held_after outcome.Done p k.session (reading x))
      → ActsOnce vault old new Own (held_if k.held.whole outcome.Done p k.session (reading (line_of k)))
  acts_next vault old new Own p acts = subst (λ b. ActsOnce vault old new Own (held_if b outcome.Done p k.session (reading (line_of k)))) (sym is_whole)
      (subst (λ (y : Cut). ActsOnce vault old new Own (held_after outcome.Done p k.session (reading y))) is_next acts)

  -- it was answered
  pub next_answered : (After : Contents → Type 0) (grown : Bool) (c : Contents) (p : Policy) (locks : BTreeMap (List ℕ) ℕ) (v : Option Transaction) (w : LineOutcome) (told : Account)
      (session : Option Session) (state : LoginState) (output : Output) → AfterLine After grown c (judged_at c p k.stamp locks) x w v k.session session k.state state output told
      → AfterNext After grown c p locks v k (record k { output = output; state = state; session = session }) w told
  next_answered After grown c p locks v w told session state output line =
      let a : AfterLine After grown c (judged_at c p k.stamp locks) (line_of k) w v k.session session k.state state output told =
      subst (λ (y : Cut). AfterLine After grown c (judged_at c p k.stamp locks) y w v k.session session k.state state output told) is_next line in
      let reply = reply_next c p locks v w k in
      let next : state ≡ cond k.held.whole (login_state_after (line_of k) reply k.state) k.state = a.state ∙ ap (λ b. cond b (login_state_after (line_of k) reply k.state) k.state) (sym is_whole) in
      record {
        kept = ap (λ (t : LoginState). record k { output = output; state = t; session = session }) next;
        owes = subst (λ b. OwesIf b c session output reply) (sym is_whole) a.owed;
        session = subst (λ b. BecomesIf b c p k.state (line_of k) reply k.session session) (sym is_whole) a.session;
        held = subst (λ b. After (held_if b w p k.session (reading (line_of k)) c)) (sym is_whole) a.held;
        may = λ failed. (is_whole, a.may failed);
        cause = a.cause;
        account = subst (λ b. told ≡ account_if b (state_account w p v (reading (line_of k)) (Says reply) k.state.user)) (sym is_whole) a.account;
      }

-- no line is whole
pub none_next : (k : Kept) → [] ≡ whole_line k.held → k.held.whole ≡ false
none_next k none = none_shown k.held.whole (line_of k) none

pub next_none : (k : Kept) → [] ≡ whole_line k.held
    → (After : Contents → Type 0) (grown : Bool) (c : Contents) (p : Policy) (locks : BTreeMap (List ℕ) ℕ) (v : Option Transaction) (output : Output)
    → output ≡ nothing_owed → After c → AfterNext After grown c p locks v k (record k { output = output }) outcome.Done account.Nothing
next_none k none After grown c p locks v output taken held =
    let part = none_next k none in
    let reply = reply_next c p locks v outcome.Done k in
    record {
      kept = ap (λ b. record k { output = output; state = cond b (login_state_after (line_of k) reply k.state) k.state }) (sym part);
      owes = subst (λ b. OwesIf b c k.session output reply) (sym part) taken;
      session = subst (λ b. BecomesIf b c p k.state (line_of k) reply k.session k.session) (sym part) refl;
      held = subst (λ b. After (held_if b outcome.Done p k.session (reading (line_of k)) c)) (sym part) held;
      may = λ failed. cc;
      cause = λ failed. cc;
      account = subst (λ b. account.Nothing ≡ account_if b (state_account outcome.Done p v (reading (line_of k)) (Says reply) k.state.user)) (sym part) refl;
    }
