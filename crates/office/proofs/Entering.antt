-- What a maildrop that is opened has, by what the session that begins counts.
use Rattle.std.proofs.Common.{◌≡◌, ℕ, suc, ◌+◌, ◌<◌, ◌^◌, Bool, true, false, List, [], ◌∷◌, length, refl, sym, ◌∙◌, ap, ap₂, subst, Option, Some, None, Ok, Err, Result, is_some}
use Rattle.std.proofs.lemmas.List.Sums.{sum_by-cons}
use Rattle.std.specs.Prelude.{map, sum_by, if◌then◌else◌}
use Rattle.std.specs.BTreeMap.{BTreeMap}
use Rattle.creds.specs.declared.login_name.LoginName.{LoginName}
use Rattle.policy.specs.Policy.{Policy}
use Rattle.popline.specs.Commands.{Pass}
use Rattle.popline.specs.Replies.{MaildropHas, NoSuchMaildrop, InUse}
use Rattle.vault.specs.declared.answer.Head.{Head}
use Rattle.vault.specs.declared.fault.VaultFault.{VaultFault}
use Rattle.vault.specs.declared.fault.VaultFault.TheVariants as fault
use Rattle.vault.specs.declared.record.Keyed.{Keyed}
use Rattle.vault.specs.Records.{octets_of, octets_of_all, class_of, in_maildrop, is_one_of}
use Rattle.vault.specs.Changes.{Contents, AreSound, records_of, head_of, heads}
use Rattle.vault.specs.Calls.{heads_result}
use Rattle.session.specs.Session.{Session, started}
use Rattle.session.specs.Session as head
use Rattle.session.specs.View.{visible, unmarked, total_of}
use Rattle.session.specs.declared.removals.Removals.{Removals}
use Rattle.office.specs.Answered.{is_locked_by, HasTransaction}
use Rattle.office.specs.Transaction.{Transaction}
use Rattle.creds.specs.Credential.{ByPass}
use Rattle.office.specs.Replying.{when_permitted, name_or_nobody}
use Rattle.office.specs.Kept.{LineContext, authorization_said, judged}
use Rattle.office.specs.declared.login_state.LoginState.{LoginState}
use Rattle.office.specs.Entering.{entered}
use Rattle.office.proofs.Lying.{found, found_heads, found_messages, found_fit}
use Rattle.office.proofs.Alike.{all_unmarked, total_unmarked}

-- the heads of messages have their octets
same_octets : (kept : List Keyed) → sum_by head.octets_of (map head_of kept) ≡ octets_of_all (map (λ (x : Keyed). x.message) kept)
same_octets [] = refl
same_octets (x ∷ xs) =
    sum_by-cons head.octets_of (head_of x) (map head_of xs) ∙ (ap (λ k. octets_of x.message + k) (same_octets xs) ∙ sym (sum_by-cons octets_of x.message (map (λ (x : Keyed). x.message) xs)))

same_number : (kept : List Keyed) → length (map head_of kept) ≡ length (map (λ (x : Keyed). x.message) kept)
same_number [] = refl
same_number (x ∷ xs) = ap suc (same_number xs)

-- ---- a maildrop is opened

module _ (c : Contents) (p : Policy) (name : LoginName) where
  abbrev answer_if : Bool → Result (List Head) VaultFault
  answer_if b = if b then Ok (heads name.maildrop c) else Err fault.NoMaildrop

  some_there : (hs : List Head) → (b : Bool) → answer_if b ≡ Ok hs → (b ≡ true) × (heads name.maildrop c ≡ hs)
  some_there hs true e = (refl, cc)
  some_there hs false e = cc

  -- the maildrop is there, and is locked
  pub finds_lock : (locks : BTreeMap (List ℕ) ℕ) (hs : List Head) → heads_result name.maildrop c ≡ Ok hs → is_locked_by locks name.maildrop ≡ true → entered c p locks name ≡ InUse
  finds_lock locks hs e held = let there = (some_there hs (is_one_of name.maildrop c.maildrops) e).0 in rw (there, held) refl

  none_there : (b : Bool) → answer_if b ≡ Err fault.NoMaildrop → b ≡ false
  none_there true e = cc
  none_there false e = refl

  -- it isn't there
  pub finds_none : (locks : BTreeMap (List ℕ) ℕ) → heads_result name.maildrop c ≡ Err fault.NoMaildrop → entered c p locks name ≡ NoSuchMaildrop
  finds_none locks e = let none = none_there (is_one_of name.maildrop c.maildrops) e in rw none refl

  -- the session that begins, whose removals are judged so
  module _ (j : Removals) where
    abbrev begun : Session
    begun = started p j name.clerk name.maildrop (heads name.maildrop c)

    counted : length (unmarked begun.marks begun.view) ≡ length (visible class_of p name (in_maildrop name.maildrop (records_of c).messages))
    counted = all_unmarked begun.view ∙ (ap length (found_heads c p name) ∙ (same_number (found c p name) ∙ ap length (found_messages c p name)))

    summed : total_of head.octets_of (unmarked begun.marks begun.view) ≡ octets_of_all (visible class_of p name (in_maildrop name.maildrop (records_of c).messages))
    summed = total_unmarked head.octets_of begun.view ∙ (ap (sum_by head.octets_of) (found_heads c p name) ∙ (same_octets (found c p name) ∙ ap octets_of_all (found_messages c p name)))

    fits : AreSound c → sum_by head.octets_of begun.view < 2 ^ 64
    fits a = subst (λ (view : List Head). sum_by head.octets_of view < 2 ^ 64) (sym (found_heads c p name)) (found_fit c p name a)

    -- the maildrop is there, and isn't locked
    pub opens : (locks : BTreeMap (List ℕ) ℕ) (hs : List Head) (s : Session) (messages octets : ℕ) → AreSound c → heads_result name.maildrop c ≡ Ok hs
        → is_locked_by locks name.maildrop ≡ false → s ≡ started p j name.clerk name.maildrop hs → messages ≡ length (unmarked s.marks s.view)
        → (sum_by head.octets_of s.view < 2 ^ 64 → octets ≡ total_of head.octets_of (unmarked s.marks s.view))
        → (entered c p locks name ≡ MaildropHas messages octets) × (s ≡ begun)
    opens locks hs s messages octets a e free is n o =
        let there = some_there hs (is_one_of name.maildrop c.maildrops) e in
        let same : s ≡ begun = is ∙ ap (λ (hs : List Head). started p j name.clerk name.maildrop hs) (sym there.1) in
        let sum = subst (λ (s : Session). sum_by head.octets_of s.view < 2 ^ 64 → octets ≡ total_of head.octets_of (unmarked s.marks s.view)) same o (fits a) in
        let number = subst (λ (s : Session). messages ≡ length (unmarked s.marks s.view)) same n in
        (rw (there.0, free) (ap₂ (λ m k. MaildropHas m k) (sym counted ∙ sym number) (sym summed ∙ sym sum)), same)

-- ---- the session that an accepted login leaves

-- a password is given if a login name is in force
pub pass_said : (d : LineContext) (t : LoginState) (password : List ℕ) (name : LoginName) → t.user ≡ Some name
    → authorization_said d t (Ok (Pass password)) ≡ judged d t.failures name (ByPass password)
pass_said d t password name e = ap (λ u. when_permitted (is_some u) (judged d t.failures (name_or_nobody u) (ByPass password))) e

-- a session that is kept has its messages
pub has_transaction : (c : Contents) (s : Session) (v : Option Transaction) → HasTransaction c (Some s) v → (w : Transaction) × HasTransaction c (Some s) (Some w)
has_transaction c s None h = absurd h
has_transaction c s (Some w) h = (w, h)

-- what holds of every transaction that a session has holds of one
pub state_case : (c : Contents) (s : Session) (v : Option Transaction) (P : Option Transaction → Type 0)
    → ((w : Transaction) → HasTransaction c (Some s) (Some w) → P (Some w)) → HasTransaction c (Some s) v → P v
state_case c s None P f h = absurd h
state_case c s (Some w) P f h = f w h

-- nobody is seated if there is no session
pub unseated_case : (c : Contents) (v : Option Transaction) (P : Option Transaction → Type 0) → P None → HasTransaction c None v → P v
unseated_case c None P p h = p
unseated_case c (Some w) P p h = absurd h
