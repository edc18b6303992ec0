-- A taking of what is lent: what is owed then, and what is kept.
use Rattle.std.proofs.Common.{◌≡◌, ℕ, ◌<◌, ◌≤◌, Bool, true, false, List, [], ◌∷◌, drop, length, refl, sym, ◌∙◌, ap, subst, arith, true≢false, length-drop}
use Rattle.std.proofs.lemmas.List.{length-take}
use Rattle.vault.specs.Changes.{Contents}
use Rattle.office.specs.History.{Failed, NoMemory}
use Rattle.office.specs.Connections.{serving, closing}
use Rattle.office.specs.Events.{Trace}
use Rattle.office.specs.Replying.{is_empty}
use Rattle.office.specs.Trace.{history, is_left, act_of_part, gone_act, most_lent}
use Rattle.office.specs.Output.{Output, nothing_owed, is_feeding, reads_text, lent_of, Owes}
use Rattle.office.specs.Kept.{Kept}
use Rattle.office.specs.Stands.{Seen, seen, Matches, untaken_of}
use Rattle.office.proofs.Hearing.{Awaits, took}
use Rattle.office.proofs.Owing.{owes_more, owes_within, some_owed, none_owed}
use Rattle.office.proofs.Events.{part_took, awaits_took, all_over}

-- ---- numbers of octets

drop_some : (n : ℕ) (xs : List ℕ) → is_empty (drop n xs) ≡ false → n < length xs
drop_some n xs h = at (drop n xs) refl h
  where
    at : (ys : List ℕ) → drop n xs ≡ ys → is_empty ys ≡ false → n < length xs
    at [] e h = absurd (true≢false h)
    at (y ∷ ys) e h = let size = ap length e in omega (arith, size, length-drop n xs)

drop_none : (n : ℕ) (xs : List ℕ) → drop n xs ≡ [] → length xs ≤ n
drop_none n xs e = let size = ap length e in omega (arith, size, length-drop n xs)

-- what is lent stands ready
pub lent_ready : (o : Output) (n : ℕ) → n ≤ length (lent_of o) → n ≤ length o.ready
lent_ready o n h = let size = length-take most_lent o.ready in omega (arith, size, h)

module _ (c : Contents) (s : Seen) (k : Kept) (n now : ℕ) (m : Matches c s k) (fits : n ≤ length k.output.ready) where
  -- it isn't more than is owed
  pub took_within : n ≤ length (untaken_of s)
  took_within = let w = owes_within c k.session k.output (untaken_of s) m.owed in omega (arith, w, fits)

  -- if something is still to come, something is left
  pub took_more : is_feeding k.output.source ≡ true → n < length (untaken_of s)
  took_more h = let w = owes_more c k.session k.output (untaken_of s) m.owed h in omega (arith, w, fits)

  module _ (o : Output) (owes : Owes c k.session o (drop n (untaken_of s))) where
    pub took_less : is_empty o.ready ≡ false → n < length (untaken_of s)
    took_less h = drop_some n (untaken_of s) (some_owed c k.session o (drop n (untaken_of s)) owes h)

    pub took_all : o ≡ nothing_owed → length (untaken_of s) ≤ n
    took_all e = drop_none n (untaken_of s) (none_owed c k.session o (drop n (untaken_of s)) owes e)

    -- some is left
    pub some_taken : (k' : Kept) → k' ≡ record k { output = o; clock = now } → is_empty o.ready ≡ false → (reads_text o.source ≡ true → reads_text k.output.source ≡ true) → Matches c (took s n now) k'
    some_taken k' e h kind = subst (λ (y : Kept). Matches c (took s n now) y) (sym e) (part_took c s k o n now m (took_less h) owes kind)

    -- all is taken, and the connection isn't closing
    pub all_taken : (k' : Kept) → k' ≡ record k { output = o; clock = now } → o ≡ nothing_owed → s.closing ≡ false → Awaits c (took s n now) k' k'.pending
    all_taken k' e none open_yet =
        let same : k' ≡ record k { output = nothing_owed; clock = now } = e ∙ ap (λ (x : Output). record k { output = x; clock = now }) none in
        let a = took_all none in
        let w = took_within in
        subst (λ (y : Kept). Awaits c (took s n now) y y.pending) (sym same) (awaits_took c s k n now m (omega arith) open_yet)

-- want of memory ends a connection in the middle of any reply, and a refused page in that of a message
pub lacking_ends : (serving : Bool) (c : ℕ) → act_of_part serving c NoMemory ≡ gone_act c
lacking_ends true c = refl
lacking_ends false c = refl

pub refused_ends : (serving : Bool) (c : ℕ) → serving ≡ true → act_of_part serving c Failed ≡ gone_act c
refused_ends serving c e = rw e refl

-- all is taken, and the connection stays open: its next line may act
pub record TakesAll (c : Contents) (T : Trace) (x n now : ℕ) (k : Kept) : Type 0 where
  pub over : is_left T.log (history T) x n ≡ false
  pub open_yet : closing (history T) x ≡ false
  pub ready : Awaits c (took (seen T x) n now) k k.pending

pub takes_all : (c : Contents) (T : Trace) (x n now : ℕ) (k k1 : Kept) (m : Matches c (seen T x) k) → n ≤ length k.output.ready → k1 ≡ record k { output = k1.output; clock = now }
    → Owes c k.session k1.output (drop n (untaken_of (seen T x))) → k1.output ≡ nothing_owed → k1.state.closing ≡ false → TakesAll c T x n now k1
takes_all c T x n now k k1 m fits kept owes none still =
    let s = seen T x in
    let open_still : s.closing ≡ false = sym m.closing ∙ (sym (ap (λ (k : Kept). k.state.closing) kept) ∙ still) in
    record {
      over = all_over s n (took_all c s k n now m fits k1.output owes none);
      open_yet = open_still;
      ready = all_taken c s k n now m fits k1.output owes k1 kept none open_still;
    }
