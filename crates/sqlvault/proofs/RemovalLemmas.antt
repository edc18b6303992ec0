-- The steps of a removal in parts.
use Rattle.std.specs.Prelude.{◌≡◌, ◌≤◌, ◌+◌, ◌-◌, Some, None, ℕ, List, drop, take, length}
use Rattle.std.proofs.Common.{Result, Ok, subst, sym, ap, ◌∙◌, ◌++◌, [], arith}
use Rattle.std.proofs.lemmas.List.{drop_all, drop-drop, take-append-drop}
use Rattle.sqlite_trees.specs.declared.store.Store.{Ghosts}
use Rattle.sqlite.specs.Held.{Held}
use Rattle.sqlite.specs.declared.error.Error.{Error}
use Rattle.vault.specs.Changes.{Contents, without_keys, with_messages}
use Rattle.vault.specs.Calls.{AreRemoved}
use Rattle.mailsql.specs.Rows.{Rows}
use Rattle.sqlvault.specs.Keeps.{Keeps}
use Rattle.sqlvault.specs.declared.refusal.Refusal.{Refusal}
use Rattle.sqlvault.specs.Refusals.{answer_of}
use Rattle.sqlvault.specs.Transactions.{Begins, Concludes}
use Rattle.sqlvault.specs.Frame.{Writes}
use Rattle.sqlvault.specs.Removals.{Removal, removal_of, with_left, removed_so_far}
use Rattle.sqlvault.specs.declared.work.Work.TheVariants as works
use Rattle.sqlvault.specs.UnderWay.{Prepares, Finishes}
use Rattle.sqlvault.proofs.FrameLemmas.{concluded_in, turns_done}
use Rattle.sqlvault.proofs.UnderWayLemmas.{prepares_begun, prepares_more}
use Rattle.sqlvault.proofs.RemoveLemmas.{Removed, none_removed, removed_both}

-- ---- its beginning

-- what is removed so far if no key is done
none_so_far : (d keys : List ℕ) (c : Contents) (rows : Rows) → Keeps rows c
    → Keeps rows (removed_so_far (removal_of d keys) c)
none_so_far d keys c rows keeps =
    let none : drop (length keys) keys ≡ [] = drop_all (length keys) keys (omega arith) in
    subst (λ ks. Keeps rows (with_messages (without_keys d ks c.messages) c)) (sym none)
    (none_removed d rows c keeps)

pub removal_begun : {S : Type 0} {Own : Type 0} {store : Ghosts S} {old new : Held S}
    {x : Unit {0}} (d keys : List ℕ) → Begins store old new (Ok x)
    → Prepares store old new None (Some (works.Removal (removal_of d keys))) Own
removal_begun d keys begins = prepares_begun (works.Removal (removal_of d keys)) (none_so_far d keys) begins

-- ---- a piece

-- of the keys a piece more is done
pub removal_more : {S : Type 0} {Own : Type 0} {store : Ghosts S} {old new : Held S}
    {x : Unit {0}} (r : Removal) (piece : List ℕ) (from : ℕ)
    → piece ++ drop r.left r.keys ≡ drop from r.keys
    → (let done : Result (Unit {0}) Error = Ok x in
    Writes store old new (λ _. Removed r.maildrop piece) done)
    → Prepares store old new (Some (works.Removal r)) (Some (works.Removal (with_left from r))) Own
removal_more r piece from is part = prepares_more (works.Removal r) (works.Removal (with_left from r))
    (λ c rows after shown made.
    subst (λ ks. Keeps after (with_messages (without_keys r.maildrop ks c.messages) c)) is
    (removed_both r.maildrop piece (drop r.left r.keys) after c (made (removed_so_far r c) shown)))
    part

-- ---- its end

-- what a removal makes of the contents
abbrev all_removed : Removal → Contents → Contents
all_removed r c = with_messages (without_keys r.maildrop r.keys c.messages) c

-- the rest is done, and the transaction is concluded
pub finishes_concluded : {S : Type 0} {store : Ghosts S} {old last new : Held S} (r : Removal)
    (rest : List ℕ) (w : Result (Unit {0}) Error) (said : Result (Unit {0}) Refusal)
    → rest ++ drop r.left r.keys ≡ r.keys → Writes store old last (λ _. Removed r.maildrop rest) w
    → Concludes store last new w said
    → Finishes store old new (works.Removal r) (λ c Held answered. AreRemoved Held c r.maildrop r.keys answered)
    (answer_of said)
finishes_concluded r rest w said is part it = record {
  clean = λ clean. part.clean (it.clean clean);
  turns = λ clean c h. turns_done c (all_removed r c) w said it (concluded_in
      (λ Held. Held (all_removed r c)) w said c h.rows h.within part (λ to made. (
        all_removed r c,
        subst (λ ks. Keeps to (with_messages (without_keys r.maildrop ks c.messages) c)) is
            (removed_both r.maildrop rest (drop r.left r.keys) to c (made (removed_so_far r c) h.shown)),
        λ Held held. held,
      )) it clean);
}

-- ---- the keys of a piece

-- a piece, and the keys that were done before it
pub piece_then : (keys : List ℕ) (from left : ℕ) → from ≤ left
    → take (left - from) (drop from keys) ++ drop left keys ≡ drop from keys
piece_then keys from left low =
    let e : from + (left - from) ≡ left = omega (arith, low) in
    ap (λ ks. take (left - from) (drop from keys) ++ ks)
    (sym (rw e at (drop-drop (left - from) from keys)))
    ∙ take-append-drop (left - from) (drop from keys)
