-- What the tables' keys and references ensure of the rows in every store of ours.
use Rattle.std.specs.Prelude.{◌≡◌, ⊤, ◌<ℤ◌, Bool, true, not, ◌&&◌, List, [], ◌∷◌, bytes_eq}
use Rattle.std.specs.List.{list_any, list_all, AllByRecursion}
use Rattle.mailsql.specs.Columns.{MetaRow, Clerk, Count, Deposit, Message, Sheet, Rule, Group, Member, Body, Rows}
use Rattle.mailsql.specs.Rows.{same_int, has_name}

-- no two elements are the same by the test
abbrev pub are_apart : {X : Type 0} → (X → X → Bool) → List X → Bool
are_apart same [] = true
are_apart same (x ∷ xs) = not (list_any (same x) xs) && are_apart same xs

-- each key is above the keys before it
abbrev pub AreRising : List Body → Type 0
AreRising [] = ⊤
AreRising (b ∷ bodies) = AllByRecursion (λ (x : Body). b.head.key <ℤ x.head.key) bodies × AreRising bodies

-- No two rows of a table have one key; each message's maildrop, each sheet's message and each
-- member's group is there.
pub record AreApart (rows : Rows) : Type 0 where
  pub meta_rows : are_apart (λ (a b : MetaRow). bytes_eq a.name b.name) rows.meta_rows ≡ true
  pub clerks : are_apart (λ (a b : Clerk). bytes_eq a.name b.name) rows.clerks ≡ true
  pub maildrops : are_apart bytes_eq rows.maildrops ≡ true
  pub counts : are_apart (λ (a b : Count). bytes_eq a.maildrop b.maildrop && bytes_eq a.class b.class) rows.counts ≡ true
  pub deposits : are_apart (λ (a b : Deposit). bytes_eq a.maildrop b.maildrop && bytes_eq a.id b.id) rows.deposits ≡ true
  pub messages : are_apart (λ (a b : Message). bytes_eq a.maildrop b.maildrop && bytes_eq a.class b.class && same_int a.k b.k) rows.messages ≡ true
  pub keys : are_apart (λ (a b : Message). same_int a.key b.key) rows.messages ≡ true
  pub rules : are_apart (λ (a b : Rule). bytes_eq a.name b.name) rows.rules ≡ true
  pub sheets : are_apart (λ (a b : Sheet). same_int a.mail b.mail && same_int a.place b.place) rows.sheets ≡ true
  pub parents : list_all (λ (m : Message). has_name m.maildrop rows.maildrops) rows.messages ≡ true
  pub owners : list_all (λ (s : Sheet). list_any (λ (m : Message). same_int m.key s.mail) rows.messages) rows.sheets ≡ true
  pub groups : are_apart (λ (a b : Group). bytes_eq a.name b.name) rows.groups ≡ true
  pub group_places : are_apart (λ (a b : Group). same_int a.place b.place) rows.groups ≡ true
  pub members : are_apart (λ (a b : Member). same_int a.group b.group && same_int a.place b.place) rows.members ≡ true
  pub member_clerks : are_apart (λ (a b : Member). same_int a.group b.group && bytes_eq a.clerk b.clerk) rows.members ≡ true
  pub member_groups : list_all (λ (m : Member). list_any (λ (g : Group). same_int g.place m.group) rows.groups) rows.members ≡ true
  pub bodies : AreRising rows.bodies
