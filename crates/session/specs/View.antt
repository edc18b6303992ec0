-- A login's view, its marks, and what QUIT removes (RFC 1939, 5 and 6). The definitions take any
-- kind of row, with a function that gives its class, its octets or its unique-id: so a store's
-- heads and a history's messages share them.
use Rattle.std.specs.Prelude.{ℕ, zero, suc, Bool, true, false, not, ◌+◌, ◌==◌, List, [], ◌∷◌, filter, map, sum_by, Option, Some, None, slice_get}
use Rattle.std.specs.List.{list_any, find}
use Rattle.std.specs.Option.{option_map}
use Rattle.policy.specs.Policy.{Policy, decide}
use Rattle.policy.specs.declared.decide.Decision.{Decision}
use Rattle.policy.specs.declared.rule.Action.TheVariants as to
use Rattle.creds.specs.declared.uid.Uid.{Uid}
use Rattle.creds.specs.declared.login_name.LoginName.{LoginName}
use Rattle.session.specs.declared.removed.RemovedMessage.{RemovedMessage}

-- ---- the view

-- the policy's decision on a clerk's reading messages of a class in a maildrop
abbrev pub retrieval : Policy → LoginName → (class : List ℕ) → Decision
retrieval policy name class = decide policy name.clerk name.maildrop class to.Read

-- the policy lets the clerk read the class
abbrev pub may_read : Policy → LoginName → (class : List ℕ) → Bool
may_read policy name class = (retrieval policy name class).allowed

-- the view: those of a maildrop's rows that the policy lets the clerk read, in order
abbrev pub visible : {A : Type 0} → (class_of : A → List ℕ) → Policy → LoginName → List A → List A
visible class_of policy name rows = filter (λ row. may_read policy name (class_of row)) rows

-- rows with their numbers, the first row being number n
abbrev pub numbered_from : {A : Type 0} → ℕ → List A → List (ℕ × A)
numbered_from n [] = []
numbered_from n (row ∷ rows) = (n, row) ∷ numbered_from (n + 1) rows

-- the view's rows with their message numbers, from 1
abbrev pub numbered : {A : Type 0} → List A → List (ℕ × A)
numbered view = numbered_from 1 view

-- the row of a message number, if the view has that number
abbrev pub at_number : {A : Type 0} → List A → ℕ → Option A
at_number view zero = None
at_number view (suc n) = slice_get view n

-- ---- marks

-- a number is among those marked as deleted
abbrev pub is_marked : List ℕ → ℕ → Bool
is_marked marks n = list_any (λ m. m == n) marks

-- the rows that aren't marked, with their numbers
abbrev pub unmarked : {A : Type 0} → List ℕ → List A → List (ℕ × A)
unmarked marks view = filter (λ row. not (is_marked marks row.0)) (numbered view)

-- the rows that are marked, with their numbers
abbrev pub marked : {A : Type 0} → List ℕ → List A → List (ℕ × A)
marked marks view = filter (λ row. is_marked marks row.0) (numbered view)

-- `no_such` if there is no row, `deleted` if it is marked, else `found` of the row
abbrev pub referred : {A B : Type 0} → Option A → (is_marked : Bool) → (no_such deleted : B) → (found : A → B) → B
referred None is_marked no_such deleted found = no_such
referred (Some row) true no_such deleted found = deleted
referred (Some row) false no_such deleted found = found row

-- the same, for the row of number n in a view with these marks
abbrev pub refer : {A B : Type 0} → List ℕ → List A → ℕ → (no_such deleted : B) → (found : A → B) → B
refer marks view n no_such deleted found = referred (at_number view n) (is_marked marks n) no_such deleted found

-- ---- what QUIT removes

-- the policy's decision on a clerk's removing messages of a class from a maildrop
abbrev pub removal : Policy → LoginName → (class : List ℕ) → Decision
removal policy name class = decide policy name.clerk name.maildrop class to.Remove

-- the policy lets the clerk remove the class
abbrev pub may_remove : Policy → LoginName → (class : List ℕ) → Bool
may_remove policy name class = (removal policy name class).allowed

-- the marked rows that the policy lets the clerk remove, in order
abbrev pub to_remove : {A : Type 0} → (class_of : A → List ℕ) → Policy → LoginName → List ℕ → List A → List A
to_remove class_of policy name marks view = filter (λ row. may_remove policy name (class_of row)) (map (λ row. row.1) (marked marks view))

-- a row that is removed: its unique-id, and the rule that allows it
abbrev pub removed_by : {A : Type 0} → (class_of : A → List ℕ) → (uid_of : A → Uid) → Policy
    → LoginName → A → RemovedMessage
removed_by class_of uid_of policy name row =
    record { uid = uid_of row; rule = (removal policy name (class_of row)).rule }

-- the rule that denies the lowest numbered marked row whose removal is denied
abbrev pub denying : {A : Type 0} → (class_of : A → List ℕ) → Policy → LoginName → List ℕ → List A → Option (List ℕ)
denying {A} class_of policy name marks view =
    option_map (λ (row : ℕ × A). (removal policy name (class_of row.1)).rule) (find (λ (row : ℕ × A). not (may_remove policy name (class_of row.1))) (marked marks view))

-- ---- what listings say of rows

-- the lines of a scan listing: number and octets
abbrev pub sizes_of : {A : Type 0} → (octets_of : A → ℕ) → List (ℕ × A) → List (ℕ × ℕ)
sizes_of octets_of rows = map (λ row. (row.0, octets_of row.1)) rows

-- the lines of a unique-id listing: number and unique-id
abbrev pub uids_of : {A : Type 0} → (uid_of : A → Uid) → List (ℕ × A) → List (ℕ × Uid)
uids_of uid_of rows = map (λ row. (row.0, uid_of row.1)) rows

-- the sum of the rows' octets
abbrev pub total_of : {A : Type 0} → (octets_of : A → ℕ) → List (ℕ × A) → ℕ
total_of octets_of rows = sum_by (λ row. octets_of row.1) rows
