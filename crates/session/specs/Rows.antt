-- A view as the code keeps it, in rows of a head and a mark, and how its rows give the view, the
-- marks and the answers of a session.
use Rattle.std.specs.Prelude.{◌≡◌, ℕ, Bool, false, not, ◌&&◌, List, filter, map, Option, Some, None, Result, Ok, Err, if◌then◌else◌}
use Rattle.std.specs.List.{find}
use Rattle.std.specs.Option.{option_map}
use Rattle.creds.specs.declared.login_name.LoginName.{LoginName}
use Rattle.policy.specs.Lane.{Lane}
use Rattle.policy.specs.Policy.{Policy}
use Rattle.vault.specs.declared.answer.Head.{Head}
use Rattle.session.specs.declared.pick.Pick.{Pick}
use Rattle.session.specs.declared.pick.Pick.TheVariants.{NoSuch, Deleted}
use Rattle.session.specs.declared.quit_plan.QuitPlan.{QuitPlan}
use Rattle.session.specs.declared.row.Row.{Row}
use Rattle.session.specs.declared.removals.Removals.{Removals}
use Rattle.session.specs.Session.{Session, class_of, uid_of}
use Rattle.session.specs.View.{numbered_from, at_number, referred, removal, may_remove, removed_by}

-- the clerk and the maildrop of a lane, as a login's name
abbrev pub login_of : Lane → LoginName
login_of lane = record { clerk = lane.clerk; maildrop = lane.maildrop }

-- the heads, in order
abbrev pub heads_of : List Row → List Head
heads_of rows = map (λ (row : Row). row.head) rows

-- the numbers of the marked rows, the first row being number n
abbrev pub marked_from : ℕ → List Row → List ℕ
marked_from n rows = map (λ (row : ℕ × Row). row.0) (filter (λ (row : ℕ × Row). row.1.is_marked) (numbered_from n rows))

-- the numbers of the marked rows, the first row being number 1
abbrev pub marks_of : List Row → List ℕ
marks_of rows = marked_from 1 rows

-- the session of a login that has these rows
abbrev pub session_of : LoginName → Removals → List Row → Session
session_of name removals rows = record { name = name; removals = removals; view = heads_of rows; marks = marks_of rows }

-- the heads of the unmarked rows with their numbers, the first row being number n
abbrev pub unmarked_from : ℕ → List Row → List (ℕ × Head)
unmarked_from n rows = map (λ (row : ℕ × Row). (row.0, row.1.head)) (filter (λ (row : ℕ × Row). not row.1.is_marked) (numbered_from n rows))

-- the unmarked row of a head
abbrev pub unmarked_row : Head → Row
unmarked_row head = record { head = head; is_marked = false }

-- the octets of an unmarked row; 0 for a marked one
abbrev pub octets_unless_marked : Row → ℕ
octets_unless_marked row = if row.is_marked then 0 else row.head.octets

-- `no_such` if there is no row, `deleted` if it is marked, else `found` of its head
abbrev pub row_referred : {B : Type 0} → Option Row → (no_such deleted : B) → (found : Head → B) → B
row_referred None no_such deleted found = no_such
row_referred (Some row) no_such deleted found = referred (Some row.head) row.is_marked no_such deleted found

-- the head of the row of a number, or why a reference to it is refused
abbrev pub row_picked : List Row → ℕ → Result Head Pick
row_picked rows n = row_referred (at_number rows n) (Err NoSuch) (Err Deleted) (λ head. Ok head)

-- the row is marked, and the policy lets the clerk remove it
abbrev pub is_removable : Policy → LoginName → Row → Bool
is_removable policy name row = row.is_marked && may_remove policy name row.head.class

-- the row is marked, and the policy denies its removal
abbrev pub is_denied : Policy → LoginName → Row → Bool
is_denied policy name row = row.is_marked && not (may_remove policy name row.head.class)

-- the rule that denies the first marked row whose removal is denied
abbrev pub denying_rule : Policy → LoginName → List Row → Option (List ℕ)
denying_rule policy name rows = option_map (λ (row : Row). (removal policy name row.head.class).rule) (find (is_denied policy name) rows)

-- what a plan has of these rows: the keys of those that are removed, what is told
-- of them, and the rule that denies the first of the others
pub record Plans (policy : Policy) (name : LoginName) (rows : List Row) (plan : QuitPlan) : Type 0
  where
    pub keys : plan.keys.items ≡ map (λ (row : Row). row.head.key)
        (filter (is_removable policy name) rows)
    pub removed : plan.removed
        ≡ map (λ (row : Row). removed_by class_of uid_of policy name row.head)
        (filter (is_removable policy name) rows)
    pub denied : plan.denied ≡ denying_rule policy name rows
