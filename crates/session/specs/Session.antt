-- A logged-in session as contracts see it, and what its calls answer (RFC 1939, 5 and 6).
use Rattle.std.specs.Prelude.{◌≡◌, ℕ, List, [], length, map, Result, Ok, Err, if◌then◌else◌}
use Rattle.creds.specs.declared.uid.Uid.{Uid}
use Rattle.creds.specs.declared.login_name.LoginName.{LoginName}
use Rattle.policy.specs.Policy.{Policy}
use Rattle.policy.specs.declared.decide.Decision.{Decision}
use Rattle.vault.specs.declared.answer.Head.{Head}
use Rattle.session.specs.declared.pick.Pick.{Pick}
use Rattle.session.specs.declared.pick.Pick.TheVariants.{NoSuch, Deleted, Denied}
use Rattle.session.specs.declared.pick.Readable.{Readable}
use Rattle.session.specs.declared.quit_plan.QuitPlan.{QuitPlan}
use Rattle.session.specs.declared.removals.Removals.{Removals}
use Rattle.session.specs.declared.removals.Removals.TheVariants.{JudgedAtDele, JudgedAtQuit}
use Rattle.session.specs.View.{visible, refer, marked, retrieval, removal, to_remove, removed_by}
use Rattle.session.specs.View.{denying}

-- who is logged in to which maildrop, when removals are judged, the heads of the view, and the
-- numbers marked as deleted
pub record Session : Type 0 where
  pub name : LoginName
  pub removals : Removals
  pub view : List Head
  pub marks : List ℕ

-- ---- what is asked of a head

-- its class, by which the policy decides
abbrev pub class_of : Head → List ℕ
class_of head = head.class

-- its size
abbrev pub octets_of : Head → ℕ
octets_of head = head.octets

-- its unique-id
abbrev pub uid_of : Head → Uid
uid_of head = record { class = head.class; k = head.k }

-- the key by which it is removed
abbrev pub key_of : Head → ℕ
key_of head = head.key

-- ---- calls

-- the session of a login: the heads that the policy lets the clerk read, and no mark
abbrev pub started : Policy → Removals → (clerk maildrop : List ℕ) → List Head → Session
started policy removals clerk maildrop heads =
    let name : LoginName = record { clerk = clerk; maildrop = maildrop } in
    record { name = name; removals = removals; view = visible class_of policy name heads; marks = [] }

-- the head of a number, or why a reference to it is refused
abbrev pub picked : Session → ℕ → Result Head Pick
picked s n = refer s.marks s.view n (Err NoSuch) (Err Deleted) (λ head. Ok head)

-- the head and the rule that allows its reading, or the rule that denies it
abbrev pub read_answer : Decision → Head → Result Readable Pick
read_answer decision head =
    if decision.allowed then Ok (record { head = head; rule = decision.rule })
    else Err (Denied decision.rule)

-- the answer to RETR and TOP: the head of a number, or why it isn't read
abbrev pub picked_for : Policy → Session → ℕ → Result Readable Pick
picked_for policy s n = refer s.marks s.view n (Err NoSuch) (Err Deleted) (λ head. read_answer (retrieval policy s.name head.class) head)

-- The answer to a DELE of an unmarked message, by the decision on its removal. If removals are
-- judged at the DELE, a denial refuses it with the rule's name; if they are judged at the QUIT,
-- the message is marked whatever the decision.
abbrev pub mark_answer : Removals → Decision → Result (Unit {0}) Pick
mark_answer JudgedAtDele decision = if decision.allowed then Ok tt else Err (Denied decision.rule)
mark_answer JudgedAtQuit decision = Ok tt

-- the answer to a DELE of a number: it is marked, or why not
abbrev pub marking : Policy → Session → ℕ → Result (Unit {0}) Pick
marking policy s n = refer s.marks s.view n (Err NoSuch) (Err Deleted) (λ head. mark_answer s.removals (removal policy s.name head.class))

-- ---- QUIT

-- What the QUIT of a session does under a policy: the marked messages that it removes, by key and
-- by what is told of them; and the rule that keeps the lowest numbered of the others.
pub record IsPlan (policy : Policy) (s : Session) (plan : QuitPlan) : Type 0 where
  pub marked : plan.marked ≡ length (marked s.marks s.view)
  pub keys : plan.keys.items ≡ map key_of (to_remove class_of policy s.name s.marks s.view)
  pub removed : plan.removed
      ≡ map (removed_by class_of uid_of policy s.name)
      (to_remove class_of policy s.name s.marks s.view)
  pub denied : plan.denied ≡ denying class_of policy s.name s.marks s.view
