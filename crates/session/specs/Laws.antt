-- Listings, removals and denials depend only on which numbers are marked, and neither on the order
-- of the marks nor on their repetition.
use Rattle.std.specs.Prelude.{◌≡◌, ℕ, List}
use Rattle.creds.specs.declared.login_name.LoginName.{LoginName}
use Rattle.policy.specs.Policy.{Policy}
use Rattle.vault.specs.declared.answer.Head.{Head}
use Rattle.session.specs.Session.{class_of}
use Rattle.session.specs.View.{is_marked, unmarked, to_remove, denying}

-- both lists of marks give the same listing, the same removals and the same denial of a view
pub record GiveOne (policy : Policy) (name : LoginName) (view : List Head) (marks others : List ℕ) : Type 0 where
  pub listing : unmarked marks view ≡ unmarked others view
  pub removal : to_remove class_of policy name marks view ≡ to_remove class_of policy name others view
  pub denial : denying class_of policy name marks view ≡ denying class_of policy name others view

-- so do any two lists that mark the same numbers
abbrev pub MarksAreAskedByNumber : Type 0
MarksAreAskedByNumber =
    (policy : Policy) (name : LoginName) (view : List Head) (marks others : List ℕ) →
    ((n : ℕ) → is_marked marks n ≡ is_marked others n) → GiveOne policy name view marks others
