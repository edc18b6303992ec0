use Rattle.std.proofs.Common.{ℕ, List, None, Some, Option, subst, sym}
use Rattle.std.specs.BTreeMap.{Updates}
use Rattle.session.specs.Session.{Session}
use Rattle.office.specs.Answered.{name_cmp, LocksFollow}
use Rattle.office.proofs.locks.lock.Goals as goal

pub returns-in_ok-insert-clause-ok : goal.returns-in_ok-insert-clause-ok
returns-in_ok-insert-clause-ok c =
    subst (λ (s : Option Session). LocksFollow c.args.number None s c.args.locks.now c.insert.new.self) (sym c.in-Some.is)
    (subst (λ (d : List ℕ). Updates name_cmp c.args.locks.now c.insert.new.self d (Some c.args.number)) c.maildrop.ensures c.in_ok-insert.ensures.updates)
