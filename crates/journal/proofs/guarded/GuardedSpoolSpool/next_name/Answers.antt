use Rattle.std.proofs.Common.{rules, ◌≡◌, [], ◌∷◌, ◌++◌, refl, sym, subst, None, true, false}
use Rattle.serving.specs.Spools.{Next}
use Rattle.journal.specs.Guards.{AreGuarded}
use Rattle.journal.proofs.Guarding.{file_on, name_on, name_back}
use Rattle.journal.proofs.guarded.GuardedSpoolSpool.next_name.Goals as goal

pub returns-in_err-name-clause-called : goal.returns-in_err-name-clause-called
returns-in_err-name-clause-called g c = λ a is.
    (let none : c.from_residual.result ≡ None = search rules in
    subst (λ r. AreGuarded g.S.Spool.asked g.X.Watch.answered c.next_name.new.self c.args.self.now.watch (a ++ Next c.args.last.now r ∷ [])) (sym none)
    (file_on g.S.Spool.asked g.X.Watch.answered c.args.self.now.spool c.next_name.new.self c.args.self.now.watch (Next c.args.last.now None) refl c.in_err-name.ensures.called a is))

pub returns-then-is_lost-clause-called : goal.returns-then-is_lost-clause-called
returns-then-is_lost-clause-called g c =
    let gone : c.is_lost.result ≡ true = search rules in
    name_back g.S.Spool.asked g.X.Watch.answered c.args.self.now.spool c.next_name.new.self c.args.self.now.watch c.look_now.new.self c.is_lost.new.self c.args.last.now c.in_ok-name.name
    c.is_lost.result gone c.in_ok-name.ensures.called c.look_now.ensures c.is_lost.ensures

pub returns-clause-called : goal.returns-clause-called
returns-clause-called g c =
    let there : c.is_lost.result ≡ false = search rules in
    name_on g.S.Spool.asked g.X.Watch.answered c.args.self.now.spool c.next_name.new.self c.args.self.now.watch c.look_now.new.self c.is_lost.new.self c.args.last.now c.in_ok-name.name
    c.is_lost.result there c.in_ok-name.ensures.called c.look_now.ensures c.is_lost.ensures
