use Rattle.std.proofs.Common.{rules, ◌≡◌, ◌∷◌, ◌++◌, [], None, refl, false}
use Rattle.serving.specs.declared.requests.Exchange.{Exchange}
use Rattle.serving.proofs.requests.Requests.keep.Goals as goal

pub returns-clause-kept : goal.returns-clause-kept
returns-clause-kept c = λ done.
    (let e : Exchange = record { link = c.args.link; since = c.args.now; read = c.new.result; response = None; written = 0; is_over = false } in
    let is : c.push.new.self.items ≡ c.args.self.now.exchanges.items ++ e ∷ [] = search rules in
    record { last = e; is = is; link_is = refl; since = refl; live = refl; read = c.new.ensures.items; response = refl; written = refl })
