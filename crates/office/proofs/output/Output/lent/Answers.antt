use Rattle.std.proofs.Common.{◌≡◌, ◌-◌, drop, take, length, ◌∙◌, ap}
use Rattle.std.proofs.lemmas.List.{take_rest}
use Rattle.office.specs.Output.{Output}
use Rattle.office.specs.Trace.{most_lent}
use Rattle.office.proofs.Owing.{front_lent}
use Rattle.office.proofs.output.Output.lent.Goals as goal

pub returns : goal.returns
returns c =
    let all = c.deref.result.now in
    let n = c.self.inside.taken in
    let ready = take (length all - n) (drop n all) in
    let is : ready ≡ c.args.self.now.ready =
    take_rest all n ∙ (ap (drop n) c.deref.ensures.value ∙ ap (λ (o : Output). o.ready) c.self.view_is) in
    front_lent c.min.result most_lent ready c.args.self.now.ready c.min.ensures is
