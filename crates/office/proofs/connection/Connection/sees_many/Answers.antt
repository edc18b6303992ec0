use Rattle.std.proofs.Common.{rules, ◌≡◌, length, sym, ◌∙◌, ap}
use Rattle.session.specs.Session.{Session}
use Rattle.office.specs.Quitting.{is_found, are_many, sees_many_in}
use Rattle.office.proofs.Many.{found_many}
use Rattle.office.proofs.connection.Connection.sees_many.Goals as goal

pub returns-in-Some : goal.returns-in-Some
returns-in-Some c =
    let s : Session = c.in-Some.session in
    let same : sees_many_in c.args.self.now.session ≡ are_many (length s.view) = search rules in
    c.is_found.ensures ∙ (ap is_found c.pick.ensures ∙ (found_many s ∙ sym same))
