use Rattle.std.proofs.Common.{◌≡◌, ◌==◌, ◌+◌, Some, vec_len, sym, ◌∙◌, subst, IfOk, IfSome, string_bytes}
use Rattle.std.specs.List.{position}
use Rattle.journal.specs.Sessions.{lost_of}
use Rattle.journal.specs.declared.client.Client.{Client}
use Rattle.journal.proofs.Places.{found_at}
use Rattle.journal.proofs.client.Clients.close.Goals as goal

pub returns-clause-line : goal.returns-clause-line
returns-clause-line c =
    let p = λ (client : Client). client.link.number == c.args.link.number in
    let xs = c.args.self.now.clients.items in
    subst (λ o. IfOk c.loss.result (λ text. string_bytes text ≡ lost_of o))
    (sym (found_at p xs c.in-Some.at c.swap_remove-client.result (sym c.place_at.ensures.value ∙ c.in-Some.is) c.swap_remove-client.ensures.value)) c.loss.ensures

pub returns-clause-forgotten : goal.returns-clause-forgotten
returns-clause-forgotten c =
    let p = λ (client : Client). client.link.number == c.args.link.number in
    let place : position p c.args.self.now.clients.items ≡ Some c.in-Some.at = sym c.place_at.ensures.value ∙ c.in-Some.is in
    subst (λ o. IfSome o (λ _. vec_len c.swap_remove-client.new.self + 1 ≡ vec_len c.args.self.now.clients)) (sym place) c.swap_remove-client.ensures.len
