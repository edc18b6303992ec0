use Rattle.std.proofs.Common.{◌≡◌, ◌==◌, Some, refl, sym, ◌∙◌, ap, subst, IfOk, string_bytes}
use Rattle.std.specs.List.{position}
use Rattle.std.proofs.lemmas.List.{get_or-set_same}
use Rattle.journal.specs.Sessions.{connect_of, connected_of, opened_in, with_number}
use Rattle.journal.specs.declared.client.Client.{Client}
use Rattle.journal.proofs.Places.{found_at, opened_set}
use Rattle.journal.proofs.client.Clients.open.Goals as goal

pub returns-clause-opened : goal.returns-clause-opened
returns-clause-opened c =
    let p = λ (client : Client). client.link.number == c.args.link.number in
    let xs = c.args.self.now.clients.items in
    let place : position p xs ≡ Some c.in_ok-at.at = sym c.place_at.ensures.value ∙ c.in_ok-at.was in
    opened_set c.in_ok-at.at c.args.connection xs c.index_mut.result.now (with_number c.args.connection c.index_mut.result.now)
    c.in_ok-at.ensures.within c.index_mut.ensures.value refl
    ∙ ap (λ o. opened_in o c.args.connection xs) (sym place)

pub returns-clause-line : goal.returns-clause-line
returns-clause-line c =
    let p = λ (client : Client). client.link.number == c.args.link.number in
    let place : position p c.args.self.now.clients.items ≡ Some c.in_ok-at.at = sym c.place_at.ensures.value ∙ c.in_ok-at.was in
    subst (λ o. IfOk c.connect_text.result (λ text. string_bytes text ≡ connected_of c.args.connection o))
    (sym (found_at p c.args.self.now.clients.items c.in_ok-at.at c.index_mut.result.now place c.index_mut.ensures.value))
    (subst (λ (client : Client). IfOk c.connect_text.result (λ text. string_bytes text ≡ connect_of client))
    (c.index.ensures ∙ get_or-set_same c.args.self.now.clients.items c.in_ok-at.at (with_number c.args.connection c.index_mut.result.now) c.index.result.now c.in_ok-at.ensures.within)
    c.connect_text.ensures)
