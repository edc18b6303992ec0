use Rattle.std.proofs.Common.{◌≡◌, sym, ◌∙◌, ap, subst, IfOk, string_bytes}
use Rattle.journal.specs.Sessions.{is_in, holder_of}
use Rattle.journal.specs.declared.client.Client.{Client}
use Rattle.journal.proofs.Places.{found_at, none_found}
use Rattle.journal.proofs.client.Clients.holder.Goals as goal

pub returns-in-Some : goal.returns-in-Some
returns-in-Some c =
    let p = λ (client : Client). is_in c.args.maildrop.now client.heard in
    let xs = c.args.self.now.clients.items in
    subst (λ o. IfOk c.holder.result (λ text. string_bytes text ≡ holder_of o))
    (sym (found_at p xs c.in-Some.at c.index.result.now (sym c.place_in.ensures.value ∙ c.in-Some.is) c.index.ensures)) c.holder.ensures

pub returns-in-None : goal.returns-in-None
returns-in-None c =
    let p = λ (client : Client). is_in c.args.maildrop.now client.heard in
    c.new.ensures.bytes ∙ ap holder_of (sym (none_found p c.args.self.now.clients.items (sym c.place_in.ensures.value ∙ c.in-None.is)))
