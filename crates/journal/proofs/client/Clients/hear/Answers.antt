use Rattle.std.proofs.Common.{◌≡◌, true, sym, ◌∙◌, ap, subst, IfOk, IfSome, string_bytes}
use Rattle.std.proofs.lemmas.List.{with_items_is}
use Rattle.journal.specs.Sessions.{is_number, told_of, is_told_of, left_by, heard_in}
use Rattle.journal.specs.declared.client.Client.{Client}
use Rattle.journal.proofs.Places.{found_at, heard_set}
use Rattle.journal.proofs.client.Clients.hear.Goals as goal

pub returns-in-Some-clause-line : goal.returns-in-Some-clause-line
returns-in-Some-clause-line c =
    let p = λ (client : Client). is_number c.args.connection client.number in
    let left = left_by c.args.account.now c.args.self.now.clients.items in
    let is_left : c.leave_by.new.clients ≡ left = c.leave_by.ensures ∙ ap (λ xs. left_by c.args.account.now xs) c.deref_mut.ensures.value in
    let back = with_items_is c.args.self.now.clients c.leave_by.new.clients (c.leave_by.auto.clients ∙ c.deref_mut.ensures.len) ∙ is_left in
    let place = sym (rw back at c.place_of.ensures.value) ∙ c.in-Some.is in
    subst (λ o. IfSome c.hear.result (λ line. IfOk line (λ text. string_bytes text ≡ told_of c.args.account.now o)))
    (sym (found_at p left c.in-Some.at c.index_mut.result.now place (rw back at c.index_mut.ensures.value))) c.hear.ensures.line

pub returns-in-Some-clause-told : goal.returns-in-Some-clause-told
returns-in-Some-clause-told c =
    let p = λ (client : Client). is_number c.args.connection client.number in
    let left = left_by c.args.account.now c.args.self.now.clients.items in
    let is_left : c.leave_by.new.clients ≡ left = c.leave_by.ensures ∙ ap (λ xs. left_by c.args.account.now xs) c.deref_mut.ensures.value in
    let back = with_items_is c.args.self.now.clients c.leave_by.new.clients (c.leave_by.auto.clients ∙ c.deref_mut.ensures.len) ∙ is_left in
    let place = sym (rw back at c.place_of.ensures.value) ∙ c.in-Some.is in
    subst (λ o. IfSome c.hear.result (λ line. IfOk line (λ text. is_told_of c.args.reads c.args.account.now o ≡ true)))
    (sym (found_at p left c.in-Some.at c.index_mut.result.now place (rw back at c.index_mut.ensures.value))) c.hear.ensures.told

pub returns-in-Some-clause-heard : goal.returns-in-Some-clause-heard
returns-in-Some-clause-heard c =
    let left = left_by c.args.account.now c.args.self.now.clients.items in
    let is_left : c.leave_by.new.clients ≡ left = c.leave_by.ensures ∙ ap (λ xs. left_by c.args.account.now xs) c.deref_mut.ensures.value in
    let back = with_items_is c.args.self.now.clients c.leave_by.new.clients (c.leave_by.auto.clients ∙ c.deref_mut.ensures.len) ∙ is_left in
    let place = sym (rw back at c.place_of.ensures.value) ∙ c.in-Some.is in
    rw back (heard_set c.in-Some.at c.args.account.now left c.index_mut.result.now c.hear.new.self (rw back at c.in-Some.ensures.within) (rw back at c.index_mut.ensures.value) c.hear.ensures.heard
    ∙ ap (λ o. heard_in o c.args.account.now left) (sym place))
