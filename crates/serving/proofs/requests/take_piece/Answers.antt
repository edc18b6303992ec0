use Rattle.std.proofs.Common.{rules, ◌≡◌, ℕ, List, ◌++◌, Some, option_map, sym, subst}
use Rattle.serving.specs.Requests.{octets_of, HasAsked, IsResponse, ForMemory, NoCommand}
use Rattle.serving.proofs.Requesting.{asked_none}
use Rattle.serving.proofs.Quieting.{gives_none}
use Rattle.serving.specs.Parts.{Giving}
use Rattle.serving.specs.HttpParts.{ComeTo, DidApart}
use Rattle.serving.specs.Hearing.{HeardApart}
use Rattle.serving.proofs.Hearing.{hears_same}
use Rattle.std.proofs.Common.{None, []}
use Rattle.serving.proofs.requests.take_piece.Goals as goal

pub returns-then-is_err-clause-asked : goal.returns-then-is_err-clause-asked
returns-then-is_err-clause-asked g c = λ B L stands clean.
    (let response = octets_of c.refuse-response.result in
    let read = c.args.exchange.now.read.items ++ c.args.piece.now in
    asked_none g.V.Vault.holds c.args.site.now B L read c.args.office.now (Some response) stands
    (NoCommand response (subst (λ (r : List ℕ). IsResponse c.args.site.now B L read None r) (sym c.refuse-response.ensures.response) ForMemory)))

pub returns-clause-asked : goal.returns-clause-asked
returns-clause-asked g c = λ B L stands clean.
    (let same : c.as_slice.result.now ≡ c.args.exchange.now.read.items ++ c.args.piece.now = search rules in
    subst (λ read. HasAsked g.V.Vault.holds c.args.site.now B L read c.respond_to.new.office (option_map octets_of c.respond_to.result)) same (c.respond_to.ensures.asked B L stands clean))

pub returns-then-is_err-clause-works : goal.returns-then-is_err-clause-works
returns-then-is_err-clause-works g c =
    let response = octets_of c.refuse-response.result in
    let read = c.args.exchange.now.read.items ++ c.args.piece.now in
    gives_none g.V.Vault c.args.office.now
    (HeardApart g.L.Listener.heard c.args.listener.now c.refuse-response.new.listener (ComeTo c.args.site.now read (Some response)))
    (λ B L. (
      hears_same g.L.Listener.heard c.args.listener.now c.refuse-response.new.listener c.refuse-response.ensures.heard,
      record { place = None; is = NoCommand response (subst (λ (r : List ℕ). IsResponse c.args.site.now B L read None r) (sym c.refuse-response.ensures.response) ForMemory) },
    ))

pub returns-clause-works : goal.returns-clause-works
returns-clause-works g c =
    let o = c.args.office.now in
    let o1 = c.respond_to.new.office in
    let same : c.as_slice.result.now ≡ c.args.exchange.now.read.items ++ c.args.piece.now = search rules in
    subst (λ read. Giving g.V.Vault o o1
    (λ given. DidApart g.V.Vault.holds g.V.Vault.is_clean o o1
    (HeardApart g.L.Listener.heard c.args.listener.now c.respond_to.new.listener (ComeTo c.args.site.now read (option_map octets_of c.respond_to.result))) given [])) same c.respond_to.ensures.works
