use Rattle.std.proofs.Common.{ℕ, List, [], None, Some, refl, sym, subst}
use Rattle.office.specs.Taken.{trace_of}
use Rattle.serving.specs.Requests.{octets_of, IsResponse, ToRefusal, ForMemory, NotYet, NoCommand}
use Rattle.serving.proofs.Requesting.{as_opened, asked_none, to_fault}
use Rattle.serving.proofs.Quieting.{gives_none, gives_none_standing}
use Rattle.serving.specs.HttpParts.{ComeTo}
use Rattle.serving.specs.Hearing.{HeardApart}
use Rattle.serving.proofs.Hearing.{hears_none, hears_same}
use Rattle.serving.proofs.requests.respond_to.Goals as goal

pub returns-in-More-clause-asked : goal.returns-in-More-clause-asked
returns-in-More-clause-asked g c = λ B L stands clean.
    asked_none g.V.Vault.holds c.args.site.now B L c.args.read.now c.args.office.now None stands
    (NotYet (as_opened c.args.site.now L c.args.read.now _ _ (c.admin_access.ensures (trace_of B L) stands) c.in-More.ensures))

pub returns-in-Bad-clause-asked : goal.returns-in-Bad-clause-asked
returns-in-Bad-clause-asked g c = λ B L stands clean.
    (let response = octets_of c.refuse.result in
    let read = as_opened c.args.site.now L c.args.read.now _ _ (c.admin_access.ensures (trace_of B L) stands) c.in-Bad.ensures in
    asked_none g.V.Vault.holds c.args.site.now B L c.args.read.now c.args.office.now (Some response) stands
    (NoCommand response (subst (λ (r : List ℕ). IsResponse c.args.site.now B L c.args.read.now None r) (sym c.refuse.ensures.response)
    (ToRefusal c.in-Bad.refusal [] L read refl))))

pub returns-in-BadPolicy-clause-asked : goal.returns-in-BadPolicy-clause-asked
returns-in-BadPolicy-clause-asked g c = λ B L stands clean.
    (let response = octets_of c.refuse_policy.result in
    let read = as_opened c.args.site.now L c.args.read.now _ _ (c.admin_access.ensures (trace_of B L) stands) c.in-BadPolicy.ensures in
    asked_none g.V.Vault.holds c.args.site.now B L c.args.read.now c.args.office.now (Some response) stands
    (NoCommand response (to_fault c.args.site.now B L c.args.read.now response c.in-BadPolicy.fault read c.refuse_policy.ensures.response)))

pub returns-in-NoMemory-clause-asked : goal.returns-in-NoMemory-clause-asked
returns-in-NoMemory-clause-asked g c = λ B L stands clean.
    (let response = octets_of c.refuse-in-NoMemory.result in
    asked_none g.V.Vault.holds c.args.site.now B L c.args.read.now c.args.office.now (Some response) stands
    (NoCommand response (subst (λ (r : List ℕ). IsResponse c.args.site.now B L c.args.read.now None r) (sym c.refuse-in-NoMemory.ensures.response) ForMemory)))

pub returns-in-More-clause-works : goal.returns-in-More-clause-works
returns-in-More-clause-works g c =
    let l = c.args.listener.now in
    gives_none_standing g.V.Vault c.args.office.now
    (HeardApart g.L.Listener.heard l l (ComeTo c.args.site.now c.args.read.now None)) (λ B L stands.
    let read = as_opened c.args.site.now L c.args.read.now _ _ (c.admin_access.ensures (trace_of B L) stands) c.in-More.ensures in
    (hears_none g.L.Listener.heard l, record { place = None; is = NotYet read }))

pub returns-in-Bad-clause-works : goal.returns-in-Bad-clause-works
returns-in-Bad-clause-works g c =
    let response = octets_of c.refuse.result in
    gives_none_standing g.V.Vault c.args.office.now
    (HeardApart g.L.Listener.heard c.args.listener.now c.refuse.new.listener (ComeTo c.args.site.now c.args.read.now (Some response))) (λ B L stands.
    let read = as_opened c.args.site.now L c.args.read.now _ _ (c.admin_access.ensures (trace_of B L) stands) c.in-Bad.ensures in
    let is = subst (λ (r : List ℕ). IsResponse c.args.site.now B L c.args.read.now None r) (sym c.refuse.ensures.response) (ToRefusal c.in-Bad.refusal [] L read refl) in
    (hears_same g.L.Listener.heard c.args.listener.now c.refuse.new.listener c.refuse.ensures.heard, record { place = None; is = NoCommand response is }))

pub returns-in-BadPolicy-clause-works : goal.returns-in-BadPolicy-clause-works
returns-in-BadPolicy-clause-works g c =
    let response = octets_of c.refuse_policy.result in
    gives_none_standing g.V.Vault c.args.office.now
    (HeardApart g.L.Listener.heard c.args.listener.now c.refuse_policy.new.listener (ComeTo c.args.site.now c.args.read.now (Some response)))
    (λ B L stands.
    let read = as_opened c.args.site.now L c.args.read.now _ _ (c.admin_access.ensures (trace_of B L) stands) c.in-BadPolicy.ensures in
    let is = to_fault c.args.site.now B L c.args.read.now response c.in-BadPolicy.fault read c.refuse_policy.ensures.response in
    (hears_same g.L.Listener.heard c.args.listener.now c.refuse_policy.new.listener c.refuse_policy.ensures.heard, record { place = None; is = NoCommand response is }))

pub returns-in-NoMemory-clause-works : goal.returns-in-NoMemory-clause-works
returns-in-NoMemory-clause-works g c =
    let response = octets_of c.refuse-in-NoMemory.result in
    gives_none g.V.Vault c.args.office.now
    (HeardApart g.L.Listener.heard c.args.listener.now c.refuse-in-NoMemory.new.listener (ComeTo c.args.site.now c.args.read.now (Some response)))
    (λ B L.
    let is = subst (λ (r : List ℕ). IsResponse c.args.site.now B L c.args.read.now None r) (sym c.refuse-in-NoMemory.ensures.response) ForMemory in
    (hears_same g.L.Listener.heard c.args.listener.now c.refuse-in-NoMemory.new.listener c.refuse-in-NoMemory.ensures.heard, record { place = None; is = NoCommand response is }))

pub returns-in-Command-clause-asked : goal.returns-in-Command-clause-asked
returns-in-Command-clause-asked g c = λ B L stands clean.
    c.run_command.ensures.asked c.args.site.now B L c.args.read.now stands
    (as_opened c.args.site.now L c.args.read.now _ _ (c.admin_access.ensures (trace_of B L) stands) c.in-Command.ensures) clean

pub returns-in-Command-clause-works : goal.returns-in-Command-clause-works
returns-in-Command-clause-works g c =
    c.run_command.ensures.works c.args.site.now c.args.read.now
    (λ B L stands. as_opened c.args.site.now L c.args.read.now _ _ (c.admin_access.ensures (trace_of B L) stands) c.in-Command.ensures)
