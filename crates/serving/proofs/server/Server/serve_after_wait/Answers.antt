use Rattle.std.proofs.Common.{arith, refl, sym, subst}
use Rattle.serving.specs.Calls.{Waited}
use Rattle.serving.specs.Turns.{millis_of}
use Rattle.serving.proofs.Depositing.{so_far_first, so_far_served, so_far_came, so_far_asked, so_far_tried}
use Rattle.std.proofs.Common.{◌≡◌, ◌||◌, [], ap, ◌∙◌}
use Rattle.std.specs.List.{filter_map}
use Rattle.serving.specs.Settings.{Settings, settings_of}
use Rattle.serving.specs.Parts.{Part, Asking, Also, PollsBy, PollsAfterClosing}
use Rattle.serving.specs.ClientParts.{IsPassed, AreAccepted, AreClosed, WereServed}
use Rattle.serving.specs.SpoolTurns.{SpoolPart, IsSpoolTurn, has_dealt}
use Rattle.std.proofs.Common.{ℕ, Some, true}
use Rattle.office.specs.Events.{Trace}
use Rattle.office.specs.Trace.{is_open}
use Rattle.office.specs.Stands.{StandsFor}
use Rattle.serving.specs.declared.newcomers.Newcomer.{Newcomer}
use Rattle.serving.specs.Newcomers.{newcomer, HaveSeats, IsNewlyNoted, AllHaveSeats, IsSettled, IsComer}
use Rattle.std.proofs.lemmas.List.Elements.{All-weaker}
use Rattle.serving.proofs.Late.{late_then, late_comers}
use Rattle.serving.proofs.Settling.{late_settled, settled_seats, comer_so, waited_same}
use Rattle.std.specs.List.{All}
use Rattle.serving.proofs.Newly.{more_is}
use Rattle.serving.specs.Works.{seat_of}
use Rattle.serving.specs.Guesses.{ArePacing}
use Rattle.serving.specs.Parts.{Giving}
use Rattle.serving.specs.Late.{HasEndedLate}
use Rattle.serving.proofs.Timely.{late_both}
use Rattle.serving.specs.Hearing.{HasHeard, WithHeard, heard_of_all, idle_ends, ends_by}
use Rattle.office.specs.declared.account.End.TheVariants.{FullHouse, TooLate}
use Rattle.serving.proofs.Hearing.{hears_on, hears_then}
use Rattle.serving.proofs.Composing.{clean_same}
use Rattle.serving.proofs.Working.{part_so}
use Rattle.serving.proofs.Going.{passed_by}
use Rattle.serving.proofs.Finishing.{turn_done}
use Rattle.serving.proofs.server.Server.serve_after_wait.Goals as goal

pub returns-clause-serves : goal.returns-clause-serves
returns-clause-serves g c = λ T s clean.
    (let Holds = g.V.Vault.holds in
    let IsClean = g.V.Vault.is_clean in
    let Tells = g.W.Wire.tells in
    let Files = g.S.Spool.tells in
    let site = c.args.links.now.site in
    let spool = c.args.spool.now in
    let shut_clean = c.serve_spool.ensures.works.part.was_given.clean clean in
    let late_clean = clean_same IsClean c.end_late_ones.new.self.office c.close_links.new.self.office c.close_links.ensures.works.office shut_clean in
    let asked_clean = c.end_late_ones.ensures.works.part.was_given.clean late_clean in
    let links_clean = c.serve_requests.ensures.works.was_given.clean asked_clean in
    let same = c.accept_admin_links.ensures.works.1.office in
    let accepted_clean = clean_same IsClean c.accept_links.new.self.office c.accept_admin_links.new.self.office same (c.serve_links.ensures.works.was_given.clean links_clean) in
    let passed_clean = c.accept_links.ensures.works.1.was_given.clean accepted_clean in
    let seats0 = c.args.links.now.clients.seats.items in
    let seats1 = c.accept_links.new.clients.seats.items in
    let seats2 = c.serve_links.new.clients.seats.items in
    let seats3 = c.end_late_ones.new.clients.seats.items in
    let seats4 = c.close_links.new.clients.seats.items in
    let held0 = c.args.links.now.requests.exchanges.items in
    let held1 = c.accept_admin_links.new.requests.exchanges.items in
    let held2 = c.serve_requests.new.requests.exchanges.items in
    so_far_tried Holds IsClean Tells Files T site spool c.close_links.new.self.office c.serve_spool.new.self.office c.close_links.new.self.wire c.serve_spool.new.self.wire
    c.serve_spool.new.spool seats4 c.serve_spool.new.clients.seats.items held2 c.taken_is_sent.ensures c.serve_spool.ensures.works.wire
    (ap (λ v. v.items) c.serve_spool.ensures.keeps.seats) c.serve_spool.ensures.tried clean
    (so_far_served Holds IsClean Tells Files T site spool c.end_late_ones.new.self.office c.close_links.new.self.office c.end_late_ones.new.self.wire c.close_links.new.self.wire
    seats3 [] seats4 seats4 held2 c.close_links.ensures.serves shut_clean
    (so_far_served Holds IsClean Tells Files T site spool c.serve_requests.new.self.office c.end_late_ones.new.self.office c.serve_requests.new.self.wire c.end_late_ones.new.self.wire
    seats2 [] seats3 [] held2 c.end_late_ones.ensures.serves late_clean
    (so_far_asked Holds IsClean Tells Files T site spool c.serve_links.new.self.office c.serve_requests.new.self.office c.serve_links.new.self.wire c.serve_requests.new.self.wire
    seats2 held1 held2 c.serve_requests.ensures.asked asked_clean
    (so_far_served Holds IsClean Tells Files T site spool c.accept_admin_links.new.self.office c.serve_links.new.self.office c.accept_admin_links.new.self.wire c.serve_links.new.self.wire
    seats1 [] seats2 [] held1 c.serve_links.ensures.serves links_clean
    (so_far_came Holds IsClean Tells Files T site spool c.accept_links.new.self.office c.accept_admin_links.new.self.office c.accept_links.new.self.wire c.accept_admin_links.new.self.wire
    seats1 held0 held1 same c.accept_admin_links.ensures.answers
    (so_far_served Holds IsClean Tells Files T site spool c.tick.new.self.office c.accept_links.new.self.office c.tick.new.self.wire c.accept_links.new.self.wire
    seats0 [] seats1 [] held0 c.accept_links.ensures.serves accepted_clean
    (so_far_served Holds IsClean Tells Files T site spool c.args.self.now.office c.tick.new.self.office c.args.self.now.wire c.tick.new.self.wire
    seats0 seats0 seats0 [] held0 (c.tick.ensures.serves seats0 seats0) passed_clean
    (so_far_first Holds IsClean Tells Files T site spool c.args.self.now.office c.args.self.now.wire seats0 held0 s)))))))))

pub returns-clause-clean : goal.returns-clause-clean
returns-clause-clean g c = λ clean.
    (let IsClean = g.V.Vault.is_clean in
    let late_clean = clean_same IsClean _ _ c.close_links.ensures.works.office (c.serve_spool.ensures.works.part.was_given.clean clean) in
    let links_clean = c.serve_requests.ensures.works.was_given.clean (c.end_late_ones.ensures.works.part.was_given.clean late_clean) in
    let accepted_clean = clean_same IsClean _ _ c.accept_admin_links.ensures.works.1.office (c.serve_links.ensures.works.was_given.clean links_clean) in
    c.tick.ensures.works.was_given.clean (c.accept_links.ensures.works.1.was_given.clean accepted_clean))

pub returns-clause-works : goal.returns-clause-works
returns-clause-works g c = λ wire asked T s clean.
    (let Holds = g.V.Vault.holds in
    let IsClean = g.V.Vault.is_clean in
    let Asked = g.W.Wire.asked in
    let late_clean = clean_same IsClean _ _ c.close_links.ensures.works.office (c.serve_spool.ensures.works.part.was_given.clean clean) in
    let links_clean = c.serve_requests.ensures.works.was_given.clean (c.end_late_ones.ensures.works.part.was_given.clean late_clean) in
    let passed_clean = c.accept_links.ensures.works.1.was_given.clean (clean_same IsClean _ _ c.accept_admin_links.ensures.works.1.office (c.serve_links.ensures.works.was_given.clean links_clean)) in
    let links = c.args.links.now in
    let old = links.clients in
    let now = c.args.now in
    let came = c.accept_links.new.clients in
    let served = c.serve_links.new.clients in
    let preparing = c.serve_links.new.quits.is_preparing in
    let ended = c.end_late_ones.new.clients in
    let seats2 = came.seats.items in
    let o1 = c.tick.new.self.office in
    let o2 = c.accept_links.new.self.office in
    let o3 = c.serve_links.new.self.office in
    let o4 = c.serve_requests.new.self.office in
    let o5 = c.end_late_ones.new.self.office in
    let w1 = c.tick.new.self.wire in
    let w3 = c.accept_admin_links.new.self.wire in
    let w4 = c.serve_links.new.self.wire in
    let w5 = c.serve_requests.new.self.wire in
    let w6 = c.serve_spool.new.self.wire in
    let closed = c.close_links.ensures.works.part in
    let same_wire : c.end_late_ones.new.self.wire ≡ w5 = c.end_late_ones.ensures.works.wire in
    let Heard = g.L.Listener.heard in
    let l = c.args.self.now.listener in
    let l0 = c.tick.new.self.listener in
    let l1 = c.report_idle_ones.new.listener in
    let l2 = c.accept_admin_links.new.self.listener in
    let l3 = c.serve_links.new.self.listener in
    let l4 = c.serve_requests.new.self.listener in
    let l5 = c.end_late_ones.new.self.listener in
    let l6 = c.serve_spool.new.self.listener in
    let a = c.accept_links.ensures.works in
    let accepted : Part g.V.Vault Asked o1 w1 o2 c.accept_links.new.self.wire
    (λ given calls. HasHeard Heard l1 l2 (ends_by FullHouse given) × AreAccepted Holds IsClean o1 o2 old.make_room old.seats.items seats2 64 a.0 given calls) =
    part_so g.V.Vault Asked o1 o2 w1 c.accept_links.new.self.wire _ _
    (λ gv cl wa x. (hears_on Heard l1 c.accept_links.new.self.listener l2 _ c.accept_admin_links.ensures.works.1.unheard x.0, x.1)) a.1 in
    let ticked : Part g.V.Vault Asked c.args.self.now.office c.args.self.now.wire o1 w1 (IsPassed [] now) =
    part_so g.V.Vault Asked c.args.self.now.office o1 c.args.self.now.wire w1 _ _ (λ gv cl wa x. x.1) c.tick.ensures.works in
    let passed = passed_by g.V.Vault Asked c.args.self.now.office o1 wire c.args.self.now.wire w1
    (Waited (millis_of links)) now asked ticked in
    let untold = subst (λ gv. HasHeard Heard l l0 (heard_of_all T.base T.log gv)) c.tick.ensures.works.facts.1.given_is (c.tick.ensures.works.facts.0.is T.base T.log s passed_clean) in
    let turned = subst (λ set. Part g.V.Vault Asked o2 w3 o3 w4 (WithHeard Holds IsClean Heard o2 l2 o3 l3
    (Also (WereServed Holds IsClean o2 o3 set now came.newcomers.newcomers.items served.lock_released preparing served.poll_now served.newcomers.newcomers.items seats2 seats2)
    (PollsBy (preparing || served.lock_released) served.poll_now)))) c.accept_links.ensures.comers.keeps.set
    (subst (λ b. Part g.V.Vault Asked o2 w3 o3 w4
    (WithHeard Holds IsClean Heard o2 l2 o3 l3
    (Also (WereServed Holds IsClean o2 o3 (settings_of came) now came.newcomers.newcomers.items served.lock_released preparing served.poll_now served.newcomers.newcomers.items seats2 seats2)
    (PollsBy (b || (preparing || served.lock_released)) served.poll_now)))) c.accept_links.ensures.comers.poll_now
    (subst (λ o. Part g.V.Vault Asked o w3 o3 w4
    (WithHeard Holds IsClean Heard o l2 o3 l3
    (Also (WereServed Holds IsClean o o3 (settings_of came) now came.newcomers.newcomers.items served.lock_released preparing served.poll_now served.newcomers.newcomers.items seats2 seats2)
    (PollsBy (came.poll_now || (preparing || served.lock_released)) served.poll_now)))) c.accept_admin_links.ensures.works.1.office c.serve_links.ensures.works)) in
    let settled = c.serve_links.ensures.settled in
    let set = c.serve_links.ensures.keeps.keeps.set ∙ c.accept_links.ensures.comers.keeps.set in
    let most = old.newcomers.seconds in
    let seconds : served.newcomers.seconds ≡ most = ap (λ (s : Settings). s.login_seconds) set in
    let less = late_then now most old.newcomers.newcomers.items came.newcomers.newcomers.items served.newcomers.newcomers.items
    (late_comers now most old.newcomers.newcomers.items came.newcomers.newcomers.items c.accept_links.ensures.comers.each)
    (late_settled now most came.newcomers.newcomers.items served.newcomers.newcomers.items settled) in
    let late = late_both g.V.Vault now served.newcomers.seconds most
    old.newcomers.newcomers.items served.newcomers.newcomers.items ended.newcomers.newcomers.items seats2 o4 o5
    (λ given. HasHeard Heard l4 l5 (ends_by TooLate given)) (λ given. HasHeard Heard l4 l6 (ends_by TooLate given)) seconds less
    (λ given told. hears_on Heard l4 l5 l6 _ (λ h q. subst (λ x. Heard x h) (sym c.serve_spool.ensures.works.listener) (c.close_links.ensures.works.unheard h q)) told)
    (subst (λ v. Giving g.V.Vault o4 o5
    (λ given. HasEndedLate Holds IsClean o4 o5 now served.newcomers.seconds served.newcomers.newcomers.items ended.newcomers.newcomers.items v.items given
    × HasHeard Heard l4 l5 (ends_by TooLate given)))
    c.serve_links.ensures.keeps.seats c.end_late_ones.ensures.works.part) in
    let keeps : (n : ℕ) (x : Newcomer) → newcomer n old.newcomers.newcomers.items ≡ Some x → IsSettled now (Some x) (newcomer n served.newcomers.newcomers.items) =
    λ n x h. subst (λ m. IsSettled now m (newcomer n served.newcomers.newcomers.items)) (c.accept_links.ensures.comers.noted n x h) (settled.each n) in
    let comers = c.accept_links.ensures.comers in
    let waited = waited_same now old.newcomers.newcomers.items came.newcomers.newcomers.items comers.each c.accept_links.ensures.comers.noted in
    let newly : AllHaveSeats links → All (IsComer now old.newcomers.newcomers.items served.newcomers.newcomers.items) (filter_map seat_of accepted.facts.1.came) =
    λ h. All-weaker (IsNewlyNoted now old.newcomers.newcomers.items came.newcomers.newcomers.items) (IsComer now old.newcomers.newcomers.items served.newcomers.newcomers.items)
    (λ q k. comer_so now old.newcomers.newcomers.items came.newcomers.newcomers.items served.newcomers.newcomers.items q settled k) (filter_map seat_of accepted.facts.1.came)
    (subst (All (IsNewlyNoted now old.newcomers.newcomers.items came.newcomers.newcomers.items))
    (more_is old.seats.items comers.more (filter_map seat_of accepted.facts.1.came) seats2 comers.is accepted.facts.1.come.seated) (comers.newly h)) in
    let forgets : (U : Trace) → StandsFor Holds o5 U → (n : ℕ) → is_open U n ≡ true → newcomer n c.serve_spool.new.clients.newcomers.newcomers.items ≡ newcomer n ended.newcomers.newcomers.items =
    λ U su n here. ap (λ v. newcomer n v.newcomers.items) c.serve_spool.ensures.keeps.newcomers ∙ c.close_links.ensures.newcomers U su n here in
    let last = c.close_links.ensures.closes.keeps.last ∙ (c.end_late_ones.ensures.keeps.keeps.last ∙ (c.serve_links.ensures.keeps.keeps.last ∙ c.accept_links.ensures.comers.keeps.last)) in
    let tried = subst (λ l. SpoolPart g.V.Vault g.S.Spool.asked o5 c.args.spool.now c.serve_spool.new.self.office c.serve_spool.new.spool
    (λ U given calls. IsSpoolTurn l c.serve_spool.new.clients.last U given calls
    × (c.serve_spool.new.clients.poll_now ≡ (c.close_links.new.clients.poll_now || has_dealt calls)))) last
    (subst (λ o. SpoolPart g.V.Vault g.S.Spool.asked o c.args.spool.now c.serve_spool.new.self.office c.serve_spool.new.spool
    (λ U given calls. IsSpoolTurn c.close_links.new.clients.last c.serve_spool.new.clients.last U given calls
    × (c.serve_spool.new.clients.poll_now ≡ (c.close_links.new.clients.poll_now || has_dealt calls)))) c.close_links.ensures.works.office c.serve_spool.ensures.works.part) in
    let waits : ended.wait ≡ old.wait = ap (λ (s : Settings). s.wait) (c.end_late_ones.ensures.keeps.keeps.set ∙ (c.serve_links.ensures.keeps.keeps.set ∙ c.accept_links.ensures.comers.keeps.set)) in
    let seats_same = c.end_late_ones.ensures.keeps.seats ∙ c.serve_links.ensures.keeps.seats in
    turn_done g.V.Vault Asked g.S.Spool.asked Heard T now links
    (record { clients = c.serve_spool.new.clients; requests = c.serve_requests.new.requests; site = c.args.links.now.site })
    c.args.self.now.office o1 o2 o3 o4 o5 c.serve_spool.new.self.office
    wire w1 c.accept_links.new.self.wire w3 w4 w5 w6 c.args.spool.now c.serve_spool.new.spool c.args.self.now.listener l1 l2 l3 l4 l6
    seats2 a.0 c.accept_admin_links.new.requests.exchanges.items c.accept_admin_links.ensures.works.0 served.lock_released preparing served.poll_now
    c.close_links.new.clients.poll_now came.newcomers.newcomers.items served.newcomers.newcomers.items ended.newcomers.newcomers.items passed
    (λ U su. hears_then Heard l l0 l1 [] (idle_ends U old.seats.items) untold (c.report_idle_ones.ensures U su)) accepted c.accept_admin_links.ensures.works.1.part
    turned c.serve_links.ensures.releases c.serve_links.ensures.prepares
    (λ e. c.close_links.ensures.closes.keeps.polled (c.end_late_ones.ensures.ends.poll_now ∙ e)) c.serve_requests.ensures.works waited keeps newly late forgets
    (λ U su.
    subst (λ w. Asking Asked w w6 (λ calls. AreClosed U seats2 c.serve_spool.new.clients.seats.items calls
    × PollsBy served.poll_now c.close_links.new.clients.poll_now calls × PollsAfterClosing old.wait c.close_links.new.clients.poll_now calls)) same_wire
    (subst (λ v. Asking Asked c.end_late_ones.new.self.wire w6
    (λ calls. AreClosed U v.items c.serve_spool.new.clients.seats.items calls × PollsBy served.poll_now c.close_links.new.clients.poll_now calls
    × PollsAfterClosing old.wait c.close_links.new.clients.poll_now calls)) seats_same (subst (λ v. Asking Asked c.end_late_ones.new.self.wire w6
    (λ calls. AreClosed U ended.seats.items v.items calls × PollsBy served.poll_now c.close_links.new.clients.poll_now calls × PollsAfterClosing old.wait c.close_links.new.clients.poll_now calls))
    (sym c.serve_spool.ensures.keeps.seats)
    (subst (λ n. Asking Asked c.end_late_ones.new.self.wire w6
    (λ calls. AreClosed U ended.seats.items c.close_links.new.clients.seats.items calls × PollsBy served.poll_now c.close_links.new.clients.poll_now calls
    × PollsAfterClosing n c.close_links.new.clients.poll_now calls)) waits
    (subst (λ b. Asking Asked c.end_late_ones.new.self.wire w6
    (λ calls. AreClosed U ended.seats.items c.close_links.new.clients.seats.items calls × PollsBy b c.close_links.new.clients.poll_now calls
    × PollsAfterClosing ended.wait c.close_links.new.clients.poll_now calls)) c.end_late_ones.ensures.ends.poll_now
    (subst (λ w. Asking Asked c.end_late_ones.new.self.wire w
    (λ calls. AreClosed U ended.seats.items c.close_links.new.clients.seats.items calls × PollsBy ended.poll_now c.close_links.new.clients.poll_now calls
    × PollsAfterClosing ended.wait c.close_links.new.clients.poll_now calls)) (sym c.serve_spool.ensures.works.wire)
    (record { calls = closed.calls; was_asked = closed.was_asked; facts = closed.facts U su })))))))
    tried s clean)

pub returns-clause-left : goal.returns-clause-left
returns-clause-left g c = record {
  set = c.serve_spool.ensures.keeps.set
      ∙ (c.close_links.ensures.closes.keeps.set ∙ (c.end_late_ones.ensures.keeps.keeps.set ∙ (c.serve_links.ensures.keeps.keeps.set ∙ c.accept_links.ensures.comers.keeps.set)));
  site = refl;
  seated = λ h.
      (let came = c.accept_links.ensures.comers.seated h in
      let served = settled_seats c.accept_links.new.clients.newcomers.newcomers.items c.serve_links.new.clients.newcomers.newcomers.items
      c.serve_links.new.clients.seats.items c.serve_links.ensures.settled.same
      (subst (λ v. HaveSeats c.accept_links.new.clients.newcomers.newcomers.items v.items) (sym c.serve_links.ensures.keeps.seats) came) in
      let closed = c.close_links.ensures.closes.seated (c.end_late_ones.ensures.ends.seated served) in
      subst (λ n. HaveSeats n.newcomers.items c.serve_spool.new.clients.seats.items) (sym c.serve_spool.ensures.keeps.newcomers)
      (subst (λ v. HaveSeats c.close_links.new.clients.newcomers.newcomers.items v.items) (sym c.serve_spool.ensures.keeps.seats) closed));
  pacing = λ h.
      subst (λ gs. ArePacing gs.refusals.items) (sym c.serve_spool.ensures.keeps.guesses)
      (c.close_links.ensures.closes.keeps.pacing (c.end_late_ones.ensures.keeps.keeps.pacing (c.serve_links.ensures.keeps.keeps.pacing (c.accept_links.ensures.comers.keeps.pacing h))));
  few = λ h. (let a = c.accept_admin_links.ensures.few h in let b = c.serve_requests.ensures.no_more in omega (arith, a, b));
  ongoing = c.serve_requests.ensures.stay;
}
