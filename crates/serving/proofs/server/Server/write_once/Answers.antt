use Rattle.std.proofs.Common.{rules, ◌≡◌, ◌∷◌, [], true, false, take, length, refl, sym, subst, arith}
use Rattle.office.specs.Events.{Tagged}
use Rattle.office.specs.Events as event
use Rattle.office.specs.Seen.{outcome_seen}
use Rattle.office.specs.Outcomes.{event_tag_of}
use Rattle.office.specs.Stands.{lent_by}
use Rattle.office.specs.Taken.{trace_of}
use Rattle.serving.specs.declared.wire.Io.TheVariants.{Count, Later}
use Rattle.serving.specs.Wires.{is_fault, has_written, counted}
use Rattle.serving.specs.Served.{AreServed, AreSeated}
use Rattle.serving.proofs.EventTags.{took_mark, gone_mark, lent_rest, lent_open, lent_some}
use Rattle.serving.proofs.Staying.{fewer_framed, frame_took, frame_gone}
use Rattle.serving.proofs.Seating.{seat_owns, seated_one}
use Rattle.serving.proofs.Keeping.{served_written, served_written_none, served_written_fault, fault_none, adds_one}
use Rattle.office.specs.Trace.{rest, is_open}
use Rattle.serving.specs.declared.wire.Port.TheVariants.{Pop}
use Rattle.serving.specs.Calls.{Wrote}
use Rattle.serving.proofs.Staying.{gone_so}
use Rattle.serving.proofs.Composing.{does_none, does_call, does_event}
use Rattle.serving.proofs.Working.{nothing_left}
use Rattle.serving.proofs.Turns.{wrote_some, wrote_later, wrote_cut, wrote_none, shut_rest}
use Rattle.serving.proofs.server.Server.write_once.Goals as goal

pub returns-in-Count-clause-serves : goal.returns-in-Count-clause-serves
returns-in-Count-clause-serves g c = λ seats these has before T elsewhere s clean.
    (let n = c.in-Count.count in
    let lent = c.owed-lent.result.now in
    let number = c.args.seat.link.number in
    let connection = c.args.seat.connection in
    let now = trace_of T.base s.log in
    let o = outcome_seen c.step_with_account-report.result.outcome in
    let within = c.in-Count.ensures.within in
    let is = c.owed-lent.ensures.lent now s.stands in
    let here = lent_open now connection n lent is within.0 within.1 in
    let at_k = seat_owns s.owner seats c.args.seat has s.seated.own in
    let k = took_mark now (lent_by c.args.self.now.office) connection n lent o is c.owed-lent.ensures.count within.0 within.1 (c.step_with_account-report.ensures.outcome now s.stands clean) in
    record {
      log = (event.Took connection n, event_tag_of o) ∷ s.log;
      told = has_written s.told number (Count n) (take n lent);
      owner = s.owner;
      stands = c.step_with_account-report.ensures.stands now s.stands clean;
      admitted = (c.step_with_account-report.ensures.admitted now s.stands clean, s.admitted);
      tells = c.in-Count.ensures.told (record { pop = s.told; admin = elsewhere.admin }) s.tells;
      served = subst (λ m. AreServed (has_written s.told number (Count n) (take n lent)) s.owner T.base ((event.Took connection n, m) ∷ s.log)) (sym k.1)
          (served_written s.told s.owner T.base s.log number connection n (take n lent) k.0 (lent_rest now connection n lent is within.1) s.served at_k here);
      seated = subst (λ m. AreSeated s.owner (trace_of T.base ((event.Took connection n, m) ∷ s.log)) seats these) (sym k.1)
          (seated_one s.owner T.base s.log seats these ((event.Took connection n, Tagged k.0) ∷ s.log) c.args.seat before
          (fewer_framed T.base s.log connection ((event.Took connection n, Tagged k.0) ∷ s.log) here (frame_took T.base s.log connection n k.0)) (frame_took T.base s.log connection n k.0) s.seated);
      adds = adds_one s.owner T.base T.log s.log elsewhere s.told.accepted (event.Took connection n) (event_tag_of o) (number, at_k) (λ l Before h. h) (λ l. refl) s.adds;
    })

pub returns-in-Later-clause-serves : goal.returns-in-Later-clause-serves
returns-in-Later-clause-serves g c = λ seats these has before T elsewhere s clean.
    (let lent = c.owed-lent.result.now in
    let no : c.is_empty.result ≡ false = search rules in
    let some = lent_some c.is_empty.result (length lent) c.is_empty.ensures no in
    let here = lent_open (trace_of T.base s.log) c.args.seat.connection (length lent) lent (c.owed-lent.ensures.lent (trace_of T.base s.log) s.stands) some (omega arith) in
    let at_k = seat_owns s.owner seats c.args.seat has s.seated.own in
    record {
      log = s.log;
      told = has_written s.told c.args.seat.link.number Later [];
      owner = s.owner;
      stands = s.stands;
      admitted = s.admitted;
      tells = c.in-Later.ensures.told (record { pop = s.told; admin = elsewhere.admin }) s.tells;
      served = served_written_none s.told s.owner T.base s.log c.args.seat.link.number c.args.seat.connection s.served at_k here;
      seated = s.seated;
      adds = s.adds;
    })

pub returns-in-End-clause-serves : goal.returns-in-End-clause-serves
returns-in-End-clause-serves g c = λ seats these has before T elsewhere s clean.
    (let lent = c.owed-lent.result.now in
    let number = c.args.seat.link.number in
    let connection = c.args.seat.connection in
    let now = trace_of T.base s.log in
    let o = outcome_seen c.step_with_account-report-in-End.result.outcome in
    let io = c.write.result in
    let fault : is_fault io ≡ true = search rules in
    let no : c.is_empty.result ≡ false = search rules in
    let some = lent_some c.is_empty.result (length lent) c.is_empty.ensures no in
    let here = lent_open now connection (length lent) lent (c.owed-lent.ensures.lent now s.stands) some (omega arith) in
    let at_k = seat_owns s.owner seats c.args.seat has s.seated.own in
    let k = gone_mark now (lent_by c.args.self.now.office) connection o here (c.step_with_account-report-in-End.ensures.outcome now s.stands clean) in
    record {
      log = (event.Gone connection, event_tag_of o) ∷ s.log;
      told = has_written s.told number io [];
      owner = s.owner;
      stands = c.step_with_account-report-in-End.ensures.stands now s.stands clean;
      admitted = (c.step_with_account-report-in-End.ensures.admitted now s.stands clean, s.admitted);
      tells = subst (λ xs. g.W.Wire.tells c.write.new.self (record { pop = has_written s.told number io xs; admin = elsewhere.admin }))
          (fault_none io lent fault) (c.write.ensures.told (record { pop = s.told; admin = elsewhere.admin }) s.tells);
      served = subst (λ m. AreServed (has_written s.told number io []) s.owner T.base ((event.Gone connection, m) ∷ s.log)) (sym k.1)
          (served_written_fault s.told s.owner T.base s.log number connection io k.0 fault s.served at_k here);
      seated = subst (λ m. AreSeated s.owner (trace_of T.base ((event.Gone connection, m) ∷ s.log)) seats these) (sym k.1)
          (seated_one s.owner T.base s.log seats these ((event.Gone connection, Tagged k.0) ∷ s.log) c.args.seat before
          (fewer_framed T.base s.log connection ((event.Gone connection, Tagged k.0) ∷ s.log) here (frame_gone T.base s.log connection k.0)) (frame_gone T.base s.log connection k.0) s.seated);
      adds = adds_one s.owner T.base T.log s.log elsewhere s.told.accepted (event.Gone connection) (event_tag_of o) (number, at_k) (λ l Before h. h) (λ l. refl) s.adds;
    })

pub returns-then-is_empty-clause-works : goal.returns-then-is_empty-clause-works
returns-then-is_empty-clause-works g c =
    let e : c.is_empty.result ≡ true = search rules in
    does_none g.V.Vault g.W.Wire g.L.Listener c.args.self.now _
    (wrote_none g.V.Vault c.args.self.now.office c.args.seat
    (λ B L s k. nothing_left (rest (trace_of B L) c.args.seat.connection) (length c.owed-lent.result.now) c.is_empty.result (c.owed-lent.ensures.exact (trace_of B L) s) c.is_empty.ensures e))

pub returns-in-Count-clause-works : goal.returns-in-Count-clause-works
returns-in-Count-clause-works g c =
    let seat = c.args.seat in
    let n = c.in-Count.count in
    let lent = c.owed-lent.result.now in
    let x = c.step_with_account-report in
    does_event g.V.Vault g.W.Wire g.L.Listener c.args.self.now.office x.new.self c.args.self.now.listener c.on_account.new.self c.args.self.now.wire c.write.new.self
    (Wrote Pop seat.link (length lent) (Count n) (take n lent)) (event.Took seat.connection n) (outcome_seen x.result.outcome) seat.connection x.result.account _ (λ T. refl)
    x.ensures.clean x.ensures.stands x.ensures.admitted x.ensures.counted x.ensures.cause x.ensures.up x.ensures.stop x.ensures.account c.in-Count.ensures.called c.on_account.ensures.heard
    (wrote_some g.V.Vault c.args.self.now.office x.new.self seat (length lent) n
    (take n lent) (event_tag_of (outcome_seen x.result.outcome)) c.in-Count.ensures.within.0 (λ B L s. c.owed-lent.ensures.exact (trace_of B L) s))

pub returns-in-Later-clause-works : goal.returns-in-Later-clause-works
returns-in-Later-clause-works g c =
    let o = c.args.self.now.office in
    let lent = c.owed-lent.result.now in
    does_call g.V.Vault g.W.Wire g.L.Listener o c.args.self.now.listener c.args.self.now.wire c.write.new.self (Wrote Pop c.args.seat.link (length lent) Later []) _ c.in-Later.ensures.called
    (wrote_later g.V.Vault o c.args.seat (length lent) [] (λ B L s. c.owed-lent.ensures.exact (trace_of B L) s))

pub returns-in-End-clause-works : goal.returns-in-End-clause-works
returns-in-End-clause-works g c =
    let office = c.args.self.now.office in
    let connection = c.args.seat.connection in
    let x = c.step_with_account-report-in-End in
    let o = outcome_seen x.result.outcome in
    let io = c.write.result in
    let lent = c.owed-lent.result.now in
    let fault : is_fault io ≡ true = search rules in
    let no : c.is_empty.result ≡ false = search rules in
    let some = lent_some c.is_empty.result (length lent) c.is_empty.ensures no in
    let octets = counted io lent in
    does_event g.V.Vault g.W.Wire g.L.Listener office x.new.self c.args.self.now.listener c.on_account-in-End.new.self c.args.self.now.wire c.write.new.self
    (Wrote Pop c.args.seat.link (length lent) io octets) (event.Gone connection) o connection x.result.account _ (λ T. refl)
    x.ensures.clean x.ensures.stands x.ensures.admitted x.ensures.counted x.ensures.cause x.ensures.up x.ensures.stop x.ensures.account c.write.ensures.called c.on_account-in-End.ensures.heard
    (wrote_cut g.V.Vault office x.new.self c.args.seat (length lent) io octets
    (event_tag_of o) fault (λ B L s. c.owed-lent.ensures.exact (trace_of B L) s)
    (λ B L s k.
    (let now = trace_of B L in
    let here = lent_open now connection (length lent) lent (c.owed-lent.ensures.lent now s) some (omega arith) in
    let t = gone_mark now (lent_by office) connection o here (x.ensures.outcome now s k) in
    shut_rest (trace_of B ((event.Gone connection, event_tag_of o) ∷ L)) connection
    (subst (λ m. is_open (trace_of B ((event.Gone connection, m) ∷ L)) connection ≡ false) (sym t.1) (gone_so B L connection t.0)))))
