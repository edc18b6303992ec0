use Rattle.std.proofs.Common.{rules, arith, ◌≡◌, ◌∷◌, [], true, false, length, take, sym, ◌∙◌, refl, subst}
use Rattle.office.specs.Events.{Tagged}
use Rattle.office.specs.Events as event
use Rattle.office.specs.Seen.{outcome_seen}
use Rattle.office.specs.Outcomes.{event_tag_of}
use Rattle.office.specs.Expected.{most_in_a_piece}
use Rattle.office.specs.Stands.{lent_by}
use Rattle.office.specs.Taken.{trace_of}
use Rattle.serving.specs.declared.wire.Io.TheVariants.{Count, Later}
use Rattle.serving.specs.Wires.{ToldOfPorts, is_fault, has_read, counted}
use Rattle.serving.specs.Served.{AreServed, AreSeated}
use Rattle.serving.proofs.EventTags.{bytes_mark, gone_mark, ready_open, short_piece}
use Rattle.serving.proofs.Staying.{fewer_framed, frame_read, frame_gone}
use Rattle.serving.proofs.Seating.{seat_owns, seated_one}
use Rattle.serving.proofs.Keeping.{served_read, served_read_none, served_read_fault, fault_none, adds_one}
use Rattle.serving.specs.declared.wire.Port.TheVariants.{Pop}
use Rattle.serving.specs.Calls.{Read}
use Rattle.serving.proofs.Composing.{does_none, does_call, does_event}
use Rattle.serving.specs.ClientParts.{NotReady}
use Rattle.serving.proofs.Turns.{read_some, read_later, read_cut}
use Rattle.serving.proofs.Resting.{polled_quiet}
use Rattle.serving.proofs.server.Server.read_once.Goals as goal

pub returns-in-Count-clause-serves : goal.returns-in-Count-clause-serves
returns-in-Count-clause-serves g c = λ seats these has before T elsewhere s clean.
    (let n = c.in-Count.count in
    let piece = take n c.read.new.buffer in
    let number = c.args.seat.link.number in
    let connection = c.args.seat.connection in
    let now = trace_of T.base s.log in
    let both : ToldOfPorts = record { pop = s.told; admin = elsewhere.admin } in
    let o = outcome_seen c.step_with_account-report.result.outcome in
    let within = c.in-Count.ensures.within in
    let is_so : c.ready.result ≡ true = search rules in
    let ready = sym (c.ready.ensures now s.stands) ∙ is_so in
    let here = ready_open now connection ready in
    let at_k = seat_owns s.owner seats c.args.seat has s.seated.own in
    let k = bytes_mark now (lent_by c.args.self.now.office) connection piece o ready
    (short_piece n most_in_a_piece c.read.new.buffer (omega (arith, within.1, c.requires))) (c.step_with_account-report.ensures.outcome now s.stands clean) in
    record {
      log = (event.Bytes connection piece, event_tag_of o) ∷ s.log;
      told = has_read s.told number (Count n) piece;
      owner = s.owner;
      stands = c.step_with_account-report.ensures.stands now s.stands clean;
      admitted = (c.step_with_account-report.ensures.admitted now s.stands clean, s.admitted);
      tells = c.in-Count.ensures.told both s.tells;
      served = subst (λ m. AreServed (has_read s.told number (Count n) piece) s.owner T.base ((event.Bytes connection piece, m) ∷ s.log)) (sym k.1)
          (served_read s.told s.owner T.base s.log number connection n piece k.0 s.served at_k here);
      seated = subst (λ m. AreSeated s.owner (trace_of T.base ((event.Bytes connection piece, m) ∷ s.log)) seats these) (sym k.1)
          (seated_one s.owner T.base s.log seats these ((event.Bytes connection piece, Tagged k.0) ∷ s.log) c.args.seat before
          (fewer_framed T.base s.log connection ((event.Bytes connection piece, Tagged k.0) ∷ s.log) here (frame_read T.base s.log connection piece k.0))
          (frame_read T.base s.log connection piece k.0) s.seated);
      adds = adds_one s.owner T.base T.log s.log elsewhere s.told.accepted (event.Bytes connection piece) (event_tag_of o) (number, at_k) (λ l Before h. h) (λ l. refl) s.adds;
    })

pub returns-in-Later-clause-serves : goal.returns-in-Later-clause-serves
returns-in-Later-clause-serves g c = λ seats these has before T elsewhere s clean.
    (let number = c.args.seat.link.number in
    let both : ToldOfPorts = record { pop = s.told; admin = elsewhere.admin } in
    let is_so : c.ready.result ≡ true = search rules in
    let here = ready_open (trace_of T.base s.log) c.args.seat.connection (sym (c.ready.ensures (trace_of T.base s.log) s.stands) ∙ is_so) in
    let at_k = seat_owns s.owner seats c.args.seat has s.seated.own in
    record {
      log = s.log;
      told = has_read s.told number Later [];
      owner = s.owner;
      stands = s.stands;
      admitted = s.admitted;
      tells = c.in-Later.ensures.told both s.tells;
      served = served_read_none s.told s.owner T.base s.log number c.args.seat.connection s.served at_k here;
      seated = s.seated;
      adds = s.adds;
    })

pub returns-in-End-clause-serves : goal.returns-in-End-clause-serves
returns-in-End-clause-serves g c = λ seats these has before T elsewhere s clean.
    (let number = c.args.seat.link.number in
    let connection = c.args.seat.connection in
    let now = trace_of T.base s.log in
    let both : ToldOfPorts = record { pop = s.told; admin = elsewhere.admin } in
    let o = outcome_seen c.step_with_account-report-in-End.result.outcome in
    let io = c.read.result in
    let fault : is_fault io ≡ true = search rules in
    let is_so : c.ready.result ≡ true = search rules in
    let here = ready_open now connection (sym (c.ready.ensures now s.stands) ∙ is_so) in
    let at_k = seat_owns s.owner seats c.args.seat has s.seated.own in
    let k = gone_mark now (lent_by c.args.self.now.office) connection o here (c.step_with_account-report-in-End.ensures.outcome now s.stands clean) in
    record {
      log = (event.Gone connection, event_tag_of o) ∷ s.log;
      told = has_read s.told number io [];
      owner = s.owner;
      stands = c.step_with_account-report-in-End.ensures.stands now s.stands clean;
      admitted = (c.step_with_account-report-in-End.ensures.admitted now s.stands clean, s.admitted);
      tells = subst (λ xs. g.W.Wire.tells c.read.new.self (record { pop = has_read s.told number io xs; admin = elsewhere.admin }))
          (fault_none io c.read.new.buffer fault) (c.read.ensures.told both s.tells);
      served = subst (λ m. AreServed (has_read s.told number io []) s.owner T.base ((event.Gone connection, m) ∷ s.log)) (sym k.1)
          (served_read_fault s.told s.owner T.base s.log number connection io k.0 fault s.served at_k here);
      seated = subst (λ m. AreSeated s.owner (trace_of T.base ((event.Gone connection, m) ∷ s.log)) seats these) (sym k.1)
          (seated_one s.owner T.base s.log seats these ((event.Gone connection, Tagged k.0) ∷ s.log) c.args.seat before
          (fewer_framed T.base s.log connection ((event.Gone connection, Tagged k.0) ∷ s.log) here (frame_gone T.base s.log connection k.0)) (frame_gone T.base s.log connection k.0) s.seated);
      adds = adds_one s.owner T.base T.log s.log elsewhere s.told.accepted (event.Gone connection) (event_tag_of o) (number, at_k) (λ l Before h. h) (λ l. refl) s.adds;
    })

pub returns-then-not-ready-clause-works : goal.returns-then-not-ready-clause-works
returns-then-not-ready-clause-works g c =
    let no : c.ready.result ≡ false = search rules in
    does_none g.V.Vault g.W.Wire g.L.Listener c.args.self.now _ (NotReady (λ B L s. sym (c.ready.ensures (trace_of B L) s) ∙ no), λ e. e)

pub returns-in-Count-clause-works : goal.returns-in-Count-clause-works
returns-in-Count-clause-works g c =
    let seat = c.args.seat in
    let room = length c.args.buffer.now in
    let n = c.in-Count.count in
    let piece = take n c.read.new.buffer in
    let x = c.step_with_account-report in
    does_event g.V.Vault g.W.Wire g.L.Listener c.args.self.now.office x.new.self c.args.self.now.listener c.on_account.new.self c.args.self.now.wire c.read.new.self
    (Read Pop seat.link room (Count n) piece) (event.Bytes seat.connection piece) (outcome_seen x.result.outcome) seat.connection x.result.account _ (λ T. refl)
    x.ensures.clean x.ensures.stands x.ensures.admitted x.ensures.counted x.ensures.cause x.ensures.up x.ensures.stop x.ensures.account c.in-Count.ensures.called
    (λ h k. c.on_account.ensures.heard h (c.on_link.ensures.heard h k))
    (read_some g.V.Vault c.args.self.now.office seat room (Count n) piece piece (event_tag_of (outcome_seen x.result.outcome)), λ e. refl)

pub returns-in-Later-clause-works : goal.returns-in-Later-clause-works
returns-in-Later-clause-works g c =
    let o = c.args.self.now.office in
    let seat = c.args.seat in
    does_call g.V.Vault g.W.Wire g.L.Listener o c.args.self.now.listener c.args.self.now.wire c.read.new.self (Read Pop seat.link (length c.args.buffer.now) Later []) _ c.in-Later.ensures.called
    (read_later g.V.Vault o seat (length c.args.buffer.now) Later [], λ e. e)

pub returns-in-End-clause-works : goal.returns-in-End-clause-works
returns-in-End-clause-works g c =
    let seat = c.args.seat in
    let x = c.step_with_account-report-in-End in
    let io = c.read.result in
    let octets = counted io c.read.new.buffer in
    let fault : is_fault io ≡ true = search rules in
    does_event g.V.Vault g.W.Wire g.L.Listener c.args.self.now.office x.new.self c.args.self.now.listener c.on_account-in-End.new.self c.args.self.now.wire c.read.new.self
    (Read Pop seat.link (length c.args.buffer.now) io octets) (event.Gone seat.connection) (outcome_seen x.result.outcome) seat.connection x.result.account _ (λ T. refl)
    x.ensures.clean x.ensures.stands x.ensures.admitted x.ensures.counted x.ensures.cause x.ensures.up x.ensures.stop x.ensures.account c.read.ensures.called
    (λ h k. c.on_account-in-End.ensures.heard h (c.on_link-in-End.ensures.heard h k)) (
      read_cut g.V.Vault c.args.self.now.office seat (length c.args.buffer.now) io octets (event_tag_of (outcome_seen x.result.outcome)) fault,
      polled_quiet false (Read Pop seat.link (length c.args.buffer.now) io octets ∷ []),
    )
