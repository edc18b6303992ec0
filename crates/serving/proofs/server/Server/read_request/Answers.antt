use Rattle.std.proofs.Common.{rules, ◌≡◌, false, None, [], take, refl, subst}
use Rattle.serving.specs.declared.wire.Io.TheVariants.{Count, Later}
use Rattle.serving.specs.Wires.{counted, is_fault, has_read}
use Rattle.serving.specs.Requests.{AreKeptAmong}
use Rattle.serving.proofs.Requesting.{heard, waited, asked_still, none_more, over_apart, straight_on}
use Rattle.serving.proofs.Quieting.{NoEvent, IsOne, did_none, did_asked, did_given, did_then, quiet_read, asks_one}
use Rattle.serving.specs.declared.requests.Exchange.{Exchange}
use Rattle.std.proofs.Common.{true, ◌∷◌, ◌++◌, sym, ◌∙◌}
use Rattle.std.specs.Prelude.{is_some}
use Rattle.serving.specs.declared.wire.Port.TheVariants.{Admin}
use Rattle.serving.specs.Calls.{Read}
use Rattle.serving.specs.Hearing.{HeardApart}
use Rattle.serving.proofs.Hearing.{hears_none, apart_first}
use Rattle.serving.proofs.HttpWorking.{read_more}
use Rattle.serving.specs.HttpWorks.{HasRead, IsOver, HasResponse, GaveNothing, GaveItsEnd, response_of}
use Rattle.serving.specs.HttpParts.{ComeTo}
use Rattle.serving.proofs.server.Server.read_request.Goals as goal

pub returns-in-Count-clause-asked : goal.returns-in-Count-clause-asked
returns-in-Count-clause-asked g c = λ B start L pop others s clean.
    (let e = c.args.exchange.now in
    let count = c.in-Count.count in
    let piece = take count c.read.new.buffer in
    let none : e.response ≡ None = search rules in
    let goes : e.is_over ≡ false = search rules in
    heard g.V.Vault.holds g.W.Wire.tells c.args.site.now B start L pop others e c.take_piece.new.exchange c.args.self.now.office
    c.take_piece.new.office c.args.self.now.wire c.read.new.self count piece s
    (c.take_piece.ensures.asked B s.log s.stands clean) none goes c.take_piece.ensures.keeps.link c.take_piece.ensures.keeps.written c.take_piece.ensures.keeps.over c.take_piece.ensures.read
    (c.in-Count.ensures.told (record { pop = pop; admin = s.is.told }) s.is.tells))

pub returns-in-Later-clause-asked : goal.returns-in-Later-clause-asked
returns-in-Later-clause-asked g c = λ B start L pop others s clean.
    (let e = c.args.exchange.now in
    let told = s.is.told in
    let goes : e.is_over ≡ false = search rules in
    let held = s.is.held.0 in
    asked_still g.V.Vault.holds g.W.Wire.tells c.args.site.now B start L pop c.args.self.now.office c.args.self.now.wire c.read.new.self (AreKeptAmong others e) (AreKeptAmong others e) s
    (waited g.W.Wire.tells B start pop others e e s.x s.log c.args.self.now.wire c.read.new.self s.is (has_read told e.link.number Later [])
    (c.in-Later.ensures.told (record { pop = pop; admin = told }) s.is.tells) refl (λ k. none_more e.link.number k told.read) (λ k. refl) (λ k ne. refl)
    (straight_on told e.link.number s.is.exchanged.straight held.accepted (held.live goes)) refl refl refl refl (λ _. held.live goes)))

pub returns-in-End-clause-asked : goal.returns-in-End-clause-asked
returns-in-End-clause-asked g c = λ B start L pop others s clean.
    (let e = c.args.exchange.now in
    let n = e.link.number in
    let told = s.is.told in
    let io = c.read.result in
    let goes : e.is_over ≡ false = search rules in
    let none : counted io c.read.new.buffer ≡ [] = search rules in
    let tells = subst (λ xs. g.W.Wire.tells c.read.new.self (record { pop = pop; admin = has_read told n io xs })) none (c.read.ensures.told (record { pop = pop; admin = told }) s.is.tells) in
    asked_still g.V.Vault.holds g.W.Wire.tells c.args.site.now B start L pop c.args.self.now.office c.args.self.now.wire c.read.new.self (AreKeptAmong others e) (AreKeptAmong others _) s
    (waited g.W.Wire.tells B start pop others e _ s.x s.log c.args.self.now.wire c.read.new.self s.is (has_read told n io [])
    tells refl (λ k. none_more n k told.read) (λ k. refl) (λ k ne. over_apart n k (is_fault io) told.over ne)
    (straight_on told n s.is.exchanged.straight s.is.held.0.accepted (s.is.held.0.live goes)) refl refl refl refl (λ q. cc)))

pub returns-then-exchange-clause-works : goal.returns-then-exchange-clause-works
returns-then-exchange-clause-works g c =
    let over : c.args.exchange.now.is_over ≡ true = search rules in
    did_none g.V.Vault g.W.Wire.asked c.args.self.now.office c.args.self.now.wire
    (HeardApart g.L.Listener.heard c.args.self.now.listener c.args.self.now.listener (λ B L. HasRead c.args.site.now B L c.args.exchange.now c.args.exchange.now))
    (λ B L. (hears_none g.L.Listener.heard c.args.self.now.listener, IsOver over refl))

pub returns-then-is_some-clause-works : goal.returns-then-is_some-clause-works
returns-then-is_some-clause-works g c =
    let some : is_some c.args.exchange.now.response ≡ true = search rules in
    did_none g.V.Vault g.W.Wire.asked c.args.self.now.office c.args.self.now.wire
    (HeardApart g.L.Listener.heard c.args.self.now.listener c.args.self.now.listener (λ B L. HasRead c.args.site.now B L c.args.exchange.now c.args.exchange.now))
    (λ B L. (hears_none g.L.Listener.heard c.args.self.now.listener, HasResponse some refl))

pub returns-in-Count-clause-works : goal.returns-in-Count-clause-works
returns-in-Count-clause-works g c =
    let o = c.args.self.now.office in
    let w = c.args.self.now.wire in
    let w1 = c.read.new.self in
    let o1 = c.take_piece.new.office in
    let l = c.args.self.now.listener in
    let l1 = c.take_piece.new.listener in
    let e = c.args.exchange.now in
    let e2 = c.take_piece.new.exchange in
    let n = c.in-Count.count in
    let piece = take n c.read.new.buffer in
    let call = Read Admin e.link 4096 (Count n) piece in
    let none : e.response ≡ None = search rules in
    let goes : e.is_over ≡ false = search rules in
    did_then g.V.Vault g.W.Wire.asked o o o1 w w1 w1
    (NoEvent (IsOne call)) (λ B L given calls. (calls ≡ []) × HeardApart g.L.Listener.heard l l1 (ComeTo c.args.site.now (e.read.items ++ piece) (response_of e2)) B L given [])
    (HeardApart g.L.Listener.heard l l1 (λ B L. HasRead c.args.site.now B L e e2))
    (λ B L g1 g2 c1 c2 p q. (
      apart_first g.L.Listener.heard l l1 B L g1 g2 p.0 q.1.0,
      read_more c.args.site.now B L e e2 n piece g1 g2 c1 c2 none
          (c.take_piece.ensures.keeps.over ∙ goes) c.take_piece.ensures.read c.take_piece.ensures.keeps.link c.take_piece.ensures.keeps.written p.0 p.1 (q.0, q.1.1),
    ))
    (did_asked g.V.Vault g.W.Wire.asked o w w1 (IsOne call) (NoEvent (IsOne call)) (λ B L cs is. (refl, is))
    (asks_one g.W.Wire.asked w w1 call (IsOne call) (quiet_read e.link 4096 (Count n) piece) refl c.in-Count.ensures.called))
    (did_given g.V.Vault g.W.Wire.asked o o1 w1
    (HeardApart g.L.Listener.heard l l1 (ComeTo c.args.site.now (e.read.items ++ piece) (response_of e2))) c.take_piece.ensures.works)

pub returns-in-Later-clause-works : goal.returns-in-Later-clause-works
returns-in-Later-clause-works g c =
    let e = c.args.exchange.now in
    let call = Read Admin e.link 4096 Later [] in
    let none : e.response ≡ None = search rules in
    did_asked g.V.Vault g.W.Wire.asked c.args.self.now.office c.args.self.now.wire c.read.new.self
    (IsOne call) (HeardApart g.L.Listener.heard c.args.self.now.listener c.args.self.now.listener (λ B L. HasRead c.args.site.now B L e e))
    (λ B L cs is. (hears_none g.L.Listener.heard c.args.self.now.listener, subst (HasRead c.args.site.now B L e e []) (sym is) (GaveNothing none refl)))
    (asks_one g.W.Wire.asked c.args.self.now.wire c.read.new.self call (IsOne call) (quiet_read e.link 4096 Later []) refl c.in-Later.ensures.called)

pub returns-in-End-clause-works : goal.returns-in-End-clause-works
returns-in-End-clause-works g c =
    let e = c.args.exchange.now in
    let io = c.read.result in
    let octets = counted io c.read.new.buffer in
    let call = Read Admin e.link 4096 io octets in
    let none : e.response ≡ None = search rules in
    let fault : is_fault io ≡ true = search rules in
    let empty : octets ≡ [] = search rules in
    let e2 : Exchange = record { link = e.link; since = e.since; read = e.read; response = e.response; written = e.written; is_over = true } in
    did_asked g.V.Vault g.W.Wire.asked c.args.self.now.office c.args.self.now.wire c.read.new.self
    (IsOne call) (HeardApart g.L.Listener.heard c.args.self.now.listener c.args.self.now.listener (λ B L. HasRead c.args.site.now B L e e2))
    (λ B L cs is. (
      hears_none g.L.Listener.heard c.args.self.now.listener,
      subst (HasRead c.args.site.now B L e e2 []) (sym is) (subst (λ xs. HasRead c.args.site.now B L e e2 [] (Read Admin e.link 4096 io xs ∷ [])) (sym empty) (GaveItsEnd io none fault refl)),
    ))
    (asks_one g.W.Wire.asked c.args.self.now.wire c.read.new.self call (IsOne call) (quiet_read e.link 4096 io octets) refl c.read.ensures.called)
