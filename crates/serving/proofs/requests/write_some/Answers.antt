use Rattle.std.proofs.Common.{rules, ◌≡◌, ◌≤◌, false, [], take, drop, length, refl, ap, subst, ◌∙◌}
use Rattle.serving.specs.declared.wire.Io.TheVariants.{Count, Later}
use Rattle.serving.specs.Wires.{counted, is_fault, has_written}
use Rattle.serving.specs.Requests.{octets_of}
use Rattle.serving.proofs.Parts.{front_of_front}
use Rattle.serving.proofs.Requesting.{wrote, waited, none_more, over_apart, straight_on}
use Rattle.serving.proofs.Quieting.{quiet_wrote, asks_none, asks_one}
use Rattle.std.proofs.Common.{◌<◌, ◌+◌, ◌==◌, not, nat_le, true, None}
use Rattle.std.specs.Bool.{if◌then◌else◌}
use Rattle.serving.specs.declared.wire.Port.TheVariants.{Admin}
use Rattle.serving.specs.Calls.{Wrote}
use Rattle.serving.specs.HttpParts.{Writes}
use Rattle.serving.proofs.HttpWorking.{response_over, response_none, response_whole, response_some, response_later, response_cut}
use Rattle.serving.proofs.requests.write_some.Goals as goal

pub returns-in-Count-clause-answers : goal.returns-in-Count-clause-answers
returns-in-Count-clause-answers g c = λ x B start L pop others s.
    (let e = c.args.exchange.now in
    let count = c.in-Count.count in
    let whole = drop e.written (octets_of c.in-Some.response) in
    let is : c.part_of-part.result.now ≡ take 16384 whole =
    c.part_of-part.ensures ∙ ap (λ xs. take 16384 (drop e.written xs)) c.octets-octets.ensures in
    let fits : count ≤ length (take 16384 whole) =
    subst (λ xs. count ≤ length xs) is c.in-Count.ensures.within.1 in
    let goes : e.is_over ≡ false = search rules in
    wrote g.W.Wire.tells B start pop others e _ x L c.args.wire.now c.write.new.self s count
    (take count c.part_of-part.result.now) _
    (c.in-Count.ensures.told (record { pop = pop; admin = s.told }) s.tells) c.in-Some.is goes
    (ap (take count) is ∙ front_of_front count 16384 whole fits) refl refl refl)

pub returns-in-Later-clause-answers : goal.returns-in-Later-clause-answers
returns-in-Later-clause-answers g c = λ x B start L pop others s.
    (let e = c.args.exchange.now in
    let told = s.told in
    let goes : e.is_over ≡ false = search rules in
    let held = s.held.0 in
    waited g.W.Wire.tells B start pop others e e x L c.args.wire.now c.write.new.self s (has_written told e.link.number Later [])
    (c.in-Later.ensures.told (record { pop = pop; admin = told }) s.tells) refl (λ k. refl) (λ k. none_more e.link.number k told.written) (λ k ne. refl)
    (straight_on told e.link.number s.exchanged.straight held.accepted (held.live goes)) refl refl refl refl (λ _. held.live goes))

pub returns-in-End-clause-answers : goal.returns-in-End-clause-answers
returns-in-End-clause-answers g c = λ x B start L pop others s.
    (let e = c.args.exchange.now in
    let n = e.link.number in
    let told = s.told in
    let io = c.write.result in
    let goes : e.is_over ≡ false = search rules in
    let lent = c.part_of-part.result.now in
    let none : counted io lent ≡ [] = search rules in
    let tells = subst (λ xs. g.W.Wire.tells c.write.new.self (record { pop = pop; admin = has_written told n io xs })) none (c.write.ensures.told (record { pop = pop; admin = told }) s.tells) in
    waited g.W.Wire.tells B start pop others e _ x L c.args.wire.now c.write.new.self s (has_written told n io [])
    tells refl (λ k. refl) (λ k. none_more n k told.written) (λ k ne. over_apart n k (is_fault io) told.over ne)
    (straight_on told n s.exchanged.straight s.held.0.accepted (s.held.0.live goes)) refl refl refl refl (λ q. cc))

pub returns-then-exchange-clause-works : goal.returns-then-exchange-clause-works
returns-then-exchange-clause-works g c =
    let e = c.args.exchange.now in
    let over : e.is_over ≡ true = search rules in
    asks_none g.W.Wire.asked c.args.wire.now (Writes e e 0 0 false) (response_over e over)

pub returns-in_default-clause-works : goal.returns-in_default-clause-works
returns-in_default-clause-works g c =
    let e = c.args.exchange.now in
    let none : e.response ≡ None = search rules in
    asks_none g.W.Wire.asked c.args.wire.now (Writes e e 0 0 false) (response_none e none)

pub returns-then-exchange-whole-clause-works : goal.returns-then-exchange-whole-clause-works
returns-then-exchange-whole-clause-works g c =
    let h : length (octets_of c.in-Some.response) ≤ c.args.exchange.now.written = search rules in
    asks_none g.W.Wire.asked c.args.wire.now (Writes c.args.exchange.now _ 0 0 false) (response_whole c.args.exchange.now _ c.in-Some.response c.in-Some.is refl refl refl refl refl h)

pub returns-in-Count-clause-works : goal.returns-in-Count-clause-works
returns-in-Count-clause-works g c =
    let e = c.args.exchange.now in
    let n = c.in-Count.count in
    let r = c.in-Some.response in
    let part = c.part_of-part.result.now in
    let whole = drop e.written (octets_of r) in
    let is : part ≡ take 16384 whole = c.part_of-part.ensures ∙ ap (λ xs. take 16384 (drop e.written xs)) c.octets-octets.ensures in
    let fits : n ≤ length (take 16384 whole) = subst (λ xs. n ≤ length xs) is c.in-Count.ensures.within.1 in
    let goes : e.is_over ≡ false = search rules in
    asks_one g.W.Wire.asked c.args.wire.now c.write.new.self (Wrote Admin e.link (length part) (Count n) (take n part))
    (Writes e _ (if n == 0 then 0 else 1) n (not (n == 0))) (quiet_wrote e.link (length part) (Count n) (take n part))
    (response_some e _ r (length part) n (take n part) c.in-Some.is goes c.in-Count.ensures.within.0 (ap length is)
    (ap (take n) is ∙ front_of_front n 16384 whole fits) refl refl refl refl (ap (λ xs. nat_le (length xs) (e.written + n)) c.octets-octets.ensures))
    c.in-Count.ensures.called

pub returns-in-Later-clause-works : goal.returns-in-Later-clause-works
returns-in-Later-clause-works g c =
    let e = c.args.exchange.now in
    let goes : e.is_over ≡ false = search rules in
    let less : e.written < length (octets_of c.in-Some.response) = search rules in
    let part = c.part_of-part.result.now in
    let is : part ≡ take 16384 (drop e.written (octets_of c.in-Some.response)) = c.part_of-part.ensures ∙ ap (λ xs. take 16384 (drop e.written xs)) c.octets-octets.ensures in
    asks_one g.W.Wire.asked c.args.wire.now c.write.new.self (Wrote Admin e.link (length part) Later []) (Writes e e 0 0 false) (quiet_wrote e.link (length part) Later [])
    (response_later e c.in-Some.response (length part) c.in-Some.is goes less (ap length is)) c.in-Later.ensures.called

pub returns-in-End-clause-works : goal.returns-in-End-clause-works
returns-in-End-clause-works g c =
    let e = c.args.exchange.now in
    let io = c.write.result in
    let part = c.part_of-part.result.now in
    let octets = counted io part in
    let is : part ≡ take 16384 (drop e.written (octets_of c.in-Some.response)) = c.part_of-part.ensures ∙ ap (λ xs. take 16384 (drop e.written xs)) c.octets-octets.ensures in
    let fault : is_fault io ≡ true = search rules in
    let goes : e.is_over ≡ false = search rules in
    asks_one g.W.Wire.asked c.args.wire.now c.write.new.self (Wrote Admin e.link (length part) io octets) (Writes e _ 0 0 false) (quiet_wrote e.link (length part) io octets)
    (response_cut e _ c.in-Some.response (length part) io octets c.in-Some.is goes fault (ap length is) refl refl refl refl refl) c.write.ensures.called
