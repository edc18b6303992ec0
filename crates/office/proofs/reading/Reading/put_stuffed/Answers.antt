use Rattle.std.proofs.Common.{◌*◌, ◌≤◌, ◌++◌, take, length, sym, ◌∙◌, ap, arith, append_assoc, rules}
use Rattle.mailtext.specs.Streams.{stuffed_from}
use Rattle.std.proofs.lemmas.List.{length-take}
use Rattle.office.proofs.Paging.{on_extended, all_stuffed, length_extended}
use Rattle.office.proofs.reading.Reading.put_stuffed.Goals as goal

pub returns-clause-ok : goal.returns-clause-ok
returns-clause-ok c =
    let old = c.args.ready.now.items in
    let new = c.extend_from_slice.new.self.items in
    let out = c.feed-put.new.out in
    let put = c.feed-put.result.1 in
    let f = c.feed-put.ensures in
    let s = c.args.self.now.stuffer in
    let s' = c.feed-put.new.self in
    let room : 2 * length c.args.octets.now ≤ length out = search rules in
    on_extended c.extend_from_slice.result new old (take put out) _ (search rules) (λ e more.
    ap (λ xs. old ++ xs) (all_stuffed s s' c.args.octets.now out c.feed-put.result.0 put f.sent (f.whole room) more)
    ∙ (sym (append_assoc old (take put out) (stuffed_from s' more)) ∙ ap (λ xs. xs ++ stuffed_from s' more) (sym e)))

pub returns-clause-most : goal.returns-clause-most
returns-clause-most c =
    let out = c.feed-put.new.out in
    let put = c.feed-put.result.1 in
    let size : length out ≤ 32768 = search rules in
    length_extended c.extend_from_slice.result c.extend_from_slice.new.self.items c.args.ready.now.items (take put out) 32768 (search rules) (omega (arith, size, length-take put out))
