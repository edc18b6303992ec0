use Rattle.std.proofs.Common.{◌≡◌, ◌++◌, ◌+◌, length, take, false, true, ◌∙◌, arith, ◌≤◌, ◌<◌, get_or, eq-eqb, ne_eqb, length-set}
use Rattle.std.proofs.lemmas.List.{drop_all}
use Rattle.popline.specs.Cutting.{Held, begun, before_newline, through_newline, fed}
use Rattle.popline.proofs.Cuts.{coming-fed}
use Rattle.popline.proofs.Feeding.{held_at_newline, taken_at_newline, held_at_end, taken_more, whole_more, octets_more, octets_full}
use Rattle.popline.proofs.cutter.Cutter.feed.Goals as goal
use Rattle.popline.proofs.cutter.Cutter.feed.Goals.{then-self-lt255, else-self-lt255}

pub returns-then-byte-eq10-clause-held : goal.returns-then-byte-eq10-clause-held
returns-then-byte-eq10-clause-held c =
    let inv = c.loop-i.invariant in
    held_at_newline c.args.self.now c.args.piece.now c.loop-i.self-inside.buffer c.loop-i.i c.loop-i.self-inside.len c.loop-i-test.true
    (eq-eqb (get_or c.args.piece.now c.loop-i.i 0) 10 c.if-byte-eq10.true) inv.room inv.octets inv.whole

pub returns-then-byte-eq10-clause-stream : goal.returns-then-byte-eq10-clause-stream
returns-then-byte-eq10-clause-stream c =
    let inv = c.loop-i.invariant in
    let t = eq-eqb (get_or c.args.piece.now c.loop-i.i 0) 10 c.if-byte-eq10.true in
    coming-fed c.args.self.now (record { octets = take c.loop-i.self-inside.len c.loop-i.self-inside.buffer; whole = true }) c.args.piece.now (c.loop-i.i + 1)
    (returns-then-byte-eq10-clause-held c) (taken_at_newline c.args.piece.now c.loop-i.i c.loop-i-test.true t inv.taken)

pub loop-i-preserved : goal.loop-i-preserved
loop-i-preserved c =
    let inv = c.loop-i.invariant in
    let b = get_or c.args.piece.now c.loop-i.i 0 in
    let t = ne_eqb b 10 c.if-byte-eq10.false in
    elim c.if-self-lt255.branch [
      | then-self-lt255 w ↦
          let lt : c.loop-i.self-inside.len < 255 = w.if-self-lt255.true in
          let in_buffer : c.loop-i.self-inside.len < length c.loop-i.self-inside.buffer = omega arith in
          rw w.self-inside-is (record {
            room = omega arith;
            size = length-set c.loop-i.self-inside.buffer c.loop-i.self-inside.len b ∙ inv.size;
            open_yet = inv.open_yet;
            taken = taken_more c.args.piece.now c.loop-i.i c.loop-i-test.true t inv.taken;
            whole = whole_more c.args.piece.now c.loop-i.i c.loop-i-test.true t inv.whole;
            octets = octets_more (begun c.args.self.now
                ++ before_newline c.args.piece.now) c.args.piece.now c.loop-i.self-inside.buffer c.loop-i.i c.loop-i.self-inside.len c.loop-i-test.true t in_buffer inv.octets;
          })
      | else-self-lt255 w ↦
          let full : 255 ≤ c.loop-i.self-inside.len = w.if-self-lt255.false in
          let all : c.loop-i.self-inside.len ≤ length c.loop-i.self-inside.buffer = omega arith in
          rw w.self-inside-is (record {
            room = inv.room;
            size = inv.size;
            open_yet = inv.open_yet;
            taken = taken_more c.args.piece.now c.loop-i.i c.loop-i-test.true t inv.taken;
            whole = whole_more c.args.piece.now c.loop-i.i c.loop-i-test.true t inv.whole;
            octets = octets_full (begun c.args.self.now
                ++ before_newline c.args.piece.now) c.args.piece.now c.loop-i.self-inside.buffer c.loop-i.i c.loop-i.self-inside.len c.loop-i-test.true t full all inv.octets;
          })
    ]

pub returns-clause-held : goal.returns-clause-held
returns-clause-held c =
    let inv = c.loop-i.invariant in
    let past : length c.args.piece.now ≤ c.loop-i.i = omega arith in
    let e : c.loop-i.self-inside.whole ≡ false = inv.open_yet in
    rw e (held_at_end c.args.self.now c.args.piece.now c.loop-i.self-inside.buffer c.loop-i.i c.loop-i.self-inside.len past inv.room inv.octets inv.whole)

pub returns-clause-stream : goal.returns-clause-stream
returns-clause-stream c =
    let inv = c.loop-i.invariant in
    let past : length c.args.piece.now ≤ c.loop-i.i = omega arith in
    let d = drop_all c.loop-i.i c.args.piece.now past in
    let n : length c.args.piece.now ≡ through_newline c.args.piece.now =
    let k : c.loop-i.i + 0 ≡ through_newline c.args.piece.now = rw d at inv.taken in omega arith in
    let h : ◌≡◌ {A = Held} (record { octets = take c.loop-i.self-inside.len c.loop-i.self-inside.buffer; whole = c.loop-i.self-inside.whole }) (fed c.args.self.now c.args.piece.now) =
    returns-clause-held c in
    coming-fed c.args.self.now _ c.args.piece.now (length c.args.piece.now) h n
