use Rattle.std.proofs.Common.{◌≡◌, ◌∙◌, length, arith, take, drop, ◌-◌, ap}
use Rattle.std.proofs.lemmas.List.{take_rest, length-drop}
use Rattle.mailtext.proofs.StreamLemmas.{length-written_end, sent_more, behind_more}
use Rattle.mailtext.proofs.stuffer.Stuffer.feed.Goals as goal

pub loop-taken-preserved : goal.loop-taken-preserved
loop-taken-preserved c =
    let l = c.loop-taken in
    let piece = c.args.piece.now in
    let p = c.put_some-more_taken in
    let e = p.ensures in
    let rest : length (take (length piece - l.taken) (drop l.taken piece)) ≡ length piece - l.taken = ap length (take_rest piece l.taken) ∙ length-drop l.taken piece in
    let left : length (take (length l.out - l.put) (drop l.put l.out)) ≡ length l.out - l.put = ap length (take_rest l.out l.put) ∙ length-drop l.put l.out in
    let size = length-written_end l.put l.out p.new.out l.invariant.room p.auto.out in
    record {
      within = omega (arith, rest, e.taken, l.invariant.within);
      room = omega (arith, size, left, p.auto.out, e.put, l.invariant.room);
      size = size ∙ l.invariant.size;
      grows = omega (arith, e.grows, l.invariant.grows);
      dots = omega (arith, e.dots, l.invariant.dots);
      sent = sent_more c.args.self.now l.self p.new.self piece l.out p.new.out l.taken l.put p.result.0 p.result.1 l.invariant.room e.put l.invariant.sent e.sent;
      behind = behind_more c.args.out.now l.out p.new.out l.put p.result.1 l.invariant.room l.invariant.behind e.behind;
    }
