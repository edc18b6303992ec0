use Rattle.std.proofs.Common.{rules, ◌≡◌, ◌≤◌, ◌<◌, ◌==◌, ℕ, not, true, false, arith, ◌+◌, ap, subst}
use Rattle.std.specs.Bool.{if◌then◌else◌}
use Rattle.serving.specs.Parts.{Does}
use Rattle.serving.specs.ClientParts.{IsWritten}
use Rattle.serving.proofs.Composing.{does_none, does_so, does_then}
use Rattle.serving.proofs.Turns.{written_none, written_then, written_less, written_ended, written_share, written_all}
use Rattle.serving.proofs.server.Server.write_owed.Goals as goal

pub loop-times-init : goal.loop-times-init
loop-times-init g c = record {
  serves = λ seats these has before T elsewhere s clean. s;
  works = does_none g.V.Vault g.W.Wire g.L.Listener c.args.self.now _
      (written_none g.V.Vault c.args.self.now.office c.args.seat);
}

-- a count that isn't 0 is a write
once : (n : ℕ) → (n == 0) ≡ false → 1 ≤ (if n == 0 then 0 else 1)
once n e = rw e (omega arith)

pub loop-times-preserved : goal.loop-times-preserved
loop-times-preserved g c =
    let s = c.args.self.now in
    let k = c.loop-times in
    let x = c.write_once-count in
    let n = x.result in
    let some : (n == 0) ≡ false = search rules in
    let goes : not (n == 0) ≡ true = ap not some in
    let one = once n some in
    let sum = c.saturating_add-written.result in
    let fits : sum ≤ k.written + n = search rules in
    let once_more = subst (λ b. Does g.V.Vault g.W.Wire g.L.Listener k.self x.new.self
    (IsWritten g.V.Vault.holds g.V.Vault.is_clean k.self.office x.new.self.office c.args.seat (if n == 0 then 0 else 1) 1 n b)) goes x.ensures.works in
    record {
      serves = λ seats these has before T elsewhere s clean. x.ensures.serves seats these has before T elsewhere
          (k.invariant.serves seats these has before T elsewhere s (x.ensures.works.was_given.clean clean)) clean;
      works = does_then g.V.Vault g.W.Wire g.L.Listener s k.self x.new.self _ _ _ (λ g1 g2 c1 c2 wa wb a b.
          written_less g.V.Vault s.office x.new.self.office c.args.seat
          (k._times + (if n == 0 then 0 else 1)) (k._times + 1) (k._times + 1) (k.written + n) sum true _ _ (omega (arith, one)) fits
          (written_then g.V.Vault s.office k.self.office x.new.self.office c.args.seat k._times
          (if n == 0 then 0 else 1) k._times 1 k.written n true g1 g2 c1 c2 wa wb a b)) k.invariant.works once_more;
    }

pub returns-then-count-eq0-clause-works : goal.returns-then-count-eq0-clause-works
returns-then-count-eq0-clause-works g c =
    let k = c.loop-times in
    let x = c.write_once-count in
    let n = x.result in
    let none : (n == 0) ≡ true = search rules in
    let ends : not (n == 0) ≡ false = ap not none in
    let once_more = subst (λ b. Does g.V.Vault g.W.Wire g.L.Listener k.self x.new.self
    (IsWritten g.V.Vault.holds g.V.Vault.is_clean k.self.office x.new.self.office c.args.seat (if n == 0 then 0 else 1) 1 n b)) ends x.ensures.works in
    let room : k._times < 64 = search rules in
    does_then g.V.Vault g.W.Wire g.L.Listener c.args.self.now k.self x.new.self _ _ _ (λ g1 g2 c1 c2 wa wb a b.
    written_ended g.V.Vault c.args.self.now.office x.new.self.office c.args.seat (k._times + (if n == 0 then 0 else 1)) (k._times + 1) (k.written + n) c.args.share _ _ (omega (arith, room))
    (written_then g.V.Vault c.args.self.now.office k.self.office x.new.self.office c.args.seat k._times
    (if n == 0 then 0 else 1) k._times 1 k.written n false g1 g2 c1 c2 wa wb a b)) k.invariant.works once_more

pub returns-then-written-share-clause-works : goal.returns-then-written-share-clause-works
returns-then-written-share-clause-works g c =
    let Holds = g.V.Vault.holds in
    let IsClean = g.V.Vault.is_clean in
    let k = c.loop-times in
    let x = c.write_once-count in
    let n = x.result in
    let fits : c.saturating_add-written.result ≤ k.written + n = search rules in
    let enough : c.args.share ≤ c.saturating_add-written.result = search rules in
    let room : k._times < 64 = search rules in
    does_then g.V.Vault g.W.Wire g.L.Listener c.args.self.now k.self x.new.self _ _ _
    (λ g1 g2 c1 c2 wa wb a b.
    written_share g.V.Vault c.args.self.now.office x.new.self.office c.args.seat
    (k._times + (if n == 0 then 0 else 1)) (k._times + 1) (k.written + n) c.args.share _ _ _ (omega (arith, room)) (omega (arith, fits, enough))
    (written_then g.V.Vault c.args.self.now.office k.self.office x.new.self.office c.args.seat k._times
    (if n == 0 then 0 else 1) k._times 1 k.written n _ g1 g2 c1 c2 wa wb a b)) k.invariant.works x.ensures.works

pub returns-clause-works : goal.returns-clause-works
returns-clause-works g c =
    let k = c.loop-times in
    let o = c.args.self.now.office in
    let h : 64 ≤ k._times = search rules in
    let few : k._times ≤ 64 = search rules in
    does_so g.V.Vault g.W.Wire g.L.Listener c.args.self.now k.self _ _
    (λ gv cl wa a. written_all g.V.Vault o k.self.office c.args.seat k._times k._times k.written c.args.share true gv cl few h a)
    k.invariant.works
