use Rattle.converse.specs.Exported.{IsMeasured, file_under}
use Rattle.converse.proofs.Exporting.{at_index, takes_more, takes_all, takes_first, faults_first, counts_on}
use Rattle.converse.proofs.export.put_each.Goals as goal

pub loop-head-preserved : goal.loop-head-preserved
loop-head-preserved g c =
    let s = c.loop-head.invariant in
    let t = c.in_ok-put_message.ensures in
    record {
      clean = λ k. s.clean (t.clean k);
      held = λ d h k. t.held d (s.held d h (t.clean k)) k;
      read = counts_on _ _ _ s.read t.counted_too;
      counted = counts_on _ _ _ s.counted t.counted;
      so = λ d h k all. takes_more (file_under d) c.args.heads.now c.loop-head.head-index _ _ _ _ c.loop-head-test.true c.head-item.is
          (s.so d h (t.clean k) all)
          (t.whole d (s.held d h (t.clean k)) k (at_index (IsMeasured d) c.args.heads.now c.loop-head.head-index _ c.loop-head-test.true c.head-item.is all));
    }

pub returns-clause-whole : goal.returns-clause-whole
returns-clause-whole g c = λ d h k all.
    takes_all (file_under d) c.args.heads.now c.loop-head.head-index _ _ c.loop-head-test.false (c.loop-head.invariant.so d h k all)

pub returns-in_err-put_message-clause-part : goal.returns-in_err-put_message-clause-part
returns-in_err-put_message-clause-part g c =
    let t = c.in_err-put_message.ensures in
    faults_first c.from_residual.result g.V.Vault.holds c.args.vault.now (g.V.Vault.is_clean c.put_message.new.vault) c.args.heads.now
    (g.F.Folder.files c.args.folder.now) (g.F.Folder.files c.put_message.new.folder)
    (λ d h k all. takes_first (file_under d) c.args.heads.now c.loop-head.head-index _ _ _ (c.loop-head.invariant.so d h (t.clean k) all) t.refused)
