use Rattle.std.proofs.Common.{rules}
use Rattle.vault.specs.Calls.{text_under}
use Rattle.converse.proofs.Exporting.{whole_text, counts_on}
use Rattle.converse.proofs.export.read_text.Goals as goal

pub loop-vault-preserved : goal.loop-vault-preserved
loop-vault-preserved g c =
    let s = c.loop-vault.invariant in
    let t = c.in_ok-read_more.ensures in
    record {
      clean = λ k. s.clean (t.clean k);
      held = λ d h k. t.held d (s.held d h (t.clean k)) k;
      read = counts_on _ _ _ s.read t.counted;
      so = λ d h k. t.front d (s.held d h (t.clean k)) k (s.so d h (t.clean k));
    }

pub returns-clause-text : goal.returns-clause-text
returns-clause-text g c = λ d h k measured.
    whole_text c.loop-vault.text.items (text_under c.args.head.now.key d.messages) c.args.head.now.octets measured (c.loop-vault.invariant.so d h k) (search rules)
