use Rattle.std.specs.Prelude.{⊤}
use Rattle.std.proofs.Common.{◌≡◌, ◌≤◌, ◌<◌, ◌++◌, ◌-◌, length}
use Rattle.vault.specs.Changes.{Contents}
use Rattle.vault.specs.Calls.{text_under}
use Rattle.vault.specs.Parts.{OnlyLooks}
use Rattle.office.specs.Output.{text_coming, most_output, IsBegun}
use Rattle.office.proofs.reading.Reading.fill.Given as goal

abbrev pub invariant-loop-self : goal.invariant-loop-self
invariant-loop-self g l = record {
  put : (c : Contents) → g.V.Vault.holds l.fn.vault c → g.V.Vault.is_clean l.vault → IsBegun l.fn.self (text_under l.fn.self.key c.messages)
      → l.fn.ready.items ++ text_coming l.fn.self (text_under l.fn.self.key c.messages) ≡ l.ready.items ++ text_coming l.self (text_under l.fn.self.key c.messages);
  left : l.fn.self.place < l.fn.self.octets → l.self.place < l.self.octets;
  key : l.self.key ≡ l.fn.self.key;
  octets : l.self.octets ≡ l.fn.self.octets;
  looks : OnlyLooks g.V.Vault l.fn.vault l.vault ⊤;
  room : length l.ready.items ≤ most_output;
}

abbrev pub decreases-loop-self : goal.decreases-loop-self
decreases-loop-self g l = l.self.octets - l.self.place
