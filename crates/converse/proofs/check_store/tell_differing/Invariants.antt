use Rattle.std.proofs.Common.{◌≡◌, ◌++◌, List, Option, take}
use Rattle.std.specs.List.{flat_map}
use Rattle.vault.specs.declared.answer.Total.{Total}
use Rattle.vault.specs.declared.record.Receipt.{Receipt}
use Rattle.converse.specs.Texts.{AreMarks, differing_in, differs_line}
use Rattle.converse.proofs.Exporting.{StaysRead}
use Rattle.converse.proofs.check_store.tell_differing.Given as goal

-- the maildrops that came were told, and what was held is held
abbrev pub invariant-loop-total : goal.invariant-loop-total
invariant-loop-total g l = StaysRead g.V.Vault.holds g.V.Vault.is_clean l.initial.vault l.vault (g.V.Vault.faults l.initial.vault) (g.V.Vault.faults l.vault)
    (λ c. (rs : Option (List Receipt)) → AreMarks rs l.marks
    → l.text.items ≡ l.initial.text.items ++ flat_map (λ (s : Total). flat_map differs_line (differing_in rs s.maildrop c)) (take l.total-index l.totals))
