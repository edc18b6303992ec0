use Rattle.std.proofs.Common.{inl, inr, refl, sym, ◌∙◌}
use Rattle.sqlvault.proofs.transaction.undo.Goals as goal

pub returns-in-Ok-clause-undoes : goal.returns-in-Ok-clause-undoes
returns-in-Ok-clause-undoes g c = c.roll_back.ensures

pub returns-then-is_memory-clause-undoes : goal.returns-then-is_memory-clause-undoes
returns-then-is_memory-clause-undoes g c = c.roll_back.ensures

pub returns-else-is_memory-clause-undoes : goal.returns-else-is_memory-clause-undoes
returns-else-is_memory-clause-undoes g c = c.roll_back.ensures

pub returns-in-Ok-clause-told : goal.returns-in-Ok-clause-told
returns-in-Ok-clause-told g c = inl refl

pub returns-else-is_memory-clause-told : goal.returns-else-is_memory-clause-told
returns-else-is_memory-clause-told g c = inl refl

pub returns-then-is_memory-clause-told : goal.returns-then-is_memory-clause-told
returns-then-is_memory-clause-told g c = inr (sym c.is_memory.ensures ∙ c.if-is_memory.true)
