-- A new store holds nothing.
use Rattle.std.proofs.Common.{◌≡◌, ◌∙◌, false, [], pos, refl, sym, ap, subst, rules}
use Rattle.sqlite.specs.Effect.{Database}
use Rattle.sqlite.specs.State.{State, Shows}
use Rattle.std.proofs.lemmas.List.Sorted.{IsPermutation-refl}
use Rattle.vault.specs.Changes.{AreSound}
use Rattle.vault.specs.Plain.{no_contents}
use Rattle.mailsql.specs.Rows.{rows_in, IsKept}
use Rattle.mailsql.specs.Uses.{marked}
use Rattle.sqlvault.specs.Keeps.{Keeps, version}
use Rattle.sqlvault.specs.Stands.{Holds}

nothing_sound : AreSound no_contents
nothing_sound = search rules

keeps_nothing : Keeps (marked (pos 3)) no_contents
keeps_nothing = record {
  meta_row = refl;
  clerks = IsPermutation-refl [];
  maildrops = refl;
  counts = λ d class. refl;
  deposits = refl;
  messages = refl;
  sheets = IsPermutation-refl [];
  groups = refl;
  rules = refl;
  keys = refl;
  sound = nothing_sound;
}

-- what was made of a store without a table is committed
pub holds_made : (s2 s3 : State) → IsKept s2.now → rows_in s2.now.trees ≡ marked version → Shows s2 s3 s2.now s2.now false → Holds s3 no_contents
holds_made s2 s3 kept is shows = record {
  autocommit = shows.mode;
  tables = λ _. subst IsKept (sym shows.now_is) kept;
  settled = λ _. shows.committed_is ∙ sym shows.now_is;
  rows = λ _. subst (λ r. Keeps r no_contents) (sym (ap (λ (d : Database). rows_in d.trees) shows.now_is ∙ is)) keeps_nothing;
  sound = nothing_sound;
}
