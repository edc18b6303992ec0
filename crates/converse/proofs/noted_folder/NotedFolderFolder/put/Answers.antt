use Rattle.std.proofs.Common.{◌≡◌, ◌∙◌, ◌∷◌, ◌++◌, [], List, ℕ, ap, ap₂, map, rules}
use Rattle.std.proofs.lemmas.List.{map-append}
use Rattle.notes.specs.declared.Notes.{Notes}
use Rattle.converse.specs.Exported.{File, noted_file}
use Rattle.converse.proofs.noted_folder.NotedFolderFolder.put.Goals as goal

abbrev file : (name octets : List ℕ) → File
file name octets = record { name = name; octets = octets }

-- what was noted after the files that it had
noted_as : (had has : List (Notes ℕ × Notes ℕ)) (n o : Notes ℕ) (name octets : List ℕ) → has ≡ had ++ (n, o) ∷ [] → n.items ≡ name → o.items ≡ octets
    → map noted_file has ≡ map noted_file had ++ file name octets ∷ []
noted_as had has n o name octets all of_name of_octets =
    ap (map noted_file) all ∙ map-append noted_file had ((n, o) ∷ [])
    ∙ ap₂ (λ (x y : List ℕ). map noted_file had ++ file x y ∷ []) of_name of_octets

pub returns-in-Ok-clause-put : goal.returns-in-Ok-clause-put
returns-in-Ok-clause-put g c =
    noted_as c.args.self.now.taken.items c.note.new.self.items c.of.result c.of-in-Ok.result c.args.name.now c.args.octets.now c.note.ensures (search rules) (search rules)
