-- What a guard asks of the spool inside, by what its watch answers.
use Rattle.std.specs.Prelude.{◌≡◌, Bool, true, false, List, [], ◌∷◌, ◌++◌, Option, Some, None}
use Rattle.serving.specs.Spools.{FileCall, Next}
use Rattle.serving.specs.declared.file_name.FileName.{FileName}

-- a spool gave the name of a file
abbrev pub names_a_file : FileCall → Bool
names_a_file (Next last (Some name)) = true
names_a_file _ = false

-- These calls were handed on, each as it is. For each name of a file the watch was asked whether
-- the store is lost, and said so: if it is lost the name was kept back.
pub data AreFilesHandedOn : (inside : List FileCall) (said : List Bool) (calls : List FileCall)
    → Type 0 where
  NoFileCall : AreFilesHandedOn [] [] []
  IsFileHandedOn : (inside : List FileCall) (said : List Bool) (calls : List FileCall)
      (call : FileCall) → names_a_file call ≡ false → AreFilesHandedOn inside said calls
      → AreFilesHandedOn (inside ++ call ∷ []) said (calls ++ call ∷ [])
  IsNameHandedOn : (inside : List FileCall) (said : List Bool) (calls : List FileCall)
      (last : Option FileName) (name : FileName) → AreFilesHandedOn inside said calls
      → AreFilesHandedOn (inside ++ Next last (Some name) ∷ []) (said ++ false ∷ [])
      (calls ++ Next last (Some name) ∷ [])
  IsNameKeptBack : (inside : List FileCall) (said : List Bool) (calls : List FileCall)
      (last : Option FileName) (name : FileName) → AreFilesHandedOn inside said calls
      → AreFilesHandedOn (inside ++ Next last (Some name) ∷ []) (said ++ true ∷ [])
      (calls ++ Next last None ∷ [])

-- so it is of a spool inside, and a watch
pub record AreGuarded {S X : Type 0} (Asked : S → List FileCall → Type 0)
    (Answered : X → List Bool → Type 0) (spool : S) (watch : X) (calls : List FileCall)
    : Type 0 where
  pub inside : List FileCall
  pub said : List Bool
  pub asked : Asked spool inside
  pub answered : Answered watch said
  pub handed : AreFilesHandedOn inside said calls
