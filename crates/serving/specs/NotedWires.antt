-- What the notes of a wire tell, and that they are true of the wire inside.
use Rattle.std.specs.Prelude.{◌≡◌, ◌<◌, List, [], ◌∷◌, ◌++◌}
use Rattle.std.proofs.Common.{refl, sym, ◌∙◌, subst}
use Rattle.serving.specs.Wires.{ToldOfPorts, SayAlikeOfPorts, AreFresh}
use Rattle.serving.specs.Calls.{Call}
use Rattle.serving.specs.Noted.{told_of, told_behind}
use Rattle.serving.specs.Counting.{AreCounted, count_at, most_links}
use Rattle.serving.specs.declared.wire.Port.{Port}
use Rattle.serving.specs.declared.counts.Counts.{Counts}

-- the calls that were noted tell this
abbrev pub AreTold : Counts → List Call → ToldOfPorts → Type 0
AreTold counts calls t = (t ≡ told_of calls) × AreCounted counts t

-- they tell one thing
pub tells_once : (counts : Counts) (calls : List Call) (t u : ToldOfPorts) → AreTold counts calls t → AreTold counts calls u → SayAlikeOfPorts t u
tells_once counts calls t u a b = subst (λ v. SayAlikeOfPorts t v) (a.0 ∙ sym b.0) (
  record { accepted = refl; read = λ k. refl; written = λ k. refl; over = λ k _. refl; strayed = refl },
  record { accepted = refl; read = λ k. refl; written = λ k. refl; over = λ k _. refl; strayed = refl },
)

-- they tell that nothing came
abbrev pub TellNothing : Counts → List Call → Type 0
TellNothing counts calls = (t : ToldOfPorts) × AreTold counts calls t × AreFresh t

-- the wire inside was asked just this and answered so, in what it tells itself
pub record WasAsked {W : Type 0} (Tells : W → ToldOfPorts → Type 0) (Asked : W → List Call → Type 0) (wire wire_then : W) (call : Call) : Type 0 where
  pub told : (t : ToldOfPorts) → Tells wire t → Tells wire_then (told_behind call t)
  pub called : (calls : List Call) → Asked wire calls → Asked wire_then (calls ++ call ∷ [])

-- so it is if it numbers its links as they were counted, and has fewer than may be
abbrev pub WasAskedFor : {W : Type 0} (Tells : W → ToldOfPorts → Type 0) (Asked : W → List Call → Type 0) (port : Port) (counts : Counts) (wire wire_then : W) (call : Call) → Type 0
WasAskedFor Tells Asked port counts wire wire_then call =
    (t : ToldOfPorts) → AreCounted counts t → count_at port counts < most_links → Tells wire t
    → Tells wire_then (told_behind call t) × ((calls : List Call) → Asked wire calls → Asked wire_then (calls ++ call ∷ []))
