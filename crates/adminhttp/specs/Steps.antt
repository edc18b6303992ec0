-- Steps of which the first that fails ends the reading.
use Rattle.std.specs.Prelude.{Option, Some, None, Result, Ok, Err}
use Rattle.adminhttp.specs.declared.refusal.Refusal.{Refusal}
use Rattle.adminhttp.specs.declared.no_command.NoCommand.{NoCommand}
use Rattle.adminhttp.specs.declared.no_command.NoCommand.TheVariants.{Bad}

-- `?` on a `Result`
infixl 10 ◌>>=◌
abbrev pub ◌>>=◌ : {A B E : Type 0} → Result A E → (A → Result B E) → Result B E
Ok x >>= f = f x
Err e >>= f = Err e

-- the value changed by a function
abbrev pub map_ok : {A B E : Type 0} → (A → B) → Result A E → Result B E
map_ok f (Ok x) = Ok (f x)
map_ok f (Err e) = Err e

-- the value, or this refusal if there is none
abbrev pub value_or : {A : Type 0} → Option A → Refusal → Result A NoCommand
value_or (Some value) refusal = Ok value
value_or None refusal = Err (Bad refusal)
