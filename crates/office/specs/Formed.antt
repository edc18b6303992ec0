-- The form that an event's values have by their types.
use Rattle.std.specs.Prelude.{ℕ, Bool, true, ◌&&◌, ◌^◌, nat_lt, nat_le, [], ◌∷◌}
use Rattle.creds.specs.Names.{is_name, is_host, is_deposit_id}
use Rattle.policy.specs.Policy.{is_sound_policy}
use Rattle.vault.specs.Records.{is_sound_credential}
use Rattle.office.specs.Answers.{AdminCommand, AddMaildrop, PutClerk, SetPolicy}
use Rattle.office.specs.Events.{Event, Ignored, Tagged, Log}
use Rattle.office.specs.Log.{next_number}
use Rattle.office.specs.Events as event

-- ---- the form of an event's values

-- a command whose names, credential and policy have their form
abbrev pub is_formed_command : AdminCommand → Bool
is_formed_command (SetPolicy policy) = is_sound_policy policy
is_formed_command (AddMaildrop d) = is_name d
is_formed_command (PutClerk name credential) = is_name name && is_sound_credential credential
is_formed_command _ = true

-- a number below 2^64
abbrev pub is_u64 : ℕ → Bool
is_u64 n = nat_lt n (2 ^ 64)

-- an event's values have their form, and so has the number that a connection gets
abbrev pub is_formed : Log → Event → Bool
is_formed T (event.Start host boot limits) =
    is_host host && is_u64 boot && nat_le 600 limits.idle && nat_le limits.idle 86400
is_formed T (event.Restart boot) = is_u64 boot
is_formed T event.Connect = is_u64 (next_number T)
is_formed T (event.Deposit d class id text) = is_name d && is_name class && is_deposit_id id
is_formed T (event.Admin command) = is_formed_command command
is_formed T _ = true

-- each event that wasn't ignored has its form
abbrev pub are_formed : Log → Bool
are_formed [] = true
are_formed ((e, Ignored) ∷ T) = are_formed T
are_formed ((e, Tagged t) ∷ T) = is_formed T e && are_formed T
