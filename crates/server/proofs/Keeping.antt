-- What a store keeps before and after `popbox serve`.
use Rattle.std.proofs.Common.{[], None}
use Rattle.vault.specs.Changes.{Contents}
use Rattle.office.specs.Events.{Trace}
use Rattle.office.specs.Stands.{Keeps}
use Rattle.recent.specs.Recalling.{HoldsFitting}

-- a store keeps what another one kept, if it holds what that one held
pub keeps_so : (Holds Holds1 : Contents → Type 0) (T : Trace) → ((c : Contents) → Holds c → Holds1 c) → Keeps Holds T → Keeps Holds1 T
keeps_so Holds Holds1 T so k = record { contents = k.contents; held = so k.contents k.held; agree = k.agree; sound = k.sound; formed = k.formed; began = k.began }

-- what is held, if nothing of it is kept beside it
pub fits_none : (Holds : Contents → Type 0) (c : Contents) → Holds c → HoldsFitting Holds [] None c
fits_none Holds c held = record { inside = held; fits = tt; sums = tt }
