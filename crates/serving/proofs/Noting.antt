-- What calls tell, one call further.
use Rattle.std.proofs.Common.{◌≡◌, refl, sym, ◌∙◌, ap, ℕ, ◌+◌, Bool, true, false, List, [], ◌∷◌, ◌++◌, Option, Some, None, subst}
use Rattle.std.specs.Prelude.{IfSome, MatchOption, option_map, if◌then◌else◌}
use Rattle.serving.specs.Wires.{Told, ToldOfPorts, IsAccepted, IsFresh, at_port, has_read, has_written, has_closed}
use Rattle.serving.specs.Calls.{Call, Accepted, Read, Wrote, Closed}
use Rattle.serving.specs.Counting.{AreCounted, count_at, counted_with, one_more_at}
use Rattle.serving.specs.Noted.{nothing, told_since, told_behind, told_of}
use Rattle.serving.specs.NotedWires.{AreTold}
use Rattle.serving.specs.Spools.{FileAct, WasRead, WasRemoved, WasRenamed, FileCall}
use Rattle.serving.specs.Spools as file
use Rattle.serving.specs.NotedFiles.{acts_since, acts_behind, acts_of}
use Rattle.serving.specs.declared.wire.Link.{Link}
use Rattle.serving.specs.declared.wire.Io.{Io}
use Rattle.serving.specs.declared.wire.Port.{Port}
use Rattle.serving.specs.declared.wire.Port.TheVariants.{Pop, Admin}
use Rattle.serving.specs.declared.counts.Counts.{Counts}
use Rattle.serving.specs.declared.file_name.FileName.{FileName}

-- ---- of a wire

told_further : (t : ToldOfPorts) (calls : List Call) (c : Call) → told_since t (calls ++ c ∷ []) ≡ told_behind c (told_since t calls)
told_further t [] c = refl
told_further t (d ∷ calls) c = told_further (told_behind d t) calls c

-- one call more
told_on : (calls calls_then : List Call) (c : Call) (t : ToldOfPorts) → calls_then ≡ calls ++ c ∷ [] → t ≡ told_of calls → told_behind c t ≡ told_of calls_then
told_on calls calls_then c t more h = ap (told_behind c) h ∙ sym (told_further (record { pop = nothing; admin = nothing }) calls c) ∙ ap told_of (sym more)

pub tells_on : (counts : Counts) (calls calls_then : List Call) (c : Call) (t : ToldOfPorts)
    → calls_then ≡ calls ++ c ∷ [] → AreTold counts calls t → AreCounted counts (told_behind c t) → AreTold counts calls_then (told_behind c t)
tells_on counts calls calls_then c t more h counted = (told_on calls calls_then c t more h.0, counted)

-- what changes no count
still_counted : (counts : Counts) (p : Port) (change : Told → Told) (t : ToldOfPorts)
    → ((u : Told) → (change u).accepted ≡ u.accepted) → AreCounted counts t → AreCounted counts (at_port p change t)
still_counted counts Pop change t keeps h = (h.0 ∙ sym (keeps t.pop), h.1)
still_counted counts Admin change t keeps h = (h.0, h.1 ∙ sym (keeps t.admin))

-- a read
pub tells_read : (counts : Counts) (calls calls_then : List Call) (p : Port) (link : Link) (room : ℕ) (io : Io) (octets : List ℕ) (t : ToldOfPorts)
    → calls_then ≡ calls ++ Read p link room io octets ∷ [] → AreTold counts calls t → AreTold counts calls_then (at_port p (λ of. has_read of link.number io octets) t)
tells_read counts calls calls_then p link room io octets t more h =
    tells_on counts calls calls_then (Read p link room io octets) t more h
    (still_counted counts p (λ of. has_read of link.number io octets) t (λ u. refl) h.1)

-- a write
pub tells_write : (counts : Counts) (calls calls_then : List Call) (p : Port) (link : Link) (offered : ℕ) (io : Io) (octets : List ℕ) (t : ToldOfPorts)
    → calls_then ≡ calls ++ Wrote p link offered io octets ∷ [] → AreTold counts calls t → AreTold counts calls_then (at_port p (λ of. has_written of link.number io octets) t)
tells_write counts calls calls_then p link offered io octets t more h =
    tells_on counts calls calls_then (Wrote p link offered io octets) t more h
    (still_counted counts p (λ of. has_written of link.number io octets) t (λ u. refl) h.1)

-- a link is closed
pub tells_close : (counts : Counts) (calls calls_then : List Call) (p : Port) (link : Link) (t : ToldOfPorts)
    → calls_then ≡ calls ++ Closed p link ∷ [] → AreTold counts calls t → AreTold counts calls_then (at_port p (λ of. has_closed of link.number) t)
tells_close counts calls calls_then p link t more h =
    tells_on counts calls calls_then (Closed p link) t more h
    (still_counted counts p (λ of. has_closed of link.number) t (λ u. refl) h.1)

-- a link that was accepted
accepted_on : (counts : Counts) (calls calls_then : List Call) (p : Port) (link : Link) (t : ToldOfPorts)
    → link.number ≡ count_at p counts → calls_then ≡ calls ++ Accepted p (Some link) ∷ [] → AreTold counts calls t
    → IsAccepted (AreTold (one_more_at p counts) calls_then) p t (Some link)
accepted_on counts calls calls_then Pop link t next more h =
    (next ∙ h.1.0, (told_on calls calls_then (Accepted Pop (Some link)) t more h.0, (ap (λ n. n + 1) h.1.0, h.1.1)))
accepted_on counts calls calls_then Admin link t next more h =
    (next ∙ h.1.1, (told_on calls calls_then (Accepted Admin (Some link)) t more h.0, (h.1.0, ap (λ n. n + 1) h.1.1)))

-- or none
pub tells_accept : (counts counts_then : Counts) (calls calls_then : List Call) (p : Port) (link : Option Link) (t : ToldOfPorts)
    → counts_then ≡ counted_with p link counts → IfSome link (λ l. l.number ≡ count_at p counts) → calls_then ≡ calls ++ Accepted p link ∷ [] → AreTold counts calls t
    → IsAccepted (AreTold counts_then calls_then) p t link
tells_accept counts counts_then calls calls_then p None t is next more h =
    subst (λ k. AreTold k calls_then t) (sym is) (tells_on counts calls calls_then (Accepted p None) t more h h.1)
tells_accept counts counts_then calls calls_then p (Some link) t is next more h =
    subst (λ k. IsAccepted (AreTold k calls_then) p t (Some link)) (sym is) (accepted_on counts calls calls_then p link t next more h)

-- of nothing
pub fresh : IsFresh nothing
fresh = record { accepted = refl; read = λ k. refl; written = λ k. refl; straight = refl }

-- ---- of a spool

acts_further : (acts : List FileAct) (calls : List FileCall) (c : FileCall) → acts_since acts (calls ++ c ∷ []) ≡ acts_behind c (acts_since acts calls)
acts_further acts [] c = refl
acts_further acts (d ∷ calls) c = acts_further (acts_behind d acts) calls c

-- one call more
pub files_on : (calls calls_then : List FileCall) (c : FileCall) (a : List FileAct) → calls_then ≡ calls ++ c ∷ [] → a ≡ acts_of calls → acts_behind c a ≡ acts_of calls_then
files_on calls calls_then c a more h = ap (acts_behind c) h ∙ sym (acts_further [] calls c) ∙ ap acts_of (sym more)

-- a file is read, or isn't
pub files_read : {V : Type 0} (items : V → List ℕ) (name : FileName) (calls calls_then : List FileCall) (text : Option V) (a : List FileAct)
    → calls_then ≡ calls ++ file.Read name (option_map items text) ∷ [] → a ≡ acts_of calls
    → MatchOption text (a ≡ acts_of calls_then) (λ x. a ++ WasRead name (items x) ∷ [] ≡ acts_of calls_then)
files_read items name calls calls_then None a more h = files_on calls calls_then (file.Read name None) a more h
files_read items name calls calls_then (Some x) a more h = files_on calls calls_then (file.Read name (Some (items x))) a more h

-- it is removed, or isn't
pub files_removed : (name : FileName) (calls calls_then : List FileCall) (is_done : Bool) (a : List FileAct)
    → calls_then ≡ calls ++ file.Removed name is_done ∷ [] → a ≡ acts_of calls
    → (if is_done then a ++ WasRemoved name ∷ [] else a) ≡ acts_of calls_then
files_removed name calls calls_then true a more h = files_on calls calls_then (file.Removed name true) a more h
files_removed name calls calls_then false a more h = files_on calls calls_then (file.Removed name false) a more h

-- it is renamed, or isn't
pub files_renamed : (name : FileName) (calls calls_then : List FileCall) (is_done : Bool) (a : List FileAct)
    → calls_then ≡ calls ++ file.Renamed name is_done ∷ [] → a ≡ acts_of calls
    → (if is_done then a ++ WasRenamed name ∷ [] else a) ≡ acts_of calls_then
files_renamed name calls calls_then true a more h = files_on calls calls_then (file.Renamed name true) a more h
files_renamed name calls calls_then false a more h = files_on calls calls_then (file.Renamed name false) a more h
