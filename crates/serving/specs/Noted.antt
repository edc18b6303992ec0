-- What the calls of a wire tell of its traffic.
use Rattle.std.specs.Prelude.{ℕ, false, List, [], ◌∷◌, length, map, Some}
use Rattle.serving.specs.Wires.{Told, ToldOfPorts, at_port, counted, has_accepted, has_read, has_written, has_closed}
use Rattle.serving.specs.Calls.{Call, Waited, Accepted, Looked, Read, Wrote, Closed}
use Rattle.notes.specs.declared.Notes.{Notes}
use Rattle.serving.specs.declared.wire_notes.WireCall.{WireCall}
use Rattle.serving.specs.declared.wire_notes.WireCall.TheVariants as asked

-- of a port, if nothing was asked
abbrev pub nothing : Told
nothing = record { accepted = 0; read = λ k. []; written = λ k. []; over = λ k. false; strayed = false }

-- after a call
abbrev pub told_behind : Call → ToldOfPorts → ToldOfPorts
told_behind (Accepted port (Some link)) t = at_port port has_accepted t
told_behind (Read port link room io octets) t =
    at_port port (λ of. has_read of link.number io octets) t
told_behind (Wrote port link offered io octets) t = at_port port (λ of. has_written of link.number io octets) t
told_behind (Closed port link) t = at_port port (λ of. has_closed of link.number) t
told_behind _ t = t

-- after calls, the newest last
abbrev pub told_since : ToldOfPorts → List Call → ToldOfPorts
told_since t [] = t
told_since t (c ∷ calls) = told_since (told_behind c t) calls

-- of all calls that were made
abbrev pub told_of : List Call → ToldOfPorts
told_of calls = told_since (record { pop = nothing; admin = nothing }) calls

-- a call, as it is noted with the octets of its buffer
abbrev pub call_of : WireCall → List ℕ → Call
call_of (asked.Wait millis) octets = Waited millis
call_of (asked.Accept port link) octets = Accepted port link
call_of (asked.Look port link io) octets = Looked port link io (counted io octets)
call_of (asked.Read port link room io) octets = Read port link room io (counted io octets)
call_of (asked.Write port link io) octets = Wrote port link (length octets) io (counted io octets)
call_of (asked.Close port link) octets = Closed port link

-- what the notes of a wire say
pub record NotedCalls : Type 0 where
  pub calls : List Call

-- the calls that were noted, each with its octets
abbrev pub calls_of : List (WireCall × Notes ℕ) → List Call
calls_of noted = map (λ n. call_of n.0 n.1.items) noted
