-- The bodies of requests: a clerk's credential, and a policy's text.
use Rattle.std.specs.Prelude.{ℕ, ◌-◌, nat_le, nat_eq, List, codes, length, take, drop, Option, None, option_map, Result, Ok, Err, if◌then◌else◌}
use Rattle.std.specs.List.{starts_with, ends_with}
use Rattle.std.specs.Str.{is_utf8}
use Rattle.creds.specs.Digests.{pass_digest}
use Rattle.creds.specs.Names.{secret_of}
use Rattle.creds.specs.declared.credential.Credential.{Credential}
use Rattle.creds.specs.declared.credential.Credential.TheVariants.{Apop, Pass}
use Rattle.policy.specs.Policy.{Policy}
use Rattle.policy.specs.PolicyText.{rules_of}
use Rattle.policy.specs.declared.fault.PolicyFault.{PolicyFault}
use Rattle.policy.specs.declared.fault.PolicyFault.TheVariants.{NotToml, NoMemory}
use Rattle.adminhttp.specs.Steps.{◌>>=◌}
use Rattle.adminhttp.specs.Fields.{Header, body_length}
use Rattle.adminhttp.specs.declared.no_command.NoCommand.{NoCommand}
use Rattle.adminhttp.specs.declared.no_command.NoCommand.TheVariants as stop
use Rattle.adminhttp.specs.declared.no_command.NoCommand.TheVariants.{More, BadPolicy}

-- the first n octets; until they have come, more is to come
abbrev pub first_octets : (n : ℕ) → List ℕ → Result (List ℕ) NoCommand
first_octets n octets = if nat_le n (length octets) then Ok (take n octets) else Err More

-- the body: as many of the octets after the head as its length says
unfoldable pub body_of : List Header → (behind : List ℕ) → Result (List ℕ) NoCommand
body_of headers behind = do
  n ← body_length headers
  first_octets n behind

-- a text without the LF, or the CR LF, at its end
unfoldable pub without_line_end : List ℕ → List ℕ
without_line_end text =
    if ends_with nat_eq text (codes "\r\n") then take (length text - 2) text
    else if ends_with nat_eq text (codes "\n") then take (length text - 1) text
    else text

-- a clerk's credential, `apop SECRET` or `pass PASSWORD`
unfoldable pub credential_of : (clerk : List ℕ) → List ℕ → Option Credential
credential_of clerk text =
    if starts_with nat_eq text (codes "apop ") then option_map Apop (secret_of (drop 5 text))
    else if starts_with nat_eq text (codes "pass ") then option_map (λ s. Pass (pass_digest clerk s)) (secret_of (drop 5 text))
    else None

-- a policy, or the stop for its first fault
abbrev pub or_fault : Result Policy PolicyFault → Result Policy NoCommand
or_fault (Ok policy) = Ok policy
or_fault (Err fault) = Err (BadPolicy fault)

-- the policy that a body spells; a body that isn't UTF-8 is no TOML
unfoldable pub policy_of : List ℕ → Result Policy NoCommand
policy_of body = if is_utf8 body then or_fault (rules_of body) else Err (BadPolicy NotToml)

-- the stop for a policy's fault; want of memory is named as that
abbrev pub no_command_of : PolicyFault → NoCommand
no_command_of NoMemory = stop.NoMemory
no_command_of fault = BadPolicy fault
