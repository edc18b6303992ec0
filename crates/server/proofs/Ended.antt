-- What a server's status says of the events that its office was given.
use Rattle.std.proofs.Common.{◌≡◌, ◌≤◌, ◌+◌, ℕ, suc, Bool, List, [], ◌∷◌, ◌++◌, length, length-append, Result, Option, Some, None, true, false, refl, sym, ◌∙◌, ap, subst, arith}
use Rattle.std.proofs.lemmas.List.Elements.{filter_map-append}
use Rattle.vault.specs.declared.vault.Vault as a_vault
use Rattle.office.specs.Events.{Log, Trace}
use Rattle.office.specs.declared.office.Office.{Office}
use Rattle.serving.specs.Calls.{Call}
use Rattle.serving.specs.Given.{moment_of, moments}
use Rattle.serving.specs.Hearing.{Hearing}
use Rattle.serving.specs.Running.{AreTurns, NoTurn, OneMore}
use Rattle.serving.specs.Seen.{given_in}
use Rattle.serving.specs.Spools.{FileCall}
use Rattle.serving.specs.declared.links.Links.{Links}
use Rattle.serving.specs.declared.listener.Listener as a_listener
use Rattle.serving.specs.declared.spool.Spool as a_spool
use Rattle.serving.specs.declared.wire.Wire as a_wire
use Rattle.converse.specs.declared.fault.Fault.{Fault}
use Rattle.server.specs.Served.{HasServed, HasNoSite, HasNoClock, HasEnded, answer_by, HasServedAnew, HasServedLinks, OverSockets, BehindProxy, HasListened, WasRefused, WasUnsaid, WasEnded}
use Rattle.server.specs.Served.{IsStatus, IsAsAnswered, IsLost, IsStatusAfter, HasDone, HasCome, HasNoTime, HasNotBegun, IsNoSite, HasEndedBy}
use Rattle.server.specs.Served.{HasServedStore, WithoutLimits, WithoutMemory, WithoutOffice, WithOffice}
use Rattle.server.specs.Served.{IsServed, NotOpened, Opened, HasRunBy, turns_by}
use Rattle.arguments.specs.declared.options.ServeOptions.{ServeOptions}
use Rattle.server.specs.declared.serve.Stop.{Stop}
use Rattle.server.specs.declared.serve.Stop.TheVariants as why
use Rattle.std.specs.Prelude.{is_some}

-- each turn gives one Tick
turn_moments : {V W S H : Type 0} (vault : a_vault.Ghosts V) (Asked : W → List Call → Type 0) (AskedFiles : S → List FileCall → Type 0)
    (Heard : H → List Hearing → Type 0) (T : Trace)
    (l : Links) (o : Office V) (w : W) (s : S) (h : H) (times : List ℕ) (row : ℕ) (given : Log) (l2 : Links) (o2 : Office V) (w2 : W) (s2 : S) (h2 : H)
    → AreTurns vault Asked AskedFiles Heard T l o w s h times row given l2 o2 w2 s2 h2 → length (moments given) ≡ length times
turn_moments vault Asked AskedFiles Heard T l o w s h _ _ _ _ _ _ _ _ NoTurn = refl
turn_moments vault Asked AskedFiles Heard T l o w s h _ _ _ _ _ _ _ _ (OneMore times row given l1 o1 w1 s1 h1 now l2 o2 w2 s2 h2 l3 o3 s3 before turn left paused few) =
    (let one : length (moments (given_in turn.seen ++ given)) ≡ suc (length (moments given)) =
    ap length (filter_map-append moment_of (given_in turn.seen) given) ∙ ap (λ xs. length (xs ++ moments given)) turn.ticks.once in
    let rest : length (moments given) ≡ length times = turn_moments vault Asked AskedFiles Heard T l o w s h times row given l1 o1 w1 s1 h1 before in
    let more : length (times ++ now ∷ []) ≡ length times + 1 = length-append times (now ∷ []) in
    omega (arith, one, rest, more))

module _ {V W S H : Type 0} (vault : a_vault.Ghosts V) (wires : a_wire.Ghosts W) (spools : a_spool.Ghosts S) (listeners : a_listener.Ghosts H)
    (T : Trace) (options : ServeOptions) (office : Office V) where
  ran_turns : (wire : W) (spool : S) (listener : H) (stopped : Bool) (o : Office V) (w : W) (s : S) (h : H) (given : Log)
      → (run : HasRunBy vault wires spools listeners T options office wire spool listener stopped o w s h given) → length (moments given) ≡ length run.moments
  ran_turns wire spool listener stopped o w s h given run =
      turn_moments vault wires.asked spools.asked listeners.heard T run.links office wire spool listener run.moments run.row given run.links_then o run.wire_left s h run.turns

  -- what a loop did that ran by the options
  ran_ended : (wire : W) (spool : S) (listener : H) (stop : Option Stop) (o : Office V) (w : W) (s : S) (h : H) (given : Log)
      → HasRunBy vault wires spools listeners T options office wire spool listener (is_some stop) o w s h given → IsStatusAfter options (answer_by stop) given
  ran_ended wire spool listener None o w s h given run = HasDone given (ran_turns wire spool listener false o w s h given run ∙ run.all refl)
  ran_ended wire spool listener (Some why.StoreLost) o w s h given run = HasCome given
  ran_ended wire spool listener (Some why.NoTime) o w s h given run = HasNoTime given

  -- what one did, by its answer
  loop_ended : (wire : W) (spool : S) (listener : H) (answer : Result ℕ Fault) (o : Office V) (w : W) (s : S) (h : H) (given : Log)
      → HasServed vault wires spools listeners T options office wire spool listener answer o w s h given → HasEndedBy options answer given
  loop_ended wire spool listener _ _ _ _ _ _ (HasNoSite met is) = record { within = omega arith; ended = HasNotBegun met (IsNoSite met is) }
  loop_ended wire spool listener _ _ _ _ _ _ HasNoClock = record { within = omega arith; ended = HasNoTime [] }
  loop_ended wire spool listener _ _ _ _ _ _ (HasEnded stop o w s h given run) = record {
    within = subst (λ n. n ≤ turns_by options.turns) (sym (ran_turns wire spool listener (is_some stop) o w s h given run)) run.within;
    ended = ran_ended wire spool listener stop o w s h given run;
  }

  anew_ended : (wire : W) (answer : Result ℕ Fault) (o : Office V) (given : Log)
      → HasServedAnew vault wires spools listeners T options office wire answer o given → HasEndedBy options answer given
  anew_ended wire answer o given a = loop_ended wire a.spool a.listener answer o a.wire_then a.spool_then a.listener_then given a.served

-- a store that was lost leaves the events as they were
status_ended : (options : ServeOptions) (answer status : Result ℕ Fault) (given : Log) → HasEndedBy options answer given → IsStatus answer status → HasEndedBy options status given
status_ended options _ _ given e (IsAsAnswered answer) = e
status_ended options _ _ given e (IsLost answer) = record { within = e.within; ended = HasCome given }

module _ {V W P S H : Type 0} (vault : a_vault.Ghosts V) (sockets : a_wire.Ghosts W) (proxied : a_wire.Ghosts P) (spools : a_spool.Ghosts S) (listeners : a_listener.Ghosts H)
    (T : Trace) (options : ServeOptions) (office : Office V) where
  links_ended : (wire : W) (answer : Result ℕ Fault) (o : Office V) (given : Log)
      → HasServedLinks vault sockets proxied spools listeners T options office wire answer o given → HasEndedBy options answer given
  links_ended wire answer o given (OverSockets off anew) = anew_ended vault sockets spools listeners T options office wire answer o given anew
  links_ended wire answer o given (BehindProxy proxy on unasked anew) = anew_ended vault proxied spools listeners T options office proxy answer o given anew

  -- what a server did
  pub listened_ended : (status : Result ℕ Fault) (o : Office V) (given : Log)
      → HasListened vault sockets proxied spools listeners T options office status o given → HasEndedBy options status given
  listened_ended _ _ _ WasRefused = record { within = omega arith; ended = HasCome [] }
  listened_ended _ _ _ (WasUnsaid met why) = record { within = omega arith; ended = HasNotBegun met why }
  listened_ended _ _ _ (WasEnded wire answer status o given unasked served is) =
      status_ended options answer status given (links_ended wire answer o given served) is

-- what it did over its store, without its status
pub is_served : (options : ServeOptions) (boot : ℕ) (T : Trace) (first last : ℕ) (status : Result ℕ Fault) (U : Trace)
    → HasServedStore options boot T first last status U → IsServed options boot T U
is_served options boot T first last _ _ (WithoutLimits none) = NotOpened
is_served options boot T first last _ _ WithoutMemory = NotOpened
is_served options boot T first last _ _ (WithoutOffice why host store) = NotOpened
is_served options boot T first last _ _ (WithOffice status given admitted failed ended) = Opened given admitted
