-- What follows from a turn's sentences: in which order all of its events and calls came, and that
-- each event has a cause.
use Rattle.std.proofs.Common.{◌≡◌, ℕ, List, [], ◌∷◌, ◌++◌, sym, ◌∙◌, ap, arith, ◌⊎◌, inl, inr, append_assoc, subst, refl, Option, Some, None}
use Rattle.std.specs.List.{All, Contains, filter_map}
use Rattle.std.proofs.lemmas.List.Elements.{All-nil, All-cons, All-append, All-weaker}
use Rattle.office.specs.Events.{Event, EventTag, Log, Trace}
use Rattle.office.specs.Events as event
use Rattle.office.specs.Taken.{trace_of}
use Rattle.serving.specs.Calls.{Call, Waited}
use Rattle.serving.specs.Given.{IsLateGone}
use Rattle.serving.specs.Hearing.{idle_ends, heard_of_all, ends_by, hearings}
use Rattle.office.specs.declared.account.End.TheVariants.{FullHouse, TooLate}
use Rattle.std.specs.declared.net.ip_addr.IpAddr.{IpAddr}
use Rattle.serving.specs.Late.{noted_by}
use Rattle.serving.specs.Room.{GivesPlace, IsGoneOf, HaveRoom, NoneCame, OneCame}
use Rattle.serving.specs.Seen.{Seen, before_commands, before_deposits, given_in, calls_in}
use Rattle.serving.specs.Settings.{settings}
use Rattle.serving.specs.Turns.{millis_of, Waits, Ticks, Accepts, ServesClients, EndsLate, TriesFile}
use Rattle.serving.specs.Works.{HasCause, Came, seat_of}
use Rattle.serving.specs.declared.wire.Link.{Link}
use Rattle.serving.specs.declared.links.Links.{Links}
use Rattle.serving.specs.declared.links.Seat.{Seat}
use Rattle.serving.proofs.Finishing.{deposits_quiet}
use Rattle.serving.proofs.Working.{caused_more}

no_seat : (s : Seat) → Contains [] s → ⊥
no_seat s (k, w, is) = omega (arith, w)

module _ (T : Trace) (now : ℕ) (links links_then : Links) (t : Seen) where
  -- ---- calls

  -- it waited before all else
  pub waited_first : Waits T now links links_then t → (later : List Call) × (calls_in t ≡ Waited (millis_of links) ∷ later)
  waited_first w = (
    (((t.accepts ++ t.admin_accepts) ++ t.serves) ++ t.admin_serves) ++ t.closes,
    ap (λ p. ((((p ++ t.accepts) ++ t.admin_accepts) ++ t.serves) ++ t.admin_serves) ++ t.closes) w.first,
  )

  -- the calls of the administration's links are together, but for those by which they are accepted
  pub calls_in_order : calls_in t ≡ (t.wait ++ t.accepts) ++ (t.admin_accepts ++ (t.serves ++ (t.admin_serves ++ t.closes)))
  calls_in_order =
      append_assoc (((t.wait ++ t.accepts) ++ t.admin_accepts) ++ t.serves) t.admin_serves t.closes
      ∙ (append_assoc ((t.wait ++ t.accepts) ++ t.admin_accepts) t.serves (t.admin_serves ++ t.closes)
      ∙ append_assoc (t.wait ++ t.accepts) t.admin_accepts (t.serves ++ (t.admin_serves ++ t.closes)))

  -- ---- events

  -- the moment, then what clients and the administration did, then the late ones' ends and a file
  pub given_in_order : (k : Ticks T now links links_then t)
      → given_in t ≡ t.deposits ++ (t.late ++ ((t.commands ++ (t.served ++ t.connects)) ++ (event.Tick now, k.event_tag) ∷ []))
  given_in_order k =
      append_assoc t.deposits t.late (t.commands ++ before_commands t)
      ∙ ap (λ g. t.deposits ++ (t.late ++ g)) (ap (λ p. t.commands ++ (t.served ++ (t.connects ++ p))) k.first
      ∙ (ap (λ g. t.commands ++ g) (sym (append_assoc t.served t.connects ((event.Tick now, k.event_tag) ∷ [])))
      ∙ sym (append_assoc t.commands (t.served ++ t.connects) ((event.Tick now, k.event_tag) ∷ []))))

  -- the office was told the moment before all else
  pub told_first : Ticks T now links links_then t → (later : Log) × (m : EventTag) × (given_in t ≡ later ++ (event.Tick now, m) ∷ [])
  told_first k =
      let x : Log = (event.Tick now, k.event_tag) ∷ [] in
      let told : Log = t.commands ++ (t.served ++ t.connects) in (
        t.deposits ++ (t.late ++ told),
        k.event_tag,
        given_in_order k ∙ (ap (λ g. t.deposits ++ g) (sym (append_assoc t.late told x)) ∙ sym (append_assoc t.deposits (t.late ++ told) x)),
      )

  -- the file was tried after all other events
  pub file_is_last : given_in t ≡ t.deposits ++ before_deposits t
  file_is_last = append_assoc t.deposits t.late (t.commands ++ before_commands t)

  -- what a listener hears, by the moment
  pub hearings_by_moment : (k : Ticks T now links links_then t)
      → hearings T links t
      ≡ idle_ends (trace_of T.base ((event.Tick now, k.event_tag) ∷ T.log)) links.clients.seats.items
      ++ (ends_by FullHouse t.connects ++ (heard_of_all T.base (t.connects ++ ((event.Tick now, k.event_tag) ∷ T.log)) (t.commands ++ t.served) ++ ends_by TooLate t.late))
  hearings_by_moment k =
      ap (λ g. idle_ends (trace_of T.base (g ++ T.log)) links.clients.seats.items
      ++ (ends_by FullHouse t.connects ++ (heard_of_all T.base (t.connects ++ (g ++ T.log)) (t.commands ++ t.served) ++ ends_by TooLate t.late))) k.first

  -- ---- causes

  -- A connection goes because a newcomer gets its place, after these events of the links that came.
  pub record GaveItsPlace (c : ℕ) : Type 0 where
    pub seat : Seat
    pub is : seat.connection ≡ c
    pub came : List Came
    pub earlier : Log
    pub addresses : Link → Option IpAddr
    pub gives : GivesPlace (settings links).make_room (trace_of T.base (earlier ++ (t.tick ++ T.log))) addresses (links.clients.seats.items ++ filter_map seat_of came) (Some seat)

  abbrev pub IsForRoom : Event × EventTag → Type 0
  IsForRoom (event.Gone c, m) = GaveItsPlace c
  IsForRoom _ = ⊥

  -- no connection goes but by its link's end, because its client is late, or because a newcomer gets
  -- its place
  abbrev pub HasCauseInTurn : Event × EventTag → Type 0
  HasCauseInTurn x = HasCause t.seats (calls_in t) x ⊎ (IsLateGone now (settings links).login_seconds (noted_by links) x ⊎ IsForRoom x)

  gone_for_room : (who : Option Seat) (came : List Came) (given gone : Log) (addresses : Link → Option IpAddr)
      → GivesPlace (settings links).make_room (trace_of T.base (given ++ (t.tick ++ T.log))) addresses (links.clients.seats.items ++ filter_map seat_of came) who
      → IsGoneOf who gone → All HasCauseInTurn gone
  gone_for_room None came given gone addresses gives e = subst (All HasCauseInTurn) (sym e) (All-nil HasCauseInTurn)
  gone_for_room (Some s) came given gone addresses gives (m, e) =
      subst (All HasCauseInTurn) (sym e)
      (All-cons HasCauseInTurn (event.Gone s.connection, m) []
      (inr (inr (record { seat = s; is = refl; came = came; earlier = given; addresses = addresses; gives = gives }))) (All-nil HasCauseInTurn))

  made_room : (came : List Came) (given : Log) → HaveRoom (settings links).make_room T.base (t.tick ++ T.log) links.clients.seats.items came given → All HasCauseInTurn given
  made_room _ _ NoneCame = All-nil HasCauseInTurn
  made_room _ _ (OneCame addresses who last came came_then given gone m rest gives is e) =
      All-cons HasCauseInTurn (event.Connect, m) (gone ++ given) (inl tt)
      (All-append HasCauseInTurn gone given (gone_for_room who came given gone addresses gives is) (made_room came given rest))

  pub all_caused : Ticks T now links links_then t → Accepts T now links links_then t → ServesClients T now links links_then t → EndsLate T now links links_then t
      → TriesFile T now links links_then t → All HasCauseInTurn (given_in t)
  all_caused k accepts clients late file =
      let P = HasCause t.seats (calls_in t) in
      let by_cause : (g : Log) → All P g → All HasCauseInTurn g = λ g h. All-weaker P HasCauseInTurn (λ y p. inl p) g h in
      let x : Log = (event.Tick now, k.event_tag) ∷ [] in
      let served : Log = t.commands ++ t.served in
      let told : Log = t.commands ++ (t.served ++ t.connects) in
      let of_deposits : All HasCauseInTurn t.deposits =
      by_cause t.deposits (caused_more [] t.seats [] (calls_in t) t.deposits (λ q h. absurd (no_seat q h)) (λ l h. cc) (deposits_quiet t.deposits file.deposits).caused) in
      let of_late : All HasCauseInTurn t.late =
      All-weaker (IsLateGone now (settings links).login_seconds (noted_by links)) HasCauseInTurn (λ y p. inr (inl p)) t.late late.gone in
      let of_moment : All HasCauseInTurn x = by_cause x (All-cons P (event.Tick now, k.event_tag) [] tt (All-nil P)) in
      let of_told : All HasCauseInTurn told = subst (All HasCauseInTurn) (append_assoc t.commands t.served t.connects)
      (All-append HasCauseInTurn served t.connects (by_cause served clients.caused) (made_room t.came t.connects accepts.room)) in
      subst (All HasCauseInTurn) (sym (given_in_order k))
      (All-append HasCauseInTurn t.deposits (t.late ++ (told ++ x)) of_deposits
      (All-append HasCauseInTurn t.late (told ++ x) of_late (All-append HasCauseInTurn told x of_told of_moment)))
