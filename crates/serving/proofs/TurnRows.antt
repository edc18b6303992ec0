-- Worked rows of a turn with three links: the first is at its end, the second is owed 20,000 octets,
-- and the third is silent.
use Rattle.std.proofs.Common.{◌≡◌, ◌==◌, ℕ, Bool, true, false, not, min, List, [], ◌∷◌, length, map, None, arith, refl, sym, ap, ◌∙◌, inl}
use Rattle.std.specs.List.{filter}
use Rattle.std.proofs.lemmas.List.Elements.{All-nil, All-cons}
use Rattle.vault.specs.Records.{Records}
use Rattle.office.specs.Events.{EventTag, Log, Trace}
use Rattle.office.specs.Events as event
use Rattle.office.specs.Trace.{is_open, rest}
use Rattle.office.specs.Taken.{trace_of}
use Rattle.serving.specs.declared.wire.Port.TheVariants.{Pop, Admin}
use Rattle.serving.specs.declared.wire.Io.TheVariants.{Count, Later, End}
use Rattle.serving.specs.declared.links.Links.{Links}
use Rattle.serving.specs.declared.links.Seat.{Seat}
use Rattle.serving.specs.Calls.{Call, Waited, Accepted, Read, Wrote, Closed, is_cut, has_moved}
use Rattle.serving.specs.Seen.{Seen, calls_in, trace_after}
use Rattle.serving.specs.Spools.{Next}
use Rattle.serving.specs.Turns.{millis_of, Waits, Ticks, HadItsTurn, Closes}
use Rattle.serving.specs.Works.{had_its_turn, share_by, HasCause, AreCaused, WasLent, is_open_seat, is_shut_seat, link_of_seat}

abbrev ended : Seat
ended = record { link = record { number = 0 }; connection = 1 }

abbrev owed : Seat
owed = record { link = record { number = 1 }; connection = 2 }

abbrev silent : Seat
silent = record { link = record { number = 2 }; connection = 3 }

abbrev seats : List Seat
seats = ended ∷ owed ∷ silent ∷ []

-- The turn waits, and no link comes. The first link is read from and tells its end, so its connection
-- is Gone. On the second one full write takes its share of the 20,000 octets. The third is read from
-- and gives nothing. Then the first is closed, and no file is there.
abbrev turn : (now : ℕ) (octets : List ℕ) (ticked gone taken : EventTag) → Seen
turn now octets ticked gone taken = record {
  wait = Waited 1000 ∷ [];
  tick = (event.Tick now, ticked) ∷ [];
  came = [];
  connects = [];
  accepts = Accepted Pop None ∷ [];
  seats = seats;
  admin_accepts = Accepted Admin None ∷ [];
  held = [];
  served = (event.Took 2 16384, taken) ∷ (event.Gone 1, gone) ∷ [];
  serves = Read Pop ended.link 4096 End [] ∷ Wrote Pop owed.link 16384 (Count 16384) octets
      ∷ Read Pop silent.link 4096 Later [] ∷ [];
  lock_released = false;
  is_preparing = false;
  commands = [];
  admin_serves = [];
  late = [];
  closes = Closed Pop ended.link ∷ [];
  deposits = [];
  file_calls = Next None None ∷ [];
}

kept : (p : Seat → Bool) (s : Seat) (seats : List Seat) → p s ≡ true → filter p (s ∷ seats) ≡ s ∷ filter p seats
kept p s seats e = rw e refl

dropped : (p : Seat → Bool) (s : Seat) (seats : List Seat) → p s ≡ false → filter p (s ∷ seats) ≡ filter p seats
dropped p s seats e = rw e refl

module _ (T : Trace) (now : ℕ) (links links_then : Links) (octets : List ℕ) (ticked gone taken : EventTag) where
  abbrev this : Seen
  this = turn now octets ticked gone taken

  -- ---- it waited once, and told the office its moment once

  waited_once : millis_of links ≡ 1000 → Waits T now links links_then this
  waited_once e = record { first = ap (λ n. Waited n ∷ []) (sym e); once = ap (λ n. n ∷ []) (sym e) }

  ticked_once : Ticks T now links links_then this
  ticked_once = record { event_tag = ticked; first = refl; once = refl }

  -- ---- which connections may end

  -- the first link told its end, which is why its connection goes; nothing else ends one
  end_is_told : is_cut ended.link (calls_in this) ≡ true
  end_is_told = refl

  end_has_a_cause : AreCaused seats (calls_in this) this.served
  end_has_a_cause =
      let P = HasCause seats (calls_in this) in
      All-cons P (event.Took 2 16384, taken) ((event.Gone 1, gone) ∷ []) tt
      (All-cons P (event.Gone 1, gone) [] (ended, (0, omega arith, refl), refl, refl) (All-nil P))

  -- the others told none
  owed_goes_on : is_cut owed.link (calls_in this) ≡ false
  owed_goes_on = refl

  silent_goes_on : is_cut silent.link (calls_in this) ≡ false
  silent_goes_on = refl

  -- ---- each link had its turn

  ended_was_read : HadItsTurn T now links links_then this ended
  ended_was_read here = inl refl

  -- beside others the share is 16,384 octets; after it the next turn may not wait
  share_is_written : millis_of links_then ≡ 0 → HadItsTurn T now links links_then this owed
  share_is_written e here = inl (ap (λ n. had_its_turn (share_by 3) (n == 0) owed.link (calls_in this)) e)

  rest_waits_for_nothing : had_its_turn (share_by 3) false owed.link (calls_in this) ≡ false
  rest_waits_for_nothing = refl

  -- alone it would have been written on further
  alone_has_more : had_its_turn (share_by 1) true owed.link (calls_in this) ≡ false
  alone_has_more = refl

  -- a link that was asked and gave nothing had its turn, whatever the next turn waits
  silent_was_asked : HadItsTurn T now links links_then this silent
  silent_was_asked here = inl refl

  -- ---- which links are closed, and which seats stay

  first_is_closed : is_open (trace_after T this) 1 ≡ false → is_open (trace_after T this) 2 ≡ true → is_open (trace_after T this) 3 ≡ true
      → links_then.clients.seats.items ≡ owed ∷ silent ∷ [] → Closes T now links links_then this
  first_is_closed one two three left =
      let U = trace_after T this in
      record {
        closed = ap (map link_of_seat) (sym (kept (is_shut_seat U) ended (owed ∷ silent ∷ []) (ap not one)
            ∙ ap (λ xs. ended ∷ xs) (dropped (is_shut_seat U) owed (silent ∷ []) (ap not two) ∙ dropped (is_shut_seat U) silent [] (ap not three))));
        left = left ∙ sym (dropped (is_open_seat U) ended (owed ∷ silent ∷ []) one
            ∙ (kept (is_open_seat U) owed (silent ∷ []) two ∙ ap (λ xs. owed ∷ xs) (kept (is_open_seat U) silent [] three)));
      }

  -- ---- what the next turn waits

  -- something moved
  turn_moved : has_moved (calls_in this) ≡ true
  turn_moved = refl

-- ---- what is offered

-- the write was offered all that was lent: 16,384 octets of the 20,000, and the rest in the next turn
full_write_is_offered : (B : Records) (L : Log) → length (rest (trace_of B L) 2) ≡ 20000 → WasLent B L [] seats owed.link 16384
full_write_is_offered B L e = record {
  seat = owed;
  among = (1, omega arith, refl);
  is = refl;
  later = [];
  front = [];
  given_are = refl;
  lent = sym (ap (λ n. min n 16384) e);
}

rest_is_offered : (B : Records) (L : Log) → length (rest (trace_of B L) 2) ≡ 3616 → WasLent B L [] seats owed.link 3616
rest_is_offered B L e = record {
  seat = owed;
  among = (1, omega arith, refl);
  is = refl;
  later = [];
  front = [];
  given_are = refl;
  lent = sym (ap (λ n. min n 16384) e);
}

-- ---- a turn in which nothing moves

-- each link that is left gives and takes nothing: then the next turn waits
abbrev idle_calls : List Call
idle_calls =
    Waited 1000 ∷ Accepted Pop None ∷ Accepted Admin None
    ∷ Wrote Pop owed.link 3616 Later [] ∷ Read Pop silent.link 4096 Later [] ∷ []

idle_turn_rests : has_moved idle_calls ≡ false
idle_turn_rests = refl

idle_links_had_their_turns : had_its_turn (share_by 2) false owed.link idle_calls ≡ true
idle_links_had_their_turns = refl
