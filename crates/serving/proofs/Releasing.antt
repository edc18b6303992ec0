-- Sessions that end while links are served, after which logins are kept back.
use Rattle.vault.specs.declared.vault.Vault.{Ghosts}
use Rattle.std.proofs.Common.{◌≡◌, ℕ, ◌+◌, ◌<◌, ◌≤◌, ◌||◌, Bool, true, false, List, [], ◌∷◌, ◌++◌, length, take, get_or, refl, sym, ◌∙◌, ap, ◌⊎◌, ⊎_elim, subst, true≢false}
use Rattle.office.specs.Events.{Log, Trace}
use Rattle.office.specs.Trace.{history}
use Rattle.office.specs.Sessions.{live}
use Rattle.office.specs.Taken.{trace_of}
use Rattle.office.specs.Stands.{StandsFor, vault_of}
use Rattle.vault.specs.Records.{Records}
use Rattle.office.specs.declared.office.Office.{Office}
use Rattle.serving.specs.Calls.{Call}
use Rattle.serving.specs.declared.links.Seat.{Seat}
use Rattle.serving.specs.declared.links.Clients.{Clients}
use Rattle.serving.specs.InOrder.{ServesSeat, ServesInOrder, NoSeat}
use Rattle.serving.specs.Paces.{releases_lock}
use Rattle.serving.specs.Settings.{Settings, settings_of}
use Rattle.serving.specs.Parts.{WasGiven}
use Rattle.serving.specs.ClientParts.{HadTurns, WereServed, may_at, way_at}
use Rattle.serving.specs.Quits.{AwaitsQuit, SomeAwaitsQuit}
use Rattle.serving.proofs.Awaiting.{some_before, some_now}
use Rattle.serving.specs.Works.{share_by}
use Rattle.serving.specs.Ways.{way_by}
use Rattle.serving.specs.Newcomers.{newcomer, lies_unread}
use Rattle.serving.specs.declared.newcomers.Newcomer.{Newcomer}
use Rattle.serving.proofs.Ordered.{in_order_more}
use Rattle.serving.proofs.Seating.{any_default, whole_front}
use Rattle.serving.proofs.Turns.{line_more, served_so, served_none, served_more, served_whole}
use Rattle.serving.proofs.Settling.{AreTouched, may_more, may_then}
use Rattle.std.proofs.lemmas.List.Elements.{All-nil, All-cons}

-- ---- truths

or_more : (x y z : Bool) → (y ≡ true → z ≡ true) → (x || y) ≡ true → (x || z) ≡ true
or_more true y z h e = refl
or_more false y z h e = h e

-- what holds of the seat at a place, whatever stands for none
pub at_place : (xs ys : List Seat) (i : ℕ) (e : Seat) (P : Seat → Type 0) → ys ≡ xs → i < length xs → P (get_or ys i e) → (d : Seat) → P (get_or xs i d)
at_place xs ys i e P is h p d = subst P (ap (λ zs. get_or zs i e) is ∙ any_default xs i e d h) p

module _ {V : Type 0} (vault : Ghosts V) where
  -- ---- all links

  pub were_none : (o : Office V) (set : Settings) (m : ℕ) (ns : List Newcomer) (is_preparing poll_now : Bool) (noted : List Newcomer) (seats : List Seat) → is_preparing ≡ false
      → WereServed vault.holds vault.is_clean o o set m ns false is_preparing poll_now noted seats [] [] []
  were_none o set m ns is_preparing poll_now noted seats none = record {
    turns = served_none vault o (way_by set m ns seats false is_preparing poll_now) noted seats;
    in_order = λ B L s k. NoSeat;
    awaits = λ e. absurd (true≢false (sym e ∙ none));
  }

  pub were_next : (o o1 o2 : Office V) (set : Settings) (m : ℕ) (ns noted : List Newcomer) (seats : List Seat) (now : Clients)
      (was_preparing lock_released is_preparing poll_now : Bool) (i : ℕ) (d : Seat) (g1 g2 : Log) (c1 c2 : List Call)
      → settings_of now ≡ set → now.seats.items ≡ seats → i < length now.seats.items
      → (now.lock_released ≡ true → lock_released ≡ true) → (was_preparing ≡ true → is_preparing ≡ true) → (now.poll_now ≡ true → poll_now ≡ true)
      → ((T U : Trace) → StandsFor vault.holds o1 T → StandsFor vault.holds o2 U
      → lock_released ≡ (now.lock_released || releases_lock now.wait (live (history T) (get_or now.seats.items i d).connection) (live (history U) (get_or now.seats.items i d).connection)))
      → ((c : ℕ) → lies_unread (newcomer c noted) ≡ true → (lies_unread (newcomer c now.newcomers.newcomers.items) ≡ true) ⊎ (c ≡ (get_or now.seats.items i d).connection))
      → AreTouched ns now.newcomers.newcomers.items (take i seats)
      → WasGiven vault o o1 g1 → WasGiven vault o1 o2 g2
      → WereServed vault.holds vault.is_clean o o1 set m ns now.lock_released was_preparing now.poll_now now.newcomers.newcomers.items seats (take i seats) g1 c1
      → HadTurns vault.holds vault.is_clean o1 o2 (way_at m now is_preparing poll_now) noted now.seats.items (get_or now.seats.items i d ∷ []) g2 c2
      → ServesSeat (get_or now.seats.items i d) 1 128 g2 c2
      → (is_preparing ≡ true → (was_preparing ≡ true)
      ⊎ ((B : Records) (L : Log) → StandsFor vault.holds o1 (trace_of B L) → vault.is_clean (vault_of o2) → AwaitsQuit B L g2 c2 (get_or now.seats.items i d)))
      → WereServed vault.holds vault.is_clean o o2 set m ns lock_released is_preparing poll_now noted seats (take (i + 1) seats) (g2 ++ g1) (c1 ++ c2)
  were_next o o1 o2 set m ns noted seats now was_preparing lock_released is_preparing poll_now i d g1 g2 c1 c2 same is within still prepares polled law unread touched wa wb a b own awaits =
      let wait : now.wait ≡ set.wait = ap (λ (s : Settings). s.wait) same in
      let slow : now.guesses.are_slow ≡ set.slow_guesses = ap (λ (s : Settings). s.slow_guesses) same in
      let q = get_or now.seats.items i d in
      let way = way_by set m ns seats lock_released is_preparing poll_now in
      let within_seats : i < length seats = subst (λ xs. i < length xs) is within in
      let first = served_so vault o o1 (way_by set m ns seats now.lock_released was_preparing now.poll_now) way now.newcomers.newcomers.items seats (take i seats) g1 c1 refl refl
      (line_more set.wait set.wait (set.slow_guesses || now.lock_released) (set.slow_guesses || lock_released) refl (or_more set.slow_guesses now.lock_released lock_released still))
      (λ j e inside. may_more set.slow_guesses m ns seats now.lock_released lock_released (get_or (take i seats) j e).connection still) prepares polled a.turns in
      let next = served_so vault o1 o2 (way_at m now is_preparing poll_now) way noted now.seats.items (q ∷ []) g2 c2 (ap (λ xs. share_by (length xs)) (sym is)) (sym wait)
      (line_more now.wait set.wait (now.guesses.are_slow || now.lock_released) (set.slow_guesses || lock_released) (sym wait)
      (λ e. or_more set.slow_guesses now.lock_released lock_released still (subst (λ b. (b || now.lock_released) ≡ true) slow e)))
      (All-cons (λ r. may_at m now r.connection ≡ true → way.may r.connection ≡ true) q []
      (subst (λ xs. may_at m now (get_or xs i d).connection ≡ true → way.may (get_or xs i d).connection ≡ true) (sym is)
      (may_then set.slow_guesses now.guesses.are_slow now.lock_released lock_released m ns now.newcomers.newcomers.items seats i d slow still within_seats touched))
      (All-nil (λ r. may_at m now r.connection ≡ true → way.may r.connection ≡ true))) (λ e. e) (λ e. e) b in
      record {
        turns = served_more vault o o1 o2 way now.newcomers.newcomers.items noted seats now.seats.items i d g1 g2 c1 c2 is within unread wa wb first next;
        in_order = λ B L s k.
            (let s1 = wa.stands B L s (wb.clean k) in
            let s2 = wb.stands B (g1 ++ L) s1 k in
            let before = live (history (trace_of B (g1 ++ L))) in
            let after = live (history (trace_of B (g2 ++ (g1 ++ L)))) in
            in_order_more set.wait B L seats i d g1 g2 c1 c2 now.lock_released lock_released within_seats
            (subst (λ xs. lock_released ≡ (now.lock_released || releases_lock set.wait (before (get_or xs i d).connection) (after (get_or xs i d).connection))) is
            (subst (λ n. lock_released ≡ (now.lock_released || releases_lock n (before q.connection) (after q.connection))) wait (law (trace_of B (g1 ++ L)) (trace_of B (g2 ++ (g1 ++ L))) s1 s2)))
            (subst (λ xs. ServesSeat (get_or xs i d) 1 128 g2 c2) is own) (a.in_order B L s (wb.clean k)));
        awaits = λ e B L s k.
            ⊎_elim
            (λ (p : was_preparing ≡ true). some_before B L seats i d g1 g2 c1 c2 within_seats (a.awaits p B L s (wb.clean k)))
            (λ (h : (B : Records) (L : Log) → StandsFor vault.holds o1 (trace_of B L) → vault.is_clean (vault_of o2) → AwaitsQuit B L g2 c2 q).
            some_now B L seats i d g1 g2 c1 c2 within_seats
            (subst (λ xs. AwaitsQuit B (g1 ++ L) g2 c2 (get_or xs i d)) is (h B (g1 ++ L) (wa.stands B L s (wb.clean k)) k)))
            (awaits e);
      }

  pub were_whole : (o o1 : Office V) (set : Settings) (m : ℕ) (ns : List Newcomer) (lock_released is_preparing poll_now : Bool)
      (noted : List Newcomer) (seats now : List Seat) (n : ℕ) (g : Log) (c : List Call)
      → now ≡ seats → length now ≤ n → WereServed vault.holds vault.is_clean o o1 set m ns lock_released is_preparing poll_now noted seats (take n seats) g c
      → WereServed vault.holds vault.is_clean o o1 set m ns lock_released is_preparing poll_now noted seats seats g c
  were_whole o o1 set m ns lock_released is_preparing poll_now noted seats now n g c is h a = record {
    turns = served_whole vault o o1 (way_by set m ns seats lock_released is_preparing poll_now) noted seats now n g c is h a.turns;
    awaits = λ e B L s k. subst (SomeAwaitsQuit B L g c) (whole_front seats n (subst (λ xs. length xs ≤ n) is h)) (a.awaits e B L s k);
    in_order = λ B L s k. subst (λ xs. ServesInOrder set.wait B L xs g c lock_released)
        (whole_front seats n (subst (λ xs. length xs ≤ n) is h)) (a.in_order B L s k);
  }
