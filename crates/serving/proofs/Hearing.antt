-- What a listener heard of parts of a turn, one after the other, is what is heard of them all.
use Rattle.std.proofs.Common.{◌≡◌, ℕ, suc, ◌+◌, ◌<◌, ◌≤◌, true, false, List, [], ◌∷◌, ◌++◌, length, take, get_or, map, refl, sym, ◌∙◌, ap, arith, subst, append_assoc}
use Rattle.std.specs.List.{filter}
use Rattle.std.proofs.lemmas.List.{append-nil, map-append}
use Rattle.std.proofs.lemmas.List.Elements.{filter-append}
use Rattle.vault.specs.declared.vault.Vault.{Ghosts}
use Rattle.vault.specs.Records.{Records}
use Rattle.office.specs.Accounts.{account_of}
use Rattle.office.specs.Answers.{AdminCommand}
use Rattle.office.specs.Events.{Event, EventTag, Log, Trace}
use Rattle.office.specs.Events as event
use Rattle.office.specs.Taken.{trace_of}
use Rattle.office.specs.Stands.{StandsFor, vault_of}
use Rattle.office.specs.declared.office.Office.{Office}
use Rattle.office.specs.declared.account.Account.{Account}
use Rattle.office.specs.declared.account.End.{End}
use Rattle.office.specs.declared.account.End.TheVariants.{FullHouse}
use Rattle.serving.specs.declared.links.Seat.{Seat}
use Rattle.serving.specs.Works.{is_open_seat, is_shut_seat}
use Rattle.serving.specs.Parts.{WasGiven}
use Rattle.serving.specs.Hearing.{Hearing, heard_by, heard_of, heard_of_all, end_by, ends_by, idle_end, idle_ends, HasHeard, HasHeardOf}
use Rattle.serving.proofs.Seating.{whole_front}
use Rattle.serving.proofs.Arriving.{take_next}

-- ---- events

pub heard_joined : (B : Records) (L g1 g2 : Log) → heard_of_all B L (g2 ++ g1) ≡ heard_of_all B L g1 ++ heard_of_all B (g1 ++ L) g2
heard_joined B L g1 [] = sym (append-nil (heard_of_all B L g1))
heard_joined B L g1 ((e, m) ∷ g2) =
    let a = heard_of_all B L g1 in
    let b = heard_of_all B (g1 ++ L) g2 in
    let x = heard_of (trace_of B (g2 ++ (g1 ++ L))) e m in
    ap (λ l. heard_of_all B L (g2 ++ g1) ++ heard_of (trace_of B l) e m) (append_assoc g2 g1 L) ∙ (ap (λ h. h ++ x) (heard_joined B L g1 g2) ∙ append_assoc a b x)

ends_joined : (why : End) (g1 g2 : Log) → ends_by why (g2 ++ g1) ≡ ends_by why g1 ++ ends_by why g2
ends_joined why g1 [] = sym (append-nil (ends_by why g1))
ends_joined why g1 ((e, m) ∷ g2) =
    ap (λ h. h ++ end_by why e) (ends_joined why g1 g2) ∙ append_assoc (ends_by why g1) (ends_by why g2) (end_by why e)

-- what is heard of the clients and the commands of a turn
pub turn_heard : (B : Records) (L gp ga gl gr : Log)
    → heard_of_all B ((ga ++ gp) ++ L) gl ++ heard_of_all B ((gl ++ (ga ++ gp)) ++ L) gr ≡ heard_of_all B (ga ++ (gp ++ L)) (gr ++ gl)
turn_heard B L gp ga gl gr =
    ap (λ l. heard_of_all B ((ga ++ gp) ++ L) gl ++ heard_of_all B l gr) (append_assoc gl (ga ++ gp) L)
    ∙ (ap (λ l. heard_of_all B l gl ++ heard_of_all B (gl ++ l) gr) (append_assoc ga gp L) ∙ sym (heard_joined B (ga ++ (gp ++ L)) gl gr))

-- ---- seats

shut_first : (T : Trace) (s : Seat) (xs : List Seat) → is_open_seat T s ≡ false → filter (is_shut_seat T) (s ∷ xs) ≡ s ∷ filter (is_shut_seat T) xs
shut_first T s xs e = rw e refl

shut_not : (T : Trace) (s : Seat) (xs : List Seat) → is_open_seat T s ≡ true → filter (is_shut_seat T) (s ∷ xs) ≡ filter (is_shut_seat T) xs
shut_not T s xs e = rw e refl

idle_joined : (T : Trace) (xs ys : List Seat) → idle_ends T (xs ++ ys) ≡ idle_ends T xs ++ idle_ends T ys
idle_joined T xs ys = ap (map idle_end) (filter-append (is_shut_seat T) xs ys) ∙ map-append idle_end (filter (is_shut_seat T) xs) (filter (is_shut_seat T) ys)

-- ---- one after the other

module _ {H : Type 0} (Heard : H → List Hearing → Type 0) where
  pub hears_none : (l : H) → HasHeard Heard l l []
  hears_none l = record { is = λ before k. subst (Heard l) (sym (append-nil before)) k }

  -- it heard no account
  pub hears_same : (l l1 : H) → ((h : List Hearing) → Heard l h → Heard l1 h) → HasHeard Heard l l1 []
  hears_same l l1 same = record { is = λ before k. subst (Heard l1) (sym (append-nil before)) (same before k) }

  -- and none after it
  pub hears_on : (l l1 l2 : H) (more : List Hearing) → ((h : List Hearing) → Heard l1 h → Heard l2 h) → HasHeard Heard l l1 more → HasHeard Heard l l2 more
  hears_on l l1 l2 more same a = record { is = λ before k. same (before ++ more) (a.is before k) }

  pub hears_then : (l l1 l2 : H) (h1 h2 : List Hearing) → HasHeard Heard l l1 h1 → HasHeard Heard l1 l2 h2 → HasHeard Heard l l2 (h1 ++ h2)
  hears_then l l1 l2 h1 h2 a b = record { is = λ before k. subst (Heard l2) (append_assoc before h1 h2) (b.is (before ++ h1) (a.is before k)) }

  -- nothing more was heard
  pub hears_still : (l l1 l2 : H) (h : List Hearing) → HasHeard Heard l l1 h → HasHeard Heard l1 l2 [] → HasHeard Heard l l2 h
  hears_still l l1 l2 h a b = subst (HasHeard Heard l l2) (append-nil h) (hears_then l l1 l2 h [] a b)

  -- the connection of a seat is open after a moment, or was ended by it
  pub idle_open : (l : H) (T : Trace) (q : Seat) → is_open_seat T q ≡ true → HasHeard Heard l l (idle_ends T (q ∷ []))
  idle_open l T q e = subst (HasHeard Heard l l) (sym (ap (map idle_end) (shut_not T q [] e))) (hears_none l)

  pub idle_shut : (l l1 : H) (T : Trace) (q : Seat) → is_open_seat T q ≡ false → ((h : List Hearing) → Heard l h → Heard l1 (h ++ idle_end q ∷ [])) → HasHeard Heard l l1 (idle_ends T (q ∷ []))
  idle_shut l l1 T q e heard = subst (HasHeard Heard l l1) (sym (ap (map idle_end) (shut_first T q [] e))) (record { is = heard })

  pub idle_more : (l l1 l2 : H) (T : Trace) (seats : List Seat) (i : ℕ) (d : Seat) → i < length seats
      → HasHeard Heard l l1 (idle_ends T (take i seats)) → HasHeard Heard l1 l2 (idle_ends T (get_or seats i d ∷ []))
      → HasHeard Heard l l2 (idle_ends T (take (i + 1) seats))
  idle_more l l1 l2 T seats i d within a b =
      let next : suc i ≡ i + 1 = omega arith in
      subst (λ n. HasHeard Heard l l2 (idle_ends T (take n seats))) next
      (subst (λ v. HasHeard Heard l l2 (idle_ends T v)) (sym (take_next seats i d within))
      (subst (HasHeard Heard l l2) (sym (idle_joined T (take i seats) (get_or seats i d ∷ []))) (hears_then l l1 l2 (idle_ends T (take i seats)) (idle_ends T (get_or seats i d ∷ [])) a b)))

  pub idle_whole : (l l1 : H) (T : Trace) (seats : List Seat) (n : ℕ) → length seats ≤ n → HasHeard Heard l l1 (idle_ends T (take n seats)) → HasHeard Heard l l1 (idle_ends T seats)
  idle_whole l l1 T seats n h a = subst (λ v. HasHeard Heard l l1 (idle_ends T v)) (whole_front seats n h) a

  -- connections that serving ends
  pub hears_ends : (why : End) (l l1 l2 : H) (g1 g2 : Log) → HasHeard Heard l l1 (ends_by why g1) → HasHeard Heard l1 l2 (ends_by why g2) → HasHeard Heard l l2 (ends_by why (g2 ++ g1))
  hears_ends why l l1 l2 g1 g2 a b = subst (HasHeard Heard l l2) (sym (ends_joined why g1 g2)) (hears_then l l1 l2 (ends_by why g1) (ends_by why g2) a b)

  -- links that came with a connection that made room: nothing else was heard
  pub made_heard : (l l1 l2 l3 : H) (gone : Log) (m : EventTag) → ((h : List Hearing) → Heard l h → Heard l1 h) → HasHeard Heard l1 l2 (ends_by FullHouse gone)
      → ((h : List Hearing) → Heard l2 h → Heard l3 h) → HasHeard Heard l l3 (ends_by FullHouse ((event.Connect, m) ∷ gone))
  made_heard l l1 l2 l3 gone m first made last = record {
    is = λ before k. subst (λ h. Heard l3 (before ++ h)) (sym (append-nil (ends_by FullHouse gone))) (last (before ++ ends_by FullHouse gone) (made.is before (first before k)));
  }

  -- of what was done after a log
  pub apart_then : (l l1 l2 : H) (B : Records) (L g1 g2 : Log) → HasHeard Heard l l1 (heard_of_all B L g1)
      → HasHeard Heard l1 l2 (heard_of_all B (g1 ++ L) g2) → HasHeard Heard l l2 (heard_of_all B L (g2 ++ g1))
  apart_then l l1 l2 B L g1 g2 a b = subst (HasHeard Heard l l2) (sym (heard_joined B L g1 g2)) (hears_then l l1 l2 (heard_of_all B L g1) (heard_of_all B (g1 ++ L) g2) a b)

  -- after it no event was given
  pub apart_still : (l l1 : H) (B : Records) (L g1 g2 : Log) → g2 ≡ [] → HasHeard Heard l l1 (heard_of_all B L g1) → HasHeard Heard l l1 (heard_of_all B L (g2 ++ g1))
  apart_still l l1 B L g1 g2 none a = subst (λ g. HasHeard Heard l l1 (heard_of_all B L (g ++ g1))) (sym none) a

  -- before it no event was given
  pub apart_first : (l l1 : H) (B : Records) (L g1 g2 : Log) → g1 ≡ [] → HasHeard Heard l l1 (heard_of_all B (g1 ++ L) g2) → HasHeard Heard l l1 (heard_of_all B L (g2 ++ g1))
  apart_first l l1 B L g1 g2 none a =
      subst (HasHeard Heard l l1) (sym (ap (λ g. heard_of_all B L (g2 ++ g)) none ∙ ap (heard_of_all B L) (append-nil g2))) (subst (λ g. HasHeard Heard l l1 (heard_of_all B (g ++ L) g2)) none a)

  -- a command
  pub hears_command : (l l1 : H) (B : Records) (L : Log) (command : AdminCommand) (m : EventTag) (account : Account)
      → account ≡ account_of (trace_of B L) (event.Admin command) m → HasHeard Heard l l1 (heard_by command account)
      → HasHeard Heard l l1 (heard_of_all B L ((event.Admin command, m) ∷ []))
  hears_command l l1 B L command m account is a = subst (λ x. HasHeard Heard l l1 (heard_by command x)) is a

-- ---- parts of a turn

module _ {V H : Type 0} (vault : Ghosts V) (Heard : H → List Hearing → Type 0) where
  pub unheard : (o : Office V) (l : H) → HasHeardOf vault.holds vault.is_clean Heard o l o l []
  unheard o l = record { is = λ B L s k. hears_none Heard l }

  -- nothing is heard after it
  pub heard_on : (o o1 : Office V) (l l1 l2 : H) (given : Log) → ((h : List Hearing) → Heard l1 h → Heard l2 h)
      → HasHeardOf vault.holds vault.is_clean Heard o l o1 l1 given → HasHeardOf vault.holds vault.is_clean Heard o l o1 l2 given
  heard_on o o1 l l1 l2 given same a = record { is = λ B L s k. hears_on Heard l l1 l2 (heard_of_all B L given) same (a.is B L s k) }

  pub heard_then : (o o1 o2 : Office V) (l l1 l2 : H) (g1 g2 : Log)
      → WasGiven vault o o1 g1 → WasGiven vault o1 o2 g2
      → HasHeardOf vault.holds vault.is_clean Heard o l o1 l1 g1 → HasHeardOf vault.holds vault.is_clean Heard o1 l1 o2 l2 g2 → HasHeardOf vault.holds vault.is_clean Heard o l o2 l2 (g2 ++ g1)
  heard_then o o1 o2 l l1 l2 g1 g2 wa wb a b = record {
    is = λ B L s k. apart_then Heard l l1 l2 B L g1 g2 (a.is B L s (wb.clean k)) (b.is B (g1 ++ L) (wa.stands B L s (wb.clean k)) k);
  }

  -- one event of a client's connection
  pub heard_one : (o o1 : Office V) (l l1 : H) (e : Event) (m : EventTag) (c : ℕ) (account : Account) → ((T : Trace) → heard_of T e m ≡ (c, account_of T e m) ∷ [])
      → ((T : Trace) → StandsFor vault.holds o T → vault.is_clean (vault_of o1) → account ≡ account_of T e m) → ((h : List Hearing) → Heard l h → Heard l1 (h ++ (c, account) ∷ []))
      → HasHeardOf vault.holds vault.is_clean Heard o l o1 l1 ((e, m) ∷ [])
  heard_one o o1 l l1 e m c account is so heard = record {
    is = λ B L s k. subst (HasHeard Heard l l1) (ap (λ (x : Account). (c, x) ∷ []) (so (trace_of B L) s k) ∙ sym (is (trace_of B L))) (record { is = heard });
  }
