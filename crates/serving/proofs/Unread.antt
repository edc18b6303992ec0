-- What was looked at on a link, and stays unread.
use Rattle.std.proofs.Common.{◌≡◌, ℕ, ◌<◌, Bool, true, false, not, ◌&&◌, ◌||◌, ◌==◌, List, [], ◌∷◌, length, position, is_some, nat_lt, refl, sym, ◌∙◌, arith, Some, None, Option, ⊎_elim, ◌⊎◌, inl, inr}
use Rattle.std.proofs.lemmas.Bool.{or_cases}
use Rattle.std.proofs.lemmas.List.Elements.{All-nil}
use Rattle.vault.specs.Changes.{Contents}
use Rattle.office.specs.Events.{Trace}
use Rattle.office.specs.Waiting as waiting
use Rattle.office.specs.Logins.{login_brought}
use Rattle.creds.specs.declared.login_name.LoginName.{LoginName}
use Rattle.office.specs.Taken.{trace_of}
use Rattle.office.specs.declared.office.Office.{Office}
use Rattle.serving.specs.Calls.{Call, Looked}
use Rattle.serving.specs.declared.wire.Port.TheVariants.{Pop}
use Rattle.serving.specs.declared.wire.Io.TheVariants.{Count}
use Rattle.serving.specs.declared.links.Seat.{Seat}
use Rattle.serving.specs.declared.pace.Pace.{Pace}
use Rattle.serving.specs.declared.guesses.Refusal.{Refusal}
use Rattle.serving.specs.Paces.{reads_lines, most_paced, is_paced, keeps, is_held, line_by, part_by}
use Rattle.serving.specs.Works.{HasCause, IsKeptBack, reads_by_line}
use Rattle.serving.specs.Parts.{IsQuietFor}
use Rattle.serving.specs.ClientParts.{IsUnread, HasLooked, Unlooked, NothingCame, PieceCame}

line_some : (newline : Option ℕ) (all : ℕ) → 0 < all → line_by newline all ≡ 0 → ⊥
line_some None all h e = omega (arith, h, e)
line_some (Some at) all h e = omega (arith, e)

-- nothing is read of a piece: it is held
part_none : (held : Bool) (piece : List ℕ) → 0 < length piece → 0 ≡ part_by held piece → held ≡ true
part_none true piece h e = refl
part_none false piece h e = absurd (line_some (position (λ b. b == 10) piece) (length piece) h (sym e))

-- a login is kept back only where one may be
paced_so : (now : ℕ) (origin : Option ℕ) (name : LoginName) (refusals : List Refusal) → is_paced now origin name refusals ≡ true → is_some origin ≡ true
paced_so now None name refusals h = cc
paced_so now (Some origin) name refusals h = refl

and_first : (a b : Bool) → (a && b) ≡ true → a ≡ true
and_first true b e = refl
and_first false b e = cc

and_second : (a b : Bool) → (a && b) ≡ true → b ≡ true
and_second true b e = e
and_second false b e = cc

kept_by : (pace : Pace) (refusals : List Refusal) (login : Option LoginName) → keeps pace refusals login ≡ true
    → ((pace.is_shut ≡ true) ⊎ ((is_some pace.origin ≡ true) × (nat_lt pace.waited most_paced ≡ true))) × (is_some login ≡ true)
kept_by pace refusals None h = cc
kept_by pace refusals (Some name) h = (
  ⊎_elim
      (λ (s : pace.is_shut ≡ true). inl s)
      (λ (p : (nat_lt pace.waited most_paced && is_paced pace.now pace.origin name refusals) ≡ true). inr (
        paced_so pace.now pace.origin name refusals (and_second (nat_lt pace.waited most_paced) (is_paced pace.now pace.origin name refusals) p),
        and_first (nat_lt pace.waited most_paced) (is_paced pace.now pace.origin name refusals) p,
      ))
      (or_cases pace.is_shut (nat_lt pace.waited most_paced && is_paced pace.now pace.origin name refusals) h),
  refl,
)

no_origin : (origin : Option ℕ) → origin ≡ None → is_some origin ≡ true → ⊥
no_origin None e h = cc
no_origin (Some n) e h = cc

-- where logins may be kept back
pub may_so : (slow lock_released shut less : Bool) (origin : Option ℕ) → shut ≡ lock_released → (slow ≡ false → origin ≡ None)
    → (shut ≡ true) ⊎ ((is_some origin ≡ true) × (less ≡ true)) → (lock_released || (slow && less)) ≡ true
may_so slow true shut less origin same fast h = refl
may_so true false shut less origin same fast (inl s) = let k : false ≡ true = sym same ∙ s in cc
may_so true false shut less origin same fast (inr p) = p.1
may_so false false shut less origin same fast (inl s) = let k : false ≡ true = sym same ∙ s in cc
may_so false false shut less origin same fast (inr p) = absurd (no_origin origin (fast refl) p.0)

-- and where lines are read one at a time
pub line_so : (slow lock_released shut : Bool) (wait : ℕ) (origin : Option ℕ) → shut ≡ lock_released → (slow ≡ false → origin ≡ None)
    → reads_lines wait shut origin ≡ true → reads_by_line wait (slow || lock_released) ≡ true
line_so true lock_released shut wait origin same fast h = refl
line_so false true shut wait origin same fast h = refl
line_so false false true wait origin same fast h = cc
line_so false false false wait origin same fast h =
    ⊎_elim
    (λ (w : (not (wait == 0) || false) ≡ true).
    ⊎_elim (λ (k : not (wait == 0) ≡ true). k) (λ (k : false ≡ true). cc) (or_cases (not (wait == 0)) false w))
    (λ (o : is_some origin ≡ true). absurd (no_origin origin (fast refl) o))
    (or_cases (not (wait == 0) || false) (is_some origin) h)

kept_so : (T : Trace) (c : ℕ) (piece : List ℕ) (may : Bool) (pace : Pace) (refusals : List Refusal)
    → ((pace.is_shut ≡ true) ⊎ ((is_some pace.origin ≡ true) × (nat_lt pace.waited most_paced ≡ true)) → may ≡ true) → is_held T c piece pace refusals ≡ true → IsKeptBack T c piece pace.wait may
kept_so T c piece may pace refusals so h =
    ⊎_elim
    (λ (w : waiting.waits T c piece pace.wait ≡ true). inl w)
    (λ (b : keeps pace refusals (login_brought T c piece) ≡ true).
    (let k = kept_by pace refusals (login_brought T c piece) b in
    inr (so k.0, k.1)))
    (or_cases (waiting.waits T c piece pace.wait) (keeps pace refusals (login_brought T c piece)) h)

module _ {V : Type 0} (Holds : V → Contents → Type 0) (o : Office V) (seat : Seat) (pace : Pace) (refusals : List Refusal) where
  pub looked_quiet : (n : ℕ) (login : Option LoginName) (calls : List Call) → HasLooked Holds o seat pace refusals n login calls → IsQuietFor (seat ∷ []) [] calls
  looked_quiet n _ calls (Unlooked e) =
      record {
        quiet = record { no_moments = refl; no_openings = refl; no_refusals = refl; no_waits = refl; no_arrivals = refl; no_closings = refl };
        apart =
            refl;
        caused = All-nil (HasCause (seat ∷ []) []);
      }
  looked_quiet n _ calls (NothingCame io e) =
      record {
        quiet = record { no_moments = refl; no_openings = refl; no_refusals = refl; no_waits = refl; no_arrivals = refl; no_closings = refl };
        apart =
            refl;
        caused = All-nil (HasCause (seat ∷ []) (Looked Pop seat.link io [] ∷ []));
      }
  looked_quiet n _ calls (PieceCame k piece count login by_line some is brought part) =
      record {
        quiet = record { no_moments = refl; no_openings = refl; no_refusals = refl; no_waits = refl; no_arrivals = refl; no_closings = refl };
        apart =
            refl;
        caused = All-nil (HasCause (seat ∷ []) (Looked Pop seat.link (Count k) piece ∷ []));
      }

  pub unread_so : (may : Bool) (n : ℕ) (login : Option LoginName) (calls : List Call)
      → ((pace.is_shut ≡ true) ⊎ ((is_some pace.origin ≡ true) × (nat_lt pace.waited most_paced ≡ true)) → may ≡ true) → n ≡ 0
      → HasLooked Holds o seat pace refusals n login calls → IsUnread Holds o seat pace.wait may calls
  unread_so may n _ calls so z (Unlooked e) = absurd (omega (arith, z))
  unread_so may n _ calls so z (NothingCame io e) = absurd (omega (arith, z))
  unread_so may n _ calls so z (PieceCame k piece count login by_line some is brought part) = record {
    piece = piece;
    io = Count k;
    shown = (0, omega arith, refl);
    kept = λ B L s.
        kept_so (trace_of B L) seat.connection piece may pace refusals so
        (part_none (is_held (trace_of B L) seat.connection piece pace refusals) piece some (sym z ∙ is (trace_of B L) s));
  }
