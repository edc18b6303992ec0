-- What comes of a server's options, and of its clock.
use Rattle.std.proofs.Common.{◌≡◌, ℕ, Bool, true, false, ◌||◌, List, [], ◌∷◌, ◌++◌, map, min, length, ◌≤◌, Option, Some, None, Result, Ok, Err, IsErrAnd, IfErr, refl, sym, ◌∙◌, ap, subst}
use Rattle.std.specs.Prelude.{is_some, is_none}
use Rattle.std.specs.List.{list_any}
use Rattle.std.proofs.lemmas.List.Folds.{list_any-append}
use Rattle.serving.specs.HttpTurns.{AreFew, AreShort}
use Rattle.serving.specs.Running.{answers, HasRun, HasGoneOn}
use Rattle.serving.specs.Settings.{settings, settings_of, none_set, with_wait, with_login_seconds, with_make_room, with_slow_guesses}
use Rattle.serving.specs.declared.links.Links.{Links}
use Rattle.serving.specs.declared.listener.Listener as a_listener
use Rattle.serving.specs.declared.spool.Spool as a_spool
use Rattle.serving.specs.declared.wire.Wire as a_wire
use Rattle.vault.specs.declared.vault.Vault as a_vault
use Rattle.office.specs.Events.{Trace}
use Rattle.office.specs.declared.office.Office.{Office}
use Rattle.converse.specs.declared.fault.Fault.{Fault}
use Rattle.server.specs.Served.{HasGiven, AreSetBy, HasRunBy, settings_by, site_by, turns_by}
use Rattle.arguments.specs.declared.options.ServeOptions.{ServeOptions}
use Rattle.server.specs.declared.serve.Stop.{Stop}

-- ---- the options

-- links that began with none, and that each option has set
pub set_so : (options : ServeOptions) (wait login : ℕ) (l0 l1 l2 l3 l4 l5 : Links) → wait ≡ options.wait → login ≡ options.login_seconds
    → settings l0 ≡ none_set → settings l1 ≡ with_wait (min wait 60) (settings l0) → settings l2 ≡ with_login_seconds (min login 600) (settings l1)
    → settings l3 ≡ with_make_room options.make_room (settings l2) → settings l4 ≡ with_slow_guesses options.slow_guesses (settings l3) → l5.clients ≡ l4.clients
    → settings l5 ≡ settings_by options
set_so options wait login l0 l1 l2 l3 l4 l5 is_wait is_login e0 e1 e2 e3 e4 same =
    ap settings_of same
    ∙ (e4
    ∙ (ap (λ s. with_slow_guesses options.slow_guesses s) (e3
    ∙ (ap (λ s. with_make_room options.make_room s) (e2 ∙ ap (λ s. with_login_seconds (min login 600) s) (e1 ∙ ap (λ s. with_wait (min wait 60) s) e0))
    ∙ (ap (λ n. with_make_room options.make_room (with_login_seconds (min n 600) (with_wait (min wait 60) none_set))) is_login
    ∙ ap (λ n. with_make_room options.make_room (with_login_seconds (min options.login_seconds 600) (with_wait (min n 60) none_set))) is_wait)))))

-- they are set by the options, if they keep the administration's links
pub set_by : (options : ServeOptions) (l0 l5 : Links) → settings l5 ≡ settings_by options → site_by options.admin_site ≡ Ok l5.site → l5.requests ≡ l0.requests
    → AreFew l0 → AreShort l0 → AreSetBy options l5
set_by options l0 l5 set site same few short = record {
  set = set;
  site = site;
  few = subst (λ r. AreFew (record { clients = l5.clients; requests = r; site = l5.site })) (sym same) few;
  short = subst (λ r. AreShort (record { clients = l5.clients; requests = r; site = l5.site })) (sym same) short;
}

-- a loop that ran from links that the options set
pub ran_by : {V W S H C : Type 0} (vault : a_vault.Ghosts V) (wires : a_wire.Ghosts W) (spools : a_spool.Ghosts S) (listeners : a_listener.Ghosts H) (Gave : C → List (Option ℕ) → Type 0)
    (T : Trace) (options : ServeOptions) (most : ℕ) (links : Links) (office : Office V) (wire : W) (spool : S) (listener : H) (clock : C)
    (links_then : Links) (office_then : Office V) (wire_then : W) (spool_then : S) (listener_then : H) (clock_then : C) → AreSetBy options links → most ≡ turns_by options.turns
    → (run : HasRun vault wires.asked spools.asked listeners.heard Gave most
    links office wire spool listener clock links_then office_then wire_then spool_then listener_then clock_then)
    → (gone : HasGoneOn vault wires.asked spools.asked listeners.heard T run.moments run.row
    links office wire spool listener links_then office_then run.wire_left spool_then listener_then)
    → HasRunBy vault wires spools listeners T options office wire spool listener run.stopped office_then wire_then spool_then listener_then gone.given
ran_by vault wires spools listeners Gave T options most links office wire spool listener clock links_then office_then wire_then spool_then listener_then clock_then begun is run gone = record {
  links = links;
  begun = begun;
  links_then = links_then;
  moments = run.moments;
  row = run.row;
  wire_left = run.wire_left;
  turns = gone.turns;
  last = run.last;
  within = subst (λ n. length run.moments ≤ n) is run.within;
  all = λ e. run.all e ∙ is;
}

-- ---- the answer

pub err_is : (r : Result ℕ Fault) (f : Fault) → IsErrAnd r (λ e. e ≡ f) → r ≡ Err f
err_is (Err e) f h = ap (λ x. Err x) h
err_is (Ok n) f h = absurd h

-- a fault that was handed on is so, if the fault was
pub err_so : {A : Type 0} (r : Result A Fault) (f : Fault) (Is : Fault → Type 0) → IsErrAnd r (λ e. e ≡ f) → Is f → IfErr r Is
err_so (Err e) f Is same is = subst Is (sym same) is
err_so (Ok n) f Is same is = absurd same

-- ---- the clock

no_none : (moments : List ℕ) → list_any is_none (map (λ m. Some m) moments) ≡ false
no_none [] = refl
no_none (m ∷ moments) = no_none moments

any_none : (stopped : Bool) (moments : List ℕ) → list_any is_none (answers stopped moments) ≡ stopped
any_none true moments = list_any-append is_none (map (λ m. Some m) moments) (None ∷ []) ∙ ap (λ b. b || true) (no_none moments)
any_none false moments = list_any-append is_none (map (λ m. Some m) moments) [] ∙ ap (λ b. b || false) (no_none moments)

-- a loop ended early exactly if its clock stopped
pub has_stopped : (stop : Option Stop) (notes : List (Option ℕ)) (stopped : Bool) (moments : List ℕ) → HasGiven stop notes (answers stopped moments) → stopped ≡ is_some stop
has_stopped stop notes stopped moments given = sym (given.stopped ∙ any_none stopped moments)

-- one answer more
pub gave_more : (before stop : Option Stop) (notes more notes_then : List (Option ℕ)) (moment : Option ℕ) → notes_then ≡ notes ++ moment ∷ []
    → is_some stop ≡ (is_some before || is_none moment) → HasGiven before notes more → HasGiven stop notes_then (more ++ moment ∷ [])
gave_more before stop notes more notes_then moment e is given = record {
  is = ap (λ xs. xs ++ moment ∷ []) given.is ∙ sym e;
  stopped = is
      ∙ (ap (λ b. b || is_none moment) given.stopped
      ∙ (ap (λ b. list_any is_none more || b) (sym (or_false (is_none moment))) ∙ sym (list_any-append is_none more (moment ∷ []))));
} where
  or_false : (b : Bool) → (b || false) ≡ b
  or_false true = refl
  or_false false = refl
