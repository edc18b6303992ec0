-- Worked rows of what a script prints and does, on the sample store.
use Rattle.std.specs.Prelude.{[], ◌∷◌, codes, None, Some}
use Rattle.std.proofs.Common.{inl, inr, refl, arith}
use Rattle.std.specs.Fmt.{digits}
use Rattle.office.specs.Events.{Trace, Tagged, given}
use Rattle.office.specs.Events as event
use Rattle.office.specs.History.{Done}
use Rattle.office.specs.Outcomes as outcome
use Rattle.office.specs.Stands.{begun}
use Rattle.office.proofs.Sample.{W}
use Rattle.policy.specs.declared.fault.PolicyFault.TheVariants.{NotToml}
use Rattle.converse.specs.Script.{Does, Drains, NoPolicy}
use Rattle.converse.specs.Played.{PlaysLine, Plays, PlaysInPart, point}
use Rattle.session.specs.declared.removals.Removals.TheVariants.{JudgedAtDele}
use Rattle.converse.specs.Runs.{opened_on}
use Rattle.converse.proofs.Stopping.{begun_none, begun_acted}

abbrev start : Trace
start = opened_on (begun W) (codes "h.test") 7 JudgedAtDele

abbrev connected : Trace
connected = given start event.Connect (Tagged Done)

abbrev greeted : Trace
greeted = given connected (event.Took 1 36) (Tagged Done)

abbrev left : Trace
left = given greeted (event.Gone 1) (Tagged Done)

opening : PlaysLine (point start []) (Does event.Connect) (codes "opened 1\n") (point connected (1 ∷ []))
unfolding digits
opening = record { sent = []; told = Some (outcome.Opened 1); acts = (record { tag = Done; may = refl; is = refl }, refl, refl); text = refl; left = refl }

-- the greeting is taken at once, in front of the outcome
draining : PlaysLine (point connected (1 ∷ [])) (Drains 1) (codes "sent 1 +OK POP3 server ready <1.7@h.test>\\r\\n\ndone\n") (point greeted (1 ∷ []))
unfolding digits
draining = record {
  sent = codes "sent 1 +OK POP3 server ready <1.7@h.test>\\r\\n\n";
  told = Some outcome.Done;
  acts = (outcome.Done ∷ [], record { are = (tt, omega arith, record { tag = Done; may = refl; is = refl }); last = refl; behind = refl }, refl, refl);
  text = refl;
  left = refl;
}

-- and so are as many octets as a line asks for
taking : PlaysLine (point connected (1 ∷ [])) (Does (event.Took 1 36)) (codes "sent 1 +OK POP3 server ready <1.7@h.test>\\r\\n\ndone\n") (point greeted (1 ∷ []))
unfolding digits
taking = record {
  sent = codes "sent 1 +OK POP3 server ready <1.7@h.test>\\r\\n\n";
  told = Some outcome.Done;
  acts = (record { tag = Done; may = refl; is = refl }, refl, refl);
  text = refl;
  left = refl;
}

-- a text that is no policy is answered, and nothing is done
no_policy : PlaysLine (point connected (1 ∷ [])) (NoPolicy NotToml) (codes "answer NotToml\n") (point connected (1 ∷ []))
unfolding digits
no_policy = record { sent = codes "answer NotToml\n"; told = None; acts = (refl, refl); text = refl; left = refl }

-- a connection that ended is printed after the outcome
going : PlaysLine (point greeted (1 ∷ [])) (Does (event.Gone 1)) (codes "done\nended 1\n") (point left [])
unfolding digits
going = record { sent = []; told = Some outcome.Done; acts = (record { tag = Done; may = refl; is = refl }, refl, refl); text = refl; left = refl }

-- three lines, one after the other
three_lines : Plays (point start []) (Does event.Connect ∷ Drains 1 ∷ Does (event.Gone 1) ∷ [])
    (codes "opened 1\nsent 1 +OK POP3 server ready <1.7@h.test>\\r\\n\ndone\ndone\nended 1\n") (point left [])
three_lines = (
  point connected (1 ∷ []),
  codes "opened 1\n",
  codes "sent 1 +OK POP3 server ready <1.7@h.test>\\r\\n\ndone\ndone\nended 1\n",
  opening,
  (
    point greeted (1 ∷ []),
    codes "sent 1 +OK POP3 server ready <1.7@h.test>\\r\\n\ndone\n",
    codes "done\nended 1\n",
    draining,
    (point left [], codes "done\nended 1\n", [], going, (refl, refl), refl),
    refl,
  ),
  refl,
)

-- they are broken off at the second, before the greeting is taken
stopped_before : PlaysInPart (point start []) (Does event.Connect ∷ Drains 1 ∷ Does (event.Gone 1) ∷ []) connected
stopped_before = inr (point connected (1 ∷ []), codes "opened 1\n", opening, inl (begun_none connected (Drains 1)))

-- and after it
stopped_behind : PlaysInPart (point start []) (Does event.Connect ∷ Drains 1 ∷ Does (event.Gone 1) ∷ []) greeted
stopped_behind = inr (point connected (1 ∷ []), codes "opened 1\n", opening, inl (begun_acted connected (Drains 1) draining.told draining.sent greeted draining.acts))
