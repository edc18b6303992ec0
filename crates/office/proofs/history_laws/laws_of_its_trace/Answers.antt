use Rattle.office.proofs.Beginning.{begins_so}
use Rattle.office.proofs.Greetings as greetings
use Rattle.office.proofs.HiddenDeposit as depositing
use Rattle.office.proofs.Sights as hiding
use Rattle.office.proofs.RepliesForm as replies
use Rattle.office.proofs.Reviewed as reviewing
use Rattle.office.proofs.Served as serving
use Rattle.office.proofs.UniqueIdTexts as texts
use Rattle.office.proofs.Vanishing as vanishing
use Rattle.office.specs.Trace.{acts}
use Rattle.office.proofs.history_laws.laws_of_its_trace.Goals as goal

pub returns-clause-greetings : goal.returns-clause-greetings
returns-clause-greetings g c T st = greetings.greetings_differ T (begins_so T.log st.began) st.keeps.formed

pub returns-clause-unique_ids : goal.returns-clause-unique_ids
returns-clause-unique_ids g c T st = texts.unique_id_texts_differ T st.keeps.sound st.keeps.formed

pub returns-clause-replies : goal.returns-clause-replies
returns-clause-replies g c T st = replies.replies_have_their_form T st.keeps.sound st.keeps.formed

pub returns-clause-served : goal.returns-clause-served
returns-clause-served g c T st = serving.served_is_allowed T.base (acts T)

pub returns-clause-removed : goal.returns-clause-removed
returns-clause-removed g c T st = vanishing.removed_is_allowed T.base (acts T)

pub returns-clause-accounted : goal.returns-clause-accounted
returns-clause-accounted g c T st = vanishing.nothing_else_vanishes T.base st.keeps.sound (acts T)

pub returns-clause-enforced : goal.returns-clause-enforced
returns-clause-enforced g c T st = reviewing.decisions_are_enforced T.base (acts T)

pub returns-clause-hidden : goal.returns-clause-hidden
returns-clause-hidden g c T st = hiding.hidden_mail_leaves_no_trace T.base (acts T)

pub returns-clause-gone : goal.returns-clause-gone
returns-clause-gone g c T st = vanishing.none_comes_back T.base st.keeps.sound (acts T)

pub returns-clause-deposits : goal.returns-clause-deposits
returns-clause-deposits g c T st = depositing.hidden_deposit_leaves_no_trace T.base (acts T)
