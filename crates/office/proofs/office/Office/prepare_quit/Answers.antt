-- The store holds what it held, and nothing else changes.
use Rattle.std.proofs.Common.{sym, ◌∙◌}
use Rattle.office.specs.Kept.{Kept}
use Rattle.office.specs.Stands.{seen}
use Rattle.office.proofs.AfterEvents.{kept_at}
use Rattle.office.proofs.MeetingLocks.{session_live}
use Rattle.vault.proofs.CallLemmas.{looks_self}
use Rattle.office.proofs.office.Office.prepare_quit.Goals as goal

pub returns-in-None-clause-stands : goal.returns-in-None-clause-stands
returns-in-None-clause-stands g c T st clean = st

pub returns-in-None-clause-looks : goal.returns-in-None-clause-looks
returns-in-None-clause-looks g c = looks_self g.V.Vault _ _ (g.met.V.Vault.settled _)

pub returns-in-Some-clause-stands : goal.returns-in-Some-clause-stands
returns-in-Some-clause-stands g c T st clean = record {
  keeps = record {
    contents = st.keeps.contents;
    held = c.prepare_quit.ensures.looks.held st.keeps.contents clean st.keeps.held;
    agree = st.keeps.agree;
    sound = st.keeps.sound;
    formed = st.keeps.formed;
    began = st.keeps.began;
  };
  began = st.began;
  policy = st.policy;
  boot = st.boot;
  host = st.host;
  judged = st.judged;
  limits = st.limits;
  moment = st.moment;
  numbered = st.numbered;
  opened = st.opened;
  connections = st.connections;
  locks = st.locks;
}

pub returns-in-Some-clause-quits : goal.returns-in-Some-clause-quits
returns-in-Some-clause-quits g c T st out =
    let k : Kept = c.in-Some.connection.now in
    let m = kept_at T c.args.c st k (sym c.in-Some.ensures.value) in
    c.prepare_quit.ensures.alone (session_live st.keeps.contents (seen T c.args.c) k.session m.session ∙ out)
