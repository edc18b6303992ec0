-- The store holds what it held, and nothing else changes.
use Rattle.office.proofs.office.Office.prepare_deposit.Goals as goal

pub returns-clause-stands : goal.returns-clause-stands
returns-clause-stands g c T st clean = record {
  keeps = record {
    contents = st.keeps.contents;
    held = c.prepare_deposit.ensures.looks.held st.keeps.contents clean st.keeps.held;
    agree = st.keeps.agree;
    sound = st.keeps.sound;
    formed = st.keeps.formed;
    began = st.keeps.began;
  };
  began = st.began;
  policy = st.policy;
  boot = st.boot;
  host = st.host;
  judged = st.judged;
  limits = st.limits;
  moment = st.moment;
  numbered = st.numbered;
  opened = st.opened;
  connections = st.connections;
  locks = st.locks;
}
