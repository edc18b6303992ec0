use Rattle.office.proofs.office.Office.administer.Goals as goal

pub returns-in-ListMaildrops : goal.returns-in-ListMaildrops
returns-in-ListMaildrops g c = rw c.in-ListMaildrops.is c.list_maildrops.ensures

pub returns-in-ShowMaildrop : goal.returns-in-ShowMaildrop
returns-in-ShowMaildrop g c = rw c.in-ShowMaildrop.is c.show_maildrop.ensures

pub returns-in-AddMaildrop : goal.returns-in-AddMaildrop
returns-in-AddMaildrop g c = rw c.in-AddMaildrop.is c.add_maildrop.ensures

pub returns-in-DropMaildrop : goal.returns-in-DropMaildrop
returns-in-DropMaildrop g c = rw c.in-DropMaildrop.is c.drop_maildrop.ensures

pub returns-in-ListClerks : goal.returns-in-ListClerks
returns-in-ListClerks g c = rw c.in-ListClerks.is c.list_clerks.ensures

pub returns-in-ShowClerk : goal.returns-in-ShowClerk
returns-in-ShowClerk g c = rw c.in-ShowClerk.is c.show_clerk.ensures

pub returns-in-PutClerk : goal.returns-in-PutClerk
returns-in-PutClerk g c = rw c.in-PutClerk.is c.put_clerk.ensures

pub returns-in-DropClerk : goal.returns-in-DropClerk
returns-in-DropClerk g c = rw c.in-DropClerk.is c.drop_clerk.ensures

pub returns-in-Explain : goal.returns-in-Explain
returns-in-Explain g c = rw c.in-Explain.is c.explain.ensures

pub returns-in-ShowPolicy : goal.returns-in-ShowPolicy
returns-in-ShowPolicy g c = rw c.in-ShowPolicy.is c.show_policy.ensures

pub returns-in-SetPolicy : goal.returns-in-SetPolicy
returns-in-SetPolicy g c = rw c.in-SetPolicy.is c.set_policy.ensures

pub returns-in-ListGroups : goal.returns-in-ListGroups
returns-in-ListGroups g c = rw c.in-ListGroups.is c.list_groups.ensures

pub returns-in-ListSessions : goal.returns-in-ListSessions
returns-in-ListSessions g c = rw c.in-ListSessions.is c.list_sessions.ensures.after

pub returns-in-EndSession : goal.returns-in-EndSession
returns-in-EndSession g c = rw c.in-EndSession.is c.end_session.ensures.after
