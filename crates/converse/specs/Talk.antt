-- One conversation: from the octets that a reader tells to the acts of a history, and to the octets that a writer takes
-- (RFC 1939, 3 to 6). Histories are lists of acts, the newest first, over the records B; c is the connection's number.
use Rattle.std.specs.Prelude.{◌≡◌, ℕ, Bool, true, false, not, ◌&&◌, ◌+◌, ◌≤◌, ◌<◌, List, [], ◌∷◌, length, take, drop, if◌then◌else◌, Option, Some, None}
use Rattle.std.specs.List.{zip, list_any}
use Rattle.popline.specs.Cutting.{Cut, cut}
use Rattle.vault.specs.Records.{Records, class_of, without}
use Rattle.vault.specs.declared.record.Message.{Message}
use Rattle.office.specs.History.{Act, Open, Line, Gone, Tag, Done, Failed, is_no_memory, Entry, in_force}
use Rattle.office.specs.Connections.{connected, closing, serving, sent, octets_said}
use Rattle.office.specs.Sessions.{quits, removed_by, in_session, marks, view, records}
use Rattle.office.specs.Replying.{line_may_fail}
use Rattle.office.specs.Told.{told}
use Rattle.office.specs.Trace.{is_open_by}
use Rattle.session.specs.View.{to_remove}

-- ---- the acts

-- a connection opens on a history
abbrev pub opened_on : ℕ → List (Act × Tag) → List (Act × Tag)
opened_on c H = (Open c, Done) ∷ H

-- a further line of the connection may act: it is connected, and no line closed it
abbrev pub goes_on : List Entry → ℕ → Bool
goes_on G c = connected G c && not (closing G c)

-- its lines act in order, through the one that closes the connection; later lines are dropped
abbrev pub acted_on : Records → ℕ → List (Cut × Tag) → List (Act × Tag) → List (Act × Tag)
acted_on B c [] H = H
acted_on B c ((x, t) ∷ lines) H = if goes_on (told B H) c then acted_on B c lines ((Line c x, t) ∷ H) else H

-- so many of a stream's lines act, with these tags
abbrev pub spoken : Records → ℕ → (octets : List ℕ) → List Tag → List (Act × Tag) → List (Act × Tag)
spoken B c octets tags H = acted_on B c (zip (cut octets) tags) (opened_on c H)

-- it is gone, if no line closed it
abbrev pub left_unless_closing : Records → ℕ → List (Act × Tag) → List (Act × Tag)
left_unless_closing B c H = if closing (told B H) c then H else (Gone c, Done) ∷ H

-- the connection is gone, if it was still open with so many octets of its replies taken
abbrev pub left_if_open : Records → ℕ → (taken : ℕ) → List (Act × Tag) → List (Act × Tag)
left_if_open B c taken H =
    if is_open_by (connected (told B H) c) (closing (told B H) c) (drop taken (sent (told B H) c)) then (Gone c, Done) ∷ H else H

-- ---- which tags its lines may show, and what was said last

-- the store may refuse a line only if it is asked
abbrev pub may_be : Records → List Entry → ℕ → Cut → Tag → Bool
may_be B G c x Failed = line_may_fail B G c x
may_be B G c x _ = true

-- each line that acts shows a tag that is possible after the history before it
abbrev pub tags_fit : Records → ℕ → List (Cut × Tag) → List (Act × Tag) → Bool
tags_fit B c [] H = true
tags_fit B c ((x, t) ∷ lines) H =
    if goes_on (told B H) c then may_be B (told B H) c x t && tags_fit B c lines ((Line c x, t) ∷ H) else true

-- so do a stream's lines
abbrev pub are_fit : Records → ℕ → (octets : List ℕ) → List Tag → List (Act × Tag) → Bool
are_fit B c octets tags H = tags_fit B c (zip (cut octets) tags) (opened_on c H)

-- the octets that were said last
abbrev pub said_last : List Entry → List ℕ
said_last [] = []
said_last (e ∷ G) = octets_said e.said

-- every reply but the last was written: a line acts only then
abbrev pub AreInTurn : List Entry → ℕ → (written : List ℕ) → Type 0
AreInTurn G c written = length (sent G c) ≤ length written + length (said_last G)

-- ---- how a conversation may come out

-- No connection was opened: nothing acted, and nothing was read or written.
pub record NeverBegins (octets written : List ℕ) (old new : List (Act × Tag)) : Type 0 where
  pub acts : new ≡ old
  pub unread : octets ≡ []
  pub replies : written ≡ []

-- All was heard and answered: each line of the octets that were read acted, through the one that closed the connection; if none
-- did, the reader told its end, and the connection is gone. What was written is what the history sends.
pub record Talks (B : Records) (c : ℕ) (octets written : List ℕ) (AtEnd : Type 0) (old new : List (Act × Tag)) : Type 0 where
  pub tags : List Tag
  pub each : length tags ≡ length (cut octets)
  pub ample : list_any is_no_memory tags ≡ false
  pub fit : are_fit B c octets tags old ≡ true
  pub acts : new ≡ left_unless_closing B c (spoken B c octets tags old)
  pub ended : closing (told B (spoken B c octets tags old)) c ≡ false → AtEnd
  pub replies : written ≡ sent (told B new) c

-- A later part of a message couldn't be read: the lines end with the one that asked for it, and a beginning of the replies was written.
pub record TalksInPart (B : Records) (c : ℕ) (octets written : List ℕ) (old new : List (Act × Tag)) : Type 0 where
  pub tags : List Tag
  pub some : length tags ≤ length (cut octets)
  pub ample : list_any is_no_memory tags ≡ false
  pub fit : are_fit B c octets tags old ≡ true
  pub acts : new ≡ (Gone c, Done) ∷ spoken B c octets tags old
  pub within : serving (told B (spoken B c octets tags old)) c ≡ true
  pub in_turn : AreInTurn (told B (spoken B c octets tags old)) c written
  pub replies : written ≡ take (length written) (sent (told B new) c)
  -- something of the message is left
  pub left : length written < length (sent (told B new) c)

-- A fault broke it off after it began: some of the lines acted, and a beginning of the replies was written; if the connection was then
-- still open, it is gone. `lacked` says that the fault was want of memory; else no line met it.
pub record BreaksOff (B : Records) (c : ℕ) (octets written : List ℕ) (lacked : Bool) (old new : List (Act × Tag)) : Type 0 where
  pub tags : List Tag
  pub some : length tags ≤ length (cut octets)
  pub ample : lacked ≡ false → list_any is_no_memory tags ≡ false
  pub fit : are_fit B c octets tags old ≡ true
  pub acts : new ≡ left_if_open B c (length written) (spoken B c octets tags old)
  pub in_turn : AreInTurn (told B (spoken B c octets tags old)) c written
  pub replies : written ≡ take (length written) (sent (told B new) c)

-- The reader's fault broke it off: each line that was read had acted, and all replies were written.
pub record BreaksOffReading (B : Records) (c : ℕ) (octets written : List ℕ) (old new : List (Act × Tag)) : Type 0 where
  pub tags : List Tag
  pub each : length tags ≡ length (cut octets)
  pub ample : list_any is_no_memory tags ≡ false
  pub fit : are_fit B c octets tags old ≡ true
  pub acts : new ≡ (Gone c, Done) ∷ spoken B c octets tags old
  pub not_closing : closing (told B (spoken B c octets tags old)) c ≡ false
  pub replies : written ≡ sent (told B new) c

-- ---- what a conversation does to the records

-- with the connection's end after them, if it is among the acts
abbrev pub perhaps_gone : ℕ → (ends : Bool) → List (Act × Tag) → List (Act × Tag)
perhaps_gone c ends H = if ends then (Gone c, Done) ∷ H else H

-- what an act removes from the history before it: something only if it is a QUIT that was done in a session
abbrev pub taken_by_quit : Records → List Entry → Option ℕ → List Message
taken_by_quit B G None = []
taken_by_quit B G (Some c) = removed_by (in_session G c) (λ name. to_remove class_of (in_force B G) name (marks G c) (view B G c))

-- what the newest act removed
abbrev pub removed_last : Records → List (Act × Tag) → List Message
removed_last B [] = []
removed_last B ((a, t) ∷ H) = taken_by_quit B (told B H) (quits a t)

-- records without these messages
abbrev pub without_messages : List Message → Records → Records
without_messages ms B = record { clerks = B.clerks; maildrops = B.maildrops; messages = without B.messages ms; deposits = B.deposits; policy = B.policy }

-- the records after a conversation are the old ones without what its QUIT removed, or the old ones if there was no QUIT; the
-- connection's end removes nothing
abbrev pub RemovesByQuitAlone : Type 0
RemovesByQuitAlone = (B : Records) (c : ℕ) (octets : List ℕ) (tags : List Tag) (H : List (Act × Tag)) (ends : Bool)
    → records B (told B (perhaps_gone c ends (spoken B c octets tags H)))
    ≡ without_messages (removed_last B (spoken B c octets tags H)) (records B (told B H))
