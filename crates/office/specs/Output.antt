-- What a connection is owed, as it is kept: octets that stand ready, and what feeds them (RFC 1939,
-- 3: replies of many lines).
use Rattle.std.specs.Prelude.{◌≡◌, ℕ, Bool, true, false, List, [], ◌++◌, ◌<◌, ◌≤◌, length, take}
use Rattle.std.specs.Prelude.{drop, codes, Option, Some, None}
use Rattle.std.specs.List.{flat_map}
use Rattle.mailtext.specs.Streams.{Come, stuffed_from, top_from}
use Rattle.popline.specs.Replies.{Reply, one_line, scan_text, uid_row_text, bytes_of}
use Rattle.vault.specs.Changes.{Contents}
use Rattle.vault.specs.declared.answer.Head.{Head}
use Rattle.vault.specs.declared.record.Keyed.{Keyed}
use Rattle.session.specs.Session.{Session, octets_of, uid_of}
use Rattle.session.specs.View.{unmarked, sizes_of, uids_of}
use Rattle.office.specs.History.{Says}
use Rattle.office.specs.Connections.{has_message}
use Rattle.office.specs.Laws.{In}
use Rattle.office.specs.Trace.{most_lent}
use Rattle.office.specs.declared.reading.Reading.{Reading}
use Rattle.office.specs.declared.reading.PutPage.{PutPage}
use Rattle.office.specs.declared.reading.PutPage.TheVariants as page
use Rattle.office.specs.declared.output.Source.{Source}
use Rattle.office.specs.declared.output.Source.TheVariants.{Nothing, Sizes, Uids, Text}

-- at most so many octets are kept: the most that is lent, a page of a message with each dot
-- doubled, and a line
abbrev pub most_output : ℕ
most_output = 49408

-- the octets that stand ready, and what feeds them
pub record Output : Type 0 where
  pub ready : List ℕ
  pub source : Source

-- nothing stands ready, and nothing comes
abbrev pub nothing_owed : Output
nothing_owed = record { ready = []; source = Nothing }

-- more is to come
abbrev pub is_feeding : Source → Bool
is_feeding Nothing = false
is_feeding _ = true

-- more of a message is to come
abbrev pub reads_text : Source → Bool
reads_text (Text r) = true
reads_text _ = false

-- the octets that may be taken now
abbrev pub lent_of : Output → List ℕ
lent_of o = take most_lent o.ready

-- while more is to come, at least 16,384 octets are ready
abbrev pub IsFilled : Output → Type 0
IsFilled o = is_feeding o.source ≡ true → most_lent ≤ length o.ready

-- ---- what comes

-- the line that ends a reply of many lines
abbrev pub last_line : List ℕ
last_line = one_line (codes ".")

-- the lines of a scan listing from row `done` on, and the dot
abbrev pub sizes_coming : (done : ℕ) → Session → List ℕ
sizes_coming done s = flat_map (λ row. one_line (scan_text row))
    (drop done (sizes_of octets_of (unmarked s.marks s.view))) ++ last_line

-- the lines of a listing of unique-ids from row `done` on, and the dot
abbrev pub uids_coming : (done : ℕ) → Session → List ℕ
uids_coming done s = flat_map (λ row. one_line (uid_row_text row))
    (drop done (uids_of uid_of (unmarked s.marks s.view))) ++ last_line

-- how much of the octets that follow is sent: TOP's part, or all
abbrev pub cut_from : Option Come → List ℕ → List ℕ
cut_from None octets = octets
cut_from (Some come) octets = top_from come octets

-- what is still to be sent of a text, and the dot
abbrev pub text_coming : Reading → (text : List ℕ) → List ℕ
text_coming r text = stuffed_from r.stuffer (cut_from r.cut (drop r.place text)) ++ last_line

-- `r` reads this text, and some of it is still to be read
pub record IsBegun (r : Reading) (text : List ℕ) : Type 0 where
  pub size : length text ≡ r.octets
  pub left : r.place < r.octets

-- `r` is at the beginning of the message of a head
pub record IsBegunAt (head : Head) (r : Reading) : Type 0 where
  pub key : r.key ≡ head.key
  pub octets : r.octets ≡ head.octets
  pub place : r.place ≡ 0

-- what a listing is still to put; nothing for a message
abbrev pub listing_coming : Session → Source → List ℕ
listing_coming s (Sizes done) = sizes_coming done s
listing_coming s (Uids done) = uids_coming done s
listing_coming s _ = []

-- a listing put some of its lines, and those and the lines that are still to come are all of them
pub record IsListed (s : Session) (source : Source) (before after coming : List ℕ) : Type 0 where
  pub put : before ++ coming ≡ after ++ listing_coming s source
  pub kind : reads_text source ≡ false

-- `r` reads a message of the session's maildrop, of which these octets are still to be sent
pub record Reads (c : Contents) (s : Session) (r : Reading) (octets : List ℕ) : Type 0 where
  pub stored : Keyed
  pub there : In stored c.messages
  pub within : stored.message.maildrop ≡ s.name.maildrop
  pub key : stored.key ≡ r.key
  pub begun : IsBegun r stored.message.text
  pub coming : octets ≡ text_coming r stored.message.text

-- a source is still to put these octets
abbrev pub FeedsInside : Contents → Session → Source → List ℕ → Type 0
FeedsInside c s Nothing coming = coming ≡ []
FeedsInside c s (Sizes done) coming = coming ≡ sizes_coming done s
FeedsInside c s (Uids done) coming = coming ≡ uids_coming done s
FeedsInside c s (Text r) coming = Reads c s r coming

-- the same, in a session or without one
abbrev pub Feeds : Contents → Option Session → Source → List ℕ → Type 0
Feeds c None Nothing coming = coming ≡ []
Feeds c None source coming = ⊥
Feeds c (Some s) source coming = FeedsInside c s source coming

-- These octets are owed: those that stand ready, followed by those that the source is still to put.
-- While more is to come, at least 16,384 octets are ready.
pub record Owes (c : Contents) (s : Option Session) (o : Output) (octets : List ℕ) : Type 0 where
  pub coming : List ℕ
  pub is : octets ≡ o.ready ++ coming
  pub feeds : Feeds c s o.source coming
  pub filled : IsFilled o

-- A reply is owed; the source is a message only if the reply has one.
pub record OwesReply (c : Contents) (s : Option Session) (o : Output) (reply : Reply) : Type 0 where
  pub owes : Owes c s o (bytes_of reply)
  pub serves : reads_text o.source ≡ true → has_message (Says reply) ≡ true

-- what is owed after octets: a line's reply, or nothing if no line acts
abbrev pub OwesIf : (has_line : Bool) → Contents → Option Session → Output → Reply → Type 0
OwesIf true c s o reply = OwesReply c s o reply
OwesIf false c s o reply = o ≡ nothing_owed

-- ---- a page

-- a page was put: what was put and what is still to come are what was to come before
abbrev pub IsPut : PutPage → (before after coming_before coming_after : List ℕ) → Type 0
IsPut page.More before after coming still = before ++ coming ≡ after ++ still
IsPut page.Last before after coming still = before ++ coming ≡ after
IsPut page.Refused before after coming still = Unit {0}
