-- The replies and their octets (RFC 1939, 3 to 7; RFC 2449, 5 and 8).
use Rattle.std.specs.Prelude.{ℕ, List, [], ◌∷◌, ◌++◌, codes}
use Rattle.std.specs.List.{flat_map}
use Rattle.std.specs.Fmt.{decimal}
use Rattle.creds.specs.Uid.{uid_text}
use Rattle.creds.specs.declared.uid.Uid.{Uid}

-- the replies; `rule` is a rule's name, or `default`; `stuffed_lines` are octets as sent, with dots
pub data Reply : Type 0 where
  Greeting : (number boot : ℕ) (host : List ℕ) → Reply
  LineTooLong : Reply
  UnknownCommand : Reply
  WrongState : Reply
  BadArguments : Reply
  Capabilities : Reply
  SendPass : Reply
  LoginFailed : Reply
  LoginFailedClosing : Reply
  DeniedBy : (rule : List ℕ) → Reply
  NoSuchMaildrop : Reply
  InUse : Reply
  MaildropHas : (messages octets : ℕ) → Reply
  DropListing : (messages octets : ℕ) → Reply
  ScanListing : List (ℕ × ℕ) → Reply
  ScanLine : (n octets : ℕ) → Reply
  UidListing : List (ℕ × Uid) → Reply
  UidLine : (n : ℕ) → Uid → Reply
  Message : (octets : ℕ) (stuffed_lines : List ℕ) → Reply
  TopPart : (stuffed_lines : List ℕ) → Reply
  Marked : (n : ℕ) → Reply
  Okay : Reply
  NoSuchMessage : Reply
  AlreadyMarked : (n : ℕ) → Reply
  Bye : Reply
  RemovalDenied : (rule : List ℕ) → Reply
  RemovalFailed : Reply
  StoreFailed : Reply

-- the greeting's timestamp
abbrev pub timestamp : ℕ → ℕ → List ℕ → List ℕ
timestamp number boot host = codes "<" ++ decimal number ++ codes "." ++ decimal boot ++ codes "@" ++ host ++ codes ">"

-- a reply of one line
abbrev pub one_line : List ℕ → List ℕ
one_line text = text ++ codes "\r\n"

-- a multi-line reply: the first line, the octets of the others, and the line of the dot
abbrev pub many_lines : List ℕ → List ℕ → List ℕ
many_lines first others = one_line first ++ others ++ one_line (codes ".")

-- a listing's first line and its rows so far
abbrev pub begun_listing : {A : Type 0} → List ℕ → (A → List ℕ) → List A → List ℕ
begun_listing first line rows = one_line first ++ flat_map (λ row. one_line (line row)) rows

-- a whole listing; its rows never begin with a dot, so no dot is added
abbrev pub listing : {A : Type 0} → List ℕ → (A → List ℕ) → List A → List ℕ
listing first line rows = begun_listing first line rows ++ one_line (codes ".")

-- a message's number and its octets
abbrev pub scan_text : ℕ × ℕ → List ℕ
scan_text row = decimal row.0 ++ codes " " ++ decimal row.1

-- a message's number and its unique-id
abbrev pub uid_row_text : ℕ × Uid → List ℕ
uid_row_text row = decimal row.0 ++ codes " " ++ uid_text row.1

-- a scan listing of these rows without the line of the dot
abbrev pub scan_begun : List (ℕ × ℕ) → List ℕ
scan_begun rows = begun_listing (codes "+OK scan listing follows") scan_text rows

-- a listing of unique-ids of these rows without the line of the dot
abbrev pub uids_begun : List (ℕ × Uid) → List ℕ
uids_begun rows = begun_listing (codes "+OK unique-id listing follows") uid_row_text rows

-- the capabilities that CAPA lists
abbrev pub capabilities : List (List ℕ)
capabilities = codes "TOP" ∷ codes "USER" ∷ codes "UIDL" ∷ codes "RESP-CODES" ∷ codes "PIPELINING" ∷ []

-- the octets of a reply, with the CRLF of each line
abbrev pub bytes_of : Reply → List ℕ
bytes_of (Greeting number boot host) = one_line (codes "+OK POP3 server ready " ++ timestamp number boot host)
bytes_of LineTooLong = one_line (codes "-ERR line too long")
bytes_of UnknownCommand = one_line (codes "-ERR unknown command")
bytes_of WrongState = one_line (codes "-ERR wrong state")
bytes_of BadArguments = one_line (codes "-ERR bad arguments")
bytes_of Capabilities = listing (codes "+OK capability list follows") (λ word. word) capabilities
bytes_of SendPass = one_line (codes "+OK send PASS")
bytes_of LoginFailed = one_line (codes "-ERR login failed")
bytes_of LoginFailedClosing = one_line (codes "-ERR login failed, closing")
bytes_of (DeniedBy rule) = one_line (codes "-ERR denied by rule " ++ rule)
bytes_of NoSuchMaildrop = one_line (codes "-ERR no such maildrop")
bytes_of InUse = one_line (codes "-ERR [IN-USE] maildrop is in use")
bytes_of (MaildropHas n m) = one_line (codes "+OK maildrop has " ++ decimal n ++ codes " messages (" ++ decimal m ++ codes " octets)")
bytes_of (DropListing n m) = one_line (codes "+OK " ++ decimal n ++ codes " " ++ decimal m)
bytes_of (ScanListing rows) = listing (codes "+OK scan listing follows") scan_text rows
bytes_of (ScanLine n octets) = one_line (codes "+OK " ++ scan_text (n, octets))
bytes_of (UidListing rows) = listing (codes "+OK unique-id listing follows") uid_row_text rows
bytes_of (UidLine n uid) = one_line (codes "+OK " ++ uid_row_text (n, uid))
bytes_of (Message octets stuffed_lines) = many_lines (codes "+OK " ++ decimal octets ++ codes " octets") stuffed_lines
bytes_of (TopPart stuffed_lines) = many_lines (codes "+OK top follows") stuffed_lines
bytes_of (Marked n) = one_line (codes "+OK message " ++ decimal n ++ codes " deleted")
bytes_of Okay = one_line (codes "+OK")
bytes_of NoSuchMessage = one_line (codes "-ERR no such message")
bytes_of (AlreadyMarked n) = one_line (codes "-ERR message " ++ decimal n ++ codes " is deleted")
bytes_of Bye = one_line (codes "+OK bye")
bytes_of (RemovalDenied rule) = one_line (codes "-ERR some deleted messages not removed, denied by rule " ++ rule)
bytes_of RemovalFailed = one_line (codes "-ERR some deleted messages not removed")
bytes_of StoreFailed = one_line (codes "-ERR store failed")
