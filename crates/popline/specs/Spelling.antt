-- The command grammar (RFC 1939, 3 to 7): which whole lines spell a command. `command_of` reads it.
use Rattle.std.specs.Prelude.{◌≡◌, ℕ, true, ◌-◌, ◌^◌, ◌<◌, List, [], ◌∷◌, ◌++◌, length, map, min, replicate, codes, Ok, Err}
use Rattle.std.specs.List.{list_all, before_first, join_with_byte}
use Rattle.hex.specs.Hex.{IsBytes, encode_lower}
use Rattle.creds.specs.Names.{is_name, is_digit}
use Rattle.creds.specs.declared.login_name.LoginName.{LoginName}
use Rattle.popline.specs.declared.command.Keyword.{Keyword}
use Rattle.popline.specs.declared.command.Keyword.TheVariants as keyword
use Rattle.popline.specs.Commands.{Command, User, Pass, Apop, ListOne, UidlOne, Top, Retr, Dele, keyword_of, lowered, value_of, is_space, command_of}
use Rattle.popline.specs.declared.command.LineFault.{LineFault}
use Rattle.popline.specs.declared.command.LineFault.TheVariants.{Unknown, Syntax}

-- the word of a keyword, in small letters
abbrev pub word_of : Keyword → List ℕ
word_of keyword.Capa = codes "capa"
word_of keyword.User = codes "user"
word_of keyword.Pass = codes "pass"
word_of keyword.Apop = codes "apop"
word_of keyword.Quit = codes "quit"
word_of keyword.Stat = codes "stat"
word_of keyword.List = codes "list"
word_of keyword.Uidl = codes "uidl"
word_of keyword.Retr = codes "retr"
word_of keyword.Top = codes "top"
word_of keyword.Dele = codes "dele"
word_of keyword.Rset = codes "rset"
word_of keyword.Noop = codes "noop"

-- the text is the word, in letters of any case
abbrev pub IsWord : List ℕ → List ℕ → Type 0
IsWord word text = map lowered text ≡ word

-- decimal digits of a number; a value above 2^64 - 1 counts as 2^64 - 1
abbrev pub IsNumeral : ℕ → List ℕ → Type 0
IsNumeral n digits = (0 < length digits) × (list_all is_digit digits ≡ true) × (n ≡ min (value_of digits) (2 ^ 64 - 1))

-- the text is the clerk's name, a slash and the maildrop's name
abbrev pub IsLogin : LoginName → List ℕ → Type 0
IsLogin name text = (is_name name.clerk ≡ true) × (is_name name.maildrop ≡ true) × (text ≡ name.clerk ++ 47 ∷ name.maildrop)

-- 32 hexadecimal digits of a digest: in small letters they are the text of its 16 octets
abbrev pub IsDigest : List ℕ → List ℕ → Type 0
IsDigest octets digits = (length octets ≡ 16) × IsBytes octets × (map lowered digits ≡ encode_lower octets)

-- the arguments of a command, in order
abbrev pub AreArguments : Command → List (List ℕ) → Type 0
AreArguments (User name) ws = (a : List ℕ) × (ws ≡ a ∷ []) × IsLogin name a
AreArguments (Apop name digest) ws = (a : List ℕ) × (b : List ℕ) × (ws ≡ a ∷ b ∷ []) × IsLogin name a × IsDigest digest b
AreArguments (ListOne n) ws = (a : List ℕ) × (ws ≡ a ∷ []) × IsNumeral n a
AreArguments (UidlOne n) ws = (a : List ℕ) × (ws ≡ a ∷ []) × IsNumeral n a
AreArguments (Retr n) ws = (a : List ℕ) × (ws ≡ a ∷ []) × IsNumeral n a
AreArguments (Dele n) ws = (a : List ℕ) × (ws ≡ a ∷ []) × IsNumeral n a
AreArguments (Top n lines) ws = (a : List ℕ) × (b : List ℕ) × (ws ≡ a ∷ b ∷ []) × IsNumeral n a × IsNumeral lines b
AreArguments _ ws = ws ≡ []

-- a line spells a command: its word, its arguments with one space before each, and any spaces at
-- the end; PASS's password is all that follows the first space
abbrev pub IsSpelling : Command → List ℕ → Type 0
IsSpelling (Pass password) line = (w : List ℕ) × IsWord (word_of keyword.Pass) w × (0 < length password) × (line ≡ w ++ 32 ∷ password)
IsSpelling command line = (w : List ℕ) × (ws : List (List ℕ)) × (n : ℕ) × IsWord (word_of (keyword_of command)) w
    × AreArguments command ws × (line ≡ join_with_byte 32 (w ∷ ws) ++ replicate n 32)

-- a line that spells a command is read as that command
abbrev pub ReadsWhatIsSpelled : Type 0
ReadsWhatIsSpelled = (command : Command) (line : List ℕ) → IsSpelling command line → command_of line ≡ Ok command

-- a line that is read as a command spells that command
abbrev pub SpellsWhatIsRead : Type 0
SpellsWhatIsRead = (command : Command) (line : List ℕ) → command_of line ≡ Ok command → IsSpelling command line

-- for `Unknown` the text before the first space is no keyword, for `Syntax k` it is `k`
abbrev pub IsFault : LineFault → List ℕ → Type 0
IsFault Unknown line = (k : Keyword) → ¬ (IsWord (word_of k) (before_first is_space line))
IsFault (Syntax k) line = IsWord (word_of k) (before_first is_space line)

-- a line with a fault spells no command, and the fault is the one that the line has
abbrev pub NamesTheFault : Type 0
NamesTheFault = (fault : LineFault) (line : List ℕ) → command_of line ≡ Err fault → IsFault fault line × ((command : Command) → ¬ (IsSpelling command line))
