-- What a command line says (RFC 1939, 3 to 7; RFC 2449, 4 and 5): its keyword, its arguments, and
-- the command or the fault that they give.
use Rattle.std.specs.Prelude.{ℕ, Bool, ◌&&◌, ◌+◌, ◌-◌, ◌*◌, ◌^◌, List, [], ◌∷◌, length, drop, map, min, ◌==◌, nat_lt, if◌then◌else◌, codes, Option, Some, None, option_map, Result, Err, ok_or}
use Rattle.std.specs.Result.{result_ok}
use Rattle.std.specs.List.{slice_split, list_all, fold, before_first, after_first}
use Rattle.std.specs.Str.{bytes_eq}
use Rattle.hex.specs.Hex.{decode_sized}
use Rattle.creds.specs.Names.{is_digit, is_capital}
use Rattle.creds.specs.LoginName.{login_name}
use Rattle.creds.specs.declared.login_name.LoginName.{LoginName}
use Rattle.popline.specs.declared.command.Keyword.{Keyword}
use Rattle.popline.specs.declared.command.Keyword.TheVariants as keyword
use Rattle.popline.specs.declared.command.LineFault.{LineFault}
use Rattle.popline.specs.declared.command.LineFault.TheVariants.{Unknown, Syntax}

-- a command with its arguments: a login name, a password, a digest's octets, message numbers, a
-- count of lines
pub data Command : Type 0 where
  Capa : Command
  User : LoginName → Command
  Pass : List ℕ → Command
  Apop : LoginName → List ℕ → Command
  Quit : Command
  Stat : Command
  ListAll : Command
  ListOne : ℕ → Command
  UidlAll : Command
  UidlOne : ℕ → Command
  Retr : ℕ → Command
  Top : ℕ → ℕ → Command
  Dele : ℕ → Command
  Rset : Command
  Noop : Command

-- a command's keyword
abbrev pub keyword_of : Command → Keyword
keyword_of Capa = keyword.Capa
keyword_of (User name) = keyword.User
keyword_of (Pass password) = keyword.Pass
keyword_of (Apop name digest) = keyword.Apop
keyword_of Quit = keyword.Quit
keyword_of Stat = keyword.Stat
keyword_of ListAll = keyword.List
keyword_of (ListOne n) = keyword.List
keyword_of UidlAll = keyword.Uidl
keyword_of (UidlOne n) = keyword.Uidl
keyword_of (Retr n) = keyword.Retr
keyword_of (Top n lines) = keyword.Top
keyword_of (Dele n) = keyword.Dele
keyword_of Rset = keyword.Rset
keyword_of Noop = keyword.Noop

-- ---- keywords

-- a small letter in place of a capital
abbrev pub lowered : ℕ → ℕ
lowered b = if is_capital b then b + 32 else b

-- the text spells the word, which is in small letters; the text's are of any case
abbrev pub is_spelled : List ℕ → List ℕ → Bool
is_spelled word text = bytes_eq (map lowered text) word

-- the keyword of a table's first row whose word the text spells
abbrev pub keyword_in : List (List ℕ × Keyword) → List ℕ → Option Keyword
keyword_in [] text = None
keyword_in ((word, k) ∷ table) text = if is_spelled word text then Some k else keyword_in table text

-- the thirteen keywords
abbrev pub keywords : List (List ℕ × Keyword)
keywords =
    (codes "capa", keyword.Capa) ∷ (codes "user", keyword.User) ∷ (codes "pass", keyword.Pass) ∷ (codes "apop", keyword.Apop)
    ∷ (codes "quit", keyword.Quit) ∷ (codes "stat", keyword.Stat) ∷ (codes "list", keyword.List) ∷ (codes "uidl", keyword.Uidl)
    ∷ (codes "retr", keyword.Retr) ∷ (codes "top", keyword.Top) ∷ (codes "dele", keyword.Dele) ∷ (codes "rset", keyword.Rset)
    ∷ (codes "noop", keyword.Noop) ∷ []

-- ---- arguments

-- a space; a tab is none
abbrev pub is_space : ℕ → Bool
is_space b = b == 32

-- a line without the spaces at its end
abbrev pub trimmed : List ℕ → List ℕ
trimmed [] = []
trimmed (b ∷ bs) = if list_all is_space (b ∷ bs) then [] else b ∷ trimmed bs

-- a line's arguments, each after a single space
abbrev pub arguments : List ℕ → List (List ℕ)
arguments line = drop 1 (slice_split is_space (trimmed line))

-- the number that decimal digits write
abbrev pub value_of : List ℕ → ℕ
value_of digits = fold (λ n b. n * 10 + (b - 48)) 0 digits

-- a decimal number, capped at 2^64 - 1
abbrev pub number_of : List ℕ → Option ℕ
number_of digits = if nat_lt 0 (length digits) && list_all is_digit digits then Some (min (value_of digits) (2 ^ 64 - 1)) else None

-- the 16 octets that 32 hexadecimal digits of either case write
abbrev pub digest_of : List ℕ → Option (List ℕ)
digest_of digits = result_ok (decode_sized digits 16)

-- ---- commands

-- a command of two arguments, if both could be read
abbrev pub both : {A B : Type 0} → (A → B → Command) → Option A → Option B → Option Command
both f (Some x) (Some y) = Some (f x y)
both f _ _ = None

-- the command of a keyword without arguments
abbrev pub alone : Keyword → Option Command
alone keyword.Capa = Some Capa
alone keyword.Quit = Some Quit
alone keyword.Stat = Some Stat
alone keyword.List = Some ListAll
alone keyword.Uidl = Some UidlAll
alone keyword.Rset = Some Rset
alone keyword.Noop = Some Noop
alone keyword.User = None
alone keyword.Pass = None
alone keyword.Apop = None
alone keyword.Retr = None
alone keyword.Top = None
alone keyword.Dele = None

-- the command of a keyword with one argument
abbrev pub with_one : Keyword → List ℕ → Option Command
with_one keyword.User name = option_map User (login_name name)
with_one keyword.List n = option_map ListOne (number_of n)
with_one keyword.Uidl n = option_map UidlOne (number_of n)
with_one keyword.Retr n = option_map Retr (number_of n)
with_one keyword.Dele n = option_map Dele (number_of n)
with_one keyword.Capa argument = None
with_one keyword.Pass argument = None
with_one keyword.Apop argument = None
with_one keyword.Quit argument = None
with_one keyword.Stat argument = None
with_one keyword.Top argument = None
with_one keyword.Rset argument = None
with_one keyword.Noop argument = None

-- the command of a keyword with two arguments
abbrev pub with_two : Keyword → List ℕ → List ℕ → Option Command
with_two keyword.Apop name digits = both Apop (login_name name) (digest_of digits)
with_two keyword.Top n lines = both Top (number_of n) (number_of lines)
with_two keyword.Capa first second = None
with_two keyword.User first second = None
with_two keyword.Pass first second = None
with_two keyword.Quit first second = None
with_two keyword.Stat first second = None
with_two keyword.List first second = None
with_two keyword.Uidl first second = None
with_two keyword.Retr first second = None
with_two keyword.Dele first second = None
with_two keyword.Rset first second = None
with_two keyword.Noop first second = None

-- the command of a keyword with these arguments; no command has three
abbrev pub with_arguments : Keyword → List (List ℕ) → Option Command
with_arguments k [] = alone k
with_arguments k (argument ∷ []) = with_one k argument
with_arguments k (first ∷ second ∷ []) = with_two k first second
with_arguments k more = None

-- PASS with its password, which has at least one octet
abbrev pub with_password : List ℕ → Option Command
with_password [] = None
with_password (b ∷ bs) = Some (Pass (b ∷ bs))

-- the command of a line with this keyword; PASS's password is all that follows the first space
abbrev pub command_with : Keyword → List ℕ → Option Command
command_with keyword.Pass line = with_password (after_first is_space line)
command_with k line = with_arguments k (arguments line)

-- the command of a line with this keyword, if it has one, or the line's fault
abbrev pub command_by : Option Keyword → List ℕ → Result Command LineFault
command_by None line = Err Unknown
command_by (Some k) line = ok_or (command_with k line) (Syntax k)

-- the command that a line spells, or its fault; the keyword is the text before the first space
abbrev pub command_of : List ℕ → Result Command LineFault
command_of line = command_by (keyword_in keywords (before_first is_space line)) line
