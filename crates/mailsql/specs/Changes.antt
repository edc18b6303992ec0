-- The changes that the statements make, each of one table or two: a new row comes after the others.
use Rattle.std.specs.Prelude.{◌≡◌, ◌≤◌, ◌-◌, ◌+ℤ◌, ◌<ℤ◌, ℕ, ℤ, List, [], ◌∷◌, ◌++◌, fold, pos}
use Rattle.std.specs.Prelude.{bytes_eq, filter, not}
use Rattle.std.specs.List.{AllByRecursion}
use Rattle.mailsql.specs.Rows.{Name, MetaRow, Clerk, Count, Deposit, Message, Sheet, Rule, Group, Member, Rows, is_meta_row, is_clerk, is_count, is_message, is_sheet_of}
use Rattle.mailsql.specs.Sheets.{first_sheets, sheets_from, sheets_of, sheet_count}

-- adds a row of `meta`
abbrev pub AddsMetaRow : MetaRow → Rows → Rows → Type 0
AddsMetaRow meta_row old new = new ≡ record old { meta_rows = old.meta_rows ++ meta_row ∷ [] }

-- drops the row of `meta` of this name
abbrev pub DropsMetaRow : Name → Rows → Rows → Type 0
DropsMetaRow name old new = new ≡ record old {
  meta_rows =
      filter (λ m. not (is_meta_row name m)) old.meta_rows;
}

-- adds the row of `meta`, or replaces the one of its name
abbrev pub PutsMetaRow : MetaRow → Rows → Rows → Type 0
PutsMetaRow meta_row old new = new ≡ record old {
  meta_rows =
      filter (λ m. not (is_meta_row meta_row.name m)) old.meta_rows ++ meta_row ∷ [];
}

-- adds a clerk
abbrev pub AddsClerk : Clerk → Rows → Rows → Type 0
AddsClerk clerk old new = new ≡ record old { clerks = old.clerks ++ clerk ∷ [] }

-- drops the clerk of this name
abbrev pub DropsClerk : Name → Rows → Rows → Type 0
DropsClerk name old new = new ≡ record old { clerks = filter (λ c. not (is_clerk name c)) old.clerks }

-- adds the clerk, or replaces the one of its name
abbrev pub PutsClerk : Clerk → Rows → Rows → Type 0
PutsClerk clerk old new = new ≡ record old { clerks = filter (λ c. not (is_clerk clerk.name c)) old.clerks ++ clerk ∷ [] }

-- adds a maildrop's name
abbrev pub AddsMaildrop : Name → Rows → Rows → Type 0
AddsMaildrop name old new = new ≡ record old { maildrops = old.maildrops ++ name ∷ [] }

-- drops a maildrop's name
abbrev pub DropsMaildrop : Name → Rows → Rows → Type 0
DropsMaildrop name old new = new ≡ record old { maildrops = filter (λ n. not (bytes_eq n name)) old.maildrops }

-- adds a count
abbrev pub AddsCount : Count → Rows → Rows → Type 0
AddsCount count old new = new ≡ record old { counts = old.counts ++ count ∷ [] }

-- drops the count of the class
abbrev pub ClearsCount : Name → Name → Rows → Rows → Type 0
ClearsCount maildrop class old new = new ≡ record old { counts = filter (λ c. not (is_count maildrop class c)) old.counts }

-- adds the count, or replaces the one of its class
abbrev pub SetsCount : Count → Rows → Rows → Type 0
SetsCount count old new = new ≡ record old { counts = filter (λ c. not (is_count count.maildrop count.class c)) old.counts ++ count ∷ [] }

-- adds a deposit
abbrev pub AddsDeposit : Deposit → Rows → Rows → Type 0
AddsDeposit deposit old new = new ≡ record old { deposits = old.deposits ++ deposit ∷ [] }

-- adds a message after the others, under a key above theirs
pub record AddsMessage (message : Message) (old new : Rows) : Type 0 where
  pub added : new ≡ record old { messages = old.messages ++ message ∷ [] }
  pub above : AllByRecursion (λ m. m.key <ℤ message.key) old.messages

-- adds a message under its key; if that is above all others, the message comes last
abbrev pub AddsKeyed : Message → Rows → Rows → Type 0
AddsKeyed message old new = AllByRecursion (λ (m : Message). m.key <ℤ message.key) old.messages → AddsMessage message old new

-- adds a message as the last, under some key
abbrev pub Arrives : Name → Name → ℤ → ℤ → Rows → Rows → Type 0
Arrives maildrop class k octets old new = (key : ℤ) × AddsMessage (record { key = key; maildrop = maildrop; class = class; k = k; octets = octets }) old new

-- drops the message with its sheets
abbrev pub RemovesMessage : ℤ → Name → Rows → Rows → Type 0
RemovesMessage key maildrop old new = new ≡ record old {
  messages = filter (λ m. not (is_message key maildrop m)) old.messages;
  sheets = filter (λ s. not (is_sheet_of key maildrop old.messages s)) old.sheets;
}

-- adds a sheet
abbrev pub AddsSheet : Sheet → Rows → Rows → Type 0
AddsSheet sheet old new = new ≡ record old { sheets = old.sheets ++ sheet ∷ [] }

-- adds the first n sheets of a text
abbrev pub AddsFirstSheets : ℕ → ℤ → List ℕ → Rows → Rows → Type 0
AddsFirstSheets n mail text old new = new ≡ record old { sheets = old.sheets ++ first_sheets n mail text }

-- adds the sheets of a text
abbrev pub AddsSheets : ℤ → List ℕ → Rows → Rows → Type 0
AddsSheets mail text old new = new ≡ record old { sheets = old.sheets ++ sheets_of mail text }

-- adds some of the sheets of a text, from the first on
abbrev pub AddsSomeSheets : ℤ → List ℕ → Rows → Rows → Type 0
AddsSomeSheets mail text old new = (n : ℕ) × (n ≤ sheet_count text) × AddsFirstSheets n mail text old new

-- adds n sheets of a text, from this place on
abbrev pub AddsSheetsFrom : (from n : ℕ) → ℤ → List ℕ → Rows → Rows → Type 0
AddsSheetsFrom from n mail text old new =
    new ≡ record old { sheets = old.sheets ++ sheets_from from n mail text }

-- adds the sheets of a text that are left, from this place on
abbrev pub AddsRest : (from : ℕ) → ℤ → List ℕ → Rows → Rows → Type 0
AddsRest from mail text old new = AddsSheetsFrom from (sheet_count text - from) mail text old new

-- adds some of these, from the first on
abbrev pub AddsSomeRest : (from : ℕ) → ℤ → List ℕ → Rows → Rows → Type 0
AddsSomeRest from mail text old new =
    (n : ℕ) × (n ≤ sheet_count text - from) × AddsSheetsFrom from n mail text old new

-- one above the last place
abbrev pub next_place : List Rule → ℤ
next_place = fold (λ _ r. r.place +ℤ pos 1) (pos 1)

-- adds a rule after the others
abbrev pub AddsRule : Name → ℤ → Name → Name → Name → ℤ → Rows → Rows → Type 0
AddsRule name effect clerk maildrop class actions old new =
    new ≡ record old { rules = old.rules ++ record { place = next_place old.rules; name = name; effect = effect; clerk = clerk; maildrop = maildrop; class = class; actions = actions } ∷ [] }

-- drops every rule
abbrev pub ClearsRules : Rows → Rows → Type 0
ClearsRules old new = new ≡ record old { rules = [] }

-- one above the last place
abbrev pub next_group : List Group → ℤ
next_group = fold (λ _ g. g.place +ℤ pos 1) (pos 1)

-- adds a group after the others, without members
abbrev pub AddsGroup : Name → Rows → Rows → Type 0
AddsGroup name old new = new ≡ record old { groups = old.groups ++ record { place = next_group old.groups; name = name } ∷ [] }

-- adds a member
abbrev pub AddsMember : Member → Rows → Rows → Type 0
AddsMember member old new = new ≡ record old { members = old.members ++ member ∷ [] }

-- drops every group with its members
abbrev pub ClearsGroups : Rows → Rows → Type 0
ClearsGroups old new = new ≡ record old { groups = []; members = [] }

-- drops every message of version 1
abbrev pub ClearsBodies : Rows → Rows → Type 0
ClearsBodies old new = new ≡ record old { bodies = [] }
