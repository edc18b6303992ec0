-- Which messages have the text that came with their deposit: the store keeps a SHA-256 of each.
use Rattle.std.specs.Prelude.{◌≡◌, ℕ, Bool, true, false, not, ◌&&◌, List, [], ◌++◌, codes, map}
use Rattle.std.specs.Prelude.{filter, Option, None, Some}
use Rattle.std.specs.declared.cmp.Ordering.{Ordering}
use Rattle.std.specs.Ordering.{nat_cmp, is_eq, ordering_then}
use Rattle.std.specs.Cmp.Lexicographic.{slice_cmp}
use Rattle.std.specs.List.{list_any, flat_map}
use Rattle.std.specs.Str.{bytes_eq}
use Rattle.std.specs.BTreeSet.{BTreeSet, contains}
use Rattle.creds.specs.Digests.{text_digest}
use Rattle.creds.specs.Uid.{uid_text}
use Rattle.vault.specs.declared.answer.Head.{Head}
use Rattle.vault.specs.declared.answer.Total.{Total}
use Rattle.vault.specs.declared.record.Keyed.{Keyed}
use Rattle.vault.specs.declared.record.Message.{Message}
use Rattle.vault.specs.declared.record.Receipt.{Receipt}
use Rattle.vault.specs.Calls.{text_under}
use Rattle.vault.specs.Changes.{Contents, kept_in, records_of, totals}
use Rattle.vault.specs.Records.{is_receipt_for}
use Rattle.converse.specs.declared.texts.Texts.{Texts}
use Rattle.converse.specs.declared.texts.Texts.TheVariants.{Taken, Compared}

-- the deposits whose digests texts are held against; `None` if each text is taken as it is
abbrev pub against : Texts → Option (List Receipt)
against Taken = None
against (Compared receipts) = Some receipts.items

-- the digest that was kept of the message's deposit is that of its text
abbrev pub has_digest : List Receipt → Message → Bool
has_digest receipts m =
    list_any (λ (r : Receipt). is_receipt_for m r && bytes_eq r.digest (text_digest m.text)) receipts

-- the message has the text of its deposit, as far as texts are compared
abbrev pub is_intact : Option (List Receipt) → Message → Bool
is_intact None m = true
is_intact (Some receipts) m = has_digest receipts m

-- a maildrop's messages that have it, in order of arrival
abbrev pub intact_in : (against : Option (List Receipt)) → (maildrop : List ℕ) → Contents
    → List Keyed
intact_in rs d c = filter (λ (x : Keyed). is_intact rs x.message) (kept_in d c.messages)

-- and those that haven't
abbrev pub differing_in : (against : Option (List Receipt)) → (maildrop : List ℕ) → Contents
    → List Keyed
differing_in rs d c = filter (λ (x : Keyed). not (is_intact rs x.message)) (kept_in d c.messages)

-- those of all maildrops, by the maildrop's name
abbrev pub differing : (against : Option (List Receipt)) → Contents → List Keyed
differing rs c = flat_map (λ (t : Total). differing_in rs t.maildrop c) (totals (records_of c))

-- the line that tells of one: its maildrop and its unique-id
abbrev pub differs_text : (maildrop class : List ℕ) → (k : ℕ) → List ℕ
differs_text d class k =
    codes "differs " ++ d ++ codes " " ++ uid_text (record { class = class; k = k }) ++ codes "\n"

abbrev pub differs_line : Keyed → List ℕ
differs_line x = differs_text x.message.maildrop x.message.class x.message.k

-- whether there are none of them
abbrev pub HasNone : (intact : Bool) → List Keyed → Type 0
HasNone true xs = xs ≡ []
HasNone false xs = ¬ (xs ≡ [])

-- ---- by heads

-- a maildrop's message of this head
abbrev pub message_under : (maildrop : List ℕ) → Contents → Head → Message
message_under d c h =
    record { maildrop = d; class = h.class; k = h.k; text = text_under h.key c.messages }

-- it has the text of its deposit
abbrev pub has_intact : (against : Option (List Receipt)) → (maildrop : List ℕ) → Contents → Head
    → Bool
has_intact rs d c h = is_intact rs (message_under d c h)

-- the line that tells of one that hasn't
abbrev pub head_line : (maildrop : List ℕ) → Head → List ℕ
head_line d h = differs_text d h.class h.k

-- ---- the marks of deposits

-- a deposit's maildrop, class, number and digest
abbrev pub Mark : Type 0
Mark = List ℕ × List ℕ × ℕ × List ℕ

abbrev pub mark_of : Receipt → Mark
mark_of r = (r.maildrop, r.class, r.k, r.digest)

-- their order
abbrev pub mark_cmp : Mark → Mark → Ordering
mark_cmp x y =
    ordering_then (ordering_then
    (ordering_then (slice_cmp nat_cmp x.0 y.0) (slice_cmp nat_cmp x.1 y.1)) (nat_cmp x.2 y.2))
    (slice_cmp nat_cmp x.3 y.3)

-- the mark is among these
abbrev pub has_mark : List Mark → Mark → Bool
has_mark ms q = list_any (λ (x : Mark). is_eq (mark_cmp x q)) ms

-- the set has just these marks
abbrev pub IsSetOf : List Mark → BTreeSet Mark → Type 0
IsSetOf ms s = (q : Mark) → contains mark_cmp s q ≡ has_mark ms q

-- the marks that texts are held against
abbrev pub AreMarks : (against : Option (List Receipt)) → Option (BTreeSet Mark) → Type 0
AreMarks None marks = marks ≡ None
AreMarks (Some receipts) None = ⊥
AreMarks (Some receipts) (Some marks) = IsSetOf (map mark_of receipts) marks
