-- What each statement leaves of the maildrops, and what the rows say of them.
use Rattle.std.proofs.Common.{◌≡◌, ℕ, ◌<◌, ◌≤◌, true, false, List, [], ◌∷◌, ◌++◌, length, Ok, Err, refl, sym, ◌∙◌, ap, subst, arith}
use Rattle.std.specs.Prelude.{filter, min, ◌==◌}
use Rattle.std.proofs.lemmas.Bool.Decides.{nat_tests}
use Rattle.creds.specs.Names.{is_name}
use Rattle.vault.specs.declared.fault.VaultFault.TheVariants as fault
use Rattle.vault.specs.Records.{is_one_of, most_maildrops}
use Rattle.vault.specs.Changes.{Contents, AreSound, with_maildrop, without_maildrop, with_maildrops, kept_in}
use Rattle.vault.specs.Changes.{put_maildrop_answer, drop_answer}
use Rattle.vault.specs.Calls.{IsMaildropAdded, IsMaildropDropped, put_result, drop_result, present_in}
use Rattle.vault.proofs.ListLemmas.{filter-map, length-map}
use Rattle.vault.proofs.TotalLemmas.{present_is}
use Rattle.vault.proofs.MaildropLemmas.{sound_with_maildrop, sound_without_maildrop}
use Rattle.mailsql.specs.Rows.{Rows, has_name, is_in}
use Rattle.mailsql.specs.declared.rows.Message as row
use Rattle.mailsql.specs.Changes.{AddsMaildrop, DropsMaildrop}
use Rattle.sqlvault.specs.Keeps.{Keeps, message_row}
use Rattle.sqlvault.proofs.SmallLemmas.{lt-nat_le, le-nat_le}

-- ---- the rows

abbrev with_names : List (List ℕ) → Rows → Rows
with_names names rows = record rows { maildrops = names }

keeps_names : (rows : Rows) (c : Contents) (names : List (List ℕ)) → Keeps rows c → AreSound (with_maildrops names c) → Keeps (with_names names rows) (with_maildrops names c)
keeps_names rows c names k s = record {
  meta_row = k.meta_row;
  clerks = k.clerks;
  maildrops = refl;
  counts = k.counts;
  deposits = k.deposits;
  messages = k.messages;
  sheets = k.sheets;
  groups = k.groups;
  rules = k.rules;
  keys = k.keys;
  sound = s;
}

-- a name more, after the others
pub keeps_added : (c : Contents) (name : List ℕ) → is_name name ≡ true → is_one_of name c.maildrops ≡ false → length c.maildrops < most_maildrops
    → (from to : Rows) → AddsMaildrop name from to → Keeps from c → Keeps to (with_maildrops (c.maildrops ++ name ∷ []) c)
keeps_added c name form new room from to change k =
    subst (λ (r : Rows). Keeps r (with_maildrops (c.maildrops ++ name ∷ []) c)) (sym (change ∙ ap (λ (ns : List (List ℕ)). with_names (ns ++ name ∷ []) from) k.maildrops))
    (keeps_names from c (c.maildrops ++ name ∷ []) k (sound_with_maildrop c name k.sound form new room))

-- a name less, of a maildrop that is empty
pub keeps_dropped : (c : Contents) (name : List ℕ) → present_in name c ≡ 0
    → (from to : Rows) → DropsMaildrop name from to → Keeps from c → Keeps to (with_maildrops (without_maildrop name c.maildrops) c)
keeps_dropped c name empty from to change k =
    subst (λ (r : Rows). Keeps r (with_maildrops (without_maildrop name c.maildrops) c)) (sym (change ∙ ap (λ (ns : List (List ℕ)). with_names (without_maildrop name ns) from) k.maildrops))
    (keeps_names from c (without_maildrop name c.maildrops) k (sound_without_maildrop c name k.sound empty))

-- ---- what the rows say

pub there_is : (rows : Rows) (c : Contents) (name : List ℕ) → Keeps rows c → has_name name rows.maildrops ≡ is_one_of name c.maildrops
there_is rows c name k = ap (λ (ns : List (List ℕ)). is_one_of name ns) k.maildrops

pub count_is : (rows : Rows) (c : Contents) (n most : ℕ) → Keeps rows c → n ≡ min (length rows.maildrops) most → n ≡ min (length c.maildrops) most
count_is rows c n most k e = e ∙ ap (λ (ns : List (List ℕ)). min (length ns) most) k.maildrops

pub present_rows : (rows : Rows) (c : Contents) (name : List ℕ) (n most : ℕ) → Keeps rows c → n ≡ min (length (filter (is_in name) rows.messages)) most → n ≡ min (present_in name c) most
present_rows rows c name n most k e = e ∙ ap (λ (m : ℕ). min m most) (
    ap (λ (ms : List row.Message). length (filter (is_in name) ms)) k.messages
    ∙ ap (λ (ms : List row.Message). length ms) (filter-map message_row (is_in name) c.messages)
    ∙ length-map message_row (kept_in name c.messages)
    ∙ present_is name c)

-- ---- the answers

pub was_there : (Held : Contents → Type 0) (c : Contents) (name : List ℕ) → is_one_of name c.maildrops ≡ true → Held c → IsMaildropAdded Held c name (Ok false)
was_there Held c name e h = record { answer = rw e refl; held = rw e h }

pub missing : (Held : Contents → Type 0) (c : Contents) (name : List ℕ) → is_one_of name c.maildrops ≡ false → Held c → IsMaildropDropped Held c name (Err fault.NoMaildrop)
missing Held c name e h = record { answer = rw e refl; held = h }

pub full : (Held : Contents → Type 0) (c : Contents) (name : List ℕ) → is_one_of name c.maildrops ≡ false → most_maildrops ≤ length c.maildrops → Held c
    → IsMaildropAdded Held c name (Err fault.Full)
full Held c name e most h = let f = le-nat_le most_maildrops (length c.maildrops) most in record { answer = rw (e, f) refl; held = h }

pub not_empty : (Held : Contents → Type 0) (c : Contents) (name : List ℕ) → is_one_of name c.maildrops ≡ true → 0 < present_in name c → Held c
    → IsMaildropDropped Held c name (Err fault.NotEmpty)
not_empty Held c name e some h = let f = some_left (present_in name c) some in record { answer = rw (e, f) refl; held = h }
  where
    some_left : (n : ℕ) → 0 < n → (n == 0) ≡ false
    some_left n h = grind (arith, nat_tests)

-- ---- the changes

-- a new name with room for it can be added
pub may_add : (c : Contents) (text name : List ℕ) → text ≡ name → is_name name ≡ true
    → is_one_of name c.maildrops ≡ false → length c.maildrops < most_maildrops
    → (put_result (put_maildrop_answer name c.maildrops) ≡ Ok true)
    × ((from to : Rows) → AddsMaildrop text from to → Keeps from c
    → Keeps to (with_maildrops (with_maildrop name c.maildrops) c))
may_add c text name same form new fits = (
  let f = lt-nat_le most_maildrops (length c.maildrops) fits in rw (new, f) refl,
  subst (λ t. (from to : Rows) → AddsMaildrop t from to → Keeps from c
      → Keeps to (with_maildrops (with_maildrop name c.maildrops) c)) (sym same)
      (λ from to change k. rw new (keeps_added c name form new fits from to change k)),
)

-- an empty maildrop can be dropped
pub may_drop : (c : Contents) (text name : List ℕ) → text ≡ name
    → is_one_of name c.maildrops ≡ true → present_in name c ≡ 0
    → (drop_result (drop_answer (is_one_of name c.maildrops) (present_in name c)) ≡ Ok tt)
    × ((from to : Rows) → DropsMaildrop text from to → Keeps from c
    → Keeps to (with_maildrops (without_maildrop name c.maildrops) c))
may_drop c text name same there empty = (
  rw (there, empty) refl,
  subst (λ t. (from to : Rows) → DropsMaildrop t from to → Keeps from c
      → Keeps to (with_maildrops (without_maildrop name c.maildrops) c)) (sym same)
      (keeps_dropped c name empty),
)
