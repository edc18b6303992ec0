-- What a store keeps (clerks, maildrops, messages, deposits, the policy), and when that is sound.
use Rattle.std.specs.Prelude.{◌≡◌, ℕ, Bool, true, not, ◌&&◌, ◌==◌, ◌≤◌, nat_le, nat_lt, List, length, filter, count_by, map, sum_by, Option}
use Rattle.std.specs.List.{find, list_any, list_all}
use Rattle.std.specs.Option.{option_map}
use Rattle.std.specs.Str.{bytes_eq}
use Rattle.mailtext.specs.Text.{kept_form}
use Rattle.creds.specs.declared.uid.Uid.{Uid}
use Rattle.creds.specs.Names.{is_name, is_deposit_id, is_secret, by_name}
use Rattle.creds.specs.declared.credential.Credential.{Credential}
use Rattle.creds.specs.declared.credential.Credential.TheVariants as kept
use Rattle.policy.specs.Policy.{Policy, is_sound_policy, are_distinct}
use Rattle.vault.specs.declared.record.Clerk.{Clerk}
use Rattle.vault.specs.declared.record.Message.{Message}
use Rattle.vault.specs.declared.record.Receipt.{Receipt}

-- four lists and the policy; a deposit's receipt outlives its message and its maildrop
pub record Records : Type 0 where
  pub clerks : List Clerk
  pub maildrops : List (List ℕ)
  pub messages : List Message
  pub deposits : List Receipt
  pub policy : Policy

-- ---- the limits of a store

-- the octets of a message in its kept form
abbrev pub most_octets : ℕ
most_octets = 26214400

-- the messages in a maildrop
abbrev pub most_messages : ℕ
most_messages = 10000

-- the deposits of a class into a maildrop's name
abbrev pub most_deposits : ℕ
most_deposits = 1000000000

-- the maildrops
abbrev pub most_maildrops : ℕ
most_maildrops = 1000

-- the clerks
abbrev pub most_clerks : ℕ
most_clerks = 1000

-- ---- looking into records

-- a message's unique-id (RFC 1939, 7: UIDL)
abbrev pub uid_of : Message → Uid
uid_of m = record { class = m.class; k = m.k }

-- a message's class, by which the policy decides
abbrev pub class_of : Message → List ℕ
class_of m = m.class

-- a message's size (RFC 1939, 11)
abbrev pub octets_of : Message → ℕ
octets_of m = length m.text

-- the sum of the messages' sizes
abbrev pub octets_of_all : List Message → ℕ
octets_of_all ms = sum_by octets_of ms

-- the two messages have one maildrop and one unique-id
abbrev pub same_message : Message → Message → Bool
same_message a b = bytes_eq a.maildrop b.maildrop && bytes_eq a.class b.class && a.k == b.k

-- the messages but those that are among the others, in order
abbrev pub without : List Message → List Message → List Message
without ms others = filter (λ m. not (list_any (same_message m) others)) ms

-- the messages of a maildrop, in order of arrival
abbrev pub in_maildrop : List ℕ → List Message → List Message
in_maildrop d ms = filter (λ m. bytes_eq m.maildrop d) ms

-- the receipts of a maildrop's name
abbrev pub receipts_of : List ℕ → List Receipt → List Receipt
receipts_of d rs = filter (λ r. bytes_eq r.maildrop d) rs

-- the receipt of an id, if the id was used
abbrev pub receipt_of : List ℕ → List Receipt → Option Receipt
receipt_of id rs = find (λ r. bytes_eq r.id id) rs

-- how many deposits of a class were ever accepted
abbrev pub class_count : List ℕ → List Receipt → ℕ
class_count class rs = count_by (λ r. bytes_eq r.class class) rs

-- the name is among the names
abbrev pub is_one_of : List ℕ → List (List ℕ) → Bool
is_one_of name names = list_any (λ x. bytes_eq x name) names

-- the credential of the clerk of that name, if there is one
abbrev pub credential_in : List ℕ → List Clerk → Option Credential
credential_in name clerks = option_map (λ (x : Clerk). x.credential) (find (λ x. bytes_eq x.name name) clerks)

-- ---- sound records

-- the two deposits have one maildrop's name and one id
abbrev pub same_id : Receipt → Receipt → Bool
same_id r s = bytes_eq r.maildrop s.maildrop && bytes_eq r.id s.id

-- the two deposits have one maildrop's name and one unique-id
abbrev pub same_uid : Receipt → Receipt → Bool
same_uid r s = bytes_eq r.maildrop s.maildrop && bytes_eq r.class s.class && r.k == s.k

-- the receipt is of the deposit that brought the message
abbrev pub is_receipt_for : Message → Receipt → Bool
is_receipt_for m r = bytes_eq m.maildrop r.maildrop && bytes_eq m.class r.class && m.k == r.k

-- the deposit's k is between 1 and the number of deposits of its class
abbrev pub is_counted : List Receipt → Receipt → Bool
is_counted rs r = nat_lt 0 r.k && nat_le r.k (class_count r.class (receipts_of r.maildrop rs))

-- the secret has its form, or the digest has 32 octets
abbrev pub is_sound_credential : Credential → Bool
is_sound_credential (kept.Apop secret) = is_secret secret
is_sound_credential (kept.Pass digest) = length digest == 32

-- a clerk's name and credential have their forms
abbrev pub is_sound_clerk : Clerk → Bool
is_sound_clerk c = is_name c.name && is_sound_credential c.credential

-- the text is a nonempty kept form within the limit; its maildrop and its receipt are there
abbrev pub is_sound_message : Records → Message → Bool
is_sound_message B m = bytes_eq (kept_form m.text) m.text && nat_lt 0 (octets_of m) && nat_le (octets_of m) most_octets
    && is_one_of m.maildrop B.maildrops && list_any (is_receipt_for m) B.deposits

-- names and id have their forms, k is counted and within the limit, the digest has 32 octets
abbrev pub is_sound_receipt : Records → Receipt → Bool
is_sound_receipt B r = is_name r.maildrop && is_deposit_id r.id && is_name r.class && is_counted B.deposits r
    && nat_le (class_count r.class (receipts_of r.maildrop B.deposits)) most_deposits && length r.digest == 32

-- each list's elements are sound, all different, and within the limits
pub record IsSound (B : Records) : Type 0 where
  pub clerks : list_all is_sound_clerk B.clerks ≡ true
  pub clerks_apart : are_distinct (λ (c e : Clerk). bytes_eq c.name e.name) B.clerks ≡ true
  pub clerks_fit : length B.clerks ≤ most_clerks
  pub maildrops : list_all is_name B.maildrops ≡ true
  pub maildrops_apart : are_distinct bytes_eq B.maildrops ≡ true
  pub maildrops_fit : length B.maildrops ≤ most_maildrops
  pub messages : list_all (is_sound_message B) B.messages ≡ true
  pub messages_apart : are_distinct same_message B.messages ≡ true
  pub messages_fit : (d : List ℕ) → length (in_maildrop d B.messages) ≤ most_messages
  pub deposits : list_all (is_sound_receipt B) B.deposits ≡ true
  pub ids_apart : are_distinct same_id B.deposits ≡ true
  pub uids_apart : are_distinct same_uid B.deposits ≡ true
  pub policy : is_sound_policy B.policy ≡ true

-- ---- records that nobody can tell apart

-- The records agree: order counts only among rules and among one maildrop's messages.
pub record Agree (A B : Records) : Type 0 where
  pub clerks : by_name (map (λ (c : Clerk). c.name) A.clerks) ≡ by_name (map (λ (c : Clerk). c.name) B.clerks)
  pub credentials : (name : List ℕ) → credential_in name A.clerks ≡ credential_in name B.clerks
  pub maildrops : by_name A.maildrops ≡ by_name B.maildrops
  pub messages : (d : List ℕ) → in_maildrop d A.messages ≡ in_maildrop d B.messages
  pub receipts : (d id : List ℕ) → receipt_of id (receipts_of d A.deposits) ≡ receipt_of id (receipts_of d B.deposits)
  pub counts : (d class : List ℕ) → class_count class (receipts_of d A.deposits) ≡ class_count class (receipts_of d B.deposits)
  pub policy : A.policy ≡ B.policy
