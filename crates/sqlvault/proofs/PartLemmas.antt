-- Parts of the rows that are judged one after the other.
use Rattle.std.proofs.Common.{◌≡◌, Bool, true, false, List, [], ◌∷◌, ℕ, Result, Ok, Some, refl, sym, subst}
use Rattle.std.specs.List.{list_all}
use Rattle.sqlite_trees.specs.declared.store.Store.{Ghosts}
use Rattle.sqlite.specs.declared.error.Error.{Error}
use Rattle.sqlite.specs.Held.{Held, state}
use Rattle.sqlite.specs.State.{HasCleanDisk}
use Rattle.policy.specs.Policy.{Policy}
use Rattle.vault.specs.declared.record.Clerk.{Clerk}
use Rattle.vault.specs.declared.record.Keyed.{Keyed}
use Rattle.vault.specs.declared.record.Receipt.{Receipt}
use Rattle.vault.specs.Records.{is_sound_message}
use Rattle.vault.specs.Changes.{Contents}
use Rattle.mailsql.specs.Apart.{AreApart}
use Rattle.mailsql.specs.Columns.{Rows}
use Rattle.mailsql.specs.Rows.{HasTables, IsReady, rows_in}
use Rattle.sqlvault.specs.declared.part.Part.{Part}
use Rattle.sqlvault.specs.declared.part.Part.TheVariants.{Clerks, Maildrops, Groups, Rules, Deposits, Messages}
use Rattle.sqlvault.specs.Frame.{Asks}
use Rattle.sqlvault.specs.Keeps.{Keeps, our_meta_row}
use Rattle.sqlvault.specs.Parts.{Finds, ClerksAre, MaildropsAre, PolicyIs, DepositsAre}
use Rattle.sqlvault.specs.Parts.{MessagesAre, records_with, messages_of}
use Rattle.sqlvault.specs.Judged.{MailIs, IsFirstUnsound, JudgesPolicy, IsJudged}
use Rattle.sqlvault.proofs.AskLemmas.{asks_ok, asks_then}
use Rattle.sqlvault.proofs.BehindLemmas.{said_behind}
use Rattle.sqlvault.proofs.RowFormLemmas.{policy_groups}

-- ---- the parts and the whole

module _ (rows : Rows) where
  abbrev pub Lists : Type 0
  Lists = (List Clerk × List (List ℕ)) × Policy

  abbrev pub Mail : Type 0
  Mail = List Receipt × List Keyed

  abbrev pub ListsAre : Lists → Type 0
  ListsAre x = (ClerksAre rows x.0.0 × MaildropsAre rows x.0.1) × PolicyIs rows x.1

pub own_maildrops : (rows : Rows) (ms : List (List ℕ)) → MaildropsAre rows ms → MaildropsAre rows rows.maildrops
own_maildrops rows ms is = subst (MaildropsAre rows) (sym is.same) is

pub whole : (rows : Rows) → rows.meta_rows ≡ our_meta_row ∷ [] → (xy : Lists rows × Mail rows) → ListsAre rows xy.0 × MailIs rows xy.1 → (c : Contents) × Keeps rows c
whole rows meta_rows xy both =
    let clerks = both.0.0.0 in
    let maildrops = own_maildrops rows xy.0.0.1 both.0.0.1 in
    let deposits = both.1.0 in
    let messages = both.1.1 in (
      record { clerks = xy.0.0.0; maildrops = rows.maildrops; messages = xy.1.1; deposits = xy.1.0; policy = xy.0.1 },
      record {
        meta_row = meta_rows;
        clerks = clerks.same;
        maildrops = refl;
        counts = deposits.counts;
        deposits = deposits.same;
        messages = messages.same;
        sheets = messages.sheets;
        groups = both.0.1.groups;
        rules = both.0.1.same;
        keys = messages.keys;
        sound = record {
          records = record {
            clerks = clerks.sound;
            clerks_apart = clerks.apart;
            clerks_fit = clerks.fit;
            maildrops = maildrops.sound;
            maildrops_apart = maildrops.apart;
            maildrops_fit = maildrops.fit;
            messages = messages.sound;
            messages_apart = messages.apart;
            messages_fit = messages.fit;
            deposits = deposits.sound;
            ids_apart = deposits.ids_apart;
            uids_apart = deposits.uids_apart;
            policy = both.0.1.sound;
          };
          keys = messages.keys_apart;
        };
      },
    )

pub parts : (rows : Rows) (c : Contents) → Keeps rows c → (xy : Lists rows × Mail rows) × (ListsAre rows xy.0 × MailIs rows xy.1)
parts rows c k =
    let is = k.sound.records in (
      (((c.clerks, c.maildrops), c.policy), (c.deposits, c.messages)),
      (
        (
          (
            record { same = k.clerks; sound = is.clerks; apart = is.clerks_apart; fit = is.clerks_fit },
            record { same = k.maildrops; sound = is.maildrops; apart = is.maildrops_apart; fit = is.maildrops_fit },
          ),
          record { groups = k.groups; same = k.rules; sound = is.policy },
        ),
        (
          record { same = k.deposits; counts = k.counts; sound = is.deposits; ids_apart = is.ids_apart; uids_apart = is.uids_apart },
          record {
            same = k.messages;
            sheets = k.sheets;
            keys = k.keys;
            sound = subst (λ ds. list_all (is_sound_message (records_with ds c.deposits)) (messages_of c.messages) ≡ true) (sym k.maildrops) is.messages;
            apart = is.messages_apart;
            keys_apart = k.sound.keys;
            fit = is.messages_fit;
          },
        ),
      ),
    )

-- ---- one part after another

-- Queries that were answered, and what they found of the rows before them.
pub record Tests {S : Type 0} (store : Ghosts S) (old new : Held S) (P : Rows → Type 0) : Type 0 where
  pub asks : (let done : Result (Unit {0}) Error = Ok tt in Asks store old new done)
  pub so : HasCleanDisk (state store new) → HasTables (state store old)
      → AreApart (rows_in (state store old).now.trees) → P (rows_in (state store old).now.trees)

-- a part was judged so
pub tests : {S A : Type 0} {store : Ghosts S} {old new : Held S} (P : Rows → A → Type 0)
    (x is : A) → x ≡ is → (let r : Result A Error = Ok x in Asks store old new r)
    → (HasCleanDisk (state store new) → HasTables (state store old)
    → AreApart (rows_in (state store old).now.trees)
    → P (rows_in (state store old).now.trees) x)
    → Tests store old new (λ rows. P rows is)
tests {store = store} {old = old} P x is test asks judged = record {
  asks = asks_ok asks;
  so = λ clean tables apart.
      subst (P (rows_in (state store old).now.trees)) test (judged clean tables apart);
}

-- what is found of the mail if the maildrops and the deposits are sound
abbrev FindsMail : Bool → Rows → Type 0
FindsMail is rows =
    MaildropsAre rows rows.maildrops → Finds (DepositsAre rows) true → Finds (MailIs rows) is

mail_found : (rows : Rows) (b is : Bool) → b ≡ is → (MaildropsAre rows rows.maildrops
    → (ds : List Receipt) → DepositsAre rows ds → Finds (MessagesAre rows ds) b)
    → FindsMail is rows
mail_found rows b true test judged own d =
    let m = subst (Finds (MessagesAre rows d.0)) test (judged own d.0 d.1) in
    ((d.0, m.0), (d.1, m.1))
mail_found rows b false test judged own d =
    λ mail both. subst (Finds (MessagesAre rows mail.0)) test (judged own mail.0 both.0) mail.1 both.1

-- the messages are sound, or aren't
pub tests_mail : {S : Type 0} {store : Ghosts S} {old new : Held S} (b is : Bool) → b ≡ is
    → (let r : Result Bool Error = Ok b in Asks store old new r)
    → ((ds : List Receipt) → HasCleanDisk (state store new) → HasTables (state store old)
    → AreApart (rows_in (state store old).now.trees)
    → MaildropsAre (rows_in (state store old).now.trees)
    (rows_in (state store old).now.trees).maildrops
    → DepositsAre (rows_in (state store old).now.trees) ds
    → Finds (MessagesAre (rows_in (state store old).now.trees) ds) b)
    → Tests store old new (FindsMail is)
tests_mail {store = store} {old = old} b is test asks judged = record {
  asks = asks_ok asks;
  so = λ clean tables apart. mail_found (rows_in (state store old).now.trees) b is test
      (λ own ds d. judged ds clean tables apart own d);
}

-- one part after another
pub tests_then : {S : Type 0} {store : Ghosts S} {old mid new : Held S} {P Q : Rows → Type 0}
    → Tests store old mid P → Tests store mid new Q → Tests store old new (λ rows. P rows × Q rows)
tests_then {Q = Q} p q = record {
  asks = asks_then p.asks q.asks;
  so = λ clean tables apart.
      let before = q.asks.clean clean in
      (p.so before tables apart, said_behind Q p.asks before tables apart (q.so clean));
}

-- what was found, if the keys hold
pub found : {S : Type 0} {store : Ghosts S} {old new : Held S} {P : Rows → Type 0}
    → Tests store old new P → HasCleanDisk (state store new) → HasTables (state store old)
    → (IsReady (state store old) → AreApart (rows_in (state store old).now.trees))
    → P (rows_in (state store old).now.trees)
found p clean tables keys =
    let up = (p.asks.same clean tables).0.was_open in
    p.so clean tables (keys (up, tables up))

-- if a part isn't sound, the rows are no contents
none_kept : (rows : Rows) (part : Part) → IsFirstUnsound rows part → (c : Contents) → Keeps rows c
    → ⊥
none_kept rows Clerks none c k = let p = parts rows c k in none p.0.0.0.0 p.1.0.0.0
none_kept rows Maildrops it c k = let p = parts rows c k in it.1 p.0.0.0.1 p.1.0.0.1
none_kept rows Groups it c k =
    let p = parts rows c k in
    it.2 p.0.0.1.groups (policy_groups rows p.0.0.1 p.1.0.1)
none_kept rows Rules it c k = let p = parts rows c k in it.3 p.0.0.1 p.1.0.1
none_kept rows Deposits it c k = let p = parts rows c k in it.3 p.0.1.0 p.1.1.0
none_kept rows Messages it c k = let p = parts rows c k in it.4 p.0.1 p.1.1

pub judged_at : (rows : Rows) (part : Part) → IsFirstUnsound rows part → IsJudged rows (Some part)
judged_at rows part it = (none_kept rows part it, it)

-- the part of a policy
pub first_in_policy : (rows : Rows) (part : Part) → Finds (ClerksAre rows) true
    → Finds (MaildropsAre rows) true → JudgesPolicy rows (Some part) → IsFirstUnsound rows part
first_in_policy rows Clerks clerks maildrops it = absurd it
first_in_policy rows Maildrops clerks maildrops it = absurd it
first_in_policy rows Groups clerks maildrops it = (clerks, maildrops, it)
first_in_policy rows Rules clerks maildrops it = (clerks, maildrops, it.0, it.1)
first_in_policy rows Deposits clerks maildrops it = absurd it
first_in_policy rows Messages clerks maildrops it = absurd it
