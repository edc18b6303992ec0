-- The steps of a deposit in parts.
use Rattle.std.specs.Prelude.{◌≡◌, ◌+◌, ◌-◌, ◌/◌, ◌%◌, ⊤, Option, Some, None, ℕ, pos, List, length, take, filter, not}
use Rattle.std.proofs.Common.{ℤ, SFits, w64, to_z, of_z, to_z-of_z, Result, Ok, Err, refl, subst, sym, ap, ◌∙◌, ◌++◌, ◌∷◌, [], append_assoc, append-nil, true}
use lib.Seq.{take-append_seam}
use Rattle.sqlite_trees.specs.declared.store.Store.{Ghosts}
use Rattle.sqlite.specs.Held.{Held, state}
use Rattle.sqlite.specs.declared.error.Error.{Error}
use Rattle.sqlite.specs.State.{HasCleanDisk}
use Rattle.mailtext.specs.MailText.{IsMailText}
use Rattle.creds.specs.Names.{is_name, is_deposit_id}
use Rattle.creds.specs.Digests.{text_digest}
use Rattle.creds.specs.declared.uid.Uid.{Uid}
use Rattle.vault.specs.declared.answer.Deposited.{Deposited}
use Rattle.vault.specs.declared.answer.Deposited.TheVariants as stored
use Rattle.vault.specs.declared.fault.VaultFault.{VaultFault}
use Rattle.vault.specs.declared.record.Keyed.{Keyed}
use Rattle.vault.specs.declared.record.Receipt.{Receipt}
use Rattle.vault.specs.Stops.{IsOwn}
use Rattle.vault.specs.Changes.{Contents, with_deposit, receipt_for, deposit_answered, is_full}
use Rattle.vault.specs.Records.{is_one_of, receipt_of, receipts_of, class_count}
use Rattle.vault.specs.Calls.{IsAnswer, IsDeposited, deposit_result, present_in}
use Rattle.vault.proofs.DepositLemmas.{judged_new}
use Rattle.mailsql.specs.declared.rows.Message.{Message}
use Rattle.mailsql.specs.declared.rows.Sheet.{Sheet}
use Rattle.mailsql.specs.Rows.{Rows, is_count}
use Rattle.mailsql.specs.Changes.{AddsMessage, AddsRest}
use Rattle.mailsql.specs.Sheets.{sheet_count, sheets_of, sheets_from}
use Rattle.mailsql.proofs.CutLemmas.{rest_of_text}
use Rattle.sqlvault.specs.Keeps.{Keeps, row_key, message_row, deposit_row}
use Rattle.sqlvault.specs.Deposits.{PutsReceipt, Accepts, count_row, message_of}
use Rattle.sqlvault.specs.Refusals.{fault_of, answer_of, as_met, told}
use Rattle.sqlvault.specs.declared.refusal.Refusal.{Refusal}
use Rattle.sqlvault.specs.Stands.{Holds}
use Rattle.sqlvault.specs.Transactions.{Begins, Concludes}
use Rattle.sqlvault.specs.Frame.{IsOk, MadeOr, Looks, Writes}
use Rattle.sqlvault.specs.Arrivals.{Arrival, ShowsPart, AcceptsAny, AddsRow, PutsRest, with_put, arrival_row, arrival_uid}
use Rattle.sqlvault.specs.UnderWay.{Prepares, Finishes, begun}
use Rattle.sqlvault.specs.declared.work.Work.TheVariants as works
use Rattle.sqlvault.proofs.SmallLemmas.{lt-nat_lt, below_64}
use Rattle.sqlvault.proofs.HoldsLemmas.{met}
use Rattle.sqlvault.proofs.StopLemmas.{not_own, or_said}
use Rattle.sqlvault.proofs.WithinLemmas as within
use Rattle.sqlvault.proofs.FrameLemmas.{begins_clean, concluded_in, of_ended}
use Rattle.sqlvault.proofs.UnderWayLemmas.{prepares_more}
use Rattle.sqlvault.proofs.DepositLemmas.{judged_unknown}
use Rattle.sqlvault.proofs.deposit.KeptLemmas.{accepts, deposited, undeposited, kept_after}

-- ---- rows with a part of a message

-- the rows with the message's row, before any sheet
pub shows_first : (a : Arrival) (c : Contents) (rows after : Rows) → a.put ≡ [] → Keeps rows c → AddsRow a.key a.maildrop a.class a.k a.octets rows after
    → AcceptsAny c a.maildrop a.class a.id (arrival_uid a) → ShowsPart a c after
shows_first a c rows after none keeps added accepted = record {
  before = rows;
  keeps = keeps;
  between = after;
  added = added.1;
  sheets = ap (λ (l : List Sheet). let r : Rows = record after { sheets = l } in r)
      (sym (append-nil after.sheets) ∙ ap (λ (t : List ℕ). after.sheets ++ sheets_of (row_key a.key) t) (sym none));
  key = added.0;
  accepted = accepted;
}

-- and with some more sheets
pub shows_more : (a : Arrival) (c : Contents) (rows after : Rows) (text : List ℕ) → length a.put % 4096 ≡ 0 → take (length a.put) text ≡ a.put
    → ShowsPart a c rows → AddsRest (length a.put / 4096) (row_key a.key) text rows after → ShowsPart (with_put text a) c after
shows_more a c rows after text whole begins shown more =
    let mail = row_key a.key in
    let rest = sheets_from (length a.put / 4096) (sheet_count text - length a.put / 4096) mail text in
    record {
      before = shown.before;
      keeps = shown.keeps;
      between = shown.between;
      added = shown.added;
      sheets = more ∙ ap (λ (l : Rows). let r : Rows = record l { sheets = l.sheets ++ rest } in r) shown.sheets
          ∙ ap (λ (l : List Sheet). let r : Rows = record (shown.between) { sheets = l } in r)
          (append_assoc shown.between.sheets (sheets_of mail a.put) rest ∙ ap (λ (l : List Sheet). shown.between.sheets ++ l) (rest_of_text mail a.put text whole begins));
      key = shown.key;
      accepted = shown.accepted;
    }

-- ---- the rows with the whole deposit

module _ (a : Arrival) (c : Contents) (text : List ℕ) where
  abbrev own_receipt : Receipt
  own_receipt = receipt_for a.maildrop a.class a.id text a.k

  abbrev own_keyed : Keyed
  own_keyed = record { key = a.key; message = message_of own_receipt text }

  -- once its receipt was put, the rows are those of the contents with it
  whole_kept : (rows after : Rows) → a.octets ≡ length text → a.put ≡ text → ShowsPart a c rows → PutsReceipt own_receipt rows after → Accepts c own_receipt text
      → Keeps after (with_deposit a.key (message_of own_receipt text) own_receipt c)
  whole_kept rows after sized all shown put accepted =
      let r = own_receipt in
      let row : arrival_row a ≡ message_row own_keyed =
      ap (λ (n : ℕ). let m : Message = record { key = row_key a.key; maildrop = a.maildrop; class = a.class; k = pos a.k; octets = pos n } in m) sized in
      let counts : Rows → Rows = λ l. record l { counts = filter (λ x. not (is_count r.maildrop r.class x)) l.counts ++ count_row r ∷ [] } in
      let received : Rows → Rows = λ l. record l { deposits = l.deposits ++ deposit_row r ∷ [] } in
      let arrived : Message → Rows → Rows = λ m l. record l { messages = l.messages ++ m ∷ [] } in
      let cut : List ℕ → Rows → Rows = λ t l. record l { sheets = l.sheets ++ sheets_of (row_key a.key) t } in
      let between : shown.between ≡ arrived (message_row own_keyed) shown.before = shown.added.added ∙ ap (λ (m : Message). arrived m shown.before) row in
      let at : rows ≡ cut text (arrived (message_row own_keyed) shown.before) = shown.sheets ∙ ap (λ (t : List ℕ). cut t shown.between) all ∙ ap (cut text) between in
      let end : after ≡ cut text (arrived (message_row own_keyed) (received (counts shown.before))) = put.2 ∙ ap received put.1 ∙ ap (λ (l : Rows). received (counts l)) at in
      kept_after shown.before (received (counts shown.before)) after c r text shown.keeps accepted (counts shown.before, refl, refl) (
        a.key,
        shown.key,
        (
          arrived (message_row own_keyed) (received (counts shown.before)),
          record { added = refl; above = shown.added.above },
          end,
        ),
      )

-- ---- its beginning

-- the row that was added under a key
pub row_put : (d class : List ℕ) (k octets : ℕ) (key k_row octets_row : ℤ) (named classed : List ℕ) (rows after : Rows)
    → SFits w64 key → named ≡ d → classed ≡ class → k_row ≡ pos k → octets_row ≡ pos octets
    → AddsMessage (record { key = key; maildrop = named; class = classed; k = k_row; octets = octets_row }) rows after → AddsRow (of_z w64 key) d class k octets rows after
row_put d class k octets key k_row octets_row named classed rows after fits a b e f it =
    let row : (let m : Message = record { key = key; maildrop = named; class = classed; k = k_row; octets = octets_row } in m)
    ≡ record { key = to_z w64 (of_z w64 key); maildrop = d; class = class; k = pos k; octets = pos octets } =
    λ i. let m : Message = record { key = sym (to_z-of_z fits) i; maildrop = a i; class = b i; k = e i; octets = f i } in m in (
      lt-nat_lt (of_z w64 key) 18446744073709551616 (below_64 key 18446744073709551616 fits refl),
      subst (λ (m : Message). AddsMessage m rows after) row it,
    )

-- it was judged, and its row was added in a transaction that was begun
pub coming_begun : {S : Type 0} {Own : Type 0} {store : Ghosts S} {old mid first new : Held S} {u : Unit {0}} (a : Arrival) → a.put ≡ []
    → Looks store old mid ⊤ → Begins store mid first (Ok u)
    → (let r : Result ℕ Error = Ok a.key in Writes store first new (λ key. AddsRow key a.maildrop a.class a.k a.octets) r)
    → (HasCleanDisk (state store mid) → (c : Contents) → Holds (state store old) c → AcceptsAny c a.maildrop a.class a.id (arrival_uid a))
    → Prepares store old new None (Some (works.Deposit a)) Own
coming_begun {store = store} {old = old} {mid = mid} {first = first} {new = new} a none look begins part accepts = record {
  clean = λ clean. look.clean (begins_clean begins (part.clean clean));
  held = λ clean c h.
      let clean1 = part.clean clean in
      let clean0 = begins_clean begins clean1 in
      let b = within.begun (state store mid) (state store first) c clean1 begins.law (begins.ok clean1).1 begins.survives (look.rests clean0 c h).held in
      let made = part.made clean c b.0 b.2 in
      record { rows = made.0; within = made.2; shown = shows_first a c b.0 made.0 none b.1 made.1 (accepts clean0 c h) };
  up = λ clean c h up own.
      let clean1 = part.clean clean in
      let clean0 = begins_clean begins clean1 in
      let b = within.begun (state store mid) (state store first) c clean1 begins.law (begins.ok clean1).1 begins.survives (look.rests clean0 c h).held in
      (part.made clean c b.0 b.2).2.is_open;
  stop = λ clean c h up left.
      let clean1 = part.clean clean in
      let clean0 = begins_clean begins clean1 in
      let b = within.begun (state store mid) (state store first) c clean1 begins.law (begins.ok clean1).1 begins.survives (look.rests clean0 c h).held in
      (part.made clean c b.0 b.2).2.stop;
}

-- ---- a piece

pub coming_more : {S : Type 0} {Own : Type 0} {store : Ghosts S} {old new : Held S} {u : Unit {0}} (a after : Arrival) (octets : List ℕ) → length a.put % 4096 ≡ 0
    → after ≡ with_put (a.put ++ octets) a
    → (let r : Result (Unit {0}) Error = Ok u in Writes store old new (λ _. AddsRest (length a.put / 4096) (row_key a.key) (a.put ++ octets)) r)
    → Prepares store old new (Some (works.Deposit a)) (Some (works.Deposit after)) Own
coming_more {Own = Own} {store = store} {old = old} {new = new} a after octets whole is part =
    subst (λ (x : Arrival). Prepares store old new (Some (works.Deposit a)) (Some (works.Deposit x)) Own) (sym is)
    (prepares_more (works.Deposit a) (works.Deposit (with_put (a.put ++ octets) a))
    (λ c from to shown more. shows_more a c from to (a.put ++ octets) whole (take-append_seam a.put octets) shown more) part)

-- ---- its end

-- the answer of a deposit by what its commit is answered
abbrev pub deposited_as : Uid → Result (Unit {0}) Refusal → Result Deposited VaultFault
deposited_as uid (Ok x) = Ok (stored.New uid)
deposited_as uid (Err r) = Err (told r)

own_deposited : (uid : Uid) (r : Result (Unit {0}) Error) → IsOwn (deposited_as uid (as_met r))
    → IsOk (as_met r)
own_deposited uid (Ok x) own = tt
own_deposited uid (Err e) own = absurd (not_own Deposited e own)

module _ (a : Arrival) (c : Contents) (text : List ℕ) where
  abbrev after_it : Contents
  after_it = with_deposit a.key (message_of (own_receipt a c text) text) (own_receipt a c text) c

  deposit_new : (Held : Contents → Type 0) → AcceptsAny c a.maildrop a.class a.id (arrival_uid a) → Held after_it → IsDeposited Held c a.maildrop a.class a.id text (Ok (stored.New (arrival_uid a)))
  deposit_new Held accepted held = deposited Held c a.maildrop a.class a.id text (arrival_uid a) (own_receipt a c text) refl (accepted text) (a.key, held)

  deposit_done : (Held : Contents → Type 0) (r : Result (Unit {0}) Error) → AcceptsAny c a.maildrop a.class a.id (arrival_uid a) → MadeOr (as_met r) (λ H. H after_it) c Held
      → IsDeposited Held c a.maildrop a.class a.id text (deposited_as (arrival_uid a) (as_met r))
  deposit_done Held (Ok x) accepted held = deposit_new Held accepted held
  deposit_done Held (Err e) accepted held = undeposited Held c a.maildrop a.class a.id text (fault_of e) (met (Ok tt) e) held

-- what is known of its text and its receipt
pub record IsWhole (a : Arrival) (text : List ℕ) (r : Receipt) : Type 0 where
  pub receipt : r ≡ receipt_for a.maildrop a.class a.id text a.k
  pub maildrop : is_name a.maildrop ≡ true
  pub id : is_deposit_id a.id ≡ true
  pub class : is_name a.class ≡ true
  pub form : IsMailText text
  pub digest : length (text_digest text) ≡ 32
  pub octets : a.octets ≡ length text
  pub whole : length a.put % 4096 ≡ 0
  pub begins : take (length a.put) text ≡ a.put

-- the rest was put, and the transaction is concluded
pub coming_concluded : {S : Type 0} {store : Ghosts S} {old last new : Held S} (a : Arrival)
    (text : List ℕ) (r : Receipt) (w : Result (Unit {0}) Error) (said : Result (Unit {0}) Refusal)
    → IsWhole a text r
    → Writes store old last (λ _. PutsRest (length a.put / 4096) a.key text r) w
    → Concludes store last new w said
    → Finishes store old new (works.Deposit a) (λ c Held answered. IsDeposited Held c a.maildrop a.class a.id text answered)
    (deposited_as (arrival_uid a) said)
coming_concluded {store = store} {old = old} {new = new} a text r w said is part it = record {
  clean = λ clean. part.clean (it.clean clean);
  turns = λ clean c h.
      let own = own_receipt a c text in
      let accepted = accepts c a.maildrop a.class a.id text (arrival_uid a) own refl is.maildrop is.id is.class is.form is.digest (h.shown.accepted text) in
      let after = after_it a c text in
      let turns = concluded_in {old = old} (λ Held. Held after) w said c h.rows h.within part (λ to puts.
      let all = shows_more a c h.rows puts.0 text is.whole is.begins h.shown puts.1 in (
        after,
        whole_kept (with_put text a) c text puts.0 to is.octets refl all (subst (λ (x : Receipt). PutsReceipt x puts.0 to) is.receipt puts.2) accepted,
        λ Held held. held,
      )) it clean in
      record {
        done = of_ended (λ s. MadeOr s (λ Held. Held after) c (Holds (state store new)) → IsDeposited (Holds (state store new)) c a.maildrop a.class a.id text (deposited_as (arrival_uid a) s))
            w said it (λ ended. deposit_done a c text (Holds (state store new)) ended h.shown.accepted) turns.done;
        up = λ up own. turns.up up (of_ended (λ s. IsOwn (deposited_as (arrival_uid a) s) → IsOk s) w said it (own_deposited (arrival_uid a)) own);
        stop = λ up left. or_said (λ Held. Held after) (λ Held. (x : Deposited) × IsDeposited Held c a.maildrop a.class a.id text (Ok x)) (state store new) c
            (λ Held held. (stored.New (arrival_uid a), deposit_new a c text Held h.shown.accepted held)) (turns.stop up left);
      };
}

-- ---- how it was judged

pub judged_any : (c : Contents) (d class id : List ℕ) (uid : Uid) → is_one_of d c.maildrops ≡ true → receipt_of id (receipts_of d c.deposits) ≡ None
    → ((text : List ℕ) → (let r : Result Deposited VaultFault = Ok (stored.New uid) in
    IsAnswer (deposit_result (deposit_answered None class text (is_full (present_in d c) (receipts_of d c.deposits) class) (class_count class (receipts_of d c.deposits) + 1))) r))
    → AcceptsAny c d class id uid
judged_any c d class id uid there none h text = judged_unknown c d class id text (Ok (stored.New uid)) there none (h text)

pub same_uid : (u v : Uid) → (let r : Result (Option Uid) Refusal = Ok (Some u) in r ≡ Ok (Some v)) → u ≡ v
same_uid u v e = cc

-- the class that it was judged for is its own
pub own_uid : (c : Contents) (d class id : List ℕ) (uid : Uid) → AcceptsAny c d class id uid → AcceptsAny c d class id (record { class = class; k = uid.k })
own_uid c d class id uid h =
    let same : uid ≡ (let x : Uid = record { class = class; k = uid.k } in x) = ap (λ (x : List ℕ). let y : Uid = record { class = x; k = uid.k } in y) (judged_new c d class id [] uid (h [])).1 in
    subst (AcceptsAny c d class id) same h

-- what one statement made is as well said under another key
pub row_written : {S A B : Type 0} {store : Ghosts S} {old new : Held S} {First : A → Rows → Rows → Type 0} {Said : B → Rows → Rows → Type 0} (x : A) (y : B)
    → (let r : Result A Error = Ok x in Writes store old new First r)
    → ((from to : Rows) → First x from to → Said y from to) → (let r : Result B Error = Ok y in Writes store old new Said r)
row_written x y it say = record {
  clean = it.clean;
  made = λ clean base rows w. let made = it.made clean base rows w in (made.0, say rows made.0 made.1, made.2);
}

-- ---- what a vault tells of it

pub told_begun : (r : Result (Option Arrival) Refusal) (said : Result (Option Arrival) VaultFault) → said ≡ answer_of r → begun r ≡ begun said
told_begun r said same = at r ∙ sym (ap (λ (x : Result (Option Arrival) VaultFault). begun x) same)
  where
    at : (r : Result (Option Arrival) Refusal) → begun r ≡ begun (answer_of r)
    at (Ok (Some a)) = refl
    at (Ok None) = refl
    at (Err e) = refl

-- ---- the sheets that one call adds, as well said

pub rest_written : {S : Type 0} {store : Ghosts S} {old new : Held S} (from asked key named : ℕ) (text given : List ℕ) (r : Result (Unit {0}) Error) → from ≡ asked → key ≡ named → text ≡ given
    → Writes store old new (λ _. AddsRest from (row_key key) text) r → Writes store old new (λ _. AddsRest asked (row_key named) given) r
rest_written {store = store} {old = old} {new = new} from asked key named text given r a b e it =
    subst (λ (t : List ℕ). Writes store old new (λ _. AddsRest asked (row_key named) t) r) e
    (subst (λ (k : ℕ). Writes store old new (λ _. AddsRest asked (row_key k) text) r) b
    (subst (λ (n : ℕ). Writes store old new (λ _. AddsRest n (row_key key) text) r) a it))

pub put_written : {S : Type 0} {store : Ghosts S} {old new : Held S} (from asked key named : ℕ) (text given : List ℕ) (r : Receipt) (done : Result (Unit {0}) Error)
    → from ≡ asked → key ≡ named → text ≡ given
    → Writes store old new (λ _. PutsRest from key text r) done → Writes store old new (λ _. PutsRest asked named given r) done
put_written {store = store} {old = old} {new = new} from asked key named text given r done a b e it =
    subst (λ (t : List ℕ). Writes store old new (λ _. PutsRest asked named t r) done) e
    (subst (λ (k : ℕ). Writes store old new (λ _. PutsRest asked k text r) done) b
    (subst (λ (n : ℕ). Writes store old new (λ _. PutsRest n key text r) done) a it))

-- what its receipt says of the text
pub whole_of : (a : Arrival) (text bytes : List ℕ) (r : Receipt) → bytes ≡ text → IsMailText text → take (length a.put) text ≡ a.put → a.octets ≡ length text → length a.put % 4096 ≡ 0
    → (take (length a.put) bytes ≡ a.put → r ≡ receipt_for a.maildrop a.class a.id bytes a.k) → is_name a.maildrop ≡ true → is_deposit_id a.id ≡ true → is_name a.class ≡ true → length r.digest ≡ 32
    → IsWhole a text r
whole_of a text bytes r same form begins octets whole receipt maildrop id class sized =
    let is : r ≡ receipt_for a.maildrop a.class a.id text a.k =
    receipt (ap (λ (t : List ℕ). take (length a.put) t) same ∙ begins) ∙ ap (λ (t : List ℕ). receipt_for a.maildrop a.class a.id t a.k) same in
    record {
      receipt = is;
      maildrop = maildrop;
      id = id;
      class = class;
      form = form;
      digest = ap (λ (x : Receipt). length x.digest) (sym is) ∙ sized;
      octets = octets;
      whole = whole;
      begins = begins;
    }
