-- What a deposit and each command come to by what the vault answers.
use Rattle.std.proofs.Common.{◌≡◌, ℕ, ◌+◌, ◌<◌, Bool, true, false, ◌&&◌, ◌||◌, List, [], ◌∷◌, ◌++◌, length, Option, Some, None, Result, Ok, Err, refl, sym, ◌∙◌, ap, ap₂, subst, true≢false, lt-ltb}
use Rattle.std.proofs.lemmas.Bool.{ltb-true}
use Rattle.std.specs.Prelude.{map, is_some, is_ok, nat_le, nat_lt, if◌then◌else◌, ◌↔◌}
use Rattle.std.specs.Str.{bytes_eq}
use Rattle.mailtext.specs.Text.{kept_form}
use Rattle.mailtext.specs.declared.kept.TextFault.{TextFault}
use Rattle.mailtext.specs.declared.kept.TextFault.TheVariants as text_fault
use Rattle.creds.specs.Names.{is_name, is_deposit_id, by_name}
use Rattle.creds.specs.declared.credential.Credential.{Credential}
use Rattle.policy.specs.Policy.{decide}
use Rattle.policy.specs.declared.rule.Action.{Action}
use Rattle.vault.specs.declared.answer.ClerkKind.{ClerkKind}
use Rattle.vault.specs.declared.answer.Deposited.{Deposited}
use Rattle.vault.specs.declared.answer.Head.{Head}
use Rattle.vault.specs.declared.answer.Total.{Total}
use Rattle.vault.specs.declared.fault.VaultFault.{VaultFault}
use Rattle.vault.specs.declared.fault.VaultFault.TheVariants as fault
use Rattle.vault.specs.declared.record.Clerk.{Clerk}
use Rattle.vault.specs.declared.record.Keyed.{Keyed}
use Rattle.vault.specs.declared.record.Receipt.{Receipt}
use Rattle.vault.specs.Records.{Records, Agree, in_maildrop, without, receipts_of, receipt_of, class_count, is_one_of, is_sound_credential, credential_in, most_octets}
use Rattle.vault.specs.Records.{most_messages, most_deposits, most_clerks, most_maildrops}
use Rattle.vault.specs.Changes.{Contents, records_of, DepositAnswer, Accepted, KnownAs, deposit_answer, deposit_answered, message_for, receipt_for, with_deposit, heads, head_of}
use Rattle.vault.specs.Changes.{kept_in, PutAnswer, WasNew, WasThere, NoRoom, put_answer, put_clerk_answer, put_maildrop_answer, with_clerk, without_clerk, with_clerks}
use Rattle.vault.specs.Changes.{with_maildrop, without_maildrop, with_maildrops, DropAnswer, Gone, NotThere, drop_answer, total_in, totals}
use Rattle.vault.specs.Changes as changes
use Rattle.vault.specs.Calls.{IsDeposited, DepositLeft, deposit_result, deposit_answer_in, present_in, seen_as, heads_result, AreHeads, IsCredential, put_result, IsClerkPut}
use Rattle.vault.specs.Calls.{drop_clerk_result, IsClerkDropped, IsMaildropAdded, drop_result, IsMaildropDropped, AreTotals}
use Rattle.vault.specs.Clerks.{clerk_kinds, AreClerkKinds}
use Rattle.vault.proofs.KindLemmas.{kinds_alike}
use Rattle.office.specs.Answers.{Answer, ListClerks, ListMaildrops, ShowMaildrop, AddMaildrop, DropMaildrop, ShowClerk, PutClerk, DropClerk, Explain}
use Rattle.office.specs.Answers as answer
use Rattle.office.specs.History.{Deposit, Administer, Done, Answers, in_force, clerks, maildrops, exists, arrivals, receipts, deposits}
use Rattle.office.specs.Sessions.{holder, present, records, removed}
use Rattle.office.specs.Replying.{is_empty}
use Rattle.office.specs.Told.{deposited, answer_of_deposit, administered, answer_of_put, answer_of_drop, row_of, kind_of}
use Rattle.office.specs.Events.{Trace, Tagged, given}
use Rattle.office.specs.Events as event
use Rattle.office.specs.Trace.{acts, history}
use Rattle.office.specs.Outcomes as outcome
use Rattle.office.specs.Stands.{Keeps}
use Rattle.office.specs.VaultAnswers as by_vault
use Rattle.office.proofs.Accepting.{taken}
use Rattle.office.proofs.NameOrder.{same_any, same_length}
use Rattle.office.proofs.AgreeLists.{same_with, same_without, agree_maildrops, agree_with_clerk, agree_without_clerk, agree_deposit, in_maildrop-without, without_last, length_names}
use Rattle.office.proofs.NewMessage.{new_message}
use Rattle.office.proofs.Lying.{stays_by_deposit}
use Rattle.office.proofs.Quiet.{Became, Carries, called, done, lacked, keeps_with, keeps_same}

-- ---- lists

map_alike : {A B : Type 0} (f g : A → B) (xs : List A) → ((x : A) → f x ≡ g x) → map f xs ≡ map g xs
map_alike f g [] e = refl
map_alike f g (x ∷ xs) e = ap₂ (λ y ys. y ∷ ys) (e x) (map_alike f g xs e)

-- the heads' rows are the messages' rows
rows_at : (d : List ℕ) (ms : List Keyed) → map by_vault.row_of_head (map head_of (kept_in d ms)) ≡ map row_of (in_maildrop d (map (λ (x : Keyed). x.message) ms))
rows_at d [] = refl
rows_at d (x ∷ xs) = at (bytes_eq x.message.maildrop d) (rows_at d xs)
  where
    at : (b : Bool) → map by_vault.row_of_head (map head_of (kept_in d xs)) ≡ map row_of (in_maildrop d (map (λ (x : Keyed). x.message) xs))
        → map by_vault.row_of_head (map head_of (if b then x ∷ kept_in d xs else kept_in d xs))
        ≡ map row_of (if b then x.message ∷ in_maildrop d (map (λ (x : Keyed). x.message) xs) else in_maildrop d (map (λ (x : Keyed). x.message) xs))
    at true h = ap (λ rows. row_of x.message ∷ rows) h
    at false h = h

-- the store's refusal, whatever is looked at of an answer
pub store_seen : {A B : Type 0} (r : Result A VaultFault) (view : A → B) → seen_as r view ≡ Err fault.Store → r ≡ Err fault.Store
store_seen (Ok x) view e = cc
store_seen (Err f) view e = let s : f ≡ fault.Store = cc in ap (λ x. Err x) s

-- a call that only looks
still_there : (After : Contents → Type 0) (b : Bool) (c : Contents) → After (if b then c else c) → After c
still_there After true c h = h
still_there After false c h = h

-- ---- what the vault finds is what the trace says

module _ {Before : Contents → Type 0} (T : Trace) (k : Keeps Before T) where
  is_there : (d : List ℕ) → is_one_of d k.contents.maildrops ≡ exists T.base (history T) d
  is_there d = same_any (λ x. bytes_eq x d) k.contents.maildrops (maildrops T.base (history T)) k.agree.maildrops

  are_present : (d : List ℕ) → in_maildrop d (records_of k.contents).messages ≡ present T.base (history T) d
  are_present d = k.agree.messages d ∙ in_maildrop-without d (arrivals T.base (history T)) (removed T.base (history T))

  count_present : (d : List ℕ) → present_in d k.contents ≡ length (present T.base (history T) d)
  count_present d = ap length (are_present d)

-- ---- deposits

same_answer : (n n' : ℕ) (rs rs' : List Receipt) (class id text : List ℕ) → n ≡ n' → receipt_of id rs ≡ receipt_of id rs' → class_count class rs ≡ class_count class rs'
    → (there : Bool) → deposit_answer there n rs class id text ≡ deposit_answer there n' rs' class id text
same_answer n n' rs rs' class id text e f g false = refl
same_answer n n' rs rs' class id text e f g true =
    ap (λ o. deposit_answered o class text (nat_le most_messages n || nat_le most_deposits (class_count class rs)) (class_count class rs + 1)) f
    ∙ (ap (λ m. deposit_answered (receipt_of id rs') class text (nat_le most_messages m || nat_le most_deposits (class_count class rs)) (class_count class rs + 1)) e
    ∙ ap (λ m. deposit_answered (receipt_of id rs') class text (nat_le most_messages n' || nat_le most_deposits m) (m + 1)) g)

deposit_seen : (x : DepositAnswer) → by_vault.deposited (deposit_result x) ≡ outcome.Answered (answer_of_deposit x)
deposit_seen (Accepted uid) = refl
deposit_seen (KnownAs uid) = refl
deposit_seen changes.NoMaildrop = refl
deposit_seen changes.Conflict = refl
deposit_seen changes.Full = refl

some_octet : (text : List ℕ) → (text ≡ [] → ⊥) → is_empty text ≡ false
some_octet [] h = absurd (h refl)
some_octet (x ∷ xs) h = refl

no_octet : (text : List ℕ) → text ≡ [] → is_empty text ≡ true
no_octet text e = rw e refl

not_above : (m n : ℕ) → (m < n → ⊥) → nat_lt m n ≡ false
not_above m n h = at (nat_lt m n) refl
  where
    at : (b : Bool) → nat_lt m n ≡ b → b ≡ false
    at true e = absurd (h (ltb-true m n e))
    at false e = refl

module _ {Before : Contents → Type 0} (After : Contents → Type 0) (T : Trace) (k : Keeps Before T) (grown : Bool) (d class id text : List ℕ)
    (maildrop_form : is_name d ≡ true) (class_form : is_name class ≡ true) (id_form : is_deposit_id id ≡ true) where
  abbrev put_in : event.Event
  put_in = event.Deposit d class id text

  put_formed : (is_name d && is_name class && is_deposit_id id) ≡ true
  put_formed = rw (maildrop_form, class_form, id_form) refl

  abbrev told_as : Answer
  told_as = deposited T.base (history T) d class id text

  abbrev records_with : Answer → Records
  records_with a = records T.base (record { act = Deposit d class id text; tag = Done; said = Answers a } ∷ history T)

  abbrev judged : DepositAnswer
  judged = deposit_answer (exists T.base (history T) d) (length (present T.base (history T) d)) (deposits T.base (history T) d) class id (kept_form text)

  judged_alike : deposit_answer_in k.contents d class id (kept_form text) ≡ judged
  judged_alike =
      ap (λ b. deposit_answer b (present_in d k.contents) (receipts_of d k.contents.deposits) class id (kept_form text)) (is_there T k d)
      ∙ same_answer (present_in d k.contents) (length (present T.base (history T) d)) (receipts_of d k.contents.deposits) (deposits T.base (history T) d) class id (kept_form text)
      (count_present T k d) (k.agree.receipts d id) (k.agree.counts d class) (exists T.base (history T) d)

  keep_deposit : (x : DepositAnswer) → told_as ≡ answer_of_deposit x → DepositLeft After k.contents d class id (kept_form text) (deposit_result x)
      → Carries After k.contents T put_in Done
  keep_deposit (Accepted uid) e h =
      let m = message_for d class (kept_form text) uid.k in
      let r = receipt_for d class id (kept_form text) uid.k in
      let n = (taken T.base (history T) d class id text Done uid (sym (ap (λ a. Answers a) e))).number in
      let new = new_message T.base k.sound (acts T) d class (kept_form text) uid.k n in
      let more : records T.base (history (given T put_in (Tagged Done))) ≡ record (records T.base (history T)) {
        messages = without (arrivals T.base (history T)) (removed T.base (history T)) ++ m ∷ [];
        deposits = receipts T.base (history T) ++ r ∷ [];
      } = ap records_with e
      ∙ ap (λ ms. record (records T.base (history T)) { messages = ms; deposits = receipts T.base (history T) ++ r ∷ [] })
      (without_last (arrivals T.base (history T)) (removed T.base (history T)) m new) in
      keeps_with T put_in Done (with_deposit h.0 m r k.contents) k (stays_by_deposit k.contents h.0 m r) h.1
      (subst (λ R. Agree (records_of (with_deposit h.0 m r k.contents)) R) (sym more) (agree_deposit k.contents (records T.base (history T)) h.0 m r k.agree)) put_formed
  keep_deposit (KnownAs uid) e h = keeps_same T put_in Done k h (ap records_with e) put_formed
  keep_deposit changes.NoMaildrop e h = keeps_same T put_in Done k h (ap records_with e) put_formed
  keep_deposit changes.Conflict e h = keeps_same T put_in Done k h (ap records_with e) put_formed
  keep_deposit changes.Full e h = keeps_same T put_in Done k h (ap records_with e) put_formed

  deposit_judged : (answered : Result Deposited VaultFault) → (text ≡ [] → ⊥) → (most_octets < length (kept_form text) → ⊥)
      → IsDeposited After k.contents d class id (kept_form text) answered → (answered ≡ Err fault.Store → grown ≡ true)
      → Became After k.contents T put_in grown (by_vault.deposited answered)
  deposit_judged answered some small did cause =
      let x = deposit_answer_in k.contents d class id (kept_form text) in
      let a = some_octet text some in
      let b = not_above most_octets (length (kept_form text)) small in
      let e : told_as ≡ answer_of_deposit x = rw (a, b) (ap answer_of_deposit (sym judged_alike)) in
      called T put_in grown tt put_formed k by_vault.deposited (DepositLeft After k.contents d class id (kept_form text)) (deposit_result x) answered
      did.answer did.held (λ h. h) (λ h. h) refl refl (deposit_seen x ∙ ap (λ a. outcome.Answered a) (sym e)) (keep_deposit x e) cause

  pub deposit_kept : (kept : List ℕ) (answered : Result Deposited VaultFault) → kept ≡ kept_form text → (text ≡ [] → ⊥) → (most_octets < length (kept_form text) → ⊥)
      → IsDeposited After k.contents d class id kept answered → (answered ≡ Err fault.Store → grown ≡ true)
      → Became After k.contents T put_in grown (by_vault.deposited answered)
  deposit_kept kept answered e some small did cause =
      deposit_judged answered some small (subst (λ t. IsDeposited After k.contents d class id t answered) e did) cause

  deposit_empty : text ≡ [] → After k.contents → Became After k.contents T put_in grown (outcome.Answered answer.EmptyText)
  deposit_empty none held =
      let a = no_octet text none in
      let e : told_as ≡ answer.EmptyText = rw a refl in
      done T put_in grown (outcome.Answered answer.EmptyText) (ap (λ a. outcome.Answered a) (sym e)) (keeps_same T put_in Done k held (ap records_with e) put_formed)

  deposit_large : (text ≡ [] → ⊥) → most_octets < length (kept_form text) → After k.contents → Became After k.contents T put_in grown (outcome.Answered answer.TextTooLarge)
  deposit_large some large held =
      let a = some_octet text some in
      let b = lt-ltb most_octets (length (kept_form text)) large in
      let e : told_as ≡ answer.TextTooLarge = rw (a, b) refl in
      done T put_in grown (outcome.Answered answer.TextTooLarge) (ap (λ a. outcome.Answered a) (sym e)) (keeps_same T put_in Done k held (ap records_with e) put_formed)

  deposit_lacked : After k.contents → Became After k.contents T put_in grown outcome.NoMemory
  deposit_lacked held = lacked T put_in grown tt put_formed k held

-- a text that isn't kept
abbrev not_canon : (A : Type 0) → TextFault → Result A TextFault
not_canon A e = Err e

pub deposit_not_kept : {A : Type 0} {Before : Contents → Type 0} (T : Trace) (k : Keeps Before T) (grown : Bool) (d class id text : List ℕ)
    → is_name d ≡ true → is_name class ≡ true → is_deposit_id id ≡ true → (e : TextFault)
    → (not_canon A e ≡ not_canon A text_fault.Empty) ↔ (text ≡ []) → (not_canon A e ≡ not_canon A text_fault.TooLarge) ↔ (most_octets < length (kept_form text))
    → Became Before k.contents T (event.Deposit d class id text) grown (by_vault.not_kept e)
deposit_not_kept {A} {Before} T k grown d class id text f g h text_fault.Empty empty large =
    deposit_empty Before T k grown d class id text f g h (empty.0 refl) k.held
deposit_not_kept {A} {Before} T k grown d class id text f g h text_fault.TooLarge empty large =
    deposit_large Before T k grown d class id text f g h (λ none. apart (empty.1 none)) (large.0 refl) k.held
  where
    apart : not_canon A text_fault.TooLarge ≡ not_canon A text_fault.Empty → ⊥
    apart e = cc
deposit_not_kept {A} {Before} T k grown d class id text f g h text_fault.NoMemory empty large =
    deposit_lacked Before T k grown d class id text f g h k.held

-- an answer is no fault
pub no_fault : {A E : Type 0} (x : A) (e : E) → Ok x ≡ Err e → ⊥
no_fault x e h = cc

-- ---- maildrops

put_seen : (there : Answer) (x : PutAnswer) → by_vault.put there (put_result x) ≡ outcome.Answered (answer_of_put there x)
put_seen there WasNew = refl
put_seen there WasThere = refl
put_seen there NoRoom = refl

drop_seen : (x : DropAnswer) → by_vault.maildrop_dropped (drop_result x) ≡ outcome.Answered (answer_of_drop x)
drop_seen Gone = refl
drop_seen NotThere = refl
drop_seen changes.NotEmpty = refl

-- a name that was there
found_there : (there : Bool) (count most : ℕ) → put_answer there count most ≡ WasThere → there ≡ true
found_there true count most e = refl
found_there false count most e = absurd (at (nat_le most count) e)
  where
    at : (b : Bool) → (if b then NoRoom else WasNew) ≡ WasThere → ⊥
    at true e = cc
    at false e = cc

nothing_more : (d : List ℕ) (xs : List (List ℕ)) → is_one_of d xs ≡ true → with_maildrop d xs ≡ xs
nothing_more d xs e = rw e refl

module _ {Before : Contents → Type 0} (After : Contents → Type 0) (T : Trace) (k : Keeps Before T) (grown : Bool) where
  -- ---- lists and looks, which change nothing

  pub maildrops_listed : (answered : Result (List Total) VaultFault) → AreTotals After k.contents answered → (answered ≡ Err fault.Store → grown ≡ true)
      → Became After k.contents T (event.Admin ListMaildrops) grown (by_vault.listed answered)
  maildrops_listed answered did cause =
      let ds = by_name k.contents.maildrops in
      let same : totals (records_of k.contents) ≡ map (λ d. total_in d (present T.base (history T) d)) (by_name (maildrops T.base (history T))) =
      map_alike (λ d. total_in d (in_maildrop d (records_of k.contents).messages)) (λ d. total_in d (present T.base (history T) d)) ds (λ d. ap (total_in d) (are_present T k d))
      ∙ ap (map (λ d. total_in d (present T.base (history T) d))) k.agree.maildrops in
      called T (event.Admin ListMaildrops) grown tt refl k by_vault.listed (λ r. After (if is_ok r then k.contents else k.contents)) (Ok (totals (records_of k.contents))) answered
      did.answer did.held (λ h. h) (λ h. h) refl refl (ap (λ rows. outcome.Answered (answer.Maildrops rows)) same)
      (λ h. keeps_same T (event.Admin ListMaildrops) Done k h refl refl) cause

  pub maildrop_shown : (d : List ℕ) (answered : Result (List Head) VaultFault) → AreHeads After k.contents d answered → (answered ≡ Err fault.Store → grown ≡ true)
      → Became After k.contents T (event.Admin (ShowMaildrop d)) grown (by_vault.maildrop_shown answered)
  maildrop_shown d answered did cause =
      called T (event.Admin (ShowMaildrop d)) grown tt refl k by_vault.maildrop_shown (λ r. After (if is_ok r then k.contents else k.contents)) (heads_result d k.contents) answered
      did.answer did.held (λ h. h) (λ h. h) refl refl (at (is_one_of d k.contents.maildrops) (exists T.base (history T) d) (is_there T k d))
      (λ h. keeps_same T (event.Admin (ShowMaildrop d)) Done k (still_there After (is_ok (heads_result d k.contents)) k.contents h) refl refl) cause
    where
      at : (b c : Bool) → b ≡ c → by_vault.maildrop_shown (if b then Ok (heads d k.contents) else Err fault.NoMaildrop)
          ≡ outcome.Answered (if c then answer.Messages (map row_of (present T.base (history T) d)) else answer.NoSuchMaildrop)
      at true true e = ap (λ rows. outcome.Answered (answer.Messages rows)) (rows_at d k.contents.messages ∙ ap (map row_of) (are_present T k d))
      at true false e = absurd (true≢false e)
      at false true e = absurd (true≢false (sym e))
      at false false e = refl

  pub maildrop_show_lacked : (d : List ℕ) (answered : Result (List Head) VaultFault) → AreHeads After k.contents d answered
      → Became After k.contents T (event.Admin (ShowMaildrop d)) grown outcome.NoMemory
  maildrop_show_lacked d answered did = lacked T (event.Admin (ShowMaildrop d)) grown tt refl k (still_there After (is_ok answered) k.contents did.held)

  pub clerks_listed : (answered : Result (List ClerkKind) VaultFault) → AreClerkKinds After k.contents answered → (answered ≡ Err fault.Store → grown ≡ true)
      → Became After k.contents T (event.Admin ListClerks) grown (by_vault.clerks_listed answered)
  clerks_listed answered did cause =
      called T (event.Admin ListClerks) grown tt refl k by_vault.clerks_listed (λ r. After (if is_ok r then k.contents else k.contents))
      (Ok (clerk_kinds k.contents.clerks)) answered
      did.answer did.held (λ h. h) (λ h. h) refl refl
      (ap (λ rows. outcome.Answered (answer.Clerks rows)) (kinds_alike k.contents.clerks (clerks T.base (history T)) k.agree.clerks k.agree.credentials))
      (λ h. keeps_same T (event.Admin ListClerks) Done k h refl refl) cause

  pub clerk_shown : (name : List ℕ) (answered : Result (Option Credential) VaultFault) → IsCredential After k.contents name answered → (answered ≡ Err fault.Store → grown ≡ true)
      → Became After k.contents T (event.Admin (ShowClerk name)) grown (by_vault.credential_told answered)
  clerk_shown name answered did cause =
      called T (event.Admin (ShowClerk name)) grown tt refl k by_vault.credential_told (λ r. After (if is_ok r then k.contents else k.contents))
      (Ok (credential_in name k.contents.clerks)) answered
      did.answer did.held (λ h. h) (λ h. h) refl refl (ap (λ o. outcome.Answered (kind_of o)) (k.agree.credentials name))
      (λ h. keeps_same T (event.Admin (ShowClerk name)) Done k h refl refl) cause

pub explained : {Before : Contents → Type 0} (T : Trace) (k : Keeps Before T) (grown : Bool) (clerk d class : List ℕ) (action : Action)
    → Became Before k.contents T (event.Admin (Explain clerk d class action)) grown (outcome.Answered (answer.Explained (decide (in_force T.base (history T)) clerk d class action)))
explained T k grown clerk d class action =
    done T (event.Admin (Explain clerk d class action)) grown _ refl (keeps_same T (event.Admin (Explain clerk d class action)) Done k k.held refl refl)

-- ---- a maildrop added

module _ {Before : Contents → Type 0} (After : Contents → Type 0) (T : Trace) (k : Keeps Before T) (grown : Bool) (d : List ℕ) (form : is_name d ≡ true) where
  abbrev add_command : event.Event
  add_command = event.Admin (AddMaildrop d)

  abbrev names_kept : List (List ℕ)
  names_kept = k.contents.maildrops

  abbrev names_told : List (List ℕ)
  names_told = maildrops T.base (history T)

  abbrev add_found : PutAnswer
  add_found = put_maildrop_answer d names_kept

  add_alike : add_found ≡ put_maildrop_answer d names_told
  add_alike = ap₂ (λ b n. put_answer b n most_maildrops) (is_there T k d) (same_length names_kept names_told k.agree.maildrops)

  abbrev records_added : Answer → Records
  records_added a = records T.base (record { act = Administer (AddMaildrop d); tag = Done; said = Answers a } ∷ history T)

  add_told : (x : PutAnswer) → add_found ≡ x → administered T.base (history T) (AddMaildrop d) ≡ answer_of_put answer.WasThere x
  add_told x e = ap (answer_of_put answer.WasThere) (sym add_alike ∙ e)

  keep_added : (x : PutAnswer) → add_found ≡ x → After (if is_ok (put_result x) then with_maildrops (with_maildrop d names_kept) k.contents else k.contents)
      → Carries After k.contents T add_command Done
  keep_added WasNew e h =
      let s = ap records_added (add_told WasNew e) in
      keeps_with T add_command Done (with_maildrops (with_maildrop d names_kept) k.contents) k (λ x i. i) h
      (subst (λ R. Agree (records_of (with_maildrops (with_maildrop d names_kept) k.contents)) R) (sym s)
      (agree_maildrops k.contents (records T.base (history T)) (with_maildrop d names_kept) (with_maildrop d names_told) k.agree
      (same_with d names_kept names_told k.agree.maildrops))) form
  keep_added WasThere e h =
      let s = ap records_added (add_told WasThere e) in
      let t = nothing_more d names_kept (found_there (is_one_of d names_kept) (length names_kept) most_maildrops e) in
      keeps_with T add_command Done (with_maildrops (with_maildrop d names_kept) k.contents) k (λ x i. i) h
      (subst (λ R. Agree (records_of (with_maildrops (with_maildrop d names_kept) k.contents)) R) (sym s)
      (agree_maildrops k.contents (records T.base (history T)) (with_maildrop d names_kept) names_told k.agree (ap by_name t ∙ k.agree.maildrops))) form
  keep_added NoRoom e h = keeps_same T add_command Done k h (ap records_added (add_told NoRoom e)) form

  pub maildrop_added : (answered : Result Bool VaultFault) → IsMaildropAdded After k.contents d answered
      → (answered ≡ Err fault.Store → grown ≡ true) → Became After k.contents T (event.Admin (AddMaildrop d)) grown (by_vault.put answer.WasThere answered)
  maildrop_added answered did cause =
      called T add_command grown tt form k (by_vault.put answer.WasThere) (λ r. After (if is_ok r then with_maildrops (with_maildrop d names_kept) k.contents else k.contents))
      (put_result add_found) answered did.answer did.held (λ h. h) (λ h. h) refl refl
      (put_seen answer.WasThere add_found ∙ ap (λ x. outcome.Answered (answer_of_put answer.WasThere x)) add_alike) (keep_added add_found refl) cause

-- ---- a maildrop dropped

module _ {Before : Contents → Type 0} (After : Contents → Type 0) (T : Trace) (k : Keeps Before T) (grown : Bool) (d : List ℕ) (none : holder (history T) d ≡ None) where
  abbrev drop_command : event.Event
  drop_command = event.Admin (DropMaildrop d)

  abbrev before_drop : List (List ℕ)
  before_drop = k.contents.maildrops

  abbrev told_before_drop : List (List ℕ)
  told_before_drop = maildrops T.base (history T)

  abbrev drop_found : DropAnswer
  drop_found = drop_answer (is_one_of d before_drop) (present_in d k.contents)

  drop_alike : drop_found ≡ drop_answer (exists T.base (history T) d) (length (present T.base (history T) d))
  drop_alike = ap₂ drop_answer (is_there T k d) (count_present T k d)

  abbrev records_dropped : Answer → Records
  records_dropped a = records T.base (record { act = Administer (DropMaildrop d); tag = Done; said = Answers a } ∷ history T)

  drop_told : (x : DropAnswer) → drop_found ≡ x → administered T.base (history T) (DropMaildrop d) ≡ answer_of_drop x
  drop_told x e = rw none (ap answer_of_drop (sym drop_alike ∙ e))

  keep_dropped : (x : DropAnswer) → drop_found ≡ x → After (if is_ok (drop_result x) then with_maildrops (without_maildrop d before_drop) k.contents else k.contents)
      → Carries After k.contents T drop_command Done
  keep_dropped Gone e h =
      let s = ap records_dropped (drop_told Gone e) in
      keeps_with T drop_command Done (with_maildrops (without_maildrop d before_drop) k.contents) k (λ x i. i) h
      (subst (λ R. Agree (records_of (with_maildrops (without_maildrop d before_drop) k.contents)) R) (sym s)
      (agree_maildrops k.contents (records T.base (history T)) (without_maildrop d before_drop) (without_maildrop d told_before_drop) k.agree
      (same_without d before_drop told_before_drop k.agree.maildrops))) refl
  keep_dropped NotThere e h = keeps_same T drop_command Done k h (ap records_dropped (drop_told NotThere e)) refl
  keep_dropped changes.NotEmpty e h = keeps_same T drop_command Done k h (ap records_dropped (drop_told changes.NotEmpty e)) refl

  pub maildrop_dropped : (answered : Result (Unit {0}) VaultFault) → IsMaildropDropped After k.contents d answered
      → (answered ≡ Err fault.Store → grown ≡ true) → Became After k.contents T (event.Admin (DropMaildrop d)) grown (by_vault.maildrop_dropped answered)
  maildrop_dropped answered did cause =
      called T drop_command grown tt refl k by_vault.maildrop_dropped (λ r. After (if is_ok r then with_maildrops (without_maildrop d before_drop) k.contents else k.contents))
      (drop_result drop_found) answered did.answer did.held (λ h. h) (λ h. h) refl refl
      (drop_seen drop_found ∙ ap (λ a. outcome.Answered a) (sym (drop_told drop_found refl))) (keep_dropped drop_found refl) cause

pub not_held : (o : Option ℕ) (found : Bool) → found ≡ is_some o → found ≡ false → o ≡ None
not_held None found e f = refl
not_held (Some c) found e f = absurd (true≢false (sym e ∙ f))

pub held_by : (o : Option ℕ) (found : Bool) → found ≡ is_some o → found ≡ true → (c : ℕ) × (o ≡ Some c)
held_by None found e f = absurd (true≢false (sym f ∙ e))
held_by (Some c) found e f = (c, refl)

-- a maildrop that a session holds
pub maildrop_in_use : {Before : Contents → Type 0} (T : Trace) (k : Keeps Before T) (grown : Bool) (d : List ℕ) (c : ℕ) → holder (history T) d ≡ Some c
    → Became Before k.contents T (event.Admin (DropMaildrop d)) grown (outcome.Answered answer.MaildropInUse)
maildrop_in_use T k grown d c held =
    let e : administered T.base (history T) (DropMaildrop d) ≡ answer.MaildropInUse = rw held refl in
    done T (event.Admin (DropMaildrop d)) grown _ (ap (λ a. outcome.Answered a) (sym e))
    (keeps_same T (event.Admin (DropMaildrop d)) Done k k.held (ap (λ a. records T.base (record { act = Administer (DropMaildrop d); tag = Done; said = Answers a } ∷ history T)) e) refl)

-- ---- a clerk put

module _ {Before : Contents → Type 0} (After : Contents → Type 0) (T : Trace) (k : Keeps Before T) (grown : Bool) (name : List ℕ) (new : Credential)
    (name_form : is_name name ≡ true) (new_form : is_sound_credential new ≡ true) where
  abbrev put_command : event.Event
  put_command = event.Admin (PutClerk name new)

  abbrev clerks_kept : List Clerk
  clerks_kept = k.contents.clerks

  abbrev put_found : PutAnswer
  put_found = put_clerk_answer name clerks_kept

  clerk_formed : (is_name name && is_sound_credential new) ≡ true
  clerk_formed = rw (name_form, new_form) refl

  put_alike : put_found ≡ put_clerk_answer name (clerks T.base (history T))
  put_alike = ap₂ (λ b n. put_answer b n most_clerks) (ap is_some (k.agree.credentials name)) (length_names clerks_kept (clerks T.base (history T)) k.agree.clerks)

  abbrev records_put : Answer → Records
  records_put a = records T.base (record { act = Administer (PutClerk name new); tag = Done; said = Answers a } ∷ history T)

  put_told : (x : PutAnswer) → put_found ≡ x → administered T.base (history T) (PutClerk name new) ≡ answer_of_put answer.Replaced x
  put_told x e = ap (answer_of_put answer.Replaced) (sym put_alike ∙ e)

  keep_put : (x : PutAnswer) → put_found ≡ x → After (if is_ok (put_result x) then with_clerks (with_clerk name new clerks_kept) k.contents else k.contents)
      → Carries After k.contents T put_command Done
  keep_put WasNew e h =
      let s = ap records_put (put_told WasNew e) in
      keeps_with T put_command Done (with_clerks (with_clerk name new clerks_kept) k.contents) k (λ x i. i) h
      (subst (λ R. Agree (records_of (with_clerks (with_clerk name new clerks_kept) k.contents)) R) (sym s) (agree_with_clerk k.contents (records T.base (history T)) name new k.agree)) clerk_formed
  keep_put WasThere e h =
      let s = ap records_put (put_told WasThere e) in
      keeps_with T put_command Done (with_clerks (with_clerk name new clerks_kept) k.contents) k (λ x i. i) h
      (subst (λ R. Agree (records_of (with_clerks (with_clerk name new clerks_kept) k.contents)) R) (sym s) (agree_with_clerk k.contents (records T.base (history T)) name new k.agree)) clerk_formed
  keep_put NoRoom e h = keeps_same T put_command Done k h (ap records_put (put_told NoRoom e)) clerk_formed

  pub clerk_put : (answered : Result Bool VaultFault) → IsClerkPut After k.contents name new answered → (answered ≡ Err fault.Store → grown ≡ true)
      → Became After k.contents T (event.Admin (PutClerk name new)) grown (by_vault.put answer.Replaced answered)
  clerk_put answered did cause =
      called T put_command grown tt clerk_formed k (by_vault.put answer.Replaced) (λ r. After (if is_ok r then with_clerks (with_clerk name new clerks_kept) k.contents else k.contents))
      (put_result put_found) answered did.answer did.held (λ h. h) (λ h. h) refl refl
      (put_seen answer.Replaced put_found ∙ ap (λ x. outcome.Answered (answer_of_put answer.Replaced x)) put_alike) (keep_put put_found refl) cause

-- ---- a clerk dropped

abbrev left_as : Bool → Result (Unit {0}) VaultFault
left_as b = if b then Ok tt else Err fault.NoClerk

left_seen : (b : Bool) → by_vault.clerk_dropped (left_as b) ≡ outcome.Answered (if b then answer.Dropped else answer.NoSuchClerk)
left_seen true = refl
left_seen false = refl

module _ {Before : Contents → Type 0} (After : Contents → Type 0) (T : Trace) (k : Keeps Before T) (grown : Bool) (name : List ℕ) where
  abbrev leave_command : event.Event
  leave_command = event.Admin (DropClerk name)

  abbrev clerk_found : Bool
  clerk_found = is_some (credential_in name k.contents.clerks)

  abbrev records_left : Answer → Records
  records_left a = records T.base (record { act = Administer (DropClerk name); tag = Done; said = Answers a } ∷ history T)

  leave_told : (b : Bool) → clerk_found ≡ b → administered T.base (history T) (DropClerk name) ≡ (if b then answer.Dropped else answer.NoSuchClerk)
  leave_told b e = ap (λ c. if c then answer.Dropped else answer.NoSuchClerk) (sym (ap is_some (k.agree.credentials name)) ∙ e)

  keep_left : (b : Bool) → clerk_found ≡ b
      → After (if is_ok (left_as b) then with_clerks (without_clerk name k.contents.clerks) k.contents else k.contents)
      → Carries After k.contents T leave_command Done
  keep_left true e h =
      let s = ap records_left (leave_told true e) in
      keeps_with T leave_command Done (with_clerks (without_clerk name k.contents.clerks) k.contents) k (λ x i. i) h
      (subst (λ R. Agree (records_of (with_clerks (without_clerk name k.contents.clerks) k.contents)) R) (sym s) (agree_without_clerk k.contents (records T.base (history T)) name k.agree)) refl
  keep_left false e h = keeps_same T leave_command Done k h (ap records_left (leave_told false e)) refl

  pub clerk_dropped : (answered : Result (Unit {0}) VaultFault) → IsClerkDropped After k.contents name answered → (answered ≡ Err fault.Store → grown ≡ true)
      → Became After k.contents T (event.Admin (DropClerk name)) grown (by_vault.clerk_dropped answered)
  clerk_dropped answered did cause =
      called T leave_command grown tt refl k by_vault.clerk_dropped (λ r. After (if is_ok r then with_clerks (without_clerk name k.contents.clerks) k.contents else k.contents))
      (drop_clerk_result name k.contents.clerks) answered did.answer did.held (λ h. h) (λ h. h) refl refl
      (left_seen clerk_found ∙ ap (λ a. outcome.Answered a) (sym (leave_told clerk_found refl))) (keep_left clerk_found refl) cause
