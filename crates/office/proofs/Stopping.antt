-- What a stop in an event leaves.
use Rattle.std.proofs.Common.{◌≡◌, ◌⊎◌, inl, inr, ⊎_elim, ℕ, Bool, true, false, List, Result, Ok, Err, refl, sym, ◌∙◌, ap, subst}
use Rattle.vault.specs.Records.{Records, Agree}
use Rattle.vault.specs.declared.answer.Deposited.{Deposited}
use Rattle.vault.specs.declared.answer.Deposited.TheVariants as stored
use Rattle.office.specs.Answers.{Answer}
use Rattle.office.specs.VaultAnswers as by_vault
use Rattle.vault.specs.Changes.{Contents, records_of, with_messages, without_keys}
use Rattle.vault.specs.Calls.{AreRemoved}
use Rattle.policy.specs.Policy.{Policy}
use Rattle.session.specs.Session.{Session}
use Rattle.office.specs.Transaction.{keys_to_remove, without_marked}
use Rattle.vault.specs.Stops.{SaySame, IsOwn, LeavesEither, LeavesBefore}
use Rattle.vault.specs.declared.fault.VaultFault.{VaultFault}
use Rattle.vault.specs.declared.fault.VaultFault.TheVariants as fault
use Rattle.office.specs.History.{Tag, Done, Failed, NoMemory}
use Rattle.office.specs.Sessions.{records}
use Rattle.office.specs.Events.{Event, Tagged, Trace, given}
use Rattle.office.specs.Trace.{history}
use Rattle.office.specs.Outcomes.{Outcome, event_tag_of}
use Rattle.office.specs.Outcomes as outcome
use Rattle.office.specs.Stands.{Keeps}
use Rattle.office.specs.Stopping.{SaysTrace, LeavesTrace, IsAnswered, StopLeaves, LeavesHeld}
use Rattle.office.proofs.Quiet.{IsQuiet, Became, Stored, mark-shown}

-- records that agree with records that agree
pub agree_through : (A B C : Records) → Agree A B → Agree B C → Agree A C
agree_through A B C f g = record {
  clerks = f.clerks ∙ g.clerks;
  credentials = λ name. f.credentials name ∙ g.credentials name;
  maildrops = f.maildrops ∙ g.maildrops;
  messages = λ d. f.messages d ∙ g.messages d;
  receipts = λ d id. f.receipts d id ∙ g.receipts d id;
  counts = λ d class. f.counts d class ∙ g.counts d class;
  policy = f.policy ∙ g.policy;
}

-- what says the same as what a store keeps of a trace says the trace
pub says_kept : {Holds : Contents → Type 0} (left : Contents) (T : Trace) (k : Keeps Holds T) → SaySame left k.contents → SaysTrace left T
says_kept left T k same = agree_through (records_of left) (records_of k.contents) (records T.base (history T)) same k.agree

-- what is kept of a trace in contents that say the same as what is left
pub says_itself : (left : Contents) (T : Trace) → Stored (SaySame left) T → SaysTrace left T
says_itself left T k = agree_through (records_of left) (records_of k.contents) (records T.base (history T)) k.held k.agree

-- ---- by the outcome

pub stop_leaves : {MayLeave : Contents → Type 0} (T : Trace) (e : Event) (w : Outcome)
    → ((left : Contents) → MayLeave left → SaysTrace left T ⊎ SaysTrace left (given T e (Tagged Done)))
    → (IsAnswered w → LeavesTrace MayLeave (given T e (event_tag_of w))) → StopLeaves MayLeave T e w
stop_leaves T e (outcome.Opened c) either with_it left may = with_it tt left may
stop_leaves T e outcome.Done either with_it left may = with_it tt left may
stop_leaves T e outcome.Failed either with_it left may = either left may
stop_leaves T e outcome.NoMemory either with_it left may = either left may
stop_leaves T e (outcome.Ignored reason) either with_it left may = with_it tt left may
stop_leaves T e (outcome.Answered answer) either with_it left may = with_it tt left may

-- what an office leaves between two calls: the trace that it stands for
pub settled_leaves : {Holds MayLeave : Contents → Type 0} (T : Trace) → Keeps Holds T → ((c : Contents) → Holds c → (left : Contents) → MayLeave left → SaySame left c)
    → LeavesTrace MayLeave T
settled_leaves T k settled left may = says_kept left T k (settled k.contents k.held left may)

-- ---- by a call's answer

-- an answered event had an answer of the call's own
pub own : {A : Type 0} (see : Result A VaultFault → Outcome) (r : Result A VaultFault) → see (Err fault.Store) ≡ outcome.Failed → see (Err fault.NoMemory) ≡ outcome.NoMemory
    → IsAnswered (see r) → IsOwn r
own see (Ok x) s m h = tt
own see (Err fault.Store) s m h = rw s at h
own see (Err fault.NoMemory) s m h = rw m at h
own see (Err fault.NoMaildrop) s m h = tt
own see (Err fault.Conflict) s m h = tt
own see (Err fault.Full) s m h = tt
own see (Err fault.NotEmpty) s m h = tt
own see (Err fault.NotOurs) s m h = tt
own see (Err fault.OldVersion) s m h = tt
own see (Err fault.NoClerk) s m h = tt

same_tag : (t : Tag) → Tagged t ≡ Tagged Done → t ≡ Done
same_tag Done e = refl
same_tag Failed e = cc
same_tag NoMemory e = cc

-- what a call makes of the store when it is done, if a stop leaves that
pub became_left : (left before : Contents) (T : Trace) (e : Event) (grown : Bool) (w : Outcome) → IsQuiet e → event_tag_of w ≡ Tagged Done
    → Became (SaySame left) before T e grown w → SaysTrace left (given T e (Tagged Done))
became_left left before T e grown w h m b =
    let d : b.tag ≡ Done = same_tag b.tag (sym (mark-shown T e b.tag h) ∙ (ap event_tag_of (sym b.is) ∙ m)) in
    subst (λ (t : Tag). SaysTrace left (given T e (Tagged t))) d (says_itself left (given T e (Tagged b.tag)) b.carries.stored)

-- what a stop leaves by a call that changes records
pub either_left : {Holds MayLeave : Contents → Type 0} {A : Type 0} (T : Trace) (e : Event) (k : Keeps Holds T) (DoneBy : (Contents → Type 0) → Result A VaultFault → Type 0)
    → LeavesEither MayLeave k.contents DoneBy → ((left : Contents) (x : A) → DoneBy (SaySame left) (Ok x) → SaysTrace left (given T e (Tagged Done)))
    → (left : Contents) → MayLeave left → SaysTrace left T ⊎ SaysTrace left (given T e (Tagged Done))
either_left T e k DoneBy leaves makes left may =
    ⊎_elim (λ same. inl (says_kept left T k same)) (λ done. inr (makes left done.0 done.1)) (leaves left may)

-- what a stop leaves by a call that only looks
pub before_left : {Holds MayLeave : Contents → Type 0} (T : Trace) (e : Event) (k : Keeps Holds T)
    → LeavesBefore MayLeave k.contents → (left : Contents) → MayLeave left → SaysTrace left T ⊎ SaysTrace left (given T e (Tagged Done))
before_left T e k leaves left may = inl (says_kept left T k (leaves left may))

pub new_mark : (x : Deposited) → event_tag_of (by_vault.deposited (Ok x)) ≡ Tagged Done
new_mark (stored.New uid) = refl
new_mark (stored.Known uid) = refl

pub put_mark : (there : Answer) (x : Bool) → event_tag_of (by_vault.put there (Ok x)) ≡ Tagged Done
put_mark there true = refl
put_mark there false = refl

-- ---- a line

-- a call that asked for a removal
pub removal_left : (left d : Contents) (p : Policy) (s : Session) (name keys : List ℕ) → name ≡ s.name.maildrop → keys ≡ keys_to_remove p s
    → SaySame left d ⊎ ((x : Unit {0}) × AreRemoved (SaySame left) d name keys (Ok x)) → SaySame left d ⊎ SaySame left (without_marked p s d)
removal_left left d p s name keys e f h = ⊎_elim (λ same. inl same) (λ done. inr (at done.0 done.1)) h
  where
    at : (x : Unit {0}) → AreRemoved (SaySame left) d name keys (Ok x) → SaySame left (without_marked p s d)
    at x done =
        let is : SaySame left (with_messages (without_keys name keys d.messages) d) = done.held in
        subst (λ (n : List ℕ). SaySame left (with_messages (without_keys n (keys_to_remove p s) d.messages) d)) e
        (subst (λ (k : List ℕ). SaySame left (with_messages (without_keys name k d.messages) d)) f is)

-- a call that only looked
pub looked_left : {MayLeave : Contents → Type 0} {d : Contents} → LeavesBefore MayLeave d → LeavesHeld MayLeave d
looked_left h = record { says = h }
