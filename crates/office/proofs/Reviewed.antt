-- What the policy decides on a clerk's reading is what a reply does.
use Rattle.std.specs.Prelude.{◌≡◌, ℕ, Bool, true, false, List, [], ◌∷◌, Option, Some, Result, Ok}
use Rattle.std.proofs.Common.{refl, sym, ◌∙◌, ap, subst, true≢false}
use Rattle.mailtext.specs.Text.{lines_of, stuffed_lines}
use Rattle.creds.specs.declared.login_name.LoginName.{LoginName}
use Rattle.popline.specs.Cutting.{Cut, TooLong}
use Rattle.popline.specs.Cutting as cutting
use Rattle.popline.specs.Commands.{Command, Retr, Top}
use Rattle.popline.specs.declared.command.LineFault.{LineFault}
use Rattle.popline.specs.Replies.{Reply, Message as MessageReply, NoSuchMessage, AlreadyMarked}
use Rattle.policy.specs.Policy.{Policy}
use Rattle.vault.specs.Records.{Records, octets_of}
use Rattle.vault.specs.declared.record.Message.{Message}
use Rattle.session.specs.View.{at_number, is_marked, may_read, referred, retrieval}
use Rattle.office.specs.History.{Entry, Act, Tag, Done, Said, Says, Line, in_force}
use Rattle.office.specs.Connections.{reading, has_message}
use Rattle.office.specs.Sessions.{live, login, in_session, when_live, view, marks}
use Rattle.office.specs.Replying.{said_to_line, served_if, name_or_nobody}
use Rattle.office.specs.Told.{told, said_to}
use Rattle.office.specs.Served.{IsReplyWith, IsServed, IsServedTo}
use Rattle.office.specs.Reviewed.{Reads, Asks, DecisionsAreEnforced}
use Rattle.office.proofs.Served.{served_is_allowed}
use Rattle.office.proofs.SmallLemmas.{no_some}

session_parts : (b : Bool) (o : Option LoginName) (name : LoginName) → when_live b o ≡ Some name → (b ≡ true) × (o ≡ Some name)
session_parts true o name e = (refl, e)
session_parts false o name e = absurd (no_some name e)

same_some : {A : Type 0} (o : Option A) (x y : A) → o ≡ Some x → o ≡ Some y → x ≡ y
same_some o x y e f = let g : Some x ≡ Some y = sym e ∙ f in cc

has_octets : (r : Result Command LineFault) (n : ℕ) (m : Message) (reply : Reply) → IsReplyWith r n m reply → has_message (Says reply) ≡ true
has_octets (Ok (Retr k)) n m reply h = ap (λ x. has_message (Says x)) h.1
has_octets (Ok (Top k lines)) n m reply h = ap (λ x. has_message (Says x)) h.1
has_octets _ n m reply h = absurd h

one_number : (r : Result Command LineFault) (n k : ℕ) (m x : Message) (reply : Reply) → IsReplyWith r n m reply → IsReplyWith r k x reply → n ≡ k
one_number (Ok (Retr i)) n k m x reply g h = sym g.0 ∙ h.0
one_number (Ok (Top i lines)) n k m x reply g h = sym g.0 ∙ h.0
one_number _ n k m x reply g h = absurd g

-- a no
never : (B : Records) (G : List Entry) (c : ℕ) (name : LoginName) (m : Message) (line : Cut) (reply : Reply) (number : ℕ) → in_session G c ≡ Some name → may_read (in_force B G) name m.class ≡ false
    → at_number (view B G c) number ≡ Some m → IsReplyWith (reading line) number m reply → IsServed B G c (reading line) reply → ⊥
never B G c name m line reply number s denied seen octets served =
    let who : served.name ≡ name = same_some (in_session G c) served.name name served.session s in
    let same : served.number ≡ number = one_number (reading line) served.number number served.message m reply served.octets octets in
    let message : served.message ≡ m = same_some (at_number (view B G c) number) served.message m (subst (λ k. at_number (view B G c) k ≡ Some served.message) same served.seen) seen in
    true≢false (sym served.allowed ∙ (ap (λ (x : LoginName). may_read (in_force B G) x served.message.class) who ∙ (ap (λ (x : Message). may_read (in_force B G) name x.class) message ∙ denied)))

not_read : (B : Records) (G : List Entry) (c : ℕ) (name : LoginName) (m : Message) (e : Entry) → IsServedTo B G e.act e.said → in_session G c ≡ Some name → may_read (in_force B G) name m.class ≡ false
    → Reads B G e c m → ⊥
not_read B G c name m e served s denied h =
    let a : IsServedTo B G (Line c h.line) e.said = subst (λ (x : Act). IsServedTo B G x e.said) h.act served in
    let b : IsServedTo B G (Line c h.line) (Says h.reply) = subst (λ (x : Said). IsServedTo B G (Line c h.line) x) h.said a in
    never B G c name m h.line h.reply h.number s denied h.seen h.octets (b (has_octets (reading h.line) h.number m h.reply h.octets))

-- a yes
found : (o : Option Message) (b : Bool) (n : ℕ) (p : Policy) (name : LoginName) (m : Message) → o ≡ Some m → b ≡ false → may_read p name m.class ≡ true
    → referred o b NoSuchMessage (AlreadyMarked n) (λ (x : Message). served_if (retrieval p name x.class) (MessageReply (octets_of x) (stuffed_lines (lines_of x.text))))
    ≡ MessageReply (octets_of m) (stuffed_lines (lines_of m.text))
found o b n p name m e f h = rw (e, f, h) refl

is_read : (B : Records) (G : List Entry) (c : ℕ) (name : LoginName) (m : Message) (x : Cut) (n : ℕ) → in_session G c ≡ Some name → may_read (in_force B G) name m.class ≡ true
    → reading x ≡ Ok (Retr n) → at_number (view B G c) n ≡ Some m → is_marked (marks G c) n ≡ false
    → said_to_line B G c x Done ≡ Says (MessageReply (octets_of m) (stuffed_lines (lines_of m.text)))
is_read B G c name m TooLong n s may r seen unmarked = absurd cc
is_read B G c name m (cutting.Line octets) n s may r seen unmarked =
    let parts = session_parts (live G c) (login G c) name s in
    let l = parts.0 in
    let who : name_or_nobody (login G c) ≡ name = ap name_or_nobody parts.1 in
    let read : may_read (in_force B G) (name_or_nobody (login G c)) m.class ≡ true = ap (λ (x : LoginName). may_read (in_force B G) x m.class) who ∙ may in
    rw (l, r) (ap (λ y. Says y) (found (at_number (view B G c) n) (is_marked (marks G c) n) n (in_force B G) (name_or_nobody (login G c)) m seen unmarked read))

read_so : (B : Records) (G : List Entry) (c : ℕ) (name : LoginName) (m : Message) (a : Act) (t : Tag) (h : Asks B G (record { act = a; tag = t; said = said_to B G a t }) c m)
    → in_session G c ≡ Some name → may_read (in_force B G) name m.class ≡ true
    → said_to B G a t ≡ Says (MessageReply (octets_of m) (stuffed_lines (lines_of m.text)))
read_so B G c name m a t h s may =
    ap (λ (x : Act). said_to B G x t) h.act
    ∙ (ap (λ (x : Tag). said_to B G (Line c h.line) x) h.done
    ∙ is_read B G c name m h.line h.number s may h.read h.seen h.unmarked)

pub decisions_are_enforced : DecisionsAreEnforced
decisions_are_enforced B [] = tt
decisions_are_enforced B ((a, t) ∷ H) = (
  record {
    no = λ c name m s denied h. not_read B (told B H) c name m (record { act = a; tag = t; said = said_to B (told B H) a t }) (served_is_allowed B ((a, t) ∷ H)).0 s denied h;
    yes = λ c name m s may h. read_so B (told B H) c name m a t h s may;
  },
  decisions_are_enforced B H,
)
