-- What a contract of an export needs of the contents: the text under a message's key is the message's own.
use Rattle.std.proofs.Common.{◌≡◌, ◌⊎◌, inl, inr, ◌<◌, ◌≤◌, ◌+◌, ◌==◌, ℕ, Bool, true, false, not, List, [], ◌∷◌, ◌++◌, length, take, drop, get_or, map, refl, subst, sym, ◌∙◌, ap}
use Rattle.std.proofs.Common.{ap₂, append_assoc, append-nil, zero, suc, cond, arith, Option, None, Some, Result, Ok, Err, true≢false, take_all}
use Rattle.std.proofs.lemmas.List.{take_more, take-map, map-append, length-map}
use Rattle.std.proofs.lemmas.Bool.{and_parts, or_parts, eq-eqb, not-true}
use Rattle.std.specs.Prelude.{OnErr, unwrap_or, filter, is_ok, if◌then◌else◌}
use Rattle.std.specs.List.{All, list_any, find, flat_map}
use Rattle.std.specs.Option.{option_map}
use Rattle.std.specs.Str.{bytes_eq}
use Rattle.policy.specs.Policy.{are_distinct}
use Rattle.vault.specs.declared.answer.Head.{Head}
use Rattle.vault.specs.declared.fault.VaultFault.{VaultFault}
use Rattle.vault.specs.declared.fault.VaultFault.TheVariants as vault
use Rattle.vault.specs.declared.record.Keyed.{Keyed}
use Rattle.vault.specs.declared.record.Receipt.{Receipt}
use Rattle.vault.proofs.ListLemmas.{bytes_are}
use Rattle.vault.specs.Calls.{text_under, has_grown, IsRefusal}
use Rattle.vault.specs.Changes.{Contents, AreSound, head_of, heads, kept_in}
use Rattle.converse.specs.Causes.{IsRefused, IsExportFault, IsExportEnd}
use Rattle.converse.specs.declared.fault.Fault.{Fault}
use Rattle.converse.specs.declared.fault.Fault.TheVariants as fault
use Rattle.converse.proofs.Clauses.{grown_since}
use Rattle.converse.specs.Exported.{File, export_line, export_text, report_text, told_of, file_name, file_of, files_of, file_under, IsFront, IsMeasured, Takes, TakesFirst}
use Rattle.converse.specs.Texts.{is_intact, intact_in, differing_in, differs_text, differs_line, head_line}

-- A loop over a vault kept what was held and that it was clean, and of what was held this holds.
pub record Stays {V : Type 0} (Holds : V → Contents → Type 0) (IsClean : V → Type 0) (before now : V) (P : Contents → Type 0) : Type 0 where
  pub clean : IsClean now → IsClean before
  pub held : (c : Contents) → Holds before c → IsClean now → Holds now c
  pub so : (c : Contents) → Holds before c → IsClean now → P c

-- The same of a loop that reads, whose vault's count of faults doesn't fall.
pub record StaysRead {V : Type 0} (Holds : V → Contents → Type 0) (IsClean : V → Type 0) (before now : V) (early late : ℕ) (P : Contents → Type 0) : Type 0 where
  pub clean : IsClean now → IsClean before
  pub held : (c : Contents) → Holds before c → IsClean now → Holds now c
  pub read : early ≤ late
  pub so : (c : Contents) → Holds before c → IsClean now → P c

-- The same of a loop that puts files, whose folder's count of faults doesn't fall either.
pub record Puts {V : Type 0} (Holds : V → Contents → Type 0) (IsClean : V → Type 0) (before now : V) (early late first last : ℕ) (P : Contents → Type 0) : Type 0 where
  pub clean : IsClean now → IsClean before
  pub held : (c : Contents) → Holds before c → IsClean now → Holds now c
  pub read : early ≤ late
  pub counted : first ≤ last
  pub so : (c : Contents) → Holds before c → IsClean now → P c

-- ---- why it ends

pub counts_on : (a b d : ℕ) → a ≤ b → b ≤ d → a ≤ d
counts_on a b d p q = omega (arith, p, q)

-- a folder that refused is reported as want of memory, or its count grew
pub put_cause : (failed written : Bool) (P : VaultFault → Type 0) (f : Fault) → (f ≡ fault.CannotPut) ⊎ (f ≡ fault.OutOfMemory) → failed ≡ true → IsExportFault failed written P f
put_cause failed written P f (inl e) g = subst (IsExportFault failed written P) (sym e) g
put_cause failed written P f (inr e) g = subst (IsExportFault failed written P) (sym e) tt

-- a cause is one still if more failed
pub cause_still : (put more written further : Bool) (P Q : VaultFault → Type 0) → (put ≡ true → more ≡ true) → (written ≡ true → further ≡ true) → ((e : VaultFault) → P e → Q e)
    → (f : Fault) → IsExportFault put written P f → IsExportFault more further Q f
cause_still put more written further P Q p w q fault.CannotRead h = absurd h
cause_still put more written further P Q p w q (fault.BadEvent n) h = absurd h
cause_still put more written further P Q p w q fault.BadHost h = absurd h
cause_still put more written further P Q p w q (fault.Store e) h = q e h
cause_still put more written further P Q p w q (fault.Talk e) h = absurd h
cause_still put more written further P Q p w q (fault.NoPolicy e) h = absurd h
cause_still put more written further P Q p w q fault.NoClock h = absurd h
cause_still put more written further P Q p w q fault.CannotPut h = p h
cause_still put more written further P Q p w q fault.CannotWrite h = w h
cause_still put more written further P Q p w q fault.Differs h = absurd h
cause_still put more written further P Q p w q fault.OutOfMemory h = tt

-- a refusal since a count is one since an earlier count
pub refused_since : (there : Bool) (first before now : ℕ) → first ≤ before → (e : VaultFault) → IsRefused there (has_grown before now) e → IsRefused there (has_grown first now) e
refused_since there first before now l vault.NoMaildrop h = h
refused_since there first before now l vault.Conflict h = absurd h
refused_since there first before now l vault.Full h = absurd h
refused_since there first before now l vault.Store h = grown_since first before now l h
refused_since there first before now l vault.NoMemory h = tt
refused_since there first before now l vault.NotEmpty h = absurd h
refused_since there first before now l vault.NotOurs h = absurd h
refused_since there first before now l vault.OldVersion h = absurd h
refused_since there first before now l vault.NoClerk h = absurd h

-- what is there isn't reported as missing
pub refused_there : (there counted : Bool) (e : VaultFault) → IsRefused true counted e → IsRefused there counted e
refused_there there counted vault.NoMaildrop h = absurd (true≢false h)
refused_there there counted vault.Conflict h = absurd h
refused_there there counted vault.Full h = absurd h
refused_there there counted vault.Store h = h
refused_there there counted vault.NoMemory h = tt
refused_there there counted vault.NotEmpty h = absurd h
refused_there there counted vault.NotOurs h = absurd h
refused_there there counted vault.OldVersion h = absurd h
refused_there there counted vault.NoClerk h = absurd h

abbrev is_missing : {A : Type 0} → Result A VaultFault → Bool
is_missing (Err vault.NoMaildrop) = true
is_missing _ = false

missing : {A : Type 0} (there : Bool) (x : A) → ◌≡◌ {A = Result A VaultFault} (if there then Ok x else Err vault.NoMaildrop) (Err vault.NoMaildrop) → there ≡ false
missing true x h = absurd (true≢false (ap is_ok h))
missing false x h = refl

other : {A : Type 0} (there : Bool) (x : A) (e : VaultFault) → is_missing {A = A} (Err e) ≡ false → ◌≡◌ {A = Result A VaultFault} (if there then Ok x else Err vault.NoMaildrop) (Err e) → ⊥
other true x e o h = true≢false (ap is_ok h)
other false x e o h = true≢false (ap is_missing h ∙ o)

-- a call that looks at a maildrop refuses for a cause
pub look_refused : {A : Type 0} (there counted : Bool) (x : A) (e : VaultFault) → IsRefusal {A = A} (if there then Ok x else Err vault.NoMaildrop) e
    → (e ≡ vault.Store → counted ≡ true) → IsRefused there counted e
look_refused there counted x vault.NoMaildrop h s = missing there x h
look_refused there counted x vault.Conflict h s = absurd (other there x vault.Conflict refl h)
look_refused there counted x vault.Full h s = absurd (other there x vault.Full refl h)
look_refused there counted x vault.Store h s = s refl
look_refused there counted x vault.NoMemory h s = tt
look_refused there counted x vault.NotEmpty h s = absurd (other there x vault.NotEmpty refl h)
look_refused there counted x vault.NotOurs h s = absurd (other there x vault.NotOurs refl h)
look_refused there counted x vault.OldVersion h s = absurd (other there x vault.OldVersion refl h)
look_refused there counted x vault.NoClerk h s = absurd (other there x vault.NoClerk refl h)

-- what holds in any case holds of a fault
pub on_err : {A E P : Type 0} (r : Result A E) → P → OnErr r P
on_err (Ok x) p = tt
on_err (Err e) p = p

-- ---- what a folder takes

pub takes_none : (a : Option (List File)) → Takes a a []
takes_none None = tt
takes_none (Some x) = sym (append-nil x)

pub takes_then : (a b d : Option (List File)) (fs gs : List File) → Takes a b fs → Takes b d gs → Takes a d (fs ++ gs)
takes_then None b d fs gs p q = tt
takes_then (Some x) None d fs gs p q = absurd p
takes_then (Some x) (Some y) None fs gs p q = absurd q
takes_then (Some x) (Some y) (Some z) fs gs p q = q ∙ ap (λ l. l ++ gs) p ∙ append_assoc x fs gs

-- a call that takes none
pub takes_kept : (a b d : Option (List File)) (fs : List File) → Takes a b fs → Takes b d [] → Takes a d fs
takes_kept a b d fs p q = subst (λ (gs : List File). Takes a d gs) (append-nil fs) (takes_then a b d fs [] p q)

-- the files of the first heads, and that of the next one
pub takes_more : (f : Head → File) (hs : List Head) (i : ℕ) (h : Head) (a b d : Option (List File)) → i < length hs → h ≡ get_or hs i h
    → Takes a b (map f (take i hs)) → Takes b d (f h ∷ []) → Takes a d (map f (take (i + 1) hs))
takes_more f hs i h a b d l is p q =
    let more : take (i + 1) hs ≡ take i hs ++ h ∷ [] = take_more hs i h l ∙ ap (λ (x : Head). take i hs ++ x ∷ []) (sym is) in
    subst (λ (xs : List Head). Takes a d (map f xs)) (sym more)
    (subst (λ (fs : List File). Takes a d fs) (sym (map-append f (take i hs) (h ∷ []))) (takes_then a b d (map f (take i hs)) (f h ∷ []) p q))

-- those of all heads, once none is left
pub takes_all : (f : Head → File) (hs : List Head) (i : ℕ) (a b : Option (List File)) → length hs ≤ i → Takes a b (map f (take i hs)) → Takes a b (map f hs)
takes_all f hs i a b l p = subst (λ (xs : List Head). Takes a b (map f xs)) (take_all i hs l) p

-- those of the first ones, and no other
pub takes_first : (f : Head → File) (hs : List Head) (i : ℕ) (a b d : Option (List File)) → Takes a b (map f (take i hs)) → Takes b d [] → TakesFirst a d (map f hs)
takes_first f hs i a b d p q =
    (i, subst (λ (fs : List File). Takes a d fs) (append-nil (map f (take i hs)) ∙ sym (take-map f i hs)) (takes_then a b d (map f (take i hs)) [] p q))

-- what holds in any case holds after a fault
pub faults_first : {A E V : Type 0} (r : Result A E) (Holds : V → Contents → Type 0) (old : V) (Clean : Type 0) (hs : List Head) (a b : Option (List File))
    → ((c : Contents) → Holds old c → Clean → All (IsMeasured c) hs → TakesFirst a b (map (file_under c) hs))
    → OnErr r ((c : Contents) → Holds old c → Clean → All (IsMeasured c) hs → TakesFirst a b (map (file_under c) hs))
faults_first (Ok x) Holds old Clean hs a b h = tt
faults_first (Err e) Holds old Clean hs a b h = h

pub takes_whole : (a b : Option (List File)) (fs : List File) → Takes a b fs → TakesFirst a b fs
takes_whole a b fs p = (length fs, subst (λ (gs : List File). Takes a b gs) (sym (take_all (length fs) fs (omega arith))) p)

-- ---- the front of a text

pub front_then : (xs ys text : List ℕ) → IsFront xs text → ys ≡ take (length ys) (drop (length xs) text) → IsFront (xs ++ ys) text
front_then [] ys text e f = f
front_then (x ∷ xs) ys [] e f = let n = ap length e in absurd (omega (arith, n))
front_then (x ∷ xs) ys (t ∷ text) e f =
    ap₂ (λ (h : ℕ) (l : List ℕ). h ∷ l) (ap (λ (l : List ℕ). get_or l 0 x) e) (front_then xs ys text (ap (λ (l : List ℕ). drop 1 l) e) f)

pub whole_text : (xs text : List ℕ) (n : ℕ) → n ≡ length text → IsFront xs text → n ≤ length xs → xs ≡ text
whole_text xs text n e f l = f ∙ take_all (length xs) text (omega (arith, e, l))

-- the next octets stand after the front that was read
pub front_more : (old new more ys text : List ℕ) (from : ℕ) → from ≡ length old → new ≡ old ++ more → more ≡ ys → ys ≡ take (length ys) (drop from text)
    → IsFront old text → IsFront new text
front_more old new more ys text from at is same next front =
    subst (λ (xs : List ℕ). IsFront xs text) (sym (is ∙ ap (λ (xs : List ℕ). old ++ xs) same))
    (front_then old ys text front (subst (λ (n : ℕ). ys ≡ take (length ys) (drop n text)) at next))

-- ---- what a vault answers

abbrev heads_or_none : Result (List Head) VaultFault → List Head
heads_or_none (Ok hs) = hs
heads_or_none (Err e) = []

-- heads are answered of a maildrop that is there
pub heads_answered : (b : Bool) (hs xs : List Head) (e : VaultFault) → ◌≡◌ {A = Result (List Head) VaultFault} (if b then Ok hs else Err e) (Ok xs) → (b ≡ true) × (xs ≡ hs)
heads_answered true hs xs e h = (refl, sym (ap heads_or_none h))
heads_answered false hs xs e h = absurd (true≢false (sym (ap is_ok h)))

-- ---- each element of a list, by recursion

abbrev pub Each : {A : Type 0} → (A → Type 0) → List A → Type 0
Each P [] = Unit {0}
Each P (x ∷ xs) = P x × Each P xs

pub all_each : {A : Type 0} (P : A → Type 0) (xs : List A) → Each P xs → All P xs
all_each P [] e k d l = absurd (omega (arith, l))
all_each P (x ∷ xs) e zero d l = e.0
all_each P (x ∷ xs) e (suc k) d l = all_each P xs e.1 k d (omega (arith, l))

keep : {A : Type 0} (P : A → Type 0) (b : Bool) (x : A) (xs : List A) → P x → Each P xs → Each P (if b then x ∷ xs else xs)
keep P true x xs h e = (h, e)
keep P false x xs h e = e

pub each_filter : {A : Type 0} (P : A → Type 0) (p : A → Bool) (xs : List A) → Each P xs → Each P (filter p xs)
each_filter P p [] e = tt
each_filter P p (x ∷ xs) e = keep P (p x) x (filter p xs) e.0 (each_filter P p xs e.1)

all_then : {A : Type 0} (P : A → Type 0) (xs : List A) (x : A) → All P xs → P x → All P (xs ++ x ∷ [])
all_then P [] x a p zero d l = p
all_then P [] x a p (suc k) d l = absurd (omega (arith, l))
all_then P (y ∷ ys) x a p zero d l = a 0 d (omega arith)
all_then P (y ∷ ys) x a p (suc k) d l = all_then P ys x (λ n e m. a (suc n) e (omega (arith, m))) p k d (omega (arith, l))

pub all_more : {A : Type 0} (P : A → Type 0) (xs : List A) (i : ℕ) (x : A) → i < length xs → x ≡ get_or xs i x → All P (take i xs) → P x → All P (take (i + 1) xs)
all_more {A} P xs i x l is a p =
    subst (λ (ys : List A). All P ys) (sym (take_more xs i x l ∙ ap (λ (y : A). take i xs ++ y ∷ []) (sym is))) (all_then P (take i xs) x a p)

pub at_index : {A : Type 0} (P : A → Type 0) (xs : List A) (i : ℕ) (x : A) → i < length xs → x ≡ get_or xs i x → All P xs → P x
at_index {A} P xs i x l is a = subst (λ (y : A). P y) (sym is) (a i x l)

-- ---- the text under a key

find_at : (x : Keyed) (b : Bool) (o : Option Keyed) → b ≡ true → cond b (Some x) o ≡ Some x
find_at x true o e = refl
find_at x false o e = absurd (true≢false (sym e))

find_past : (y : Keyed) (b : Bool) (o : Option Keyed) → b ≡ false → cond b (Some y) o ≡ o
find_past y true o e = absurd (true≢false e)
find_past y false o e = refl

-- a message is found under its key in these
abbrev Found : List Keyed → Keyed → Type 0
Found all x = find (λ (y : Keyed). y.key == x.key) all ≡ Some x

past : (x : Keyed) (all zs : List Keyed) → list_any (λ (z : Keyed). x.key == z.key) zs ≡ false → Each (Found all) zs → Each (Found (x ∷ all)) zs
past x all [] none e = tt
past x all (z ∷ zs) none e =
    let r = or_parts (x.key == z.key) (list_any (λ (z : Keyed). x.key == z.key) zs) none in
    (find_past x (x.key == z.key) (find (λ (y : Keyed). y.key == z.key) all) r.0 ∙ e.0, past x all zs r.1 e.1)

found : (xs : List Keyed) → are_distinct (λ (x y : Keyed). x.key == y.key) xs ≡ true → Each (Found xs) xs
found [] d = tt
found (x ∷ xs) d =
    let r = and_parts (not (list_any (λ (z : Keyed). x.key == z.key) xs)) (are_distinct (λ (x y : Keyed). x.key == y.key) xs) d in
    let none = not-true (list_any (λ (z : Keyed). x.key == z.key) xs) r.0 in
    (find_at x (x.key == x.key) (find (λ (y : Keyed). y.key == x.key) xs) (eq-eqb x.key x.key refl), past x xs xs none (found xs r.1))

-- the text under a message's key is its own
abbrev pub HasOwn : List Keyed → Keyed → Type 0
HasOwn all x = text_under x.key all ≡ x.message.text

owned : (all xs : List Keyed) → Each (Found all) xs → Each (HasOwn all) xs
owned all [] e = tt
owned all (x ∷ xs) e = (ap (λ (o : Option Keyed). unwrap_or (option_map (λ (y : Keyed). y.message.text) o) []) e.0, owned all xs e.1)

pub own_in : (d : List ℕ) (c : Contents) → AreSound c → Each (HasOwn c.messages) (kept_in d c.messages)
own_in d c sound = each_filter (HasOwn c.messages) (λ (x : Keyed). bytes_eq x.message.maildrop d) c.messages (owned c.messages c.messages (found c.messages sound.keys))

-- ---- a maildrop's heads

measured : (c : Contents) (xs : List Keyed) → Each (HasOwn c.messages) xs → Each (IsMeasured c) (map head_of xs)
measured c [] e = tt
measured c (x ∷ xs) e = (ap (λ (t : List ℕ). length t) (sym e.0), measured c xs e.1)

pub heads_measured : (d : List ℕ) (c : Contents) → AreSound c → All (IsMeasured c) (heads d c)
heads_measured d c sound = all_each (IsMeasured c) (heads d c) (measured c (kept_in d c.messages) (own_in d c sound))

same_files : (c : Contents) (xs : List Keyed) → Each (HasOwn c.messages) xs → map (file_under c) (map head_of xs) ≡ map file_of xs
same_files c [] e = refl
same_files c (x ∷ xs) e = ap₂ (λ (t : List ℕ) (fs : List File). record { name = file_name x.message.class x.message.k; octets = t } ∷ fs) e.0 (same_files c xs e.1)

-- heads that a vault answered
pub items_measured : (d : List ℕ) (c : Contents) (hs : List Head) → AreSound c → hs ≡ heads d c → All (IsMeasured c) hs
items_measured d c hs sound same = subst (λ (xs : List Head). All (IsMeasured c) xs) (sym same) (heads_measured d c sound)

-- ---- those of its messages that have the texts of their deposits

abbrev pub Against : Type 0
Against = Option (List Receipt)

own_of : (rs : Against) (d : List ℕ) (c : Contents) → AreSound c → Each (HasOwn c.messages) (intact_in rs d c)
own_of rs d c sound = each_filter (HasOwn c.messages) (λ (x : Keyed). is_intact rs x.message) (kept_in d c.messages) (own_in d c sound)

pub intact_measured : (rs : Against) (d : List ℕ) (c : Contents) (hs : List Head) → AreSound c → hs ≡ map head_of (intact_in rs d c) → All (IsMeasured c) hs
intact_measured rs d c hs sound same =
    subst (λ (xs : List Head). All (IsMeasured c) xs) (sym same) (all_each (IsMeasured c) (map head_of (intact_in rs d c)) (measured c (intact_in rs d c) (own_of rs d c sound)))

files_put : (rs : Against) (d : List ℕ) (c : Contents) (hs : List Head) → AreSound c → hs ≡ map head_of (intact_in rs d c) → map (file_under c) hs ≡ files_of rs d c
files_put rs d c hs sound same = ap (λ (xs : List Head). map (file_under c) xs) same ∙ same_files c (intact_in rs d c) (own_of rs d c sound)

-- the folder took a maildrop's files where it took those of these heads
pub files_taken : (rs : Against) (d : List ℕ) (c : Contents) (hs : List Head) (a b : Option (List File)) → AreSound c → hs ≡ map head_of (intact_in rs d c)
    → Takes a b (map (file_under c) hs) → Takes a b (files_of rs d c)
files_taken rs d c hs a b sound same p = subst (λ (fs : List File). Takes a b fs) (files_put rs d c hs sound same) p

pub first_taken : (rs : Against) (d : List ℕ) (c : Contents) (hs : List Head) (a b : Option (List File)) → AreSound c → hs ≡ map head_of (intact_in rs d c)
    → TakesFirst a b (map (file_under c) hs) → TakesFirst a b (files_of rs d c)
first_taken rs d c hs a b sound same p = subst (λ (fs : List File). TakesFirst a b fs) (files_put rs d c hs sound same) p

-- ---- the lines of those that haven't

-- each message of a maildrop has its name
abbrev pub IsNamed : List ℕ → Keyed → Type 0
IsNamed d x = x.message.maildrop ≡ d

named_then : (d : List ℕ) (b : Bool) (x : Keyed) (xs : List Keyed) → (b ≡ true → IsNamed d x) → Each (IsNamed d) xs → Each (IsNamed d) (if b then x ∷ xs else xs)
named_then d true x xs h e = (h refl, e)
named_then d false x xs h e = e

pub kept_named : (d : List ℕ) (ms : List Keyed) → Each (IsNamed d) (kept_in d ms)
kept_named d [] = tt
kept_named d (x ∷ xs) = named_then d (bytes_eq x.message.maildrop d) x (kept_in d xs) (λ e. bytes_are x.message.maildrop d e) (kept_named d xs)

pub differing_named : (rs : Against) (d : List ℕ) (c : Contents) → Each (IsNamed d) (differing_in rs d c)
differing_named rs d c = each_filter (IsNamed d) (λ (x : Keyed). not (is_intact rs x.message)) (kept_in d c.messages) (kept_named d c.messages)

pub lines_by_heads : (d : List ℕ) (xs : List Keyed) → Each (IsNamed d) xs → flat_map (head_line d) (map head_of xs) ≡ flat_map differs_line xs
lines_by_heads d [] e = refl
lines_by_heads d (x ∷ xs) e =
    ap₂ (λ (n l : List ℕ). differs_text n x.message.class x.message.k ++ l) (sym e.0) (lines_by_heads d xs e.1)

-- the lines of the heads are those of the messages
pub lines_told : (rs : Against) (d : List ℕ) (c : Contents) (hs : List Head) → hs ≡ map head_of (differing_in rs d c)
    → flat_map (head_line d) hs ≡ flat_map differs_line (differing_in rs d c)
lines_told rs d c hs same = ap (λ (xs : List Head). flat_map (head_line d) xs) same ∙ lines_by_heads d (differing_in rs d c) (differing_named rs d c)

told_by : (d : List ℕ) (n : ℕ) (xs : List Keyed) → Each (IsNamed d) xs → told_of d n (map head_of xs) ≡ export_text n xs
told_by d n [] e = refl
told_by d n (x ∷ xs) e = lines_by_heads d (x ∷ xs) e

-- what is told of both
pub report_is : (rs : Against) (d : List ℕ) (c : Contents) (n : ℕ) (is hs : List Head) (text : List ℕ) → n ≡ length is → is ≡ map head_of (intact_in rs d c)
    → hs ≡ map head_of (differing_in rs d c) → text ≡ told_of d n hs → text ≡ report_text rs d c
report_is rs d c n is hs text count same other told =
    told ∙ ap (told_of d n) other ∙ told_by d n (differing_in rs d c) (differing_named rs d c)
    ∙ ap (λ (m : ℕ). export_text m (differing_in rs d c)) (count ∙ ap (λ (l : List Head). length l) same ∙ length-map (intact_in rs d c) head_of ∙ sym (length-map (intact_in rs d c) file_of))

-- where none is left out it is the line that counts
pub report_whole : (rs : Against) (d : List ℕ) (c : Contents) → differing_in rs d c ≡ [] → report_text rs d c ≡ export_line (length (files_of rs d c))
report_whole rs d c none = ap (λ (xs : List Keyed). export_text (length (files_of rs d c)) xs) none

-- a fault of an export is no message that differs
pub end_of : (D : Type 0) (put written : Bool) (P : VaultFault → Type 0) (f : Fault) → IsExportFault put written P f → IsExportEnd D put written P f
end_of D put written P fault.CannotRead h = h
end_of D put written P (fault.BadEvent n) h = h
end_of D put written P fault.BadHost h = h
end_of D put written P (fault.Store e) h = h
end_of D put written P (fault.Talk e) h = h
end_of D put written P (fault.NoPolicy e) h = h
end_of D put written P fault.NoClock h = h
end_of D put written P fault.CannotPut h = h
end_of D put written P fault.CannotWrite h = h
end_of D put written P fault.Differs h = absurd h
end_of D put written P fault.OutOfMemory h = h
