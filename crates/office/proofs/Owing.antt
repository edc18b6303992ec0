-- What is owed: what stands ready, and what its source puts after it.
use Rattle.std.proofs.Common.{◌≡◌, ℕ, ◌<◌, ◌≤◌, Bool, true, false, List, [], ◌∷◌, ◌++◌, drop, take, length, min, refl, sym, ◌∙◌, ap, subst, arith, true≢false, Option, Some, None}
use Rattle.std.proofs.Common.{append-nil, length-append, length-drop}
use Rattle.std.proofs.lemmas.List.{take-append-le, take_min, length-take}
use Rattle.popline.specs.Replies.{Reply, bytes_of}
use Rattle.vault.specs.declared.record.Keyed.{Keyed}
use Rattle.vault.specs.Changes.{Contents}
use Rattle.session.specs.Session.{Session}
use Rattle.office.specs.Laws.{In}
use Rattle.office.specs.Replying.{is_empty}
use Rattle.office.specs.Trace.{IsLent, most_lent}
use Rattle.office.specs.Output.{Output, nothing_owed, is_feeding, reads_text, lent_of, most_output, last_line, Feeds, Owes, OwesReply}
use Rattle.office.specs.declared.output.Source.{Source}
use Rattle.office.specs.declared.output.Source.TheVariants.{Nothing, Sizes, Uids, Text}

-- ---- nothing comes

-- if nothing feeds it, it puts nothing
pub feeds_nothing : (c : Contents) (s : Option Session) → Feeds c s Nothing []
feeds_nothing c None = refl
feeds_nothing c (Some s) = refl

nothing_comes : (c : Contents) (s : Option Session) (coming : List ℕ) → Feeds c s Nothing coming → coming ≡ []
nothing_comes c None coming f = f
nothing_comes c (Some s) coming f = f

not_text : Nothing ≡ Nothing → reads_text Nothing ≡ true → ⊥
not_text e h = true≢false (sym h)

-- octets that stand ready, with nothing after them
pub owes_ready : (c : Contents) (s : Option Session) (o : Output) (octets : List ℕ) → o ≡ record { ready = octets; source = Nothing } → Owes c s o octets
owes_ready c s o octets e = subst (λ (x : Output). Owes c s x octets) (sym e)
    (record { coming = []; is = sym (append-nil octets); feeds = feeds_nothing c s; filled = λ h. absurd (true≢false (sym h)) })

-- a reply that needs no source
pub owes_said : (c : Contents) (s : Option Session) (o : Output) (reply : Reply) → o ≡ record { ready = bytes_of reply; source = Nothing } → OwesReply c s o reply
owes_said c s o reply e = record {
  owes = owes_ready c s o (bytes_of reply) e;
  serves = λ h. absurd (true≢false (sym h ∙ ap (λ (x : Output). reads_text x.source) e));
}

-- a reply that is put if nothing is owed
pub owes_put : (c : Contents) (s : Option Session) (old new : Output) (reply : Reply) → old ≡ nothing_owed → new ≡ record old { ready = old.ready ++ bytes_of reply } → OwesReply c s new reply
owes_put c s old new reply none e = owes_said c s new reply (e ∙ ap (λ (o : Output). record o { ready = o.ready ++ bytes_of reply }) none)

-- nothing is owed
pub owes_none : (c : Contents) (s : Option Session) (o : Output) → o ≡ nothing_owed → Owes c s o []
owes_none c s o e = owes_ready c s o [] e

pub none_owed : (c : Contents) (s : Option Session) (o : Output) (octets : List ℕ) → Owes c s o octets → o ≡ nothing_owed → octets ≡ []
none_owed c s o octets w e =
    w.is ∙ (ap (λ (x : Output). x.ready ++ w.coming) e ∙ nothing_comes c s w.coming (subst (λ (x : Output). Feeds c s x.source w.coming) e w.feeds))

-- ---- what stands ready grows

-- if what stood ready at first is still there, and all fits into the room, an output is as it must be
pub stays_filled : (source : Source) (taken first : ℕ) (before after : List ℕ) → first ≡ length before → taken ≤ length before → (is_feeding source ≡ true → most_lent ≤ length (drop taken before))
    → first ≤ length after → length after ≤ most_output → (taken ≤ length after) × (is_feeding source ≡ true → most_lent ≤ length (drop taken after)) × (length after ≤ most_output)
stays_filled source taken first before after e within filled least most =
    (omega (arith, e, within, least), (λ h. omega (arith, e, within, least, filled h, length-drop taken before, length-drop taken after)), most)

-- ---- something comes

not_nil : (xs ys : List ℕ) → (xs ++ last_line) ≡ ys → is_empty ys ≡ false
not_nil [] ys e = subst (λ zs. is_empty zs ≡ false) e refl
not_nil (x ∷ xs) ys e = subst (λ zs. is_empty zs ≡ false) e refl

-- a source that isn't spent still puts something
pub feeds_some : (c : Contents) (s : Option Session) (source : Source) (coming : List ℕ) → is_feeding source ≡ true → Feeds c s source coming → is_empty coming ≡ false
feeds_some c s Nothing coming h f = absurd (true≢false (sym h))
feeds_some c None (Sizes done) coming h f = absurd f
feeds_some c None (Uids done) coming h f = absurd f
feeds_some c None (Text r) coming h f = absurd f
feeds_some c (Some s) (Sizes done) coming h f = not_nil _ coming (sym f)
feeds_some c (Some s) (Uids done) coming h f = not_nil _ coming (sym f)
feeds_some c (Some s) (Text r) coming h f = not_nil _ coming (sym f.coming)

length_some : (xs : List ℕ) → is_empty xs ≡ false → 0 < length xs
length_some [] h = absurd (true≢false h)
length_some (x ∷ xs) h = omega arith

front_some : (xs ys : List ℕ) → is_empty xs ≡ false → is_empty (xs ++ ys) ≡ false
front_some [] ys h = absurd (true≢false h)
front_some (x ∷ xs) ys h = refl

-- something is owed if something stands ready
pub some_owed : (c : Contents) (s : Option Session) (o : Output) (octets : List ℕ) → Owes c s o octets → is_empty o.ready ≡ false → is_empty octets ≡ false
some_owed c s o octets w h = ap is_empty w.is ∙ front_some o.ready w.coming h

-- nothing is owed exactly if nothing stands ready
pub same_empty : (c : Contents) (s : Option Session) (o : Output) (octets : List ℕ) → Owes c s o octets → (b : Bool) → is_empty o.ready ≡ b → (b ≡ true → o ≡ nothing_owed) → b ≡ is_empty octets
same_empty c s o octets w true e none = sym (ap is_empty (none_owed c s o octets w (none refl)))
same_empty c s o octets w false e none = sym (some_owed c s o octets w e)

-- more is owed than stands ready
pub owes_more : (c : Contents) (s : Option Session) (o : Output) (octets : List ℕ) → Owes c s o octets → is_feeding o.source ≡ true → length o.ready < length octets
owes_more c s o octets w h =
    let some = length_some w.coming (feeds_some c s o.source w.coming h w.feeds) in
    let size = ap length w.is ∙ length-append o.ready w.coming in
    omega (arith, some, size)

-- what stands ready is a beginning of it
pub owes_within : (c : Contents) (s : Option Session) (o : Output) (octets : List ℕ) → Owes c s o octets → length o.ready ≤ length octets
owes_within c s o octets w = let size = ap length w.is ∙ length-append o.ready w.coming in omega (arith, size)

-- all is owed that stands ready, or something comes
pub spent : (source : Source) → is_feeding source ≡ false → source ≡ Nothing
spent Nothing h = refl
spent (Sizes done) h = absurd (true≢false h)
spent (Uids done) h = absurd (true≢false h)
spent (Text r) h = absurd (true≢false h)

-- a message feeds
pub text_feeds : (source : Source) → reads_text source ≡ true → is_feeding source ≡ true
text_feeds Nothing h = absurd (true≢false (sym h))
text_feeds (Sizes done) h = refl
text_feeds (Uids done) h = refl
text_feeds (Text r) h = refl

-- ---- what is lent

beginning : (m : ℕ) (xs ys : List ℕ) → take m xs ≡ take (length (take m xs)) (xs ++ ys)
beginning m xs ys =
    let n : length (take m xs) ≡ min m (length xs) = length-take m xs in
    let le : length (take m xs) ≤ length xs = omega (arith, n) in
    at m xs ∙ sym (take-append-le (length (take m xs)) xs ys le)
  where
    at : (m : ℕ) (xs : List ℕ) → take m xs ≡ take (length (take m xs)) xs
    at m xs = sym (ap (λ n. take n xs) (length-take m xs) ∙ take_min m xs)

-- of so many that stand ready, and so many that are owed
enough_at : (most ready owed lent : ℕ) → 512 ≤ most → lent ≡ min most ready → (b : Bool) → (b ≡ true → most ≤ ready) → (b ≡ false → owed ≡ ready) → min owed 512 ≤ lent
enough_at most ready owed lent h e true filled all = let f = filled refl in omega (arith, h, e, f)
enough_at most ready owed lent h e false filled all = let a = all refl in omega (arith, h, e, a)

all_ready : (c : Contents) (s : Option Session) (o : Output) (octets : List ℕ) → Owes c s o octets → is_feeding o.source ≡ false → octets ≡ o.ready
all_ready c s o octets w h =
    let f : Feeds c s Nothing w.coming = subst (λ (x : Source). Feeds c s x w.coming) (spent o.source h) w.feeds in
    w.is ∙ (ap (λ xs. o.ready ++ xs) (nothing_comes c s w.coming f) ∙ append-nil o.ready)

-- the front of what stands ready, by a number that was bounded
pub front_lent : (n most : ℕ) (xs ready : List ℕ) → n ≡ min (length xs) most → xs ≡ ready → take n xs ≡ take most ready
front_lent n most xs ready e is = ap (λ m. take m xs) (e ∙ min_comm (length xs) most) ∙ (take_min most xs ∙ ap (take most) is)
  where
    min_comm : (a b : ℕ) → min a b ≡ min b a
    min_comm a b = omega arith

pub lent_is : (c : Contents) (s : Option Session) (o : Output) (octets : List ℕ) → Owes c s o octets → IsLent octets (lent_of o)
lent_is c s o octets w = record {
  beginning = beginning most_lent o.ready w.coming ∙ ap (take (length (lent_of o))) (sym w.is);
  enough = enough_at most_lent (length o.ready) (length octets) (length (lent_of o)) (omega arith) (length-take most_lent o.ready) (is_feeding o.source) w.filled
      (λ h. ap length (all_ready c s o octets w h));
}

-- exactly so much is lent: what is owed, and no more than the most
exact_at : (most ready owed lent : ℕ) → lent ≡ min most ready → ready ≤ owed → (b : Bool) → (b ≡ true → most ≤ ready) → (b ≡ false → owed ≡ ready) → lent ≡ min owed most
exact_at most ready owed lent e le true filled all = let f = filled refl in omega (arith, e, le, f)
exact_at most ready owed lent e le false filled all = let a = all refl in omega (arith, e, a)

pub lent_exactly : (c : Contents) (s : Option Session) (o : Output) (octets : List ℕ) → Owes c s o octets → length (lent_of o) ≡ min (length octets) most_lent
lent_exactly c s o octets w = exact_at most_lent (length o.ready) (length octets) (length (lent_of o)) (length-take most_lent o.ready) (owes_within c s o octets w) (is_feeding o.source) w.filled
    (λ h. ap length (all_ready c s o octets w h))

-- ---- over other contents

-- the messages of the session's maildrop stay
abbrev pub StayFor : (c c' : Contents) → Option Session → Type 0
StayFor c c' s = (o : Session) → s ≡ Some o → (x : Keyed) → In x c.messages → x.message.maildrop ≡ o.name.maildrop → In x c'.messages

feeds_on : (c c' : Contents) (s : Option Session) (source : Source) (coming : List ℕ) → StayFor c c' s → Feeds c s source coming → Feeds c' s source coming
feeds_on c c' None Nothing coming stay f = f
feeds_on c c' None (Sizes done) coming stay f = f
feeds_on c c' None (Uids done) coming stay f = f
feeds_on c c' None (Text r) coming stay f = f
feeds_on c c' (Some s) Nothing coming stay f = f
feeds_on c c' (Some s) (Sizes done) coming stay f = f
feeds_on c c' (Some s) (Uids done) coming stay f = f
feeds_on c c' (Some s) (Text r) coming stay f = record {
  stored = f.stored;
  there = stay s refl f.stored f.there f.within;
  within = f.within;
  key = f.key;
  begun = f.begun;
  coming = f.coming;
}

pub owes_on : (c c' : Contents) (s : Option Session) (o : Output) (octets : List ℕ) → StayFor c c' s → Owes c s o octets → Owes c' s o octets
owes_on c c' s o octets stay w = record { coming = w.coming; is = w.is; feeds = feeds_on c c' s o.source w.coming stay w.feeds; filled = w.filled }
