-- A message that is sent from the store, page by page.
use Rattle.std.proofs.Common.{◌≡◌, ◌<◌, ◌≤◌, ℕ, List, [], ◌++◌, drop, length, refl, sym, ◌∙◌, ap, subst, append-nil, true≢false, Option, Some, None}
use Rattle.std.proofs.lemmas.List.{drop-append-le}
use Rattle.vault.specs.Changes.{Contents, AreSound}
use Rattle.vault.specs.Calls.{text_under}
use Rattle.session.specs.Session.{Session}
use Rattle.office.specs.Output.{Output, text_coming, IsBegun, Reads, Feeds, Owes}
use Rattle.office.specs.Trace.{most_lent}
use Rattle.office.specs.declared.reading.Reading.{Reading}
use Rattle.office.specs.declared.output.Source.{Source}
use Rattle.office.specs.declared.output.Source.TheVariants.{Nothing, Text}
use Rattle.office.proofs.Texts.{text_at}

module _ (c : Contents) (sound : AreSound c) (s : Session) (r : Reading) (coming : List ℕ) (reads : Reads c s r coming) where
  -- the text under its key is that of the message
  pub text_of : text_under r.key c.messages ≡ reads.stored.message.text
  text_of = ap (λ k. text_under k c.messages) (sym reads.key) ∙ text_at c sound reads.stored reads.there

  pub begun_under : IsBegun r (text_under r.key c.messages)
  begun_under = subst (λ (text : List ℕ). IsBegun r text) (sym text_of) reads.begun

  -- what is coming is what is still to be sent of the text under its key
  pub coming_under : coming ≡ text_coming r (text_under r.key c.messages)
  coming_under = reads.coming ∙ ap (text_coming r) (sym text_of)

  module _ (r' : Reading) (ready before after : List ℕ) (front : before ≡ ready) (key : r'.key ≡ r.key) (octets : r'.octets ≡ r.octets) where
    -- more of it is still to come
    pub text_goes_on : r'.place < r'.octets → most_lent ≤ length after → before ++ text_coming r (text_under r.key c.messages) ≡ after ++ text_coming r' (text_under r.key c.messages)
        → Owes c (Some s) (record { ready = after; source = Text r' }) (ready ++ coming)
    text_goes_on left full put = record {
      coming = text_coming r' reads.stored.message.text;
      is = ap (λ xs. xs ++ coming) (sym front) ∙ (ap (λ xs. before ++ xs) coming_under ∙ (put ∙ ap (λ text. after ++ text_coming r' text) text_of));
      feeds = record {
        stored = reads.stored;
        there = reads.there;
        within = reads.within;
        key = reads.key ∙ sym key;
        begun = record { size = reads.begun.size ∙ sym octets; left = left };
        coming = refl;
      };
      filled = λ h. full;
    }

    -- all of it was put
    pub text_ended : before ++ text_coming r (text_under r.key c.messages) ≡ after → Owes c (Some s) (record { ready = after; source = Nothing }) (ready ++ coming)
    text_ended put = record {
      coming = [];
      is = ap (λ xs. xs ++ coming) (sym front) ∙ (ap (λ xs. before ++ xs) coming_under ∙ (put ∙ sym (append-nil after)));
      feeds = refl;
      filled = λ h. absurd (true≢false (sym h));
    }

-- ---- some is taken

pub not_nothing : (r : Reading) → Text r ≡ Nothing → ⊥
not_nothing r e = cc

-- what is owed of a message, once some of what stood ready was taken
pub owes_text : (c : Contents) (s : Option Session) (o o1 o2 : Output) (r : Reading) (n : ℕ) (owed : List ℕ) → o.source ≡ Text r → o1.ready ≡ drop n o.ready → n ≤ length o.ready
    → Owes c s o owed → ((k : Session) (coming : List ℕ) → Reads c k r coming → Owes c (Some k) o2 (o1.ready ++ coming)) → Owes c s o2 (drop n owed)
owes_text c s o o1 o2 r n owed source ready le w sends = at s (subst (λ (x : Source). Feeds c s x w.coming) source w.feeds)
  where
    rest : drop n owed ≡ o1.ready ++ w.coming
    rest = ap (drop n) w.is ∙ (drop-append-le n o.ready w.coming le ∙ ap (λ xs. xs ++ w.coming) (sym ready))

    at : (s : Option Session) → Feeds c s (Text r) w.coming → Owes c s o2 (drop n owed)
    at None f = absurd f
    at (Some k) f = subst (λ xs. Owes c (Some k) o2 xs) (sym rest) (sends k w.coming f)
