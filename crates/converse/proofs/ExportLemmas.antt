-- What an export did, by what it did before its status; and over a vault that was read before.
use Rattle.std.proofs.Common.{◌≡◌, ◌⊎◌, ◌++◌, ◌≤◌, ◌∙◌, inl, inr, ℕ, Bool, true, false, List, [], Option, Result, Ok, Err, refl, subst, arith, map, length}
use Rattle.std.specs.Prelude.{IfErr, IsErr, IsErrAnd, IsOk}
use Rattle.std.specs.List.{All}
use Rattle.std.proofs.lemmas.Bool.{false≢true}
use Rattle.vault.specs.declared.answer.Head.{Head}
use Rattle.vault.specs.declared.fault.VaultFault.{VaultFault}
use Rattle.vault.specs.declared.record.Receipt.{Receipt}
use Rattle.vault.specs.declared.vault.Vault as vaults
use Rattle.vault.specs.Calls.{has_grown}
use Rattle.vault.specs.Changes.{Contents, AreSound, head_of}
use Rattle.vault.specs.Records.{is_one_of}
use Rattle.converse.specs.declared.check_store.StoreFile.{StoreFile}
use Rattle.converse.specs.declared.folder.Folder as folders
use Rattle.converse.specs.declared.fault.Fault.{Fault}
use Rattle.converse.specs.declared.fault.Fault.TheVariants.{Differs}
use Rattle.converse.specs.declared.streams.Sink as sinks
use Rattle.converse.specs.Causes.{IsRefusedExport, IsRefusedRead, Reports}
use Rattle.converse.specs.Checked.{store_text}
use Rattle.converse.specs.Exported.{File, files_of, file_under, export_line, report_text, told_of, IsMeasured, Takes, TakesFirst}
use Rattle.converse.specs.Exports.{Checks, Exports, Over, PrintedPart, PutsMaildrop, TookAll, TookFirst, WhyBroken, WhyNotWhole}
use Rattle.converse.specs.Held.{OverHeld}
use Rattle.converse.specs.Printed.{PrintsPart}
use Rattle.converse.specs.Told.{fault_line}
use Rattle.converse.specs.Streams.{Writes, WritesPart, writes_failed}
use Rattle.converse.specs.Texts.{HasNone, differing_in, intact_in}
use Rattle.converse.proofs.Exporting.{Against, report_whole, end_of, takes_none, intact_measured, files_taken, first_taken, report_is, refused_since, refused_there}
use Rattle.converse.proofs.Sifting.{put_alone}
use Rattle.converse.proofs.TextWriting.{handed_as}

-- ---- what is printed on standard error

-- a fault was printed
pub reports_fault : {E : Type 0} (contents : E → Option (List ℕ)) (e e' : E) (status : ℕ) (Why : Fault → Type 0) (fault : Fault) → status ≡ 1 → Why fault
    → PrintsPart (contents e) (contents e') (fault_line fault) → Reports contents e e' status Why
reports_fault contents e e' status Why fault one why printed = record {
  bound = omega (arith, one);
  silent = λ (well : status ≡ 0). absurd (omega (arith, one, well));
  why = λ _. (fault, why, printed);
}

-- ---- the heads that were sifted

-- of a maildrop that is there: these are the heads of the messages that have their texts, and those of the others
pub record SiftedAs (rs : Against) (m : List ℕ) (d : Contents) (is hs : List Head) : Type 0 where
  pub sound : AreSound d
  pub there : is_one_of m d.maildrops ≡ true
  pub same : is ≡ map head_of (intact_in rs m d)
  pub other : hs ≡ map head_of (differing_in rs m d)

pub sifted_as : (rs : Against) (m : List ℕ) (d : Contents) (is hs none other_none intact differing : List Head) → AreSound d
    → (is_one_of m d.maildrops ≡ true) × (intact ≡ none ++ map head_of (intact_in rs m d)) × (differing ≡ other_none ++ map head_of (differing_in rs m d))
    → is ≡ intact → hs ≡ differing → none ≡ [] → other_none ≡ [] → SiftedAs rs m d is hs
sifted_as rs m d is hs none other_none intact differing sound sifted lent other_lent e f = record {
  sound = sound;
  there = sifted.0;
  same = put_alone intact none (intact_in rs m d) is lent sifted.1 e;
  other = put_alone differing other_none (differing_in rs m d) hs other_lent sifted.2 f;
}

-- what is known of whatever the store held at first, and then when these were sifted (at `mid`), if it is clean now
pub record HasSifted {V : Type 0} (Holds : V → Contents → Type 0) (IsClean : V → Type 0) (first mid now : V) (rs : Against) (m : List ℕ) (is hs : List Head) : Type 0 where
  pub held : (d : Contents) → Holds first d → IsClean now → Holds mid d
  pub are : (d : Contents) → Holds first d → IsClean now → SiftedAs rs m d is hs

module _ {V : Type 0} {Holds : V → Contents → Type 0} {IsClean : V → Type 0} {first mid now : V} {rs : Against} {m : List ℕ} {is hs : List Head} where
  pub has_sifted : ((v : V) (d : Contents) → Holds v d → IsClean v → AreSound d) → (IsClean now → IsClean mid) → ((d : Contents) → Holds first d → IsClean mid → Holds mid d)
      → {none other_none intact differing : List Head} → ((d : Contents) → Holds first d → IsClean mid
      → (is_one_of m d.maildrops ≡ true) × (intact ≡ none ++ map head_of (intact_in rs m d)) × (differing ≡ other_none ++ map head_of (differing_in rs m d)))
      → is ≡ intact → hs ≡ differing → none ≡ [] → other_none ≡ [] → HasSifted Holds IsClean first mid now rs m is hs
  has_sifted sound back held sifted lent other_lent e f = record {
    held = λ d h k. held d h (back k);
    are = λ d h k. sifted_as rs m d is hs _ _ _ _ (sound mid d (held d h (back k)) (back k)) (sifted d h (back k)) lent other_lent e f;
  }

  module _ (s : HasSifted Holds IsClean first mid now rs m is hs) where
    -- all their files were put, or the first of them
    pub put_whole : (a b : Option (List File)) → ((d : Contents) → Holds mid d → IsClean now → All (IsMeasured d) is → Takes a b (map (file_under d) is))
        → (d : Contents) → Holds first d → IsClean now → Takes a b (files_of rs m d)
    put_whole a b whole d h k = let x = s.are d h k in files_taken rs m d is a b x.sound x.same (whole d (s.held d h k) k (intact_measured rs m d is x.sound x.same))

    pub put_first : (a b : Option (List File)) → ((d : Contents) → Holds mid d → IsClean now → All (IsMeasured d) is → TakesFirst a b (map (file_under d) is))
        → (d : Contents) → Holds first d → IsClean now → TakesFirst a b (files_of rs m d)
    put_first a b part d h k = let x = s.are d h k in first_taken rs m d is a b x.sound x.same (part d (s.held d h k) k (intact_measured rs m d is x.sound x.same))

    -- what is printed
    pub report_told : {lent text : List ℕ} (n : ℕ) → n ≡ length is → lent ≡ text → text ≡ told_of m n hs → (d : Contents) → Holds first d → IsClean now → lent ≡ report_text rs m d
    report_told {lent} {text} n count lends told d h k = let x = s.are d h k in lends ∙ report_is rs m d n is hs text count x.same x.other told

    -- a refusal to read them is one of the export
    pub refused_export : (faults : V → ℕ) → faults first ≤ faults mid → (e : VaultFault) → IsRefusedRead Holds IsClean faults mid now (λ d. All (IsMeasured d) is) e
        → IsRefusedExport Holds IsClean faults first now m e
    refused_export faults counted e r d h k =
        let x = s.are d h k in
        refused_there (is_one_of m d.maildrops) (has_grown (faults first) (faults now)) e
        (refused_since true (faults first) (faults mid) (faults now) counted e (r d (s.held d h k) k (intact_measured rs m d is x.sound x.same)))

-- ---- a run, by its answer

module _ {V F W : Type 0} (vault : vaults.Ghosts V) (folder : folders.Ghosts F) (sink : sinks.Ghosts W) (v v' : V) (f f' : F) (o o' : W) (rs : Contents → Option (List Receipt)) (d : List ℕ) where
  abbrev Puts : Result Bool Fault → Type 0
  Puts r = PutsMaildrop vault folder sink v v' f f' o o' rs d r

  abbrev Did : ℕ → Type 0
  Did status = Exports vault folder sink v v' f f' o o' rs d status

  -- a fault ended it: some files were put, and some text was printed
  pub puts_ill : (r : Result Bool Fault) → IsErr r → IfErr r (WhyBroken vault folder sink v v' f f' o o' rs d)
      → Over vault folder sink v v' f f' o o' rs d (TookFirst vault folder sink v v' f f' o o' rs d)
      → (o' ≡ o) ⊎ Over vault folder sink v v' f f' o o' rs d (λ c. TookAll vault folder sink v v' f f' o o' rs d c × PrintedPart vault folder sink v v' f f' o o' rs d c)
      → (o' ≡ o) ⊎ (folder.is_settled f' ≡ true) → Puts r
  puts_ill (Ok intact) ill why part last settled = absurd (false≢true ill)
  puts_ill (Err fault) ill why part last settled = record {
    whole = tt;
    told = tt;
    intact = tt;
    settled = λ (well : false ≡ true). absurd (false≢true well);
    flushed = tt;
    missing = λ c h k none. refl;
    part = part;
    last = last;
    settled_first = settled;
    cause = why;
  }

  pub exports_well : (intact : Bool) → Puts (Ok intact) → intact ≡ true → Did 0
  exports_well intact p is = record {
    whole = λ _. p.whole;
    told = λ _ c h k. subst (λ (text : List ℕ). Writes (sink.seen o) (sink.seen o') text)
        (report_whole (rs c) d c (subst (λ b. HasNone b (differing_in (rs c) d c)) is (p.intact c h k))) (p.told c h k);
    intact = λ _ c h k. subst (λ b. HasNone b (differing_in (rs c) d c)) is (p.intact c h k);
    settled = λ _. p.settled refl;
    flushed = λ _. p.flushed;
    missing = λ c h k none. absurd (false≢true (p.missing c h k none));
    part = p.part;
    last = p.last;
    settled_first = p.settled_first;
  }

  pub exports_ill : (r : Result Bool Fault) (status : ℕ) → Puts r → status ≡ 1 → Did status
  exports_ill r status p one = record {
    whole = λ (well : status ≡ 0). absurd (omega (arith, one, well));
    told = λ (well : status ≡ 0). absurd (omega (arith, one, well));
    intact = λ (well : status ≡ 0). absurd (omega (arith, one, well));
    settled = λ (well : status ≡ 0). absurd (omega (arith, one, well));
    flushed = λ (well : status ≡ 0). absurd (omega (arith, one, well));
    missing = λ c h k none. one;
    part = p.part;
    last = p.last;
    settled_first = p.settled_first;
  }

  pub why_differing : (intact : Bool) → Puts (Ok intact) → intact ≡ false → WhyNotWhole vault folder sink v v' f f' o o' rs d Differs
  why_differing intact p is = λ c h k. (subst (λ b. HasNone b (differing_in (rs c) d c)) is (p.intact c h k), p.whole c h k, p.told c h k)

  pub why_broken : (fault : Fault) → Puts (Err fault) → WhyNotWhole vault folder sink v v' f f' o o' rs d fault
  why_broken fault p =
      end_of (OverHeld vault v v' (λ c. (differing_in (rs c) d c ≡ [] → ⊥) × Takes (folder.files f) (folder.files f') (files_of (rs c) d c)
      × Writes (sink.seen o) (sink.seen o') (report_text (rs c) d c)))
      (has_grown (folder.faults f) (folder.faults f')) (writes_failed (sink.seen o) (sink.seen o')) (IsRefusedExport vault.holds vault.is_clean vault.faults v v' d) fault p.cause

-- ---- after the store was read

module _ {V F W : Type 0} (vault : vaults.Ghosts V) (folder : folders.Ghosts F) (sink : sinks.Ghosts W) (v0 v1 v2 : V) (f f' : F) (o o' : W)
    (rs : Against) (these : Contents → Against) (d : List ℕ) where
  -- what an export did over what was held since, it did over what was held before
  pub exports_since : (status : ℕ) → ((c : Contents) → vault.holds v0 c → vault.is_clean v2 → vault.holds v1 c × (rs ≡ these c)) → Exports vault folder sink v1 v2 f f' o o' (λ _. rs) d status
      → Exports vault folder sink v0 v2 f f' o o' these d status
  exports_since status on p = record {
    whole = λ well c h k. let e = on c h k in subst (λ (r : Against). Takes (folder.files f) (folder.files f') (files_of r d c)) e.1 (p.whole well c e.0 k);
    told = λ well c h k. let e = on c h k in subst (λ (r : Against). Writes (sink.seen o) (sink.seen o') (export_line (length (files_of r d c)))) e.1 (p.told well c e.0 k);
    intact = λ well c h k. let e = on c h k in subst (λ (r : Against). differing_in r d c ≡ []) e.1 (p.intact well c e.0 k);
    settled = p.settled;
    flushed = p.flushed;
    missing = λ c h k none. p.missing c (on c h k).0 k none;
    part = λ c h k. let e = on c h k in subst (λ (r : Against). TakesFirst (folder.files f) (folder.files f') (files_of r d c)) e.1 (p.part c e.0 k);
    last = elim p.last [
      | inl same ↦ inl same
      | inr part ↦ inr (λ c h k. let e = on c h k in
          subst (λ (r : Against). Takes (folder.files f) (folder.files f') (files_of r d c) × WritesPart (sink.seen o) (sink.seen o') (report_text r d c)) e.1 (part c e.0 k))
    ];
    settled_first = p.settled_first;
  }

module _ {V F W : Type 0} (vault : vaults.Ghosts V) (folder : folders.Ghosts F) (sink : sinks.Ghosts W) (v v' : V) (f : F) (o : W) (rs : Contents → Option (List Receipt)) (d : List ℕ) where
  -- before the first file nothing is done
  pub puts_none : (r : Result Bool Fault) → IsErr r → IfErr r (WhyBroken vault folder sink v v' f f o o rs d) → PutsMaildrop vault folder sink v v' f f o o rs d r
  puts_none r ill why = puts_ill vault folder sink v v' f f o o rs d r ill why (λ c h k. (0, takes_none _)) (inl refl) (inl refl)

  -- for the cause of the fault
  pub puts_none_at : (r : Result Bool Fault) (e : Fault) → IsErrAnd r (λ y. y ≡ e) → WhyBroken vault folder sink v v' f f o o rs d e → PutsMaildrop vault folder sink v v' f f o o rs d r
  puts_none_at (Ok intact) e is why = absurd is
  puts_none_at (Err y) e is why = puts_none (Err y) refl (handed_as {A = Bool} (Err y) e (WhyBroken vault folder sink v v' f f o o rs d) is why)

  -- one that wasn't begun did nothing
  pub exports_none : (status : ℕ) → status ≡ 1 → Exports vault folder sink v v' f f o o rs d status
  exports_none status one = record {
    whole = λ (well : status ≡ 0). absurd (omega (arith, one, well));
    told = λ (well : status ≡ 0). absurd (omega (arith, one, well));
    intact = λ (well : status ≡ 0). absurd (omega (arith, one, well));
    settled = λ (well : status ≡ 0). absurd (omega (arith, one, well));
    flushed = λ (well : status ≡ 0). absurd (omega (arith, one, well));
    missing = λ c h k none. one;
    part = λ c h k. (0, takes_none _);
    last = inl refl;
    settled_first = inl refl;
  }

-- a fault is no good answer
pub err_not_ok : {A E : Type 0} (r : Result A E) → IsErr r → IsOk r → ⊥
err_not_ok (Ok x) ill well = false≢true ill
err_not_ok (Err e) ill well = false≢true well

module _ {V W : Type 0} (vault : vaults.Ghosts V) (sink : sinks.Ghosts W) (v v' : V) (o o' : W) (file : StoreFile) (names : Contents → List (List ℕ)) (rs : Contents → Option (List Receipt)) where
  -- a check that ended otherwise printed a beginning at most
  pub checks_ill : (Well : Type 0) → (Well → ⊥) → (o' ≡ o) ⊎ OverHeld vault v v' (λ c. WritesPart (sink.seen o) (sink.seen o') (store_text file c (names c) (rs c)))
      → Checks vault sink v v' o o' file names rs Well
  checks_ill Well ill part = record {
    told = λ well. absurd (ill well);
    flushed = λ well. absurd (ill well);
    intact = λ well. absurd (ill well);
    known = λ well. absurd (ill well);
    part = part;
  }
