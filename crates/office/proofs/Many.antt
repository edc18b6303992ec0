-- How many messages a session sees and has marked, by what is kept and by the trace.
use Rattle.std.proofs.Common.{◌≡◌, ◌<◌, ◌≤◌, ℕ, Bool, true, false, ◌&&◌, List, length, slice_get}
use Rattle.std.proofs.Common.{Option, Some, None, is_some, Ok, Err, refl, sym, ◌∙◌, ap, arith, ⊎_elim}
use Rattle.std.specs.Prelude.{nat_lt}
use Rattle.std.proofs.lemmas.Bool.Decides.{nat_tests}
use Rattle.std.proofs.lemmas.Option.{slice_get_cases}
use Rattle.vault.proofs.ListLemmas.{length-map}
use Rattle.vault.specs.declared.answer.Head.{Head}
use Rattle.vault.specs.declared.record.Keyed.{Keyed}
use Rattle.vault.specs.Changes.{Contents, head_of}
use Rattle.session.specs.declared.pick.Pick.TheVariants.{NoSuch, Deleted}
use Rattle.session.specs.Session.{Session, picked}
use Rattle.session.specs.View.{at_number, is_marked, marked, referred}
use Rattle.office.specs.Stands.{Seen, IsSession}
use Rattle.office.specs.Quitting.{is_found, are_many, sees_many_in, marks_many_in}
use Rattle.office.proofs.Alike.{length_marked-map}
use Rattle.office.proofs.SameReply.{marked_alike}

found_if : (o : Option Head) (b : Bool)
    → is_found (referred o b (Err NoSuch) (Err Deleted) (λ head. Ok head)) ≡ is_some o
found_if None b = refl
found_if (Some head) true = refl
found_if (Some head) false = refl

-- a view has a place exactly if it is longer
within : (m n : ℕ) → m < n → true ≡ nat_lt m n
within m n h = grind (arith, nat_tests, h)

past : (m n : ℕ) → n ≤ m → false ≡ nat_lt m n
past m n h = grind (arith, nat_tests, h)

place_there : (xs : List Head) (n : ℕ) → is_some (slice_get xs n) ≡ nat_lt n (length xs)
place_there xs n =
    ⊎_elim
    (λ i. ap is_some i.2 ∙ within n (length xs) i.1)
    (λ i. ap is_some i.1 ∙ past n (length xs) i.0)
    (slice_get_cases xs n).1

-- message 129 is found exactly if a session sees many
pub found_many : (k : Session) → is_found (picked k 129) ≡ are_many (length k.view)
found_many k = found_if (at_number k.view 129) (is_marked k.marks 129) ∙ place_there k.view 128

pub none_live : (live many : Bool) → live ≡ false → false ≡ (live && many)
none_live live many out = sym (ap (λ b. b && many) out)

-- of a session and the trace's the numbers are the same
module _ (c : Contents) (s : Seen) where
  pub sees_alike : (o : Option Session) → IsSession c s o
      → sees_many_in o ≡ (s.live && are_many (length s.view))
  sees_alike None out = sym (ap (λ b. b && are_many (length s.view)) out)
  sees_alike (Some k) i =
      let rows = i.kept in
      let kept : length k.view ≡ length rows =
      ap length i.lies.heads ∙ length-map head_of rows in
      let told : length rows ≡ length s.view =
      sym (length-map (λ (x : Keyed). x.message) rows) ∙ ap length i.view in
      ap are_many (kept ∙ told) ∙ sym (ap (λ b. b && are_many (length s.view)) i.live)

  pub marks_alike : (o : Option Session) → IsSession c s o
      → marks_many_in o ≡ (s.live && are_many (length (marked s.marks s.view)))
  marks_alike None out = sym (ap (λ b. b && are_many (length (marked s.marks s.view))) out)
  marks_alike (Some k) i =
      let rows = i.kept in
      let kept : length (marked k.marks k.view) ≡ length (marked k.marks rows) =
      ap (λ view. length (marked k.marks view)) i.lies.heads
      ∙ length_marked-map head_of k.marks rows in
      let told : length (marked k.marks rows) ≡ length (marked k.marks s.view) =
      sym (length_marked-map (λ (x : Keyed). x.message) k.marks rows)
      ∙ ap (λ view. length (marked k.marks view)) i.view in
      let same = ap length (marked_alike k.marks s.marks i.marks s.view) in
      ap are_many (kept ∙ (told ∙ same))
      ∙ sym (ap (λ b. b && are_many (length (marked s.marks s.view))) i.live)
