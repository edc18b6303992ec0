-- Kept lines after kept lines.
use Rattle.std.proofs.Common.{◌≡◌, ◌++◌, ℕ, List, [], ◌∷◌, length, ap, arith, refl}
use Rattle.std.proofs.lemmas.List.{length-append}
use Rattle.mailtext.proofs.LineLemmas.{kept_form-append}
use Rattle.mailtext.proofs.kept.MailText.append.Goals as goal

nothing_first : (text more : List ℕ) → text ++ more ≡ [] → text ≡ []
nothing_first [] more none = refl
nothing_first (b ∷ bs) more none = absurd (omega (arith, ap length none))

pub invariant_of-self-2 : goal.invariant_of-self-2
invariant_of-self-2 c =
    let text = c.self.inside.octets.items in
    let more = c.more.inside.octets.items in
    let is : c.extend_from_slice.new.self.items ≡ text ++ more = rw c.deref.ensures.value at c.in_ok-extend_from_slice.ensures.items in
    rw is (record {
      nonempty = λ e. c.self.invariant.nonempty (nothing_first text more e);
      kept = kept_form-append text more c.self.invariant.kept c.more.invariant.kept;
      within = omega (arith, length-append text more, ap length c.self.view_is, ap length c.more.view_is);
    })
