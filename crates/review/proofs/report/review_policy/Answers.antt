use Rattle.std.proofs.Common.{◌≡◌, [], ◌∙◌, ap, ℕ, Bool, false, not, List, refl, subst}
use Rattle.std.specs.Prelude.{IfOk}
use Rattle.policy.specs.Policy.{Policy}
use Rattle.review.specs.declared.choice.Format.{Format}
use Rattle.review.specs.declared.choice.Format.TheVariants.{Text, Csv, Html, Json}
use Rattle.review.specs.declared.label.Label.{Label}
use Rattle.review.specs.Names.{Kept, nobody}
use Rattle.review.specs.Review.{changes_of, classes_of, clerks_of, is_narrow, maildrops_of, notes_text, written}
use Rattle.review.proofs.report.review_policy.Goals as goal

-- beside no other policy the lines of what changes are nowhere
alone : (f : Format) (table narrow : Bool) (old new : Policy) (cs ms ks : List Label) (changes others notes source : List ℕ)
    → written f table false narrow old new cs ms ks changes notes source ≡ written f table false narrow old new cs ms ks others notes source
alone Text table narrow old new cs ms ks changes others notes source = refl
alone Csv table narrow old new cs ms ks changes others notes source = refl
alone Html table narrow old new cs ms ks changes others notes source = refl
alone Json table narrow old new cs ms ks changes others notes source = refl

pub returns : goal.returns
returns c =
    let p = c.args.policy.now in
    let choice = c.args.choice.now in
    let source = c.args.source.now in
    let names = c.in_ok-names.names in
    let kept = c.nobody-nobody.result in
    let at = λ (cs ms ks : List Label) (k : Kept).
    written choice.format (not choice.only_changes) false (is_narrow choice) p p cs ms ks [] (notes_text false choice p p k) source in
    let all = ap (λ (cs : List Label). at cs names.maildrops.items names.classes.items kept) c.in_ok-names.ensures.clerks
    ∙ ap (λ (ms : List Label). at (clerks_of choice p p kept) ms names.classes.items kept) c.in_ok-names.ensures.maildrops
    ∙ ap (λ (ks : List Label). at (clerks_of choice p p kept) (maildrops_of choice p p kept) ks kept) c.in_ok-names.ensures.classes
    ∙ ap (λ (k : Kept). at (clerks_of choice p p k) (maildrops_of choice p p k) (classes_of p p) k) c.nobody-nobody.ensures
    ∙ alone choice.format (not choice.only_changes) (is_narrow choice) p p (clerks_of choice p p nobody) (maildrops_of choice p p nobody) (classes_of p p)
    [] (changes_of choice p p nobody) (notes_text false choice p p nobody) source in
    subst (λ (text : List ℕ). IfOk c.written.result (λ told. told.items ≡ text)) all c.written.ensures
