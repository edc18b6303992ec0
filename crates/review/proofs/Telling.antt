-- The lines of all differences, put together by clerks, maildrops and columns.
use Rattle.std.proofs.lemmas.Grind.{flat_map-append}
use Rattle.std.proofs.Common.{◌≡◌, ℕ, Bool, true, false, ◌&&◌, cond, List, [], ◌∷◌, ◌++◌, map, Some, refl, sym, ap, ◌∙◌}
use Rattle.std.specs.List.{filter, find, flat_map}
use Rattle.policy.specs.declared.rule.Rule.{Rule}
use Rattle.policy.specs.Policy.{Policy, decision_of}
use Rattle.review.specs.declared.label.Label.{Label}
use Rattle.review.specs.declared.question.Column.{Column}
use Rattle.review.specs.declared.rows.LineForm.{LineForm}
use Rattle.review.specs.Differences.{answer, becomes, becoming, change_line, change_lines, questions, text_if}
use Rattle.review.specs.Questions.{decide_for, fits_label, has_clerk, is_about}
use Rattle.review.specs.Table.{answer_line, answers_text}
use Rattle.review.specs.Steps.{answers_clerk, answers_maildrop, decide_among, of_clerk, of_maildrop, told, told_clerk, told_column, told_maildrop}

-- ---- lists

pub find-filter : (p q : Rule → Bool) (xs : List Rule) → find p (filter q xs) ≡ find (λ x. q x && p x) xs
find-filter p q [] = refl
find-filter p q (x ∷ xs) = at (q x) (find-filter p q xs)
  where
    at : (b : Bool) → find p (filter q xs) ≡ find (λ y. q y && p y) xs → find p (cond b (x ∷ filter q xs) (filter q xs)) ≡ cond (b && p x) (Some x) (find (λ y. q y && p y) xs)
    at true e = ap (cond (p x) (Some x)) e
    at false e = e

flat_if : {X : Type 0} (t : X → Bool) (f : X → List ℕ) (xs : List X) → flat_map (λ x. text_if (t x) (f x)) xs ≡ flat_map f (filter t xs)
flat_if t f [] = refl
flat_if t f (x ∷ xs) = at (t x) (flat_if t f xs)
  where
    at : (b : Bool) → flat_map (λ y. text_if (t y) (f y)) xs ≡ flat_map f (filter t xs)
        → text_if b (f x) ++ flat_map (λ y. text_if (t y) (f y)) xs ≡ flat_map f (cond b (x ∷ filter t xs) (filter t xs))
    at true e = ap (λ (ys : List ℕ). f x ++ ys) e
    at false e = e

pub flat_same : {X : Type 0} (f g : X → List ℕ) (xs : List X) → ((x : X) → f x ≡ g x) → flat_map f xs ≡ flat_map g xs
flat_same f g [] e = refl
flat_same f g (x ∷ xs) e = rw (e x, flat_same f g xs e) refl

flat_flat : {X Y : Type 0} (g : Y → List ℕ) (h : X → List Y) (xs : List X) → flat_map g (flat_map h xs) ≡ flat_map (λ x. flat_map g (h x)) xs
flat_flat g h [] = refl
flat_flat g h (x ∷ xs) = flat_map-append g (h x) (flat_map h xs) ∙ ap (λ (ys : List ℕ). flat_map g (h x) ++ ys) (flat_flat g h xs)

flat_of_map : {X Y : Type 0} (g : Y → List ℕ) (h : X → Y) (xs : List X) → flat_map g (map h xs) ≡ flat_map (λ x. g (h x)) xs
flat_of_map g h [] = refl
flat_of_map g h (x ∷ xs) = ap (λ (ys : List ℕ). g (h x) ++ ys) (flat_of_map g h xs)

-- ---- the decision of the rules that are about the clerk and the maildrop

pub split : (p : Policy) (clerk maildrop : Label) (asked : Column) → decide_among (of_maildrop (of_clerk p.groups p.rules clerk) maildrop) asked ≡ decide_for p clerk maildrop asked
split p clerk maildrop asked =
    let at_maildrop = λ (r : Rule). fits_label r.maildrop maildrop in
    let at_clerk = λ (r : Rule). has_clerk p.groups r.clerk clerk in
    ap decision_of (find-filter (is_about asked) at_maildrop (of_clerk p.groups p.rules clerk)
    ∙ find-filter (λ r. at_maildrop r && is_about asked r) at_clerk p.rules)

-- ---- the lines

one_column : (allowed : Bool) (old new : Policy) (clerk maildrop : Label) (asked : Column)
    → told_column allowed clerk maildrop (of_maildrop (of_clerk old.groups old.rules clerk) maildrop) (of_maildrop (of_clerk new.groups new.rules clerk) maildrop) asked
    ≡ told allowed (record { clerk = clerk; maildrop = maildrop; asked = asked }) (decide_for old clerk maildrop asked) (decide_for new clerk maildrop asked)
one_column allowed old new clerk maildrop asked =
    rw (split old clerk maildrop asked, split new clerk maildrop asked) refl

all_columns : (allowed : Bool) (old new : Policy) (clerk : Label) (asked : List Column) (maildrop : Label)
    → told_maildrop allowed clerk asked (of_clerk old.groups old.rules clerk) (of_clerk new.groups new.rules clerk) maildrop
    ≡ flat_map (λ q. told allowed q (answer old q) (answer new q)) (map (λ a. record { clerk = clerk; maildrop = maildrop; asked = a }) asked)
unfolding told_maildrop
all_columns allowed old new clerk asked maildrop =
    flat_same _ _ asked (one_column allowed old new clerk maildrop)
    ∙ sym (flat_of_map (λ q. told allowed q (answer old q) (answer new q)) (λ a. record { clerk = clerk; maildrop = maildrop; asked = a }) asked)

all_maildrops : (allowed : Bool) (old new : Policy) (maildrops : List Label) (asked : List Column) (clerk : Label)
    → told_clerk allowed old new maildrops asked clerk
    ≡ flat_map (λ q. told allowed q (answer old q) (answer new q)) (flat_map (λ maildrop. map (λ a. record { clerk = clerk; maildrop = maildrop; asked = a }) asked) maildrops)
unfolding told_clerk
all_maildrops allowed old new maildrops asked clerk =
    flat_same _ _ maildrops (all_columns allowed old new clerk asked)
    ∙ sym (flat_flat (λ q. told allowed q (answer old q) (answer new q)) (λ maildrop. map (λ a. record { clerk = clerk; maildrop = maildrop; asked = a }) asked) maildrops)

-- the lines of all clerks are those of the differences in one direction
pub all_clerks : (allowed : Bool) (old new : Policy) (clerks maildrops : List Label) (asked : List Column)
    → flat_map (told_clerk allowed old new maildrops asked) clerks ≡ change_lines old new (becoming allowed old new (questions clerks maildrops asked))
all_clerks allowed old new clerks maildrops asked =
    flat_same _ _ clerks (all_maildrops allowed old new maildrops asked)
    ∙ sym (flat_flat (λ q. told allowed q (answer old q) (answer new q)) (λ clerk. flat_map (λ maildrop. map (λ a. record { clerk = clerk; maildrop = maildrop; asked = a }) asked) maildrops) clerks)
    ∙ flat_if (λ q. becomes allowed (answer old q) (answer new q)) (λ q. change_line q (answer old q) (answer new q)) (questions clerks maildrops asked)

-- ---- a line for each question

answers_of_maildrop : (format : LineForm) (p : Policy) (clerk : Label) (asked : List Column) (maildrop : Label)
    → answers_maildrop format clerk asked (of_clerk p.groups p.rules clerk) maildrop
    ≡ flat_map (λ q. answer_line format q (answer p q)) (map (λ a. record { clerk = clerk; maildrop = maildrop; asked = a }) asked)
unfolding answers_maildrop
answers_of_maildrop format p clerk asked maildrop =
    flat_same _ _ asked (λ (a : Column). ap (answer_line format (record { clerk = clerk; maildrop = maildrop; asked = a })) (split p clerk maildrop a))
    ∙ sym (flat_of_map (λ q. answer_line format q (answer p q)) (λ a. record { clerk = clerk; maildrop = maildrop; asked = a }) asked)

answers_of_clerk : (format : LineForm) (p : Policy) (maildrops : List Label) (asked : List Column) (clerk : Label)
    → answers_clerk format p maildrops asked clerk
    ≡ flat_map (λ q. answer_line format q (answer p q)) (flat_map (λ maildrop. map (λ a. record { clerk = clerk; maildrop = maildrop; asked = a }) asked) maildrops)
unfolding answers_clerk
answers_of_clerk format p maildrops asked clerk =
    flat_same _ _ maildrops (answers_of_maildrop format p clerk asked)
    ∙ sym (flat_flat (λ q. answer_line format q (answer p q)) (λ maildrop. map (λ a. record { clerk = clerk; maildrop = maildrop; asked = a }) asked) maildrops)

-- the lines of all clerks
pub answers_of_all : (format : LineForm) (p : Policy) (clerks maildrops : List Label) (asked : List Column)
    → flat_map (answers_clerk format p maildrops asked) clerks ≡ answers_text format p (questions clerks maildrops asked)
answers_of_all format p clerks maildrops asked =
    flat_same _ _ clerks (answers_of_clerk format p maildrops asked)
    ∙ sym (flat_flat (λ q. answer_line format q (answer p q)) (λ clerk. flat_map (λ maildrop. map (λ a. record { clerk = clerk; maildrop = maildrop; asked = a }) asked) maildrops) clerks)
