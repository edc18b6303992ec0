-- The rows of a table, by the rules that are about the maildrop.
use Rattle.std.proofs.Common.{◌≡◌, ℕ, Bool, true, false, ◌&&◌, List, [], ◌∷◌, ◌++◌, map, codes, refl, ap, ◌∙◌}
use Rattle.std.specs.List.{flat_map}
use Rattle.policy.specs.declared.rule.Rule.{Rule}
use Rattle.policy.specs.Policy.{Policy, decision_of}
use Rattle.review.specs.declared.label.Label.{Label}
use Rattle.review.specs.declared.question.Column.{Column}
use Rattle.review.specs.declared.question.Column.TheVariants as column
use Rattle.review.specs.Questions.{decide_for, fits_label, has_clerk, is_about, is_asked}
use Rattle.review.specs.Steps.{cells, decide_among, marks_among, member_of, of_clerk, of_maildrop, row_among, table_among}
use Rattle.review.specs.Table.{Row, class_cell, lines_text, row_text, table_head, table_text, tables_text}
use Rattle.review.proofs.MemberLemmas.{rules_of_member}
use Rattle.review.proofs.Alike.{find_same}
use Rattle.review.proofs.Telling.{find-filter, flat_same}

swap : (a b c : Bool) → (b && (a && c)) ≡ (a && (b && c))
swap true true c = refl
swap true false c = refl
swap false true c = refl
swap false false c = refl

split : (p : Policy) (clerk maildrop : Label) (asked : Column) → decide_among (of_clerk p.groups (of_maildrop p.rules maildrop) clerk) asked ≡ decide_for p clerk maildrop asked
split p clerk maildrop asked =
    let at_maildrop = λ (r : Rule). fits_label r.maildrop maildrop in
    let at_clerk = λ (r : Rule). has_clerk p.groups r.clerk clerk in
    ap decision_of (find-filter (is_about asked) at_clerk (of_maildrop p.rules maildrop)
    ∙ find-filter (λ (r : Rule). at_clerk r && is_about asked r) at_maildrop p.rules
    ∙ find_same (λ (r : Rule). at_maildrop r && (at_clerk r && is_about asked r)) (is_asked p.groups clerk maildrop asked) (λ (r : Rule). swap (at_clerk r) (at_maildrop r) (is_about asked r)) p.rules)

same_cells : (p : Policy) (classes : List Label) (clerk maildrop : Label)
    → cells (of_clerk p.groups (of_maildrop p.rules maildrop) clerk) classes
    ≡ flat_map (λ class. class_cell class ((decide_for p clerk maildrop (column.Read class)).allowed) ((decide_for p clerk maildrop (column.Remove class)).allowed)) classes
same_cells p classes clerk maildrop =
    flat_same _ _ classes (λ (class : Label). rw (split p clerk maildrop (column.Read class), split p clerk maildrop (column.Remove class)) refl)

same_row : (p : Policy) (classes : List Label) (maildrop clerk : Label)
    → row_among (of_maildrop p.rules maildrop) classes (member_of p.groups clerk) ≡ record { clerk = clerk; marks = row_text p classes clerk maildrop }
same_row p classes maildrop clerk =
    ap (λ (rs : List Rule). record { clerk = clerk; marks = marks_among rs classes }) (rules_of_member p.groups (of_maildrop p.rules maildrop) clerk)
    ∙ ap (λ (marks : List ℕ). record { clerk = clerk; marks = marks })
    (rw (split p clerk maildrop column.Open, same_cells p classes clerk maildrop) refl)

pub map_same : {X Y : Type 0} (f g : X → Y) (xs : List X) → ((x : X) → f x ≡ g x) → map f xs ≡ map g xs
map_same f g [] e = refl
map_same f g (x ∷ xs) e = rw (e x, map_same f g xs e) refl

map_map : {X Y Z : Type 0} (f : Y → Z) (g : X → Y) (xs : List X) → map f (map g xs) ≡ map (λ x. f (g x)) xs
map_map f g [] = refl
map_map f g (x ∷ xs) = ap (λ (ys : List _). f (g x) ∷ ys) (map_map f g xs)

same_rows : (p : Policy) (clerks classes : List Label) (maildrop : Label)
    → map (row_among (of_maildrop p.rules maildrop) classes) (map (member_of p.groups) clerks) ≡ map (λ clerk. record { clerk = clerk; marks = row_text p classes clerk maildrop }) clerks
same_rows p clerks classes maildrop =
    map_map (row_among (of_maildrop p.rules maildrop) classes) (member_of p.groups) clerks
    ∙ map_same _ _ clerks (same_row p classes maildrop)

same_table : (p : Policy) (clerks classes : List Label) (maildrop : Label)
    → table_among p.rules classes (map (member_of p.groups) clerks) maildrop ≡ table_text p clerks classes maildrop
unfolding table_among
same_table p clerks classes maildrop =
    ap (λ (rows : List Row). table_head classes maildrop ++ lines_text [] rows ++ codes "\n") (same_rows p clerks classes maildrop)

pub same_tables : (p : Policy) (clerks maildrops classes : List Label)
    → flat_map (table_among p.rules classes (map (member_of p.groups) clerks)) maildrops ≡ tables_text p clerks maildrops classes
same_tables p clerks maildrops classes = flat_same _ _ maildrops (same_table p clerks classes)
