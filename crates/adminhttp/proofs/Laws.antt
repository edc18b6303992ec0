-- Octets come to one thing at most.
use Rattle.std.proofs.Common.{◌≡◌, ◌⊎◌, ℕ, ◌<◌, ◌≤◌, List, [], length, map, Option, Some, None, Err, inl, inr, refl, sym, ap, ◌∙◌, arith}
use Rattle.httparse.specs.Grammar.{RequestHead}
use Rattle.httparse.specs.Spans.{name_and_value}
use Rattle.httparse.proofs.GrammarLemmas.{request_unique}
use Rattle.office.specs.declared.limits.AdminAccess.{AdminAccess}
use Rattle.adminhttp.specs.Lines.{head_at}
use Rattle.adminhttp.specs.Head.{IsHead, IsNoHead, most_headers, head_text, behind_head}
use Rattle.adminhttp.specs.Sites.{Site}
use Rattle.adminhttp.specs.Request.{Asked, unended, asked_of_site, HeadComesTo, ComesTo}
use Rattle.adminhttp.specs.declared.no_command.NoCommand.TheVariants.{Bad}
use Rattle.adminhttp.specs.declared.refusal.Refusal.TheVariants.{BadRequest}
use Rattle.std.proofs.lemmas.Bool.{cases_lt}
use Rattle.httparse.specs.Grammar.{ReadsRequest}
use Rattle.adminhttp.specs.Laws.{HasMeaning, HasOneMeaning}

same_head : (text : List ℕ) (h k : RequestHead) → IsHead text h → IsHead text k → h ≡ k
same_head text h k x y = (request_unique text h k [] [] x.0 y.0).0

-- a head isn't none
not_both : (text : List ℕ) (h : RequestHead) → IsHead text h → IsNoHead text → ⊥
not_both text h x none =
    let over = none h x.0 in
    omega (arith, x.1, over)

head_once : (site : Site) (access : AdminAccess) (text behind : List ℕ) (first second : Asked) → HeadComesTo site access text behind first → HeadComesTo site access text behind second → first ≡ second
head_once site access text behind first second (inl x) (inl y) =
    x.2 ∙ ap (λ (h : RequestHead). asked_of_site site access h.method h.target (map name_and_value h.fields) behind) (same_head text x.0 y.0 x.1 y.1) ∙ sym y.2
head_once site access text behind first second (inl x) (inr y) = absurd (not_both text x.0 x.1 y.0)
head_once site access text behind first second (inr x) (inl y) = absurd (not_both text y.0 y.1 x.0)
head_once site access text behind first second (inr x) (inr y) = x.1 ∙ sym y.1

once : (site : Site) (access : AdminAccess) (b : List ℕ) (place : Option (ℕ × ℕ)) (first second : Asked) → ComesTo site access b place first → ComesTo site access b place second → first ≡ second
once site access b None first second x y = x ∙ sym y
once site access b (Some place) first second x y = head_once site access (head_text b place) (behind_head b place) first second x y

pub one_meaning : HasOneMeaning
one_meaning site access b first second x y = once site access b (head_at b) first second x y

head_some : (site : Site) (access : AdminAccess) (text behind : List ℕ) → ((asked : Asked) → ¬ HeadComesTo site access text behind asked) → ⊥
head_some site access text behind none = none (Err (Bad BadRequest)) (inr (no_head, refl))
  where
    by : (h : RequestHead) → ReadsRequest text h [] → (most_headers < length h.fields) ⊎ (length h.fields ≤ most_headers) → most_headers < length h.fields
    by h reads (inl over) = over
    by h reads (inr few) = absurd (none (asked_of_site site access h.method h.target (map name_and_value h.fields) behind) (inl (h, (reads, few), refl)))

    no_head : (h : RequestHead) → ReadsRequest text h [] → most_headers < length h.fields
    no_head h reads = by h reads (cases_lt most_headers (length h.fields))

some_place : (site : Site) (access : AdminAccess) (b : List ℕ) (place : Option (ℕ × ℕ)) → ((asked : Asked) → ¬ ComesTo site access b place asked) → ⊥
some_place site access b None none = none (Err (unended b)) refl
some_place site access b (Some place) none = head_some site access (head_text b place) (behind_head b place) none

pub some_meaning : HasMeaning
some_meaning site access b none = some_place site access b (head_at b) none
