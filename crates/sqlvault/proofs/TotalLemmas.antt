-- Totals as the rows give them.
use Rattle.std.proofs.Common.{◌≡◌, ℕ, ◌+◌, ◌-◌, ◌<◌, ◌≤◌, ◌^◌, min, List, [], ◌∷◌, ◌++◌, length, take, take_all, get_or, true, sym, ap, subst, ◌∙◌, arith}
use Rattle.std.specs.Prelude.{map, sum_by}
use Rattle.std.proofs.lemmas.List.{take_more, get_or-map}
use Rattle.std.proofs.lemmas.List.Sums.{sum_by_more}
use Rattle.std.specs.List.{list_all}
use Rattle.creds.specs.Names.{by_name, is_name}
use Rattle.mailsql.specs.declared.rows.Message.{Message}
use Rattle.vault.specs.declared.record.Keyed.{Keyed}
use Rattle.vault.specs.Changes.{Contents, AreSound, kept_in, totals, records_of}
use Rattle.vault.specs.declared.answer.Total.{Total}
use Rattle.vault.specs.Plain.{capped_total}
use Rattle.vault.proofs.ListLemmas.{length-map}
use Rattle.vault.proofs.TotalLemmas.{totals_are}
use Rattle.sqlvault.specs.Keeps.{message_row}
use Rattle.sqlvault.proofs.SmallLemmas.{all_at}

abbrev pub octets_in : Keyed → ℕ
octets_in x = length x.message.text

-- ---- their octets

some_message : Keyed
some_message = record { key = 0; message = record { maildrop = []; class = []; k = 0; text = [] } }

pub capped : (sum octets added next most : ℕ) → octets ≡ min sum most → next ≡ min (octets + added) most → next ≡ min (sum + added) most
capped sum octets added next most a b = omega (arith, a, b)

pub octets_at : (ms : List Keyed) (rows : List Message) (i : ℕ) (row : Message) → i < length rows → row ≡ get_or rows i row → rows ≡ map message_row ms
    → (x : Keyed) × (row ≡ message_row x) × (sum_by octets_in (take (i + 1) ms) ≡ sum_by octets_in (take i ms) + octets_in x)
octets_at ms rows i row lt is same =
    let lt2 : i < length ms = subst (λ n. i < n) (ap (λ (l : List Message). length l) same ∙ length-map message_row ms) lt in
    (get_or ms i some_message, is ∙ ap (λ l. get_or l i row) same ∙ get_or-map message_row ms i some_message row lt2, sum_by_more octets_in ms i some_message lt2)

pub total_is : (ms : List Keyed) (d : List ℕ) (count octets : ℕ) → count ≡ length (kept_in d ms) → octets ≡ min (sum_by octets_in (kept_in d ms)) (2 ^ 64 - 1)
    → (let t : Total = record { maildrop = d; messages = count; octets = octets } in t ≡ capped_total ms d)
total_is ms d count octets a b = λ i. let t : Total = record { maildrop = d; messages = a i; octets = b i } in t

-- ---- all of them

pub totals_held : (c : Contents) (names : List (List ℕ)) (read : List Total) → AreSound c → names ≡ by_name c.maildrops → read ≡ map (capped_total c.messages) names → read ≡ totals (records_of c)
totals_held c names read sound a b = b ∙ ap (map (capped_total c.messages)) a ∙ totals_are c sound

pub mapped_next : {A B : Type 0} (f : A → B) (xs : List A) (i : ℕ) (x : A) → i < length xs → x ≡ get_or xs i x → take (i + 1) (map f xs) ≡ take i (map f xs) ++ f x ∷ []
mapped_next f xs i x lt is =
    let lt2 : i < length (map f xs) = subst (λ n. i < n) (sym (length-map f xs)) lt in
    take_more (map f xs) i (f x) lt2 ∙ ap (λ y. take i (map f xs) ++ y ∷ []) (get_or-map f xs i x (f x) lt ∙ ap f (sym is))

pub mapped_all : {A B : Type 0} (f : A → B) (xs : List A) (i : ℕ) → length xs ≤ i → take i (map f xs) ≡ map f xs
mapped_all f xs i le = take_all i (map f xs) (subst (λ n. n ≤ i) (sym (length-map f xs)) le)

-- one total more
pub totals_next : (c : Contents) (names : List (List ℕ)) (done more : List Total) (i : ℕ) (name : List ℕ) (total : Total) → i < length names → name ≡ get_or names i name
    → done ≡ take i (map (capped_total c.messages) names) → total ≡ capped_total c.messages name → more ≡ done ++ total ∷ [] → more ≡ take (i + 1) (map (capped_total c.messages) names)
totals_next c names done more i name total lt is was made pushed =
    pushed ∙ ap (λ l. l ++ total ∷ []) was ∙ ap (λ t. take i (map (capped_total c.messages) names) ++ t ∷ []) made ∙ sym (mapped_next (capped_total c.messages) names i name lt is)

-- one name more is read
pub names_more : (rows names grown : List (List ℕ)) (i : ℕ) (row : List ℕ) → i < length rows → row ≡ get_or rows i row → list_all is_name rows ≡ true → names ≡ take i rows
    → (is_name row ≡ true → grown ≡ names ++ row ∷ []) → grown ≡ take (i + 1) rows
names_more rows names grown i row lt is all held pushed =
    let named : is_name row ≡ true = subst (λ n. is_name n ≡ true) (sym is) (all_at is_name rows i row lt all) in
    pushed named ∙ ap (λ l. l ++ row ∷ []) held ∙ ap (λ n. take i rows ++ n ∷ []) is ∙ sym (take_more rows i row lt)
