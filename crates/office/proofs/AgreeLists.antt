-- How agreement follows clerks, maildrops, messages and receipts that come and go.
use Rattle.std.proofs.Common.{◌≡◌, ℕ, ◌+◌, Bool, true, false, not, cond, List, [], ◌∷◌, ◌++◌, length, suc, Option, Some, None, refl, sym, ◌∙◌, ap, ap₂, true≢false}
use Rattle.std.specs.Prelude.{filter, map, is_some, if◌then◌else◌}
use Rattle.std.specs.List.{list_any, find}
use Rattle.std.specs.Option.{option_map, option_or}
use Rattle.std.specs.Str.{bytes_eq}
use Rattle.std.proofs.lemmas.Slice.Eq.{bytes_eq-Decides}
use Rattle.std.proofs.lemmas.List.Elements.{filter-append}
use Rattle.std.proofs.lemmas.List.Folds.{find-append}
use Rattle.creds.specs.Names.{by_name}
use Rattle.creds.specs.declared.credential.Credential.{Credential}
use Rattle.vault.specs.Records.{Records, Agree, without, in_maildrop, receipts_of, receipt_of, class_count, credential_in, same_message}
use Rattle.vault.specs.Changes.{Contents, records_of, with_credential, with_clerk, without_clerk, with_clerks, with_maildrop, without_maildrop, with_maildrops, with_deposit}
use Rattle.vault.specs.declared.record.Clerk.{Clerk}
use Rattle.vault.specs.declared.record.Keyed.{Keyed}
use Rattle.vault.specs.declared.record.Message.{Message}
use Rattle.vault.specs.declared.record.Receipt.{Receipt}
use Rattle.office.proofs.NameOrder.{same_last, same_filter, same_any, same_length}
use Rattle.office.proofs.SmallLemmas.{classes_more}
use Rattle.vault.proofs.ListLemmas.{bytes_are}

-- ---- maildrops

pub same_with : (d : List ℕ) (xs ys : List (List ℕ)) → by_name xs ≡ by_name ys → by_name (with_maildrop d xs) ≡ by_name (with_maildrop d ys)
same_with d xs ys e = at (list_any (λ x. bytes_eq x d) xs) (list_any (λ x. bytes_eq x d) ys) (same_any (λ x. bytes_eq x d) xs ys e)
  where
    at : (b c : Bool) → b ≡ c → by_name (if b then xs else xs ++ d ∷ []) ≡ by_name (if c then ys else ys ++ d ∷ [])
    at true true h = e
    at true false h = absurd (true≢false h)
    at false true h = absurd (true≢false (sym h))
    at false false h = same_last d xs ys e

pub same_without : (d : List ℕ) (xs ys : List (List ℕ)) → by_name xs ≡ by_name ys → by_name (without_maildrop d xs) ≡ by_name (without_maildrop d ys)
same_without d xs ys e = same_filter (λ x. not (bytes_eq x d)) xs ys e

pub agree_maildrops : (c : Contents) (R : Records) (xs ys : List (List ℕ)) → Agree (records_of c) R → by_name xs ≡ by_name ys
    → Agree (records_of (with_maildrops xs c)) (record R { maildrops = ys })
agree_maildrops c R xs ys a e = record {
  clerks = a.clerks;
  credentials = a.credentials;
  maildrops = e;
  messages = a.messages;
  receipts = a.receipts;
  counts = a.counts;
  policy = a.policy;
}

-- ---- clerks

abbrev name_in : Clerk → List ℕ
name_in x = x.name

abbrev credential_of : Clerk → Credential
credential_of x = x.credential

abbrev names_in : List Clerk → List (List ℕ)
names_in cs = map (λ (c : Clerk). c.name) cs

-- a clerk with another credential has the same name
names_given : (name : List ℕ) (given : Credential) (cs : List Clerk) → names_in (map (with_credential name given) cs) ≡ names_in cs
names_given name given [] = refl
names_given name given (x ∷ xs) = ap₂ (λ n ns. n ∷ ns) (at (bytes_eq x.name name)) (names_given name given xs)
  where
    at : (b : Bool) → name_in (if b then record { name = x.name; credential = given } else x) ≡ x.name
    at true = refl
    at false = refl

names_last : (cs : List Clerk) (x : Clerk) → names_in (cs ++ x ∷ []) ≡ names_in cs ++ x.name ∷ []
names_last [] x = refl
names_last (c ∷ cs) x = ap (λ ns. c.name ∷ ns) (names_last cs x)

length-names : (cs : List Clerk) → length (names_in cs) ≡ length cs
length-names [] = refl
length-names (c ∷ cs) = ap suc (length-names cs)

pub length_names : (cs ds : List Clerk) → by_name (names_in cs) ≡ by_name (names_in ds) → length cs ≡ length ds
length_names cs ds e = sym (length-names cs) ∙ (same_length (names_in cs) (names_in ds) e ∙ length-names ds)

names_left : (name : List ℕ) (cs : List Clerk) → names_in (without_clerk name cs) ≡ filter (λ d. not (bytes_eq d name)) (names_in cs)
names_left name [] = refl
names_left name (x ∷ xs) = at (not (bytes_eq x.name name)) (names_left name xs)
  where
    at : (b : Bool) → names_in (without_clerk name xs) ≡ filter (λ d. not (bytes_eq d name)) (names_in xs)
        → names_in (cond b (x ∷ without_clerk name xs) (without_clerk name xs)) ≡ cond b (x.name ∷ filter (λ d. not (bytes_eq d name)) (names_in xs))
        (filter (λ d. not (bytes_eq d name)) (names_in xs))
    at true h = ap (λ ns. x.name ∷ ns) h
    at false h = h

-- the clerk himself, if he is there
given_own : (name : List ℕ) (given : Credential) (cs : List Clerk) → is_some (credential_in name cs) ≡ true → credential_in name (map (with_credential name given) cs) ≡ Some given
given_own name given [] h = absurd (true≢false (sym h))
given_own name given (x ∷ xs) h = at (λ k. given_own name given xs k) (bytes_eq x.name name) refl h
  where
    at : (is_some (credential_in name xs) ≡ true → credential_in name (map (with_credential name given) xs) ≡ Some given)
        → (b : Bool) → bytes_eq x.name name ≡ b → is_some (option_map credential_of (cond b (Some x) (find (λ (y : Clerk). bytes_eq y.name name) xs))) ≡ true
        → credential_in name ((if b then record { name = x.name; credential = given } else x) ∷ map (with_credential name given) xs) ≡ Some given
    at rest true e k = rw e refl
    at rest false e k = rw e (rest k)

-- another clerk
given_other : (name n : List ℕ) (given : Credential) (cs : List Clerk) → bytes_eq name n ≡ false → credential_in n (map (with_credential name given) cs) ≡ credential_in n cs
given_other name n given [] h = refl
given_other name n given (x ∷ xs) h = at (given_other name n given xs h) (bytes_eq x.name name) refl
  where
    rest : credential_in n (map (with_credential name given) xs) ≡ credential_in n xs → (b : Bool) (y : Clerk) → y.credential ≡ x.credential
        → option_map credential_of (cond b (Some y) (find (λ (z : Clerk). bytes_eq z.name n) (map (with_credential name given) xs)))
        ≡ option_map credential_of (cond b (Some x) (find (λ (z : Clerk). bytes_eq z.name n) xs))
    rest k true y e = ap (λ k. Some k) e
    rest k false y e = k

    at : credential_in n (map (with_credential name given) xs) ≡ credential_in n xs → (b : Bool) → bytes_eq x.name name ≡ b
        → credential_in n ((if b then record { name = x.name; credential = given } else x) ∷ map (with_credential name given) xs) ≡ credential_in n (x ∷ xs)
    at k true e =
        let s : x.name ≡ name = bytes_are x.name name e in
        let f : bytes_eq x.name n ≡ false = ap (λ k. bytes_eq k n) s ∙ h in
        rw f k
    at k false e = rest k (bytes_eq x.name n) x refl

-- a clerk put after the others
last_own : (name : List ℕ) (given : Credential) (cs : List Clerk) → is_some (credential_in name cs) ≡ false → credential_in name (cs ++ record { name = name; credential = given } ∷ []) ≡ Some given
last_own name given [] h = let e : bytes_eq name name ≡ true = (bytes_eq-Decides name name).1 refl in rw e refl
last_own name given (x ∷ xs) h = at (λ k. last_own name given xs k) (bytes_eq x.name name) h
  where
    at : (is_some (credential_in name xs) ≡ false → credential_in name (xs ++ record { name = name; credential = given } ∷ []) ≡ Some given)
        → (b : Bool) → is_some (option_map credential_of (cond b (Some x) (find (λ (y : Clerk). bytes_eq y.name name) xs))) ≡ false
        → option_map credential_of (cond b (Some x) (find (λ (y : Clerk). bytes_eq y.name name) (xs ++ record { name = name; credential = given } ∷ []))) ≡ Some given
    at rest true k = absurd (true≢false k)
    at rest false k = rest k

last_other : (name n : List ℕ) (given : Credential) (cs : List Clerk) → bytes_eq name n ≡ false
    → credential_in n (cs ++ record { name = name; credential = given } ∷ []) ≡ credential_in n cs
last_other name n given [] h = rw h refl
last_other name n given (x ∷ xs) h = at (last_other name n given xs h) (bytes_eq x.name n)
  where
    at : credential_in n (xs ++ record { name = name; credential = given } ∷ []) ≡ credential_in n xs
        → (b : Bool) → option_map credential_of (cond b (Some x) (find (λ (y : Clerk). bytes_eq y.name n) (xs ++ record { name = name; credential = given } ∷ [])))
        ≡ option_map credential_of (cond b (Some x) (find (λ (y : Clerk). bytes_eq y.name n) xs))
    at k true = refl
    at k false = k

credential_with : (name n : List ℕ) (given : Credential) (cs : List Clerk)
    → credential_in n (with_clerk name given cs) ≡ cond (bytes_eq name n) (Some given) (credential_in n cs)
credential_with name n given cs = at (is_some (credential_in name cs)) refl (bytes_eq name n) refl
  where
    at : (b : Bool) → is_some (credential_in name cs) ≡ b → (s : Bool) → bytes_eq name n ≡ s
        → credential_in n (if b then map (with_credential name given) cs else cs ++ record { name = name; credential = given } ∷ []) ≡ cond s (Some given) (credential_in n cs)
    at true e true f = let s : name ≡ n = bytes_are name n f in rw (← s) (given_own name given cs e)
    at true e false f = given_other name n given cs f
    at false e true f = let s : name ≡ n = bytes_are name n f in rw (← s) (last_own name given cs e)
    at false e false f = last_other name n given cs f

credential_left : (name n : List ℕ) (cs : List Clerk) → credential_in n (without_clerk name cs) ≡ cond (bytes_eq name n) None (credential_in n cs)
credential_left name n [] = at (bytes_eq name n) (credential_in n []) refl
  where
    at : (b : Bool) (o : Option Credential) → o ≡ None → o ≡ cond b None o
    at true o e = e
    at false o e = refl
credential_left name n (x ∷ xs) = at (bytes_eq x.name name) refl (bytes_eq x.name n) refl (bytes_eq name n) refl (credential_left name n xs)
  where
    at : (b : Bool) → bytes_eq x.name name ≡ b → (c : Bool) → bytes_eq x.name n ≡ c → (s : Bool) → bytes_eq name n ≡ s
        → credential_in n (without_clerk name xs) ≡ cond s None (credential_in n xs)
        → credential_in n (cond (not b) (x ∷ without_clerk name xs) (without_clerk name xs)) ≡ cond s None (option_map credential_of (cond c (Some x) (find (λ (y : Clerk). bytes_eq y.name n) xs)))
    at true e c f true g h = h
    at true e true f false g h = absurd (true≢false (sym f ∙ (ap (λ k. bytes_eq k n) (bytes_are x.name name e) ∙ g)))
    at true e false f false g h = h
    at false e true f true g h = absurd (true≢false (sym ((bytes_eq-Decides x.name name).1 (bytes_are x.name n f ∙ sym (bytes_are name n g))) ∙ e))
    at false e true f false g h = rw f refl
    at false e false f s g h = rw f h

pub agree_clerks : (c : Contents) (R : Records) (cs ds : List Clerk) → Agree (records_of c) R → by_name (names_in cs) ≡ by_name (names_in ds)
    → ((n : List ℕ) → credential_in n cs ≡ credential_in n ds) → Agree (records_of (with_clerks cs c)) (record R { clerks = ds })
agree_clerks c R cs ds a e f = record {
  clerks = e;
  credentials = f;
  maildrops = a.maildrops;
  messages = a.messages;
  receipts = a.receipts;
  counts = a.counts;
  policy = a.policy;
}

same_names_with : (name : List ℕ) (given : Credential) (cs ds : List Clerk) → by_name (names_in cs) ≡ by_name (names_in ds) → credential_in name cs ≡ credential_in name ds
    → by_name (names_in (with_clerk name given cs)) ≡ by_name (names_in (with_clerk name given ds))
same_names_with name given cs ds e f = at (is_some (credential_in name cs)) (is_some (credential_in name ds)) (ap is_some f)
  where
    at : (b c : Bool) → b ≡ c → by_name (names_in (if b then map (with_credential name given) cs else cs ++ record { name = name; credential = given } ∷ []))
        ≡ by_name (names_in (if c then map (with_credential name given) ds else ds ++ record { name = name; credential = given } ∷ []))
    at true true h = ap by_name (names_given name given cs) ∙ (e ∙ sym (ap by_name (names_given name given ds)))
    at true false h = absurd (true≢false h)
    at false true h = absurd (true≢false (sym h))
    at false false h =
        ap by_name (names_last cs (record { name = name; credential = given }))
        ∙ (same_last name (names_in cs) (names_in ds) e ∙ sym (ap by_name (names_last ds (record { name = name; credential = given }))))

pub agree_with_clerk : (c : Contents) (R : Records) (name : List ℕ) (given : Credential) → Agree (records_of c) R
    → Agree (records_of (with_clerks (with_clerk name given c.clerks) c)) (record R { clerks = with_clerk name given R.clerks })
agree_with_clerk c R name given a = agree_clerks c R (with_clerk name given c.clerks) (with_clerk name given R.clerks) a
    (same_names_with name given c.clerks R.clerks a.clerks (a.credentials name))
    (λ n. credential_with name n given c.clerks ∙ (ap (λ k. cond (bytes_eq name n) (Some given) k) (a.credentials n) ∙ sym (credential_with name n given R.clerks)))

pub agree_without_clerk : (c : Contents) (R : Records) (name : List ℕ) → Agree (records_of c) R
    → Agree (records_of (with_clerks (without_clerk name c.clerks) c)) (record R { clerks = without_clerk name R.clerks })
agree_without_clerk c R name a = agree_clerks c R (without_clerk name c.clerks) (without_clerk name R.clerks) a
    (ap by_name (names_left name c.clerks) ∙ (same_filter (λ d. not (bytes_eq d name)) (names_in c.clerks) (names_in R.clerks) a.clerks ∙ sym (ap by_name (names_left name R.clerks))))
    (λ n. credential_left name n c.clerks ∙ (ap (λ k. cond (bytes_eq name n) None k) (a.credentials n) ∙ sym (credential_left name n R.clerks)))

-- ---- messages and receipts

pub filters_commute : {A : Type 0} (p q : A → Bool) (xs : List A) → filter p (filter q xs) ≡ filter q (filter p xs)
filters_commute p q [] = refl
filters_commute p q (x ∷ xs) = at (p x) refl (q x) refl (filters_commute p q xs)
  where
    at : (b : Bool) → p x ≡ b → (c : Bool) → q x ≡ c → filter p (filter q xs) ≡ filter q (filter p xs)
        → filter p (cond c (x ∷ filter q xs) (filter q xs)) ≡ filter q (cond b (x ∷ filter p xs) (filter p xs))
    at true e true f h = rw (e, f, h) refl
    at true e false f h = rw (f, h) refl
    at false e true f h = rw (e, h) refl
    at false e false f h = h

-- the messages of a maildrop that are left
pub in_maildrop-without : (d : List ℕ) (ms rs : List Message) → in_maildrop d (without ms rs) ≡ without (in_maildrop d ms) rs
in_maildrop-without d ms rs = filters_commute (λ (m : Message). bytes_eq m.maildrop d) (λ (m : Message). not (list_any (same_message m) rs)) ms

-- one more message that isn't among the others
pub without_last : (ms rs : List Message) (m : Message) → list_any (same_message m) rs ≡ false → without (ms ++ m ∷ []) rs ≡ without ms rs ++ m ∷ []
without_last ms rs m h = filter-append (λ (x : Message). not (list_any (same_message x) rs)) ms (m ∷ []) ∙ rw h refl

messages_last : (ms : List Keyed) (x : Keyed) → map (λ (x : Keyed). x.message) (ms ++ x ∷ []) ≡ map (λ (x : Keyed). x.message) ms ++ x.message ∷ []
messages_last [] x = refl
messages_last (m ∷ ms) x = ap (λ ns. m.message ∷ ns) (messages_last ms x)

in_maildrop-last : (d : List ℕ) (ms : List Message) (m : Message) → in_maildrop d (ms ++ m ∷ []) ≡ in_maildrop d ms ++ in_maildrop d (m ∷ [])
in_maildrop-last d ms m = filter-append (λ (x : Message). bytes_eq x.maildrop d) ms (m ∷ [])

receipt-last : (d id : List ℕ) (rs : List Receipt) (r : Receipt)
    → receipt_of id (receipts_of d (rs ++ r ∷ [])) ≡ option_or (receipt_of id (receipts_of d rs)) (receipt_of id (receipts_of d (r ∷ [])))
receipt-last d id rs r =
    ap (λ xs. receipt_of id xs) (filter-append (λ (x : Receipt). bytes_eq x.maildrop d) rs (r ∷ []))
    ∙ find-append (λ (x : Receipt). bytes_eq x.id id) (receipts_of d rs) (receipts_of d (r ∷ []))

pub agree_deposit : (c : Contents) (R : Records) (key : ℕ) (m : Message) (r : Receipt) → Agree (records_of c) R
    → Agree (records_of (with_deposit key m r c)) (record R { messages = R.messages ++ m ∷ []; deposits = R.deposits ++ r ∷ [] })
agree_deposit c R key m r a =
    let old = map (λ (x : Keyed). x.message) c.messages in
    record {
      clerks = a.clerks;
      credentials = a.credentials;
      maildrops = a.maildrops;
      messages = λ d.
          ap (in_maildrop d) (messages_last c.messages (record { key = key; message = m }))
          ∙ (in_maildrop-last d old m ∙ (ap (λ xs. xs ++ in_maildrop d (m ∷ [])) (a.messages d) ∙ sym (in_maildrop-last d R.messages m)));
      receipts = λ d id.
          receipt-last d id c.deposits r
          ∙ (ap (λ o. option_or o (receipt_of id (receipts_of d (r ∷ [])))) (a.receipts d id) ∙ sym (receipt-last d id R.deposits r));
      counts = λ d class.
          classes_more class d c.deposits r
          ∙ (ap (λ n. n + class_count class (receipts_of d (r ∷ []))) (a.counts d class) ∙ sym (classes_more class d R.deposits r));
      policy = a.policy;
    }
