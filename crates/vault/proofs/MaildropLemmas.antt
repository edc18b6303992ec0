-- Contents stay sound as maildrops come and go.
use Rattle.std.proofs.Common.{◌≡◌, ℕ, ◌<◌, ◌≤◌, Bool, true, false, not, List, [], ◌∷◌, ◌++◌, length, Result, Ok, Err, refl, sym, ◌∙◌, ap, subst, eqb-true, ⊎_elim, true≢false, arith, length-append}
use Rattle.std.specs.Prelude.{is_ok, if◌then◌else◌, nat_le, ◌==◌}
use Rattle.std.specs.Str.{bytes_eq}
use Rattle.std.proofs.lemmas.Bool.{cases_Bool}
use Rattle.std.proofs.lemmas.Bool.Decides.{nat_tests}
use Rattle.creds.specs.Names.{is_name}
use Rattle.vault.specs.declared.fault.VaultFault.{VaultFault}
use Rattle.vault.specs.declared.record.Keyed.{Keyed}
use Rattle.vault.specs.declared.record.Message.{Message}
use Rattle.vault.specs.Records.{Records, is_sound_message, is_one_of, most_maildrops}
use Rattle.vault.specs.Changes.{Contents, AreSound, records_of, with_maildrop, with_maildrops, put_answer, put_maildrop_answer, WasNew, NoRoom, without_maildrop, drop_answer, Gone, kept_in}
use Rattle.vault.specs.Changes as changes
use Rattle.vault.specs.Calls.{IsAnswer, put_result, drop_result, present_in}
use Rattle.vault.proofs.ListLemmas.{all_last, all_weaker, all_filter, distinct_last, distinct_filter, filter_fits, filter_in, found, any_of, any_in, any_front, none_kept, not_false, bytes_are, In}
use Rattle.vault.proofs.TotalLemmas.{present_is}
use Rattle.vault.proofs.DoneLemmas.{IsKept}

-- the maildrops alone are changed
pub left_maildrops : (ok : Bool) (names after : List (List ℕ)) (k : Contents) → names ≡ (if ok then after else k.maildrops)
    → with_maildrops names k ≡ (if ok then with_maildrops after k else k)
left_maildrops true names after k e = ap (λ (x : List (List ℕ)). with_maildrops x k) e
left_maildrops false names after k e = ap (λ (x : List (List ℕ)). with_maildrops x k) e

-- a message is as sound with other maildrops, if its own is there
message_kept : (B : Records) (m : Message) (names : List (List ℕ)) → is_sound_message B m ≡ true → is_one_of m.maildrop names ≡ true
    → is_sound_message (record B { maildrops = names }) m ≡ true
message_kept B m names h i = grind arith

in_maildrops : (B : Records) (m : Message) → is_sound_message B m ≡ true → is_one_of m.maildrop B.maildrops ≡ true
in_maildrops B m h = grind arith

pub sound_with_maildrop : (c : Contents) (name : List ℕ) → AreSound c → is_name name ≡ true → is_one_of name c.maildrops ≡ false → length c.maildrops < most_maildrops
    → AreSound (with_maildrops (c.maildrops ++ name ∷ []) c)
sound_with_maildrop c name s form new room =
    let b = s.records in
    record {
      records = record {
        clerks = b.clerks;
        clerks_apart = b.clerks_apart;
        clerks_fit = b.clerks_fit;
        maildrops = all_last is_name c.maildrops name b.maildrops form;
        maildrops_apart = distinct_last bytes_eq c.maildrops name b.maildrops_apart (λ x i. any_in (λ y. bytes_eq y name) c.maildrops x new i);
        maildrops_fit = simp length-append (omega arith);
        messages = all_weaker (is_sound_message (records_of c)) (is_sound_message (record (records_of c) { maildrops = c.maildrops ++ name ∷ [] })) (records_of c).messages
            (λ m i h. message_kept (records_of c) m (c.maildrops ++ name ∷ []) h (any_front (λ x. bytes_eq x m.maildrop) c.maildrops (name ∷ []) (in_maildrops (records_of c) m h))) b.messages;
        messages_apart = b.messages_apart;
        messages_fit = b.messages_fit;
        deposits = b.deposits;
        ids_apart = b.ids_apart;
        uids_apart = b.uids_apart;
        policy = b.policy;
      };
      keys = s.keys;
    }

refused : (there : Bool) (count most : ℕ) → most ≤ count → there ≡ false → put_answer there count most ≡ NoRoom
refused there count most h e = rw e (full (nat_le most count) (grind (arith, nat_tests)))
  where
    full : (b : Bool) → b ≡ true → (if b then NoRoom else WasNew) ≡ NoRoom
    full b e = rw e refl

-- a name that was put and is new had room
pub had_room : (there : Bool) (count most : ℕ) (r : Result Bool VaultFault) → there ≡ false → IsAnswer (put_result (put_answer there count most)) r → is_ok r ≡ true → count < most
had_room there count most (Ok x) e a ok = grind (arith, nat_tests, refused)
had_room there count most (Err x) e a ok = absurd (true≢false (sym ok))

pub kept_with_maildrop : (name : List ℕ) (c : Contents) (r : Result Bool VaultFault) → IsKept c → is_name name ≡ true
    → IsAnswer (put_result (put_maildrop_answer name c.maildrops)) r → is_ok r ≡ true → IsKept (with_maildrops (with_maildrop name c.maildrops) c)
kept_with_maildrop name c r h form a ok = ⊎_elim
    (λ (e : is_one_of name c.maildrops ≡ true). rw e (record { sound = h.sound; keys = h.keys }))
    (λ (e : is_one_of name c.maildrops ≡ false). rw e (record {
      sound = sound_with_maildrop c name h.sound form e (had_room (is_one_of name c.maildrops) (length c.maildrops) most_maildrops r e a ok);
      keys = h.keys;
    }))
    (cases_Bool (is_one_of name c.maildrops))

-- ---- dropping a maildrop

pub sound_without_maildrop : (c : Contents) (name : List ℕ) → AreSound c → present_in name c ≡ 0 → AreSound (with_maildrops (without_maildrop name c.maildrops) c)
sound_without_maildrop c name s empty =
    let b = s.records in
    let others : List ℕ → Bool = λ d. not (bytes_eq d name) in
    record {
      records = record {
        clerks = b.clerks;
        clerks_apart = b.clerks_apart;
        clerks_fit = b.clerks_fit;
        maildrops = all_filter is_name others c.maildrops b.maildrops;
        maildrops_apart = distinct_filter bytes_eq others c.maildrops b.maildrops_apart;
        maildrops_fit = omega (arith, filter_fits others c.maildrops, b.maildrops_fit);
        messages = all_weaker (is_sound_message (records_of c)) (is_sound_message (record (records_of c) { maildrops = without_maildrop name c.maildrops })) (records_of c).messages
            (λ m i h. message_kept (records_of c) m (without_maildrop name c.maildrops) h (still_there m i h)) b.messages;
        messages_apart = b.messages_apart;
        messages_fit = b.messages_fit;
        deposits = b.deposits;
        ids_apart = b.ids_apart;
        uids_apart = b.uids_apart;
        policy = b.policy;
      };
      keys = s.keys;
    }
  where
    its_own : (m : Message) (d : List ℕ) → bytes_eq d m.maildrop ≡ true → bytes_eq m.maildrop name ≡ false → not (bytes_eq d name) ≡ true
    its_own m d e n = not_false (bytes_eq d name) (rw (bytes_are d m.maildrop e) n)

    still_there : (m : Message) → In m (records_of c).messages → is_sound_message (records_of c) m ≡ true → is_one_of m.maildrop (without_maildrop name c.maildrops) ≡ true
    still_there m i h =
        let r = found (λ x. bytes_eq x m.maildrop) c.maildrops (in_maildrops (records_of c) m h) in
        let n = none_kept (λ (x : Message). bytes_eq x.maildrop name) (records_of c).messages empty m i in
        any_of (λ x. bytes_eq x m.maildrop) (without_maildrop name c.maildrops) r.0
        (filter_in (λ d. not (bytes_eq d name)) c.maildrops r.0 r.1 (its_own m r.0 r.2 n)) r.2

-- a maildrop that was dropped was empty
dropped_empty : (there : Bool) (present : ℕ) (r : Result (Unit {0}) VaultFault) → IsAnswer (drop_result (drop_answer there present)) r → is_ok r ≡ true → present ≡ 0
dropped_empty there present (Err e) a ok = absurd (true≢false (sym ok))
dropped_empty false present (Ok x) a ok = absurd (cc)
dropped_empty true present (Ok x) a ok = only_empty (present == 0) present refl a
  where
    only_empty : (b : Bool) (n : ℕ) → n == 0 ≡ b → drop_result (if b then Gone else changes.NotEmpty) ≡ Ok x → n ≡ 0
    only_empty true n e a = eqb-true n 0 e
    only_empty false n e a = absurd (cc)

pub drop_answered : (d : List ℕ) (k : Contents) (ms : List Keyed) (r : Result (Unit {0}) VaultFault) → ms ≡ k.messages
    → IsAnswer (drop_result (drop_answer (is_one_of d k.maildrops) (length (kept_in d ms)))) r
    → IsAnswer (drop_result (drop_answer (is_one_of d k.maildrops) (present_in d k))) r
drop_answered d k ms r e a =
    subst (λ n. IsAnswer (drop_result (drop_answer (is_one_of d k.maildrops) n)) r) (ap (λ xs. length (kept_in d xs)) e ∙ present_is d k) a

pub kept_without_maildrop : (name : List ℕ) (c : Contents) (r : Result (Unit {0}) VaultFault) → IsKept c
    → IsAnswer (drop_result (drop_answer (is_one_of name c.maildrops) (present_in name c))) r → is_ok r ≡ true
    → IsKept (with_maildrops (without_maildrop name c.maildrops) c)
kept_without_maildrop name c r h a ok = record {
  sound = sound_without_maildrop c name h.sound (dropped_empty (is_one_of name c.maildrops) (present_in name c) r a ok);
  keys = h.keys;
}
