-- Contents stay sound as messages are removed; a page is read of contents that are held.
use Rattle.std.proofs.Common.{ℕ, ◌≤◌, Bool, not, ◌&&◌, List, length, sym, ◌∙◌, arith}
use Rattle.std.specs.Prelude.{map, filter, nat_le, ◌==◌}
use Rattle.std.specs.Str.{bytes_eq}
use Rattle.std.proofs.lemmas.List.Folds.{list_all-map}
use Rattle.vault.specs.declared.record.Keyed.{Keyed}
use Rattle.vault.specs.declared.record.Message.{Message}
use Rattle.vault.specs.Records.{is_sound_message, same_message, in_maildrop}
use Rattle.vault.specs.Changes.{Contents, AreSound, records_of, kept_in, is_named, without_keys, with_messages}
use Rattle.vault.proofs.ListLemmas.{all_filter, distinct_filter, distinct-map, both_fit, length-map}
use Rattle.vault.proofs.TotalLemmas.{in_maildrop_is}
use Rattle.vault.proofs.DoneLemmas.{IsKept}

fewer : (d : List ℕ) (p : Keyed → Bool) (ms : List Keyed) → length (in_maildrop d (map (λ (x : Keyed). x.message) (filter p ms))) ≤ length (in_maildrop d (map (λ (x : Keyed). x.message) ms))
fewer d p ms = rw (in_maildrop_is d (filter p ms), in_maildrop_is d ms, length-map (λ (x : Keyed). x.message) (kept_in d (filter p ms)), length-map (λ (x : Keyed). x.message) (kept_in d ms))
    (both_fit (λ (x : Keyed). bytes_eq x.message.maildrop d) p ms)

-- sound contents stay so with fewer messages
pub sound_filtered : (c : Contents) (p : Keyed → Bool) → AreSound c → AreSound (with_messages (filter p c.messages) c)
sound_filtered c p s =
    let b = s.records in
    let m : Keyed → Message = λ (x : Keyed). x.message in
    record {
      records = record {
        clerks = b.clerks;
        clerks_apart = b.clerks_apart;
        clerks_fit = b.clerks_fit;
        maildrops = b.maildrops;
        maildrops_apart = b.maildrops_apart;
        maildrops_fit = b.maildrops_fit;
        messages = list_all-map (is_sound_message (records_of c)) m (filter p c.messages)
            ∙ all_filter (λ x. is_sound_message (records_of c) (m x)) p c.messages (sym (list_all-map (is_sound_message (records_of c)) m c.messages) ∙ b.messages);
        messages_apart = distinct-map m same_message (filter p c.messages)
            ∙ distinct_filter (λ x y. same_message (m x) (m y)) p c.messages (sym (distinct-map m same_message c.messages) ∙ b.messages_apart);
        messages_fit = λ d. let f = fewer d p c.messages in let g = b.messages_fit d in omega (arith, f, g);
        deposits = b.deposits;
        ids_apart = b.ids_apart;
        uids_apart = b.uids_apart;
        policy = b.policy;
      };
      keys = distinct_filter (λ (x y : Keyed). x.key == y.key) p c.messages s.keys;
    }

kept_filtered : (c : Contents) (p : Keyed → Bool) → IsKept c → IsKept (with_messages (filter p c.messages) c)
kept_filtered c p h = record {
  sound = sound_filtered c p h.sound;
  keys = all_filter (λ (x : Keyed). nat_le x.key (length c.deposits)) p c.messages h.keys;
}

pub kept_without_keys : (d keys : List ℕ) (c : Contents) → IsKept c → IsKept (with_messages (without_keys d keys c.messages) c)
kept_without_keys d keys c h = kept_filtered c (λ (x : Keyed). not (bytes_eq x.message.maildrop d && is_named keys x.key)) h
