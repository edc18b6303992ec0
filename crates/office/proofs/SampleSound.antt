-- The sample store is sound.
use Rattle.std.specs.Prelude.{length}
use Rattle.std.proofs.Common.{refl, le_trans}
use Rattle.std.proofs.lemmas.Bool.{leb-true}
use Rattle.std.specs.Str.{bytes_eq}
use Rattle.sha2.specs.Sha256 as S
use Rattle.sha2.specs.Sha256.{sha256}
use Rattle.vault.specs.Records.{IsSound, most_messages, most_clerks, most_maildrops}
use Rattle.office.proofs.Sample.{W}
use Rattle.vault.proofs.ListLemmas.{filter_fits}

sample_is_sound : IsSound W
unfolding sha256 S.first_words S.schedule S.digest_bytes S.hash_after S.compress S.rounds
sample_is_sound = record {
  clerks = refl;
  clerks_apart = refl;
  clerks_fit = leb-true (length W.clerks) most_clerks refl;
  maildrops = refl;
  maildrops_apart = refl;
  maildrops_fit = leb-true (length W.maildrops) most_maildrops refl;
  messages = refl;
  messages_apart = refl;
  messages_fit = λ d. le_trans (filter_fits (λ m. bytes_eq m.maildrop d) W.messages) (leb-true (length W.messages) most_messages refl);
  deposits = refl;
  ids_apart = refl;
  uids_apart = refl;
  policy = refl;
}
