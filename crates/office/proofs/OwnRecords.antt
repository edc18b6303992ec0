-- Every store holds its own records with no acts.
use Rattle.std.proofs.Common.{refl, sym, ap}
use Rattle.vault.specs.Records.{in_maildrop}
use Rattle.office.specs.Laws.{OwnRecordsAgree}
use Rattle.office.proofs.SmallLemmas.{without_none}

pub own_records_agree : OwnRecordsAgree
own_records_agree B = record {
  clerks = refl;
  credentials = λ name. refl;
  maildrops = refl;
  messages = λ d. sym (ap (λ ms. in_maildrop d ms) (without_none B.messages));
  receipts = λ d id. refl;
  counts = λ d class. refl;
  policy = refl;
}
