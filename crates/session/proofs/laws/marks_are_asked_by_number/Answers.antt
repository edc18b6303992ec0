use Rattle.session.specs.Session.{class_of}
use Rattle.session.proofs.MarkLemmas.{unmarked-alike, to_remove-alike, denying-alike}
use Rattle.session.proofs.laws.marks_are_asked_by_number.Goals as goal

pub returns : goal.returns
returns c = λ policy name view marks others alike. record {
  listing = unmarked-alike marks others alike view;
  removal = to_remove-alike class_of policy name marks others alike view;
  denial = denying-alike class_of policy name marks others alike view;
}
