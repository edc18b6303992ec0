use Rattle.std.proofs.Common.{rules, tests}
use Rattle.std.proofs.lemmas.Iterator.Search.{all_from_yields_List}
use Rattle.std.proofs.lemmas.Iterator.Splits.{YieldsList-from_slice_split}
use Rattle.adminhttp.specs.Sites.{is_dot, is_octet}
use Rattle.adminhttp.proofs.sites.are_octets.Goals as goal

pub returns : goal.returns
returns c =
    all_from_yields_List is_octet _ _ _ c.all.ensures.ran
    (YieldsList-from_slice_split _ is_dot c.args.host.now c.split.ensures.rest c.split.ensures.done c.split.ensures.closure (λ x b q k. search (rules, tests)))
    (λ x b q k. search (rules, tests))
