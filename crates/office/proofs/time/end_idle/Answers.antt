use Rattle.std.proofs.Common.{◌∙◌, ap, not, rules, nat_cmp}
use Rattle.std.specs.Map.{lookup}
use Rattle.std.specs.BTreeMap.{is_at}
use Rattle.std.proofs.lemmas.Map.Made.{filter_same_pairs}
use Rattle.office.specs.Idle.{is_idle}
use Rattle.office.proofs.Ticking.{kept_links}
use Rattle.office.proofs.time.end_idle.Goals as goal

pub returns : goal.returns
returns c n =
    let e = filter_same_pairs _ (λ p. not (is_idle c.args.moment c.args.seconds p.1)) _ (λ k v b w f' t. search rules) _ _ c.retain.ensures.filtered in
    ap (λ es. lookup (is_at (nat_cmp n)) es) e ∙ kept_links c.args.moment c.args.seconds c.args.connections.now c.retain.ensures.was_ordered n
