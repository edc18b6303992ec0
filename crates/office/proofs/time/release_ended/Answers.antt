use Rattle.std.proofs.Common.{◌∙◌, ap, is_some, rules, nat_cmp}
use Rattle.std.specs.Map.{lookup}
use Rattle.std.specs.BTreeMap.{get, is_at}
use Rattle.std.proofs.lemmas.Map.Made.{filter_same_pairs}
use Rattle.office.specs.Answered.{name_cmp}
use Rattle.office.proofs.Ticking.{kept_locks}
use Rattle.office.proofs.time.release_ended.Goals as goal

pub returns : goal.returns
returns c d =
    let e = filter_same_pairs _ (λ p. is_some (get nat_cmp c.args.connections.now p.1)) _ (λ k v b w f' t. search rules) _ _ c.retain.ensures.filtered in
    ap (λ es. lookup (is_at (name_cmp d)) es) e ∙ kept_locks c.args.connections.now c.args.locks.now c.retain.ensures.was_ordered d
