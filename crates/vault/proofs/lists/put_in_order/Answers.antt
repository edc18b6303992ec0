-- The name's place is where it is put.
use Rattle.std.proofs.Common.{sym}
use Rattle.vault.proofs.OrderLemmas.{put_is_insert_at}
use Rattle.vault.proofs.lists.put_in_order.Goals as goal

pub returns : goal.returns
returns c = rw (c.in_ok-insert.ensures.items, c.place_of-place.ensures, c.deref.ensures.value) (sym (put_is_insert_at c.args.name.now c.args.names.now.items))
