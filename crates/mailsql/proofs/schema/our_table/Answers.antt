use Rattle.std.proofs.Common.{refl}
use Rattle.mailsql.proofs.schema.our_table.Goals as goal

pub returns : goal.returns
returns c = rw (
  c.first_there.ensures,
  c.same_name.ensures,
  c.same_name-2.ensures,
  c.same_name-3.ensures,
  c.same_name-4.ensures,
  c.same_name-5.ensures,
  c.same_name-6.ensures,
  c.same_name-7.ensures,
  c.same_name-8.ensures,
  c.same_name-9.ensures,
  c.same_name-10.ensures,
  c.same_name-11.ensures,
) refl
