-- What the texts define.
use Rattle.std.proofs.Common.{◌≡◌, Ok, refl}
use Rattle.sqlite_tied.specs.Compute.{everything}
use Rattle.sqlite_resolve.specs.Compile.{table_defined_by}
use Rattle.sqlite.specs.Does.{sequence_text}
use Rattle.mailsql.specs.Tables.{meta_text, meta_at, clerks_text, clerks_at, maildrops_text, maildrops_at, counts_text, counts_at, deposits_text, deposits_at, mail_text, mail_at}
use Rattle.mailsql.specs.Tables.{rules_text, rules_at, sheets_text, sheets_at, groups_text, groups_at, members_text, members_at, sequence_at}

pub meta_is : table_defined_by meta_text ≡ Ok (meta_at 0)
unfolding everything
meta_is = refl

pub clerks_is : table_defined_by clerks_text ≡ Ok (clerks_at 0)
unfolding everything
clerks_is = refl

pub maildrops_is : table_defined_by maildrops_text ≡ Ok (maildrops_at 0)
unfolding everything
maildrops_is = refl

pub counts_is : table_defined_by counts_text ≡ Ok (counts_at 0)
unfolding everything
counts_is = refl

pub deposits_is : table_defined_by deposits_text ≡ Ok (deposits_at 0)
unfolding everything
deposits_is = refl

pub mail_is : table_defined_by mail_text ≡ Ok (mail_at 0)
unfolding everything
mail_is = refl

pub rules_is : table_defined_by rules_text ≡ Ok (rules_at 0)
unfolding everything
rules_is = refl

pub sheets_is : table_defined_by sheets_text ≡ Ok (sheets_at 0)
unfolding everything
sheets_is = refl

pub groups_is : table_defined_by groups_text ≡ Ok (groups_at 0)
unfolding everything
groups_is = refl

pub members_is : table_defined_by members_text ≡ Ok (members_at 0)
unfolding everything
members_is = refl

pub sequence_is : table_defined_by sequence_text ≡ Ok (sequence_at 0)
unfolding everything
sequence_is = refl
