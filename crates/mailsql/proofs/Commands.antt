-- What the statements stand for.
use Rattle.std.proofs.Common.{◌≡◌, refl, [], ◌∷◌, Bool, false, true, codes}
use Rattle.sqlite_tied.specs.Compute.{everything}
use Rattle.sqlite_schema.specs.declared.command.Command.TheVariants.{Delete}
use Rattle.sqlite.specs.Listing.{understood, reads_listing}
use Rattle.sqlite.proofs.Callers.{IsPlain, command_of}
use Rattle.mailsql.specs.Tables.{schema_of, mail_place}
use Rattle.mailsql.proofs.Statements as s

pub find_maildrop_is : (c : Bool)
    → (command_of (understood (schema_of c) s.find_maildrop_text) ≡ s.select_of s.find_maildrop_query (codes "name" ∷ [])) × (reads_listing (schema_of c) s.find_maildrop_text ≡ false)
unfolding understood everything
find_maildrop_is false = (refl, refl)
find_maildrop_is true = (refl, refl)

pub find_maildrop_plain : (c : Bool) → IsPlain (understood (schema_of c) s.find_maildrop_text)
unfolding understood everything
find_maildrop_plain false = (refl, refl)
find_maildrop_plain true = (refl, refl)

pub add_message_is : (c : Bool) → command_of (understood (schema_of c) s.add_message_text) ≡ s.add_message_command c
unfolding understood everything
add_message_is false = refl
add_message_is true = refl

pub add_message_plain : (c : Bool) → IsPlain (understood (schema_of c) s.add_message_text)
unfolding understood everything
add_message_plain false = (refl, refl)
add_message_plain true = (refl, refl)

pub add_keyed_is : (c : Bool) → command_of (understood (schema_of c) s.add_keyed_text) ≡ s.add_keyed_command c
unfolding understood everything
add_keyed_is false = refl
add_keyed_is true = refl

pub add_keyed_plain : (c : Bool) → IsPlain (understood (schema_of c) s.add_keyed_text)
unfolding understood everything
add_keyed_plain false = (refl, refl)
add_keyed_plain true = (refl, refl)

pub remove_message_is : (c : Bool) → command_of (understood (schema_of c) s.remove_message_text) ≡ Delete (mail_place c) (record { lets = []; body = s.remove_message_query c })
unfolding understood everything
remove_message_is false = refl
remove_message_is true = refl

pub remove_message_plain : (c : Bool) → IsPlain (understood (schema_of c) s.remove_message_text)
unfolding understood everything
remove_message_plain false = (refl, refl)
remove_message_plain true = (refl, refl)
