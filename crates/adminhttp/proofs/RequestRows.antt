-- Worked rows: what requests come to, octet by octet.
use Rattle.std.specs.Prelude.{◌≡◌, ℕ, true, List, [], ◌∷◌, codes, Some, None, Ok, Err, refl, nat_lt}
use Rattle.std.proofs.Common.{inl, lit<, lit≤, arith}
use Rattle.std.proofs.lemmas.Bool.Decides.{nat_tests}
use Rattle.std.proofs.lemmas.List.Elements.{All-nil}
use Rattle.std.proofs.lemmas.List.Sums.{AllPass-from_list_all}
use Rattle.std.proofs.lemmas.Str.{IsUtf8-from_ascii}
use Rattle.std.specs.Str.{IsUtf8}
use Rattle.std.specs.List.{list_all}
use Rattle.creds.proofs.TextLemmas.{IsAscii-list_all}
use Rattle.creds.specs.declared.credential.Credential.TheVariants.{Apop}
use Rattle.policy.specs.declared.rule.Action.TheVariants as to
use Rattle.httparse.proofs.OnLiterals.{httparse_on_literals}
use Rattle.httparse.specs.Grammar.{RequestHead, IsRequestHead, IsField, crlf, is_token_byte, is_uri_byte}
use Rattle.office.specs.Events.{no_access}
use Rattle.office.specs.Answers.{ListMaildrops, ListClerks, PutClerk, EndSession, Explain}
use Rattle.adminhttp.specs.declared.route.Route.TheVariants as route
use Rattle.adminhttp.specs.declared.refusal.Refusal.TheVariants.{BadRequest, NotFound, NotAllowed, LengthRequired, TooLarge}
use Rattle.adminhttp.specs.declared.no_command.NoCommand.TheVariants.{More, Bad}
use Rattle.adminhttp.specs.Lines.{empty_lines, through_empty_line, head_at}
use Rattle.adminhttp.specs.Targets.{target_of}
use Rattle.adminhttp.specs.Fields.{Header, body_length}
use Rattle.adminhttp.specs.Bodies.{body_of, without_line_end, credential_of}
use Rattle.adminhttp.specs.Request.{Asked, IsRequest, asked_by, asked_of_site, clerk_put, policy_put, clerks_asked, clerk_asked, policy_asked}
use Rattle.adminhttp.specs.Request.{session_asked}

-- ---- heads

no_end : head_at (codes "bad\r\n") ≡ None
unfolding empty_lines through_empty_line
no_end = refl

ended : head_at (codes "bad\r\n\r\n") ≡ Some (0, 7)
unfolding empty_lines through_empty_line
ended = refl

empty_lines_in_front : head_at (codes "\n\r\nGET / HTTP/1.0\n\nbody") ≡ Some (3, 16)
unfolding empty_lines through_empty_line
empty_lines_in_front = refl

returns_before_an_end : head_at (codes "a\r\r\n\r\r\n\n") ≡ Some (0, 8)
unfolding empty_lines through_empty_line
returns_before_an_end = refl

more_to_come : IsRequest None no_access (codes "bad\r\n") (Err More)
unfolding empty_lines through_empty_line
more_to_come = refl

-- ---- what is after a head

abbrev length_is : List ℕ → Header
length_is value = (codes "Content-Length", value)

-- what a method asks of a target, with these headers and octets after the head
abbrev asks : (method target : List ℕ) → List Header → List ℕ → Asked
asks method target headers behind = asked_by no_access method target headers behind

explain : asks (codes "GET") (codes "/explain/bob/orders/pay/read") [] [] ≡ Ok (Explain (codes "bob") (codes "orders") (codes "pay") to.Read)
unfolding asked_by target_of
explain = refl

no_list_of_clerks : asks (codes "GET") (codes "/clerks") [] [] ≡ Err (Bad NotFound)
unfolding asked_by target_of clerks_asked
no_list_of_clerks = refl

list_of_clerks : asked_by (record { lists_clerks = true }) (codes "GET") (codes "/clerks") [] [] ≡ Ok ListClerks
unfolding asked_by target_of clerks_asked
list_of_clerks = refl

put_on_the_list : asked_by (record { lists_clerks = true }) (codes "PUT") (codes "/clerks") [] [] ≡ Err (Bad (NotAllowed route.Clerks))
unfolding asked_by target_of clerks_asked
put_on_the_list = refl

no_action : asks (codes "GET") (codes "/explain/bob/orders/pay/write") [] [] ≡ Err (Bad NotFound)
unfolding asked_by target_of
no_action = refl

no_name : asks (codes "PUT") (codes "/maildrops/Orders") [] [] ≡ Err (Bad NotFound)
unfolding asked_by target_of
no_name = refl

with_a_query : asks (codes "GET") (codes "/policy?x=1") [] [] ≡ Err (Bad NotFound)
unfolding asked_by target_of
with_a_query = refl

leading_zeros : asks (codes "DELETE") (codes "/sessions/007") [] [] ≡ Ok (EndSession 7)
unfolding asked_by target_of session_asked
leading_zeros = refl

over_64_bits : asks (codes "DELETE") (codes "/sessions/18446744073709551616") [] [] ≡ Err (Bad NotFound)
unfolding asked_by target_of
over_64_bits = refl

post_on_the_policy : asks (codes "POST") (codes "/policy") [] [] ≡ Err (Bad (NotAllowed route.Policy))
unfolding asked_by target_of policy_asked
post_on_the_policy = refl

no_length : asks (codes "PUT") (codes "/policy") [] [] ≡ Err (Bad LengthRequired)
unfolding asked_by target_of policy_asked policy_put body_of body_length
no_length = refl

coded : asks (codes "PUT") (codes "/policy") ((codes "TRANSFER-encoding", codes "chunked") ∷ length_is (codes "1") ∷ length_is (codes "1") ∷ []) (codes "x") ≡ Err (Bad LengthRequired)
unfolding asked_by target_of policy_asked policy_put body_of body_length
coded = refl

two_lengths : asks (codes "PUT") (codes "/policy") (length_is (codes "1") ∷ length_is (codes "1") ∷ []) (codes "x") ≡ Err (Bad BadRequest)
unfolding asked_by target_of policy_asked policy_put body_of body_length
two_lengths = refl

signed_length : asks (codes "PUT") (codes "/policy") (length_is (codes "+1") ∷ []) (codes "x") ≡ Err (Bad BadRequest)
unfolding asked_by target_of policy_asked policy_put body_of body_length
signed_length = refl

too_long : asks (codes "PUT") (codes "/policy") (length_is (codes "1048577") ∷ []) [] ≡ Err (Bad TooLarge)
unfolding asked_by target_of policy_asked policy_put body_of body_length
too_long = refl

longest : asks (codes "PUT") (codes "/policy") (length_is (codes "001048576") ∷ []) [] ≡ Err More
unfolding asked_by target_of policy_asked policy_put body_of body_length
longest = refl

secret_with_a_space : asks (codes "PUT") (codes "/clerks/mrose") (length_is (codes "12") ∷ []) (codes "apop  tan \r\nmore")
    ≡ Ok (PutClerk (codes "mrose") (Apop (codes " tan ")))
unfolding asked_by target_of clerk_asked clerk_put body_of body_length without_line_end credential_of
secret_with_a_space = refl

return_in_a_secret : asks (codes "PUT") (codes "/clerks/mrose") (length_is (codes "9") ∷ []) (codes "apop tan\r") ≡ Err (Bad BadRequest)
unfolding asked_by target_of clerk_asked clerk_put body_of body_length without_line_end credential_of
return_in_a_secret = refl

-- ---- a whole request

ascii : (text : List ℕ) → list_all (λ b. nat_lt b 128) text ≡ true → IsUtf8 text
ascii text h = IsUtf8-from_ascii text (IsAscii-list_all (λ b. nat_lt b 128) (λ b lt. grind (arith, nat_tests)) text h)

-- the head of a request for the maildrops
abbrev head : RequestHead
head = record {
  blank = [];
  method = codes "GET";
  target = codes "/maildrops";
  minor = 1;
  line_end = crlf;
  fields = [];
  last = crlf;
}

is_head : IsRequestHead head
unfolding is_token_byte
is_head = record {
  method = (lit< tt, AllPass-from_list_all is_token_byte (codes "GET") refl);
  target = (lit< tt, AllPass-from_list_all is_uri_byte (codes "/maildrops") refl);
  target_text = ascii (codes "/maildrops") refl;
  minor = lit≤ tt;
  fields = All-nil IsField;
}

maildrops : IsRequest None no_access (codes "\r\nGET /maildrops HTTP/1.1\r\n\r\nwhatever") (Ok ListMaildrops)
unfolding empty_lines through_empty_line httparse_on_literals asked_of_site asked_by target_of
maildrops = inl (head, ((is_head, refl), lit≤ tt), refl)
