-- The line of a request that gives a command is that command's.
use Rattle.std.proofs.Common.{◌≡◌, ℕ, List, codes, map, Option, Some, None, option_map, Result, Ok, Err, Bool, true, false, cond, inl, inr, refl, sym, ap, ◌∙◌}
use Rattle.std.proofs.lemmas.Slice.Eq.{bytes_eq-Decides}
use Rattle.std.specs.Prelude.{option_and_then}
use Rattle.std.specs.Str.{bytes_eq}
use Rattle.httparse.specs.Spans.{name_and_value}
use Rattle.policy.specs.Policy.{Policy}
use Rattle.creds.specs.declared.credential.Credential.{Credential}
use Rattle.office.specs.Answers as office
use Rattle.office.specs.Answers.{AdminCommand}
use Rattle.office.specs.declared.limits.AdminAccess.{AdminAccess}
use Rattle.adminhttp.specs.Lines.{head_at}
use Rattle.adminhttp.specs.Head.{head_text, behind_head}
use Rattle.adminhttp.specs.Fields.{Header}
use Rattle.adminhttp.specs.Bodies.{body_of, without_line_end, credential_of, policy_of}
use Rattle.adminhttp.specs.Steps.{◌>>=◌, value_or}
use Rattle.adminhttp.specs.Targets.{target_of}
use Rattle.adminhttp.specs.Request.{Asked, asked_by, asked_of_site, asked_of, clerk_put, policy_put, maildrop_asked, clerks_asked, clerk_asked, policy_asked}
use Rattle.adminhttp.specs.Request.{session_asked, ComesTo, HeadComesTo}
use Rattle.adminhttp.specs.RequestLines.{by, line_of, method_of, line_in, IsLineAt}
use Rattle.adminhttp.specs.Laws.{CommandHasItsLine}
use Rattle.adminhttp.specs.declared.no_command.NoCommand.{NoCommand}
use Rattle.adminhttp.specs.declared.no_command.NoCommand.TheVariants.{Bad}
use Rattle.adminhttp.specs.Sites.{Site, is_own}
use Rattle.adminhttp.specs.declared.refusal.Refusal.TheVariants.{ForeignSite, NotFound, BadRequest}
use Rattle.adminhttp.specs.declared.target.Target.{Target}
use Rattle.adminhttp.specs.declared.target.Target.TheVariants as target
use Rattle.adminhttp.specs.declared.target.Target.TheVariants.{Clerk}
use Rattle.adminhttp.specs.declared.request_line.Method.TheVariants.{Get, Put, Delete}
use Rattle.adminhttp.specs.declared.request_line.RequestLine.{RequestLine}

-- ---- a command's line

-- the line by these tests of a method
abbrev line_by : (p q r : Bool) → Target → Option RequestLine
line_by p q r t = option_map (λ asked. by asked t) (cond p (Some Get) (cond q (Some Put) (cond r (Some Delete) None)))

is_it : (c x : AdminCommand) (line : RequestLine) → ◌≡◌ {A = Asked} (Ok c) (Ok x) → line_of x ≡ line → Some (line_of c) ≡ Some line
is_it c x line h e = let same : c ≡ x = cc h in ap (λ y. Some (line_of y)) same ∙ ap Some e

by_get_line : (p q r : Bool) (t : Target) (x c : AdminCommand) (s : NoCommand) → line_of x ≡ by Get t → Ok c ≡ cond p (Ok x) (Err s) → Some (line_of c) ≡ line_by p q r t
by_get_line true q r t x c s e h = is_it c x (by Get t) h e
by_get_line false q r t x c s e h = absurd (cc h)

-- GET and PUT and DELETE, if PUT may be refused
by_three : (p q r : Bool) (t : Target) (x z c : AdminCommand) (put : Asked) (s : NoCommand) → line_of x ≡ by Get t → (Ok c ≡ put → line_of c ≡ by Put t) → line_of z ≡ by Delete t
    → Ok c ≡ cond p (Ok x) (cond q put (cond r (Ok z) (Err s))) → Some (line_of c) ≡ line_by p q r t
by_three true q r t x z c put s e f g h = is_it c x (by Get t) h e
by_three false true r t x z c put s e f g h = ap Some (f h)
by_three false false true t x z c put s e f g h = is_it c z (by Delete t) h g
by_three false false false t x z c put s e f g h = absurd (cc h)

-- GET and PUT
by_two : (p q r : Bool) (t : Target) (x c : AdminCommand) (put : Asked) (s : NoCommand) → line_of x ≡ by Get t → (Ok c ≡ put → line_of c ≡ by Put t)
    → Ok c ≡ cond p (Ok x) (cond q put (Err s)) → Some (line_of c) ≡ line_by p q r t
by_two true q r t x c put s e f h = is_it c x (by Get t) h e
by_two false true r t x c put s e f h = ap Some (f h)
by_two false false r t x c put s e f h = absurd (cc h)

put_of : (c x : AdminCommand) (line : RequestLine) → line_of x ≡ line → ◌≡◌ {A = Asked} (Ok c) (Ok x) → line_of c ≡ line
put_of c x line e h = let same : c ≡ x = cc h in ap line_of same ∙ e

put_credential : (clerk : List ℕ) (c : AdminCommand) (o : Option Credential) → Ok c ≡ (value_or o BadRequest >>= λ credential. Ok (office.PutClerk clerk credential)) → line_of c ≡ by Put (Clerk clerk)
put_credential clerk c (Some credential) h = put_of c (office.PutClerk clerk credential) (by Put (Clerk clerk)) refl h
put_credential clerk c None h = absurd (cc h)

put_body : (clerk : List ℕ) (c : AdminCommand) (body : Result (List ℕ) NoCommand)
    → Ok c ≡ (body >>= λ text. value_or (credential_of clerk (without_line_end text)) BadRequest >>= λ credential. Ok (office.PutClerk clerk credential)) → line_of c ≡ by Put (Clerk clerk)
put_body clerk c (Ok text) h = put_credential clerk c (credential_of clerk (without_line_end text)) h
put_body clerk c (Err s) h = absurd (cc h)

put_clerk : (clerk : List ℕ) (headers : List Header) (behind : List ℕ) (c : AdminCommand) → Ok c ≡ clerk_put clerk headers behind → line_of c ≡ by Put (Clerk clerk)
unfolding clerk_put
put_clerk clerk headers behind c h = put_body clerk c (body_of headers behind) h

put_rules : (c : AdminCommand) (policy : Result Policy NoCommand) → Ok c ≡ (policy >>= λ p. Ok (office.SetPolicy p)) → line_of c ≡ by Put target.Policy
put_rules c (Ok policy) h = put_of c (office.SetPolicy policy) (by Put target.Policy) refl h
put_rules c (Err s) h = absurd (cc h)

put_text : (c : AdminCommand) (body : Result (List ℕ) NoCommand) → Ok c ≡ (body >>= λ text. policy_of text >>= λ p. Ok (office.SetPolicy p)) → line_of c ≡ by Put target.Policy
put_text c (Ok text) h = put_rules c (policy_of text) h
put_text c (Err s) h = absurd (cc h)

put_policy : (headers : List Header) (behind : List ℕ) (c : AdminCommand) → Ok c ≡ policy_put headers behind → line_of c ≡ by Put target.Policy
unfolding policy_put
put_policy headers behind c h = put_text c (body_of headers behind) h

session_line : (m : List ℕ) (t : Target) (x c : AdminCommand) (s : NoCommand) (r : Bool) → bytes_eq m (codes "DELETE") ≡ r → line_of x ≡ by Delete t → Ok c ≡ cond r (Ok x) (Err s)
    → Some (line_of c) ≡ option_map (λ asked. by asked t) (method_of m)
session_line m t x c s true e g h =
    let is : m ≡ codes "DELETE" = (bytes_eq-Decides m (codes "DELETE")).0 e in
    is_it c x (by Delete t) h g ∙ ap (λ text. option_map (λ asked. by asked t) (method_of text)) (sym is)
session_line m t x c s false e g h = absurd (cc h)

clerks_line : (listed : Bool) (m : List ℕ) (c : AdminCommand) (s : NoCommand) → Ok c ≡ cond listed (cond (bytes_eq m (codes "GET")) (Ok office.ListClerks) (Err s)) (Err (Bad NotFound))
    → Some (line_of c) ≡ option_map (λ asked. by asked target.Clerks) (method_of m)
clerks_line true m c s h = by_get_line _ (bytes_eq m (codes "PUT")) (bytes_eq m (codes "DELETE")) target.Clerks office.ListClerks c s refl h
clerks_line false m c s h = absurd (cc h)

-- what is asked of a target has its line
line_on : (access : AdminAccess) (found : Target) (m : List ℕ) (headers : List Header) (behind : List ℕ) (c : AdminCommand) → Ok c ≡ asked_of access found m headers behind
    → Some (line_of c) ≡ option_map (λ asked. by asked found) (method_of m)
unfolding maildrop_asked clerks_asked clerk_asked policy_asked session_asked
line_on access target.Maildrops m headers behind c h = by_get_line _ (bytes_eq m (codes "PUT")) (bytes_eq m (codes "DELETE")) target.Maildrops office.ListMaildrops c _ refl h
line_on access (target.Maildrop d) m headers behind c h =
    by_three _ _ _ (target.Maildrop d) (office.ShowMaildrop d) (office.DropMaildrop d) c (Ok (office.AddMaildrop d)) _ refl (put_of c (office.AddMaildrop d) (by Put (target.Maildrop d)) refl) refl h
line_on access target.Clerks m headers behind c h = clerks_line access.lists_clerks m c _ h
line_on access (target.Clerk clerk) m headers behind c h =
    by_three _ _ _ (target.Clerk clerk) (office.ShowClerk clerk) (office.DropClerk clerk) c (clerk_put clerk headers behind) _ refl (put_clerk clerk headers behind c) refl h
line_on access target.Policy m headers behind c h = by_two _ _ (bytes_eq m (codes "DELETE")) target.Policy office.ShowPolicy c (policy_put headers behind) _ refl (put_policy headers behind c) h
line_on access target.Groups m headers behind c h = by_get_line _ (bytes_eq m (codes "PUT")) (bytes_eq m (codes "DELETE")) target.Groups office.ListGroups c _ refl h
line_on access target.Sessions m headers behind c h = by_get_line _ (bytes_eq m (codes "PUT")) (bytes_eq m (codes "DELETE")) target.Sessions office.ListSessions c _ refl h
line_on access (target.Session n) m headers behind c h = session_line m (target.Session n) (office.EndSession n) c _ (bytes_eq m (codes "DELETE")) refl refl h
line_on access (target.Explain clerk d class action) m headers behind c h =
    by_get_line _ (bytes_eq m (codes "PUT")) (bytes_eq m (codes "DELETE")) (target.Explain clerk d class action) (office.Explain clerk d class action) c _ refl h

line_by_target : (access : AdminAccess) (o : Option Target) (m : List ℕ) (headers : List Header) (behind : List ℕ) (c : AdminCommand)
    → Ok c ≡ (value_or o NotFound >>= λ found. asked_of access found m headers behind)
    → Some (line_of c) ≡ option_and_then (λ named. option_map (λ asked. by asked named) (method_of m)) o
line_by_target access (Some found) m headers behind c h = line_on access found m headers behind c h
line_by_target access None m headers behind c h = absurd (cc h)

line_asked : (access : AdminAccess) (m t : List ℕ) (headers : List Header) (behind : List ℕ) (c : AdminCommand)
    → Ok c ≡ asked_by access m t headers behind → Some (line_of c) ≡ line_in m t
unfolding asked_by
line_asked access m t headers behind c h = line_by_target access (target_of t) m headers behind c h

line_served : (access : AdminAccess) (own : Bool) (m t : List ℕ) (headers : List Header) (behind : List ℕ) (c : AdminCommand)
    → Ok c ≡ cond own (asked_by access m t headers behind) (Err (Bad ForeignSite))
    → Some (line_of c) ≡ line_in m t
line_served access true m t headers behind c h = line_asked access m t headers behind c h
line_served access false m t headers behind c h = absurd (cc h)

line_of_site : (site : Site) (access : AdminAccess) (m t : List ℕ) (headers : List Header) (behind : List ℕ) (c : AdminCommand)
    → Ok c ≡ asked_of_site site access m t headers behind → Some (line_of c) ≡ line_in m t
unfolding asked_of_site
line_of_site site access m t headers behind c h = line_served access (is_own site headers) m t headers behind c h

at_head : (site : Site) (access : AdminAccess) (text behind : List ℕ) (c : AdminCommand) (place : ℕ × ℕ) (b : List ℕ)
    → HeadComesTo site access (head_text b place) behind (Ok c) → IsLineAt b (Some place) (Some (line_of c))
at_head site access text behind c place b (inl x) = inl (x.0, x.1, line_of_site site access x.0.method x.0.target (map name_and_value x.0.fields) behind c x.2)
at_head site access text behind c place b (inr x) = absurd (cc x.1)

at_place : (site : Site) (access : AdminAccess) (b : List ℕ) (place : Option (ℕ × ℕ)) (c : AdminCommand) → ComesTo site access b place (Ok c) → IsLineAt b place (Some (line_of c))
at_place site access b None c h = absurd (cc h)
at_place site access b (Some place) c h = at_head site access b (behind_head b place) c place b h

pub command_has_its_line : CommandHasItsLine
command_has_its_line site access b command h = at_place site access b (head_at b) command h
