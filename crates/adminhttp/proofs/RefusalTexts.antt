-- The responses to refusals, octet by octet.
use Rattle.std.proofs.Common.{◌≡◌, codes, refl}
use Rattle.std.specs.Fmt.{digits}
use Rattle.adminhttp.specs.Responses.{refusal_response, response_text}
use Rattle.adminhttp.specs.declared.route.Route.TheVariants.{Maildrops, Maildrop, Clerks, Clerk, Policy, Groups, Sessions, Session, Explain}
use Rattle.adminhttp.specs.declared.refusal.Refusal.TheVariants.{BadRequest, ForeignSite, NotFound, NotAllowed, LengthRequired, TooLarge, StoreFailed, OutOfMemory}

pub bad_request : refusal_response BadRequest ≡ codes "HTTP/1.1 400 Bad Request\r\nContent-Type: text/plain\r\nContent-Length: 12\r\nConnection: close\r\n\r\nbad request\n"
unfolding digits refusal_response response_text
bad_request = refl

pub foreign_site : refusal_response ForeignSite ≡ codes "HTTP/1.1 403 Forbidden\r\nContent-Type: text/plain\r\nContent-Length: 23\r\nConnection: close\r\n\r\nanother site's request\n"
unfolding digits refusal_response response_text
foreign_site = refl

pub not_found : refusal_response NotFound ≡ codes "HTTP/1.1 404 Not Found\r\nContent-Type: text/plain\r\nContent-Length: 10\r\nConnection: close\r\n\r\nnot found\n"
unfolding digits refusal_response response_text
not_found = refl

pub length_required : refusal_response LengthRequired ≡ codes "HTTP/1.1 411 Length Required\r\nContent-Type: text/plain\r\nContent-Length: 16\r\nConnection: close\r\n\r\nlength required\n"
unfolding digits refusal_response response_text
length_required = refl

pub too_large : refusal_response TooLarge ≡ codes "HTTP/1.1 413 Content Too Large\r\nContent-Type: text/plain\r\nContent-Length: 10\r\nConnection: close\r\n\r\ntoo large\n"
unfolding digits refusal_response response_text
too_large = refl

pub store_failed : refusal_response StoreFailed ≡ codes "HTTP/1.1 503 Service Unavailable\r\nContent-Type: text/plain\r\nContent-Length: 13\r\nConnection: close\r\n\r\nstore failed\n"
unfolding digits refusal_response response_text
store_failed = refl

pub out_of_memory : refusal_response OutOfMemory ≡ codes "HTTP/1.1 503 Service Unavailable\r\nContent-Type: text/plain\r\nContent-Length: 14\r\nConnection: close\r\n\r\nout of memory\n"
unfolding digits refusal_response response_text
out_of_memory = refl

pub not_allowed_maildrops : refusal_response (NotAllowed Maildrops)
    ≡ codes "HTTP/1.1 405 Method Not Allowed\r\nContent-Type: text/plain\r\nAllow: GET\r\nContent-Length: 19\r\nConnection: close\r\n\r\nmethod not allowed\n"
unfolding digits refusal_response response_text
not_allowed_maildrops = refl

pub not_allowed_maildrop : refusal_response (NotAllowed Maildrop)
    ≡ codes "HTTP/1.1 405 Method Not Allowed\r\nContent-Type: text/plain\r\nAllow: GET, PUT, DELETE\r\nContent-Length: 19\r\nConnection: close\r\n\r\nmethod not allowed\n"
unfolding digits refusal_response response_text
not_allowed_maildrop = refl

pub not_allowed_clerks : refusal_response (NotAllowed Clerks)
    ≡ codes "HTTP/1.1 405 Method Not Allowed\r\nContent-Type: text/plain\r\nAllow: GET\r\nContent-Length: 19\r\nConnection: close\r\n\r\nmethod not allowed\n"
unfolding digits refusal_response response_text
not_allowed_clerks = refl

pub not_allowed_clerk : refusal_response (NotAllowed Clerk)
    ≡ codes "HTTP/1.1 405 Method Not Allowed\r\nContent-Type: text/plain\r\nAllow: GET, PUT, DELETE\r\nContent-Length: 19\r\nConnection: close\r\n\r\nmethod not allowed\n"
unfolding digits refusal_response response_text
not_allowed_clerk = refl

pub not_allowed_policy : refusal_response (NotAllowed Policy)
    ≡ codes "HTTP/1.1 405 Method Not Allowed\r\nContent-Type: text/plain\r\nAllow: GET, PUT\r\nContent-Length: 19\r\nConnection: close\r\n\r\nmethod not allowed\n"
unfolding digits refusal_response response_text
not_allowed_policy = refl

pub not_allowed_groups : refusal_response (NotAllowed Groups)
    ≡ codes "HTTP/1.1 405 Method Not Allowed\r\nContent-Type: text/plain\r\nAllow: GET\r\nContent-Length: 19\r\nConnection: close\r\n\r\nmethod not allowed\n"
unfolding digits refusal_response response_text
not_allowed_groups = refl

pub not_allowed_sessions : refusal_response (NotAllowed Sessions)
    ≡ codes "HTTP/1.1 405 Method Not Allowed\r\nContent-Type: text/plain\r\nAllow: GET\r\nContent-Length: 19\r\nConnection: close\r\n\r\nmethod not allowed\n"
unfolding digits refusal_response response_text
not_allowed_sessions = refl

pub not_allowed_session : refusal_response (NotAllowed Session)
    ≡ codes "HTTP/1.1 405 Method Not Allowed\r\nContent-Type: text/plain\r\nAllow: DELETE\r\nContent-Length: 19\r\nConnection: close\r\n\r\nmethod not allowed\n"
unfolding digits refusal_response response_text
not_allowed_session = refl

pub not_allowed_explain : refusal_response (NotAllowed Explain)
    ≡ codes "HTTP/1.1 405 Method Not Allowed\r\nContent-Type: text/plain\r\nAllow: GET\r\nContent-Length: 19\r\nConnection: close\r\n\r\nmethod not allowed\n"
unfolding digits refusal_response response_text
not_allowed_explain = refl
