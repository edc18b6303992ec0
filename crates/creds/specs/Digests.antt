-- The digests that admission and deposits compare: of APOP (RFC 1939, 7) by MD5 (RFC 1321),
-- of a password and of a deposit's text by SHA-256 (FIPS 180-4, 6.2).
use Rattle.std.specs.Prelude.{List, ℕ, ◌++◌, codes}
use Rattle.md5.specs.Md5.{md5}
use Rattle.sha2.specs.Sha256.{sha256}

-- MD5 of the timestamp and the secret
abbrev pub apop_digest : (stamp secret : List ℕ) → List ℕ
apop_digest stamp secret = md5 (stamp ++ secret)

-- SHA-256 of the clerk's name, a colon and the password
abbrev pub pass_digest : (name password : List ℕ) → List ℕ
pass_digest name password = sha256 (name ++ codes ":" ++ password)

-- SHA-256 of a text
abbrev pub text_digest : List ℕ → List ℕ
text_digest text = sha256 text
