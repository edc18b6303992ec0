use Rattle.std.proofs.Common.{◌≡◌, ◌++◌, ◌∙◌, append_assoc, codes, List, ℕ}
use Rattle.std.specs.Prelude.{string_bytes}
use Rattle.std.specs.Fmt.{decimal}
use Rattle.creds.specs.Uid.{uid_text}
use Rattle.journal.proofs.account_text.retr_text.Goals as goal

joined : (p w u i o d t r : List ℕ) → p ++ (w ++ (u ++ (i ++ (o ++ (d ++ (t ++ r)))))) ≡ p ++ w ++ u ++ i ++ o ++ d ++ t ++ r
joined p w u i o d t r = simp append_assoc

pub returns : goal.returns
returns c =
    let behind : List ℕ = codes " octets=" ++ (decimal c.args.message.octets ++ (codes " rule=" ++ c.args.rule)) in
    let made : string_bytes c.in_ok-text.text
    ≡ codes "event=retr " ++ (c.args.who.now ++ (codes " uid=" ++ (uid_text c.args.message.uid ++ behind))) = c.in_ok-text.ensures.ok in
    made ∙ joined (codes "event=retr ") c.args.who.now (codes " uid=") (uid_text c.args.message.uid) (codes " octets=") (decimal c.args.message.octets) (codes " rule=") c.args.rule
