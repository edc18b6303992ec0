use Rattle.std.proofs.Common.{◌≡◌, ◌++◌, ◌∙◌, ap, append_assoc, codes, List, ℕ}
use Rattle.std.specs.Prelude.{string_bytes}
use Rattle.creds.specs.Uid.{uid_text}
use Rattle.journal.specs.Lines.{command_text}
use Rattle.journal.proofs.account_text.denied_text.Goals as goal

joined : (p w m c u i r n : List ℕ) → p ++ (w ++ (m ++ (c ++ (u ++ (i ++ (r ++ n)))))) ≡ p ++ w ++ m ++ c ++ u ++ i ++ r ++ n
joined p w m c u i r n = simp append_assoc

pub returns : goal.returns
returns c =
    let line : List ℕ → List ℕ =
    λ command. codes "event=denied " ++ (c.args.who.now ++ (codes " command=" ++ (command ++ (codes " uid=" ++ (uid_text c.args.uid ++ (codes " rule=" ++ c.args.rule)))))) in
    let made : string_bytes c.in_ok-text.text ≡ line c.command_word-command.result.now = c.in_ok-text.ensures.ok in
    made ∙ ap line c.command_word-command.ensures
    ∙ joined (codes "event=denied ") c.args.who.now (codes " command=") (command_text c.args.command) (codes " uid=") (uid_text c.args.uid) (codes " rule=") c.args.rule
