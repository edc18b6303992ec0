use Rattle.std.proofs.Common.{◌≡◌, ◌++◌, append_assoc, codes}
use Rattle.std.specs.Prelude.{string_bytes}
use Rattle.std.specs.Fmt.{decimal}
use Rattle.popline.proofs.texts.greeting.Goals as goal

pub returns : goal.returns
returns c =
    let h : string_bytes c.in_ok-text.text ≡ codes "+OK POP3 server ready <"
    ++ (decimal c.args.number ++ (codes "." ++ (decimal c.args.boot ++ (codes "@" ++ (c.args.host.now ++ codes ">\r\n"))))) = c.in_ok-text.ensures.ok in
    rw h (simp append_assoc)
