use Rattle.std.proofs.Common.{◌≡◌, ◌++◌, append_assoc, codes}
use Rattle.std.specs.Prelude.{string_bytes}
use Rattle.std.specs.Fmt.{decimal}
use Rattle.popline.proofs.texts.maildrop_has.Goals as goal

pub returns : goal.returns
returns c =
    let h : string_bytes c.in_ok-text.text ≡ codes "+OK maildrop has "
    ++ (decimal c.args.messages ++ (codes " messages (" ++ (decimal c.args.octets ++ codes " octets)\r\n"))) = c.in_ok-text.ensures.ok in
    rw h (simp append_assoc)
