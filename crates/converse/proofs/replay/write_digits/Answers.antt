use Rattle.std.proofs.Common.{false, codes, ◌++◌, subst, List, ℕ}
use Rattle.std.proofs.lemmas.Fmt.{hex_byte}
use Rattle.std.specs.Io.KnownBytes.{Appends}
use Rattle.std.specs.Prelude.{OnOk}
use Rattle.converse.proofs.replay.write_digits.Goals as goal

pub returns : goal.returns
returns g c =
    subst (λ (digits : List ℕ). OnOk c.write.result (Appends (g.W.Write.contents c.args.out.now) (g.W.Write.contents c.write.new.self) (codes "\\x" ++ digits)))
    (hex_byte false c.args.octet c.ranges.octet.fits) (rw (c.laid_out.ensures, c.in_radix.ensures) at c.write.ensures.bytes)
