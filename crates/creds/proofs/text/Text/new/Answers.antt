use Rattle.creds.proofs.TextLemmas.{HoldsText-over}
use Rattle.creds.proofs.text.Text.new.Goals as goal

pub invariant_of-result : goal.invariant_of-result
invariant_of-result g c = rw c.copy_from_slice.ensures.after (HoldsText-over g.row.N c.args.text.now c.requires.fits c.requires.ascii)
