use Rattle.proxy.proofs.wire.+read_octets.Given as goal

abbrev pub decreases-read_octets : goal.decreases-read_octets
decreases-read_octets g l = l.left
