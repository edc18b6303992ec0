use Rattle.proxy.proofs.wire.sockets_were_asked.Goals as goal

pub returns : goal.returns
returns g c = λ calls h. rw (← h.asked) h.behind
