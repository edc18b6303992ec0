use Rattle.office.proofs.transaction.plain_reply.Goals as goal

pub returns-in-Stat-clause-said : goal.returns-in-Stat-clause-said
returns-in-Stat-clause-said c = λ d kept lies. rw c.in-Stat.is (c.drop_listing.ensures.said c.args.policy.now d kept lies)

pub returns-in-Dele-clause-said : goal.returns-in-Dele-clause-said
returns-in-Dele-clause-said c = λ d kept lies. rw c.in-Dele.is (c.delete.ensures.said d kept lies)

pub returns-in-Rset-clause-said : goal.returns-in-Rset-clause-said
returns-in-Rset-clause-said c = λ d kept lies. rw c.in-Rset.is (c.reset.ensures.said c.args.policy.now d kept lies)

pub returns-in-List-Some-clause-said : goal.returns-in-List-Some-clause-said
returns-in-List-Some-clause-said c =
    let some = rw c.in-List-Some.is at c.in-List-Some.field-0-is in
    λ d kept lies. rw (c.in-List-Some.is, some) (c.scan_line.ensures.said c.args.policy.now d kept lies)

pub returns-in-Uidl-Some-clause-said : goal.returns-in-Uidl-Some-clause-said
returns-in-Uidl-Some-clause-said c =
    let some = rw c.in-Uidl-Some.is at c.in-Uidl-Some.field-0-is in
    λ d kept lies. rw (c.in-Uidl-Some.is, some) (c.uid_line.ensures.said c.args.policy.now d kept lies)
