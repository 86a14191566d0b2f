use borrow.Author.Rules.{rules}
use Rattle.listing.proofs.Requests.{reached_start, reached_more, reached_end}
use Rattle.listing.proofs.Stored.follow.Goals as goal

pub loop-request-init : goal.loop-request-init
loop-request-init c =
    let a = c.args in
    rw c.into_iter-request-iterator.ensures.into_iter_gives (reached_start a.self.now a.requests.bytes.now a.requests.at a.page.now a.requests.within a.requests.few)

pub loop-request-preserved : goal.loop-request-preserved
loop-request-preserved c = reached_more c.loop-request.invariant c.in-Some.ensures.steps c.perform.ensures.performs c.perform.ensures.few

pub returns-clause-follows : goal.returns-clause-follows
returns-clause-follows c = reached_end c.loop-request.invariant c.args.requests.within (search rules)
