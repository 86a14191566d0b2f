-- `Stored::follow` meets its contract. The loop's invariant: the requests before those that are still behind are answered in turn, and the lines written are theirs.
use Rattle.listing.specs.Input.{requests_behind}
use Rattle.listing.proofs.Requests.{Reached}
use Rattle.listing.proofs.Stored.follow.Given as goal

abbrev pub invariant-loop-request : goal.invariant-loop-request
invariant-loop-request l =
    Reached l.initial.self (requests_behind l.fn.requests.at l.fn.requests.bytes.now) (requests_behind l.request-iterator.at l.request-iterator.bytes.now) l.self l.initial.page l.page l.read
