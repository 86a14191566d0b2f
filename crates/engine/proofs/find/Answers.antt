-- `engine::find` meets its contract. What the lengths refuse is refused, and a position that can be no active mark; what the words have for another is told, which is the law `query_found`,
-- and where they have nothing it is refused, which is `query_refused`. Nothing is written.
use Rattle.history.proofs.Outcomes.{handed_on}
use Rattle.engine.proofs.Asked.{a_query, asked_outside, query_refused, query_found}
use Rattle.engine.proofs.find.Goals as goal

pub returns-then-not-within : goal.returns-then-not-within
returns-then-not-within c = asked_outside _ _ _ c.in_ok-lent.ensures _ a_query (c.within.ensures.no c.if-not-within.true)

pub returns-in_err-least : goal.returns-in_err-least
returns-in_err-least c =
    rw (handed_on _ _ c.from_residual-in_err-least.ensures.1) (query_refused _ _ _ c.in_ok-lent.ensures _ c.look_up.ensures _ c.in_err-least.ensures.value)

pub returns : goal.returns
returns c =
    let b = c.within.ensures.yes c.if-not-within.false in
    query_found _ _ _ c.in_ok-lent.ensures _ c.look_up.ensures _ c.in_ok-least.ensures.value b.0 b.1
