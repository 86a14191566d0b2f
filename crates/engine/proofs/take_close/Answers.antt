-- `engine::take_close` meets its contract. What the lengths refuse is refused; a position that can be no active mark has none to close, and so has a session that counts none. Else the words
-- are asked to close the mark, which is the law `close_done`, and the standing after is that of a Close of the position that was given.
use mathlib.Core.Path.{refl, ap, ◌∙◌}
use native.Mathlib.Omega.{arith}
use Rattle.std.proofs.Common.{rules}
use Rattle.history.proofs.Outcomes.{handed_on}
use Rattle.history.specs.declared.Event.{Event}
use Rattle.history.specs.declared.Transition.{Transition}
use Rattle.history.specs.Standings.{transition_of}
use Rattle.engine.proofs.Doing.{does_lent, does_with}
use Rattle.engine.proofs.Asked.{a_close, asked_outside, close_lost, close_done}
use Rattle.engine.proofs.take_close.Goals as goal

pub returns-in_err-lent : goal.returns-in_err-lent
returns-in_err-lent c = rw (handed_on _ _ c.from_residual.ensures.1) (does_lent _ _ _ _ c.in_err-lent.ensures)

pub returns-then-not-within : goal.returns-then-not-within
returns-then-not-within c = asked_outside _ _ _ c.in_ok-lent.ensures _ a_close (c.within.ensures.no c.if-not-within.true)

pub returns-then-not-close : goal.returns-then-not-close
returns-then-not-close c = close_lost _ _ _ c.in_ok-lent.ensures _ _ c.close.ensures c.if-not-close.true

pub returns : goal.returns
returns c =
    let b = c.within.ensures.yes c.if-not-within.false in
    does_with refl (search rules) (omega arith)
    (ap (λ (x : Transition). x.after) (c.transition_of-transition.ensures ∙ ap (λ (x : Event). transition_of x c.args.s.standing) c.close_event.ensures))
    (close_done _ _ _ c.in_ok-lent.ensures _ _ c.close.ensures c.if-not-close.false b.0 b.1 (omega arith))
