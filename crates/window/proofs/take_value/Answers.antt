-- `window::take_value` meets its contract. What the lengths refuse is refused; else the value has come to the deque, and those that are W older have left.
use Rattle.std.proofs.Math.Facts.{to_z-of_z}
use Rattle.history.proofs.Outcomes.{handed_on}
use Rattle.window.proofs.Doing.{does_lent, does_accepted}
use Rattle.window.proofs.take_value.Goals as goal

pub returns-in_err-lent : goal.returns-in_err-lent
returns-in_err-lent c = rw (handed_on _ _ c.from_residual.ensures.1) (does_lent _ _ _ _ c.in_err-lent.ensures)

pub returns : goal.returns
returns c = does_accepted _ _ _ c.in_ok-lent.ensures c.in_ok-next.ensures.refused _ c.in_ok-next.ensures.next (rw (to_z-of_z c.ranges.v) at c.arrive-least.ensures)
