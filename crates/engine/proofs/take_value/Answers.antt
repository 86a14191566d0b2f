-- `engine::take_value` meets its contract. What the lengths and the last position refuse is refused; behind that every minimum is lowered by the value at the next
-- position, which is the law `value_done`. The session's parts are then the next position, the value, the count as it was and the standing after a Value.
use mathlib.Core.Path.{refl, sym, ap}
use mir.Facts.{to_z-of_z}
use Rattle.history.proofs.Outcomes.{handed_on}
use Rattle.history.specs.declared.Transition.{Transition}
use Rattle.engine.proofs.Doing.{does_lent, does_with}
use Rattle.engine.proofs.Valued.{value_last, value_done}
use Rattle.engine.proofs.take_value.Goals as goal

pub returns-in_err-lent : goal.returns-in_err-lent
returns-in_err-lent c = rw (handed_on _ _ c.from_residual.ensures.1) (does_lent _ _ _ _ c.in_err-lent.ensures)

pub returns-in_err-next : goal.returns-in_err-next
returns-in_err-next c =
    rw (handed_on _ _ c.from_residual-in_err-next.ensures.1) (value_last _ _ _ c.in_ok-lent.ensures _ c.in_err-next.ensures.refused)

pub returns : goal.returns
returns c =
    let v = to_z-of_z c.ranges.v in
    let n = c.in_ok-next.ensures.next in
    does_with n v refl (ap (λ (x : Transition). x.after) c.transition_of-transition.ensures)
    (value_done _ _ _ c.in_ok-lent.ensures _ (sym c.in_ok-next.ensures.refused) (rw (v, n) at c.value.ensures))
