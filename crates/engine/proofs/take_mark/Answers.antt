-- `engine::take_mark` meets its contract. What the lengths refuse is refused, and what the standing has against a Mark, which is told from the transition's `due`. Where the count is K the
-- board is full; where it is more than any opening allows, the session is no history's. Else the position joins the marks, which is the law `mark_done`, with the minimum that `at_present`
-- makes of the session.
use mathlib.Core.Path.{refl, sym, ap, ◌∙◌}
use native.Mathlib.Omega.{arith}
use Rattle.std.proofs.Common.{rules}
use Rattle.history.proofs.Outcomes.{handed_on}
use Rattle.history.specs.declared.Transition.{Transition}
use Rattle.engine.proofs.Doing.{does_lent, does_with}
use Rattle.engine.proofs.Marking.{allowed, mark_refused, mark_full, mark_foreign, mark_done}
use Rattle.engine.proofs.take_mark.Goals as goal

pub returns-in_err-lent : goal.returns-in_err-lent
returns-in_err-lent c = rw (handed_on _ _ c.from_residual.ensures.1) (does_lent _ _ _ _ c.in_err-lent.ensures)

pub returns-in-Some : goal.returns-in-Some
returns-in-Some c = mark_refused _ _ c.in_ok-lent.ensures _ (sym (ap (λ (x : Transition). x.due) c.transition_of-transition.ensures) ∙ c.in-Some.is)

pub returns-then-s : goal.returns-then-s
returns-then-s c = mark_full _ _ c.in_ok-lent.ensures _ (allowed c.transition_of-transition.ensures c.in_default.is) (omega arith)

pub returns-then-s-ge-MOST_MARKS : goal.returns-then-s-ge-MOST_MARKS
returns-then-s-ge-MOST_MARKS c =
    mark_foreign _ _ c.in_ok-lent.ensures _ (allowed c.transition_of-transition.ensures c.in_default.is) (omega arith) (omega arith)

pub returns : goal.returns
returns c =
    does_with refl (search rules) refl refl
    (mark_done _ _ c.in_ok-lent.ensures _ (allowed c.transition_of-transition.ensures c.in_default.is) _ (omega arith) (omega arith) (rw c.at_present.ensures at c.mark.ensures))
