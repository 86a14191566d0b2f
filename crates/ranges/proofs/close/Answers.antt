-- `ranges::close` meets its contract: the lane is chosen by the position, the mark's row is closed there and, where it stands still, in the next lane too, if it was carried.
use mathlib.Core.Path.{◌≡◌, sym, ◌∙◌}
use mathlib.Core.Bool.{false≢true}
use native.Mathlib.Omega.{arith}
use borrow.Author.Rules.{rules}
use Rattle.layout.specs.declared.Role.TheVariants.{Active}
use Rattle.ranges.proofs.Promises.{not_there, close_none, close_active, close_still}
use Rattle.ranges.proofs.close.Goals as goal

pub returns-in_default : goal.returns-in_default
returns-in_default c =
    close_none _ _
    (not_there _ _ _ _ (c.read-e.ensures.own (omega arith)) c.role_of-role.ensures _ c.find.ensures c.in_default.is)

pub returns-then-ne : goal.returns-then-ne
returns-then-ne c =
    close_still _ _ _ _ (c.read-e.ensures.own (omega arith)) c.role_of-role.ensures _ c.find.ensures _ c.in-Some.is _ c.release.ensures _
    (λ a. false≢true (sym (rw a at c.ne.ensures) ∙ c.if-ne.true)) c.close_carried.ensures

pub returns-else-ne : goal.returns-else-ne
returns-else-ne c =
    let a : c.role_of-role.result ≡ Active = search rules in
    close_active _ _ _ _ (c.read-e.ensures.own (omega arith)) c.role_of-role.ensures _ c.find.ensures _ c.in-Some.is _ c.release.ensures a
