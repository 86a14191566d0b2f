-- `ranges::value` meets its contract: the active lane's stack has lowered every entry above the value, which is the law `value_done`.
use native.Mathlib.Omega.{arith}
use Rattle.ranges.proofs.Promises.{value_done}
use Rattle.ranges.proofs.value.Goals as goal

pub returns : goal.returns
returns c =
    rw c.height.ensures.0 (value_done _ _ _ _ _ _ (omega arith) (c.read-active.ensures.own (omega arith)) c.pack.ensures.0 c.pack.ensures.1 c.lower-top.ensures)
