-- `ranges::mark` meets its contract: a turn, where the active lane is full, the mark's row, and the mark's share of the merge, which is the law `mark_done`.
use native.Mathlib.Omega.{arith}
use Rattle.ranges.proofs.Promises.{mark_done}
use Rattle.ranges.proofs.mark.Goals as goal

pub returns : goal.returns
returns c =
    mark_done _ _ _ _ _ _ _ _ (omega arith) c.turn.ensures c.pack.ensures.0 c.pack.ensures.1 c.join.ensures c.merge.ensures
