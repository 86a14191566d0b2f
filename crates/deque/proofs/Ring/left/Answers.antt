-- `Ring::left` meets its contract: each way out is one law.
use Rattle.std.proofs.Common.{arith}
use Rattle.deque.proofs.Arriving.{left_none, left_full, left_some}
use Rattle.deque.proofs.Ring.left.Goals as goal

pub returns-in_err-ring : goal.returns-in_err-ring
returns-in_err-ring c = left_none c.without_gone.ensures c.in_err-ring.was c.from_residual.ensures

pub returns-then-slots-ring : goal.returns-then-slots-ring
returns-then-slots-ring c = left_full c.without_gone.ensures _ c.in_ok-ring.was (omega arith)

pub returns : goal.returns
returns c = left_some c.without_gone.ensures _ c.in_ok-ring.was (omega arith)
