-- `deque::clear` meets its contract: in words that have room, word 0 is the header of no entries.
use native.Mathlib.Omega.{arith}
use Rattle.deque.proofs.Arriving.{cleared}
use Rattle.deque.proofs.clear.Goals as goal

pub returns-then-area-gt0 : goal.returns-then-area-gt0
returns-then-area-gt0 c = cleared _ (omega arith)
