-- `deque::arrive` meets its contract: where the words have room, each way out is one law.
use Rattle.std.proofs.Common.{arith}
use Rattle.deque.proofs.Arriving.{arrived_alone, arrived_put}
use Rattle.deque.proofs.arrive.Goals as goal

pub returns-in-Some : goal.returns-in-Some
returns-in-Some c = arrived_put (omega arith) c.left.ensures _ c.in-Some.is c.put.ensures

pub returns-in-None : goal.returns-in-None
returns-in-None c = arrived_alone (omega arith) c.left.ensures c.in-None.is c.alone.ensures
