-- `stack::least_at` meets its contract: with room and an entry, the place that `covering` finds is the row's, and its entry is read.
use Rattle.std.proofs.Common.{arith}
use Rattle.std.proofs.lemmas.Bool.Decides.{nat_tests}
use Rattle.stack.proofs.Looking.{seen}
use Rattle.stack.proofs.least_at.Goals as goal

pub returns : goal.returns
returns c = rw c.least.ensures (seen (c.has_room.ensures.yes c.if-not-has_room.false) (grind (arith, nat_tests)) c.covering.ensures)
