-- `stack::covering` meets its contract: the search ends at the first run above the bottom that starts after the row.
use Rattle.stack.proofs.Halving.{found}
use Rattle.stack.proofs.covering.Goals as goal

pub returns : goal.returns
returns c = let s = c.first_near_bottom.ensures in found c.requires.0 s.within s.here s.before
