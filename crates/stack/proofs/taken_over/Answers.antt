-- `stack::taken_over` meets its contract: the search ends where the entry is above the word and the one before is not.
use Rattle.stack.proofs.Parting.{parted}
use Rattle.stack.proofs.taken_over.Goals as goal

pub returns : goal.returns
returns c = let s = c.first_near_top.ensures in parted s.within s.here s.before
