-- `ranges::close_carried` meets its contract: what `find` finds in the next lane is closed. Of fewer words than a header's the lane read is empty, and nothing is found in it.
use Rattle.ranges.proofs.Ways.{strikes_nothing, strikes}
use Rattle.ranges.proofs.close_carried.Goals as goal

pub returns-in_default : goal.returns-in_default
returns-in_default c = strikes_nothing c.read-e.ensures c.find.ensures c.in_default.is

pub returns-in-Some : goal.returns-in-Some
returns-in-Some c = strikes c.read-e.ensures c.find.ensures _ c.in-Some.is c.release.ensures
