-- `listing::write` meets its contract. The check finds this alone; where other bytes are read, this says so at once.
use Rattle.listing.proofs.Whole.{all_read}
use Rattle.listing.proofs.write.Goals as goal

pub returns-clause-prints : goal.returns-clause-prints
returns-clause-prints c = all_read c.new-page.ensures.nothing (rw c.new.ensures at c.play.ensures)
