-- `Page::put_number` meets its contract: the fewest digits that hold a number of 64 bits are its decimal digits.
use mathlib.Core.Path.{◌≡◌}
use lib.ListN.{take}
use Rattle.text.specs.Writing.{decimal_of}
use Rattle.text.proofs.Decimals.{written}
use Rattle.text.proofs.Page.put_number.Goals as goal
use Rattle.text.proofs.Page.put_number.Goals.{After-decimal-k}

digits : (c : After-decimal-k) → take c.decimal-k.result c.decimal-k.new.out ≡ decimal_of c.args.n
digits c = written _ _ _ c.ranges.n.fits c.decimal-k.ensures.len c.decimal-k.ensures.digits

pub put-requires : goal.put-requires
put-requires c = rw (digits (goal.at.put-requires c).After-decimal-k) c.requires

pub returns : goal.returns
returns c = rw (digits (goal.at.returns c).After-decimal-k) at c.put.ensures
