-- Point 6, of the function itself, as its contract stands in the source.
use Rattle.rough.specs.Promises.{Point6}
use Rattle.rough.proofs.Point as point
use Rattle.rough.proofs.Tied.{Read, reads}

-- POINT 6
pub point_6 : Point6 Read
point_6 = point.point_6 Read reads
