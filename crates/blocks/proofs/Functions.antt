-- Point 3, of the three functions themselves, as their contracts stand in the source.
use Rattle.blocks.specs.Promises.{Point3}
use Rattle.blocks.proofs.Point as point
use Rattle.blocks.proofs.Tied.{Built, Searched, Stretched, builds, searches, stretches}

-- POINT 3
pub point_3 : Point3 Built Searched Stretched
point_3 = point.point_3 Built Searched Stretched builds searches stretches
