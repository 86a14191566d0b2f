-- Document 02, point 3: "the least value from i to j" with its place, an offset of the take.
use Rattle.history.specs.declared.RangeMinimum.{RangeMinimum}
use Rattle.blocks.specs.declared.Offset.{Offset}

abbrev pub Found : Type 0
Found = RangeMinimum Offset
