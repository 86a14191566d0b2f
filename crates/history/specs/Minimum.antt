-- Document 01's "dip": "the least of the values", "and its place".
use Rattle.history.specs.declared.Position.{Position}
use Rattle.history.specs.declared.RangeMinimum.{RangeMinimum}

-- a range minimum of a stream: its place is a position
abbrev pub Minimum : Type 0
Minimum = RangeMinimum Position
