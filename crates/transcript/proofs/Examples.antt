-- The examples are right: the whole output computes to them.
use mathlib.Core.Path.{refl}
use Rattle.history.specs.Minima.{lowest}
use Rattle.text.specs.Writing.{digits_within}
use Rattle.transcript.specs.Streams.{stream_from}
use Rattle.transcript.specs.Examples.{Printed, AllPrinted, example, endings}

-- DOCUMENT 01'S EXAMPLE: these bytes, that output, whole
pub example_printed : Printed example
unfolding digits_within stream_from lowest
example_printed = refl

-- THE OTHER ENDINGS, all of the list
pub endings_printed : AllPrinted endings
unfolding digits_within stream_from
endings_printed = refl
