-- The examples are right: the whole output computes to them.
use mathlib.Core.Path.{refl}
use Rattle.history.specs.Minima.{lowest}
use Rattle.numbers.specs.FourBytes.{values_from}
use Rattle.text.specs.Writing.{digits_within}
use Rattle.text.specs.Examples.{AllPrinted}
use Rattle.readout.specs.Output.{output_of}
use Rattle.readout.specs.Examples.{examples}

-- THE EXAMPLES, all of the list
pub examples_printed : AllPrinted output_of examples
unfolding digits_within lowest values_from
examples_printed = refl
