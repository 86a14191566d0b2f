-- The limiter, a program for POINT 2: its worked examples, cited, and the first of them, which is used of the function that writes its output.
use mathlib.Core.Path.{◌≡◌, refl}
use mathlib.Core.List.{[], ◌∷◌}
use lib.ListN.{length}
use Rattle.text.specs.Examples.{AllPrinted}
use Rattle.readout.specs.Output.{output_of}
use Rattle.readout.specs.Examples.{examples}
use Rattle.readout.proofs.Examples as readout
use Rattle.requests.specs.Limiter.{output}

examples_printed : AllPrinted output_of examples
examples_printed = readout.examples_printed

examples_count : length examples ≡ 11
examples_count = refl

-- these bytes, that output, whole
pub example_printed : output_of (2 ∷ 0 ∷ 0 ∷ 0 ∷ 4 ∷ 0 ∷ 0 ∷ 0 ∷ 3 ∷ 0 ∷ 0 ∷ 0 ∷ 1 ∷ 0 ∷ 0 ∷ 0 ∷ 2 ∷ 0 ∷ 0 ∷ 0 ∷ 2 ∷ 0 ∷ 0 ∷ 0 ∷ []) ≡ output
example_printed = let e = readout.examples_printed in cc
