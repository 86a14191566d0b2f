-- `demands::example` meets its contract: the bytes are the example's, and what is written of them is the whole output, which computes to the example's.
use mathlib.Core.Path.{◌∙◌}
use Rattle.transcript.proofs.Examples.{example_printed}
use Rattle.demands.proofs.example.Goals as goal

pub returns : goal.returns
returns c = c.write.ensures.out_after ∙ example_printed
