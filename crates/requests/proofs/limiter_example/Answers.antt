-- `requests::limiter_example` meets its contract: what is written of the bytes is the whole output, which computes to the example's.
use mathlib.Core.Path.{◌∙◌}
use Rattle.requests.proofs.Limiter.{example_printed}
use Rattle.requests.proofs.limiter_example.Goals as goal

pub returns : goal.returns
returns c = c.write.ensures.out_after ∙ example_printed
