-- `requests::lookup_example` meets its contract: without a `set` what is written of the bytes is a function of them, which computes to the example's.
use Rattle.requests.proofs.Lookup.{example_printed}
use Rattle.requests.proofs.lookup_example.Goals as goal

pub returns : goal.returns
returns c = example_printed _ c.write.ensures.prints
