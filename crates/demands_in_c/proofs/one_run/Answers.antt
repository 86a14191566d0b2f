-- `demands_in_c::one_run` meets its contract: it opens 640 words and makes the calls of the run.
use Prim.Native.Nat.{ℕ}
use lib.ListN.{length-replicate}
use Rattle.demands.specs.Witness.{lines}
use Rattle.demands_in_c.proofs.Existing.{lines_computed, run_exists}
use Rattle.demands_in_c.proofs.one_run.Goals as goal

pub returns : goal.returns
returns c = run_exists 640 lines (length-replicate {A = ℕ} 640 0) c.filkotar_open-opened.ensures c.marking.ensures lines_computed
