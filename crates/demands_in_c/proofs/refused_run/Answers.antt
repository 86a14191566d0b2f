-- `demands_in_c::refused_run` meets its contract: its calls are put before one another, after an opening that is refused.
use mathlib.Core.Path.{refl, ◌∙◌}
use Prim.Native.Nat.{ℕ}
use lib.ListN.{length-replicate}
use Rattle.demands.specs.Witness.{unopened}
use Rattle.runs.proofs.Calling.{none_left}
use Rattle.demands_in_c.proofs.Calling.{unopened_then}
use Rattle.demands_in_c.proofs.Existing.{run_exists}
use Rattle.demands_in_c.proofs.refused_run.Goals as goal

pub returns : goal.returns
returns c =
    run_exists 575 unopened (length-replicate {A = ℕ} 575 0) c.filkotar_open-opened.ensures
    (unopened_then (c.filkotar_open-opened.ensures.opens.long ∙ length-replicate {A = ℕ} 575 0) c.filkotar_value-value.ensures
    (unopened_then (length-replicate {A = ℕ} 640 0) c.filkotar_mark-mark.ensures none_left))
    refl
