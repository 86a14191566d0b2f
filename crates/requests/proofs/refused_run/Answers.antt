-- `requests::refused_run` meets its contract: its calls are put before one another, after an opening that is refused.
use mathlib.Core.Path.{refl, ◌∙◌}
use mathlib.Core.Logic.{inl}
use Prim.Native.Nat.{ℕ}
use lib.ListN.{length-replicate}
use Rattle.runs.proofs.Calling.{none_left}
use Rattle.requests.specs.Witness.{unopened}
use Rattle.requests.proofs.Running.{other_then, run_exists}
use Rattle.requests.proofs.refused_run.Goals as goal

pub returns : goal.returns
returns c =
    run_exists 3 5 unopened (length-replicate {A = ℕ} 5 7) c.open-opened.ensures
    (other_then 5 (inl refl) (c.open-opened.ensures.any.long ∙ length-replicate {A = ℕ} 5 7) c.value-first.ensures
    (other_then 6 (inl refl) (length-replicate {A = ℕ} 6 7) c.value-second.ensures
    (other_then 0 (inl refl) refl c.value-third.ensures none_left)))
    refl
