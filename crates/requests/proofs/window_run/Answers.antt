-- `requests::window_run` meets its contract: it opens four words and makes the calls of the run.
use mathlib.Core.Path.{◌∙◌}
use mathlib.Core.Logic.{inr}
use Prim.Native.Nat.{ℕ}
use native.Mathlib.Omega.{arith}
use lib.ListN.{length-replicate}
use Rattle.requests.specs.Witness.{lines}
use Rattle.requests.proofs.Running.{own_then, other_then, run_exists, lines_computed}
use Rattle.requests.proofs.window_run.Goals as goal

pub returns : goal.returns
returns c =
    run_exists 2 4 lines (length-replicate {A = ℕ} 4 7) c.open-opened.ensures
    (own_then (λ e. omega arith) (c.open-opened.ensures.any.long ∙ length-replicate {A = ℕ} 4 7) c.value-first.ensures
    (λ l. other_then 5 (inr (λ e. omega (arith, length-replicate {A = ℕ} 5 7))) (length-replicate {A = ℕ} 5 7) c.value-longer.ensures
    (own_then (λ e. omega arith) l c.value-second.ensures (λ _. c.leave.ensures))))
    lines_computed
