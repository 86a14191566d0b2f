-- `requests::leave` meets its contract: its calls are put before one another, from the last to the first.
use mathlib.Core.Path.{refl}
use mathlib.Core.Logic.{inr}
use native.Mathlib.Omega.{arith}
use Rattle.std.proofs.Common.{rules}
use Rattle.runs.proofs.Calling.{none_left}
use Rattle.requests.proofs.Running.{own_then, other_then}
use Rattle.requests.proofs.leave.Goals as goal

pub returns : goal.returns
returns c =
    other_then 0 (inr (λ e. omega arith)) refl c.value-none.ensures
    (own_then (λ e. omega arith) (search rules) c.value-third.ensures
    (λ l. own_then (λ e. omega arith) l c.value-fourth.ensures (λ _. none_left)))
