-- `demands::elsewhere` meets its contract: its calls are put before those of `filling`.
use mathlib.Core.Path.{refl}
use native.Mathlib.Omega.{arith}
use Rattle.std.proofs.Common.{rules}
use Rattle.demands.proofs.Calling.{own_then, other_then}
use Rattle.demands.proofs.elsewhere.Goals as goal

pub returns : goal.returns
returns c =
    other_then (λ e. omega arith) (search rules) c.value-longer.ensures
    (own_then (search rules) c.value-value.ensures
    (λ l. own_then l c.query-query.ensures
    (λ l. own_then l c.mark-mark.ensures
    (λ l. other_then (λ e. omega arith) refl c.query-none.ensures c.filling.ensures))))
