-- `demands_in_c::elsewhere` meets its contract: its calls are put before those of `filling`.
use mathlib.Core.Path.{refl}
use native.Mathlib.Omega.{arith}
use Rattle.std.proofs.Common.{rules}
use Rattle.demands_in_c.proofs.Calling.{own_then, other_then}
use Rattle.demands_in_c.proofs.elsewhere.Goals as goal

pub returns : goal.returns
returns c =
    other_then (λ e. omega arith) (search rules) c.filkotar_value-longer.ensures
    (own_then (search rules) c.filkotar_value-value.ensures
    (λ l. own_then l c.filkotar_query-query.ensures
    (λ l. own_then l c.filkotar_mark-mark.ensures
    (λ l. other_then (λ e. omega arith) refl c.filkotar_query-none.ensures c.filling.ensures))))
