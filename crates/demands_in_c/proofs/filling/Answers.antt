-- `demands_in_c::filling` meets its contract: its calls are put before one another, from the last to the first.
use Rattle.std.proofs.Common.{rules}
use Rattle.runs.proofs.Calling.{none_left}
use Rattle.demands_in_c.proofs.Calling.{own_then}
use Rattle.demands_in_c.proofs.filling.Goals as goal

pub returns : goal.returns
returns c =
    own_then (search rules) c.filkotar_value-value.ensures
    (λ l. own_then l c.filkotar_mark-full.ensures
    (λ l. own_then l c.filkotar_close-close.ensures
    (λ l. own_then l c.filkotar_query-closed.ensures
    (λ l. own_then l c.filkotar_mark-mark.ensures
    (λ l. own_then l c.filkotar_close-again.ensures
    (λ l. own_then l c.filkotar_mark-last.ensures (λ _. none_left)))))))
