-- `demands::filling` meets its contract: its calls are put before one another, from the last to the first.
use Rattle.std.proofs.Common.{rules}
use Rattle.runs.proofs.Calling.{none_left}
use Rattle.demands.proofs.Calling.{own_then}
use Rattle.demands.proofs.filling.Goals as goal

pub returns : goal.returns
returns c =
    own_then (search rules) c.value-value.ensures
    (λ l. own_then l c.mark-full.ensures
    (λ l. own_then l c.close-close.ensures
    (λ l. own_then l c.apply-closed.ensures
    (λ l. own_then l c.apply-mark.ensures
    (λ l. own_then l c.close-again.ensures
    (λ l. own_then l c.mark-last.ensures (λ _. none_left)))))))
