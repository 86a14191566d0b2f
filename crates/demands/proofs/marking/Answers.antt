-- `demands::marking` meets its contract: its calls are put before those of `elsewhere`.
use Rattle.std.proofs.Common.{rules}
use Rattle.demands.proofs.Calling.{own_then}
use Rattle.demands.proofs.marking.Goals as goal

pub returns : goal.returns
returns c =
    own_then (search rules) c.mark-early.ensures
    (λ l. own_then l c.value-value.ensures
    (λ l. own_then l c.mark-mark.ensures
    (λ l. own_then l c.mark-again.ensures (λ _. c.elsewhere.ensures))))
