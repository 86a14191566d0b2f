-- `demands_in_c::marking` meets its contract: its calls are put before those of `elsewhere`.
use Rattle.std.proofs.Common.{rules}
use Rattle.demands_in_c.proofs.Calling.{own_then}
use Rattle.demands_in_c.proofs.marking.Goals as goal

pub returns : goal.returns
returns c =
    own_then (search rules) c.filkotar_mark-early.ensures
    (λ l. own_then l c.filkotar_value-value.ensures
    (λ l. own_then l c.filkotar_mark-mark.ensures
    (λ l. own_then l c.filkotar_mark-again.ensures (λ _. c.elsewhere.ensures))))
