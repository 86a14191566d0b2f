-- `rough::look_at_values` meets its contract: two parts, one after the other.
use Rattle.rough.proofs.Budgets.{values_seen}
use Rattle.rough.proofs.look_at_values.Goals as goal

pub returns : goal.returns
returns c =
    values_seen c.args.before.now c.args.behind.now c.args.budget c.look-left.result c.look-right.result c.lower.result c.look-left.ensures c.look-right.ensures c.lower.ensures
