-- `rough::look_at_entries` meets its contract: three parts, one after the other.
use Rattle.rough.proofs.Budgets.{entries_seen}
use Rattle.rough.proofs.look_at_entries.Goals as goal

pub returns : goal.returns
returns c =
    entries_seen c.args.before.now c.args.inside.now c.args.behind.now c.args.budget c.look-left.result c.look-whole.result c.look-right.result c.lower.result c.lower-2.result
    c.look-left.ensures c.look-whole.ensures c.look-right.ensures c.lower.ensures c.lower-2.ensures
