use Rattle.gain.proofs.Rule.{table_obeys}
use Rattle.gain.proofs.entry.Goals as goal

-- The list is read off the code, and not written down again: `search` finds it in the goal, and computes the rule's test over all of it, once, as the premise
-- of `table_obeys`.
pub returns : goal.returns
returns c = search (table_obeys, c.requires)
