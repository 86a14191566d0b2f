-- Point 2, of the two functions themselves, as their contracts stand in the source.
use Rattle.window.specs.Claim.{EveryRun, EveryInput}
use Rattle.window.proofs.Theorem as theorem
use Rattle.window.proofs.Tied.{Opened, Valued, opens, does}

-- POINT 2, over the whole list
pub every_run : EveryRun Opened Valued
every_run = theorem.every_run Opened Valued opens does

-- and on any session and any words, with what the checker shows of every function: it stays in bounds, and it ends
pub every_input : EveryInput Opened Valued
every_input = theorem.every_input Opened Valued opens does
