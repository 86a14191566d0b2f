-- The demands, of the six functions themselves, as their contracts stand in the source.
use mathlib.Core.List.{List}
use mathlib.Core.Logic.{inl, inr}
use Prim.Native.Nat.{ℕ}
use Rattle.history.specs.declared.Session.{Session}
use Rattle.history.specs.declared.Command.{Command}
use Rattle.engine.specs.Answers.{Answer}
use Rattle.engine.specs.Demand.{Demand3}
use Rattle.engine.specs.Promises.{Demand1}
use Rattle.engine.specs.Consequences.{OnlyFours}
use Rattle.engine.specs.Calls.{Does}
use Rattle.engine.proofs.Theorem as theorem
use Rattle.engine.proofs.Tied.{Opened, Called, opens, does_own}

does : (s : Session) (c : Command) (lent left : List ℕ) (r : Answer) → Called s c lent left r → Does s c lent left r
does s c lent left r (inl d) = does_own s c lent left r d
does s c lent left r (inr (κs, x, d)) = d

-- DEMAND 1, with what the checker shows of every function: it stays in bounds, and it ends
pub demand_1 : Demand1 Opened Called
demand_1 = theorem.demand_1 Opened Called opens does

-- DEMAND 3, and demand 2 in it
pub demand_3 : Demand3 Opened Called
demand_3 = theorem.demand_3 Opened Called opens does

-- and what follows a refused opening
pub only_fours : OnlyFours Opened Called
only_fours = theorem.only_fours Opened Called opens does
