-- The demands, of the five exported functions themselves, as their contracts stand in the source.
use Rattle.firmware.specs.Demands.{Demand1InC, Demand3InC}
use Rattle.firmware.proofs.Theorem as theorem
use Rattle.firmware.proofs.Tied.{Opened, Called, opens, does}

-- DEMAND 1, with what the checker shows of every function: it stays in bounds, and it ends
pub demand_1 : Demand1InC Opened Called
demand_1 = theorem.demand_1 Opened Called opens does

-- DEMAND 3, and demand 2 in it
pub demand_3 : Demand3InC Opened Called
demand_3 = theorem.demand_3 Opened Called opens does
