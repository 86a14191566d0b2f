-- `table::bucket` meets its contract: what is below 2 ^ 32, times c and divided by 2 ^ 32, is below c. The sum is taken modulo 2 ^ 32 before it is multiplied, too, which does not change the product
-- modulo 2 ^ 32.
use mathlib.Core.Path.{ap}
use Prim.Native.Nat.{ℕ, ◌+◌, ◌*◌, ◌/◌, ◌%◌}
use native.Mathlib.Omega.{arith}
use Rattle.std.proofs.lemmas.Nat.{mul-mod_first}
use Rattle.table.proofs.Buckets.{scaled}
use Rattle.table.proofs.bucket.Goals as goal

pub overflow_mul-result : goal.overflow_mul-result
overflow_mul-result c = omega (arith, scaled ((c.args.p.0 + c.args.p.0 / 2048) % 4294967296 * 2654435769) c.args.capacity.0 c.requires.0)

pub returns : goal.returns
returns c =
    let x = (c.args.p.0 + c.args.p.0 / 2048) % 4294967296 * 2654435769 in
    (omega (arith, scaled x c.args.capacity.0 c.requires.0), ap (λ (n : ℕ). n * c.args.capacity.0 / 4294967296) (mul-mod_first (c.args.p.0 + c.args.p.0 / 2048) 2654435769 4294967296))
