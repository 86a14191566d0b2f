-- A hash bucket is one of the buckets: what is below 2 ^ 32, times c and divided by 2 ^ 32, is below c.
use Prim.Native.Nat.{ℕ, ◌+◌, ◌*◌, ◌/◌, ◌%◌, ◌<◌}
use native.Mathlib.Nat.{mul-lt-mul_of_pos_right, mod-lt}
use native.Mathlib.Omega.{arith}
use lib.Dec.{lit<}
use Rattle.history.specs.declared.Position.{Position}
use Rattle.layout.specs.declared.Held.{Held}
use Rattle.table.specs.Marks.{bucket_of}

-- a number modulo 2 ^ 32, scaled by c, is below 2 ^ 32 scaled by c
pub scaled : (x c : ℕ) → 0 < c → x % 4294967296 * c < 4294967296 * c
scaled x c h = mul-lt-mul_of_pos_right (mod-lt x (lit< tt)) h

-- a position's bucket is below the number of buckets
pub bucket_below : (p : Position) (c : Held) → 0 < c.0 → bucket_of p c < c.0
bucket_below p c h = omega (arith, scaled ((p.0 + p.0 / 2048) * 2654435769) c.0 h)
