-- The size of a signed value of 32 bits is at most 2 ^ 31.
use Prim.Native.Nat.{◌≤◌}
use native.Mathlib.Omega.{arith}
use lib.IntN.{ℤ, pos, negsuc, nat_abs}
use mir.Syntax.{w32}
use mir.Val.{SFits}

-- no size is over 2 ^ 31
pub size_small : (v : ℤ) → SFits w32 v → nat_abs v ≤ 2147483648
size_small (pos n) f = omega (arith, f.sfits)
size_small (negsuc n) f = omega (arith, f.sfits)
