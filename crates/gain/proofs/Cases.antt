-- The entry of a value that is behind both of the function's tests, and the order of the gains over all values. The bound of the second test is whatever the code has: what is asked of it
-- is a premise.
use mathlib.Core.Path.{◌≡◌, sym}
use mathlib.Core.Bool.{false}
use mathlib.Core.Logic.{inl, inr}
use Prim.Native.Nat.{ℕ, suc, ◌≤◌, ◌<◌, zero-le}
use native.Mathlib.Nat.{le_refl}
use native.Mathlib.Omega.{arith}
use lib.Dec.{leb→le}
use lib.IntN.{ℤ, pos, negsuc, nat_abs}
use lib.Signed.{le_z, lt_z, ◌≤ℤ◌}
use borrow.Author.Tests.{ltb-false, le-leb, lt-leb}
use Rattle.laws.proofs.Tests.{clash, lt_or_ge}
use Rattle.gain.specs.Gains.{entry_of, gain_of}
use Rattle.gain.proofs.Rule.{entries_never_rise, entry_at_most}

-- the gain of -n: an entry where n is at most 240, and else 0
pub with_entry : (k : ℕ) → suc k ≤ 240 → gain_of (negsuc k) ≡ entry_of (suc k)
with_entry k h = rw (le-leb (suc k) 240 h)

pub without_entry : (k : ℕ) → 240 < suc k → gain_of (negsuc k) ≡ 0
without_entry k h = rw (lt-leb (suc k) 240 h)

-- a value below 0, and not below a bound of -240 or more, has the entry of its size
pub between : (v : ℤ) {b : ℕ} → suc b ≤ 240 → le_z (pos 0) v ≡ false → lt_z v (negsuc b) ≡ false → entry_of (nat_abs v) ≡ gain_of v
between (pos n) h e f = clash (le-leb 0 n zero-le) e
between (negsuc k) {b} h e f = sym (with_entry k (omega (arith, ltb-false b k f)))

-- no gain is above 32,768
pub gain_at_most : (v : ℤ) → gain_of v ≤ 32768
gain_at_most (pos n) = le_refl 32768
gain_at_most (negsuc k) = elim (lt_or_ge 240 (suc k)) [
  | inl h ↦ rw (without_entry k h) zero-le
  | inr h ↦ rw (with_entry k h) (entry_at_most (suc k))
]

-- the gain never falls as the value grows
pub gain_never_falls : (v w : ℤ) → v ≤ℤ w → gain_of v ≤ gain_of w
gain_never_falls v (pos m) h = gain_at_most v
gain_never_falls (pos n) (negsuc m) h = absurd h.le
gain_never_falls (negsuc k) (negsuc m) h = elim (lt_or_ge 240 (suc k)) [
  | inl s ↦ rw (without_entry k s) zero-le
  | inr s ↦
      let l : m ≤ k = leb→le m k h.le in
      rw (with_entry k s, with_entry m (omega arith)) (entries_never_rise (suc m) (suc k) (omega arith))
]
