-- Which refusal is due, by the tests of the code.
use mathlib.Core.Path.{◌≡◌}
use Prim.Native.Nat.{ℕ, ◌<◌, ◌≤◌}
use borrow.Author.Tests.{le-leb, lt-leb, lt-ltb, le-ltb}
use Rattle.blocks.specs.Takes.{range_refusal}

-- "14 when i exceeds j", "or j is not below the take's length", and else none
pub exceeds : (n i j : ℕ) → j < i → range_refusal n i j ≡ 14
exceeds n i j l = simp (lt-ltb j i l)

pub not_below : (n i j : ℕ) → i ≤ j → n ≤ j → range_refusal n i j ≡ 14
not_below n i j l m = simp (le-ltb j i l, le-leb n j m)

pub in_range : (n i j : ℕ) → i ≤ j → j < n → range_refusal n i j ≡ 0
in_range n i j l m = simp (le-ltb j i l, lt-leb n j m)
