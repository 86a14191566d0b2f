-- The text of a signed value, with or without a minus sign.
use mathlib.Core.Path.{◌≡◌, refl, subst}
use mathlib.Core.Bool.{true, false}
use mathlib.Core.List.{[], ◌∷◌}
use Prim.Native.Nat.{◌≤◌}
use native.Mathlib.Omega.{arith}
use lib.Dec.{T}
use lib.IntN.{ℤ, pos, negsuc, nat_abs}
use lib.Signed.{lt_z}
use lib.ListN.{length}
use borrow.Author.Tests.{ltb-true}
use mir.Syntax.{w32}
use mir.Val.{SFits}
use Rattle.signed.proofs.Size.{size_small}
use Rattle.text.specs.Writing.{digits_within, decimal_of, signed_text}
use Rattle.text.proofs.Decimals.{within}

-- below zero, a minus sign and the size
pub minus_text : (v : ℤ) → lt_z v (pos 0) ≡ true → signed_text v ≡ 45 ∷ decimal_of (nat_abs v)
minus_text (pos n) e = absurd (omega (arith, ltb-true n 0 e))
minus_text (negsuc n) e = refl

-- from zero on, the size alone
pub plain_text : (v : ℤ) → lt_z v (pos 0) ≡ false → signed_text v ≡ decimal_of (nat_abs v)
plain_text (pos n) e = refl
plain_text (negsuc n) e = absurd (subst T e tt)

-- a size has no more than ten digits
pub size_few : (v : ℤ) → SFits w32 v → length (decimal_of (nat_abs v)) ≤ 10
size_few v fits = within 20 9 (nat_abs v) (omega (arith, size_small v fits))

-- and its value's text has no more than eleven bytes
pub signed_few : (v : ℤ) → SFits w32 v → length (signed_text v) ≤ 11
signed_few (pos n) fits = omega (arith, size_few (pos n) fits)
signed_few (negsuc n) fits = omega (arith, size_few (negsuc n) fits)

-- the least value's, which is the longest: "-2147483648"
pub least : signed_text (negsuc 2147483647) ≡ 45 ∷ 50 ∷ 49 ∷ 52 ∷ 55 ∷ 52 ∷ 56 ∷ 51 ∷ 54 ∷ 52 ∷ 56 ∷ []
unfolding digits_within
least = refl
