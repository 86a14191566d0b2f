-- The order of ℤ as tests: `le_z` is reflexive, transitive and total, and `lt_z` is its negation, the other way round.
use mathlib.Core.Path.{◌≡◌, refl, sym, ap, ◌∙◌}
use mathlib.Core.Bool.{true, false, not}
use mathlib.Core.Logic.{⊎_elim}
use Prim.Native.Nat.{ℕ, ◌<◌, ◌≤◌}
use native.Mathlib.Omega.{arith}
use lib.Dec.{leb, ltb}
use lib.IntN.{ℤ, pos, negsuc}
use lib.Signed.{le_z, lt_z}
use borrow.Author.Tests.{leb-true, leb-false, le-leb, lt-leb, lt-ltb, le-ltb}
use Rattle.laws.proofs.Tests.{clash, lt_or_ge}

pub le_z_refl : (a : ℤ) → le_z a a ≡ true
le_z_refl (pos a) = le-leb a a (omega arith)
le_z_refl (negsuc a) = le-leb a a (omega arith)

pub le_z_trans : (a b c : ℤ) → le_z a b ≡ true → le_z b c ≡ true → le_z a c ≡ true
le_z_trans (pos a) (pos b) (pos c) h k = le-leb a c (omega (arith, leb-true a b h, leb-true b c k))
le_z_trans (pos a) (pos b) (negsuc c) h k = k
le_z_trans (pos a) (negsuc b) c h k = clash refl (sym h)
le_z_trans (negsuc a) b (pos c) h k = refl
le_z_trans (negsuc a) (pos b) (negsuc c) h k = clash refl (sym k)
le_z_trans (negsuc a) (negsuc b) (negsuc c) h k = le-leb c a (omega (arith, leb-true b a h, leb-true c b k))

-- two values of which each is at most the other are equal
pub le_z_antisym : (a b : ℤ) → le_z a b ≡ true → le_z b a ≡ true → a ≡ b
le_z_antisym (pos a) (pos b) h k = let e : a ≡ b = omega (arith, leb-true a b h, leb-true b a k) in ap pos e
le_z_antisym (pos a) (negsuc b) h k = clash refl (sym h)
le_z_antisym (negsuc a) (pos b) h k = clash refl (sym k)
le_z_antisym (negsuc a) (negsuc b) h k = let e : a ≡ b = omega (arith, leb-true b a h, leb-true a b k) in ap negsuc e

-- of two values one is at most the other
pub le_z_total : (a b : ℤ) → le_z a b ≡ false → le_z b a ≡ true
le_z_total (pos a) (pos b) h = le-leb b a (omega (arith, leb-false a b h))
le_z_total (pos a) (negsuc b) h = refl
le_z_total (negsuc a) (pos b) h = clash refl h
le_z_total (negsuc a) (negsuc b) h = le-leb a b (omega (arith, leb-false b a h))

-- a number is below another where the other is not at most it, and so is a value
ltb_leb : (a b : ℕ) → ltb a b ≡ not (leb b a)
ltb_leb a b = ⊎_elim (λ (l : a < b). lt-ltb a b l ∙ sym (ap not (lt-leb b a l))) (λ (l : b ≤ a). le-ltb a b l ∙ sym (ap not (le-leb b a l))) (lt_or_ge a b)

pub lt_z_le_z : (a b : ℤ) → lt_z a b ≡ not (le_z b a)
lt_z_le_z (pos a) (pos b) = ltb_leb a b
lt_z_le_z (pos a) (negsuc b) = refl
lt_z_le_z (negsuc a) (pos b) = refl
lt_z_le_z (negsuc a) (negsuc b) = ltb_leb b a
