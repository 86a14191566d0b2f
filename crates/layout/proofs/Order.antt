-- The order of positions, of rows and of places. Assumes nothing: each law is one of the numbers that they are.
use mathlib.Core.Path.{◌≡◌, ap}
use mathlib.Core.Logic.{◌⊎◌, inl, inr}
use Prim.Native.Nat.{ℕ}
use native.Mathlib.Omega.{arith}
use Rattle.laws.proofs.Tests.{lt_or_ge, neither_below}
use Rattle.history.specs.declared.Position.{Position}
use Rattle.layout.specs.declared.Held.{Held}
use Rattle.layout.specs.declared.Place.{Place}
use Rattle.layout.specs.Words.{Earlier, NotLater, Lower, NotHigher, Under, NotAbove}

-- OF TWO, the one comes before the other, or the other does not come after it
pub earlier_or_not : (p q : Position) → Earlier p q ⊎ NotLater q p
earlier_or_not p q = elim (lt_or_ge p.0 q.0) [ inl l ↦ inl (omega arith) | inr l ↦ inr (omega arith) ]

pub lower_or_not : (g h : Held) → Lower g h ⊎ NotHigher h g
lower_or_not g h = elim (lt_or_ge g.0 h.0) [ inl l ↦ inl (omega arith) | inr l ↦ inr (omega arith) ]

pub under_or_not : (t u : Place) → Under t u ⊎ NotAbove u t
under_or_not t u = elim (lt_or_ge t.0 u.0) [ inl l ↦ inl (omega arith) | inr l ↦ inr (omega arith) ]

-- THROUGH A SECOND: the orders go on from a first to a third, and where one of the two steps is strict, so is the whole
pub not_later_through : {p q r : Position} → NotLater p q → NotLater q r → NotLater p r
not_later_through l m = omega arith

pub lower_through : {f g h : Held} → Lower f g → NotHigher g h → Lower f h
lower_through l m = omega arith

pub under_through : {s t u : Place} → NotAbove s t → Under t u → Under s u
under_through l m = omega arith

-- ONE AND THE SAME: rows with one number, and places of which neither is under the other
pub same_held : {g h : Held} → g.0 ≡ h.0 → g ≡ h
same_held e = ap (λ (n : ℕ). record { 0 = n }) e

pub one_place : {t u : Place} → (Under t u → ⊥) → (Under u t → ⊥) → t ≡ u
one_place {t} {u} l m = ap (λ (n : ℕ). record { 0 = n }) (neither_below {a = t.0} {b = u.0} l m)
