-- Positions in a list of one or none, and in two lists joined: those that are among them, and those that are left when one is struck.
use mathlib.Core.Path.{◌≡◌, refl, sym, ap}
use mathlib.Core.Bool.{Bool, true, false, cond, ◌||◌, or_assoc, or-false, false≢true}
use mathlib.Core.List.{List, [], ◌∷◌, ◌++◌}
use Prim.Native.Nat.{◌≤◌}
use native.Mathlib.Omega.{arith}
use lib.Dec.{eqb}
use lib.ListN.{length}
use borrow.Author.Tests.{eq-eqb, ne_eqb, eqb-true}
use Rattle.history.specs.declared.Position.{Position}
use Rattle.history.specs.Histories.{among, without}

-- a position, unless the test holds
abbrev pub unless : Bool → Position → List Position
unless t a = cond t [] (a ∷ [])

-- that is at most one
pub length_unless : (t : Bool) (a : Position) → length (unless t a) ≤ 1
length_unless true a = omega arith
length_unless false a = omega arith

-- what is among it is the position, and the test fails
pub among-unless : (t : Bool) (p a : Position) → among p (unless t a) ≡ true → (t ≡ false) × (a.0 ≡ p.0)
among-unless true p a e = absurd (false≢true e)
among-unless false p a e = (refl, sym (eqb-true p.0 a.0 (rw or-false at e)))

-- striking another position leaves it
pub without_other : (t : Bool) (p a : Position) → (p.0 ≡ a.0 → ⊥) → without p (unless t a) ≡ unless t a
without_other true p a n = refl
without_other false p a n = simp (ne_eqb _ _ n)

-- striking the position leaves nothing
pub without_same : (t : Bool) (p a : Position) → p.0 ≡ a.0 → without p (unless t a) ≡ []
without_same true p a e = refl
without_same false p a e = simp (eq-eqb _ _ e)

-- a position is among both where it is among one of them
pub among-append : (p : Position) (xs ys : List Position) → among p (xs ++ ys) ≡ among p xs || among p ys
among-append p [] ys = refl
among-append p (a ∷ xs) ys = rw (among-append p xs ys) (sym (or_assoc (eqb p.0 a.0) (among p xs) (among p ys)))

-- a choice before the seam is a choice of the first list
choice_append : (t : Bool) (a : Position) (xs ys : List Position) → cond t (xs ++ ys) (a ∷ (xs ++ ys)) ≡ cond t xs (a ∷ xs) ++ ys
choice_append true a xs ys = refl
choice_append false a xs ys = refl

-- a position is struck from both by striking it from each
pub without-append : (p : Position) (xs ys : List Position) → without p (xs ++ ys) ≡ without p xs ++ without p ys
without-append p [] ys = refl
without-append p (a ∷ xs) ys = rw (without-append p xs ys) (choice_append (eqb p.0 a.0) a (without p xs) (without p ys))

-- a choice between one position more and none: what it is where the test fails, and how long it is at most
kept_one : (t u : Bool) (q : Position) (qs rest : List Position) → t || u ≡ false → (u ≡ false → rest ≡ qs) → cond t rest (q ∷ rest) ≡ q ∷ qs
kept_one true u q qs rest e f = absurd (false≢true (sym e))
kept_one false u q qs rest e f = ap (λ (ps : List Position). q ∷ ps) (f e)

one_at_most : (t : Bool) (q : Position) (qs rest : List Position) → length rest ≤ length qs → length (cond t rest (q ∷ rest)) ≤ length (q ∷ qs)
one_at_most true q qs rest l = omega arith
one_at_most false q qs rest l = omega arith

-- a position that is not there is not there to strike
pub without_none : (p : Position) (qs : List Position) → among p qs ≡ false → without p qs ≡ qs
without_none p [] e = refl
without_none p (q ∷ qs) e = kept_one (eqb p.0 q.0) (among p qs) q qs (without p qs) e (without_none p qs)

-- no more are left
pub without_fewer : (p : Position) (qs : List Position) → length (without p qs) ≤ length qs
without_fewer p [] = omega arith
without_fewer p (q ∷ qs) = one_at_most (eqb p.0 q.0) q qs (without p qs) (without_fewer p qs)
