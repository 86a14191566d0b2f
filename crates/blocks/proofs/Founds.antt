-- The laws of what is found: of a range in two parts, and of a part of a take that is handed on.
use mathlib.Core.Path.{◌≡◌, refl, ap, ◌∙◌}
use mathlib.Core.Bool.{Bool, true, false, cond}
use mathlib.Core.List.{List, ◌++◌}
use Prim.Native.Nat.{ℕ, ◌+◌, ◌-◌, ◌<◌, ◌≤◌}
use native.Mathlib.Omega.{arith}
use lib.IntN.{ℤ}
use lib.ListN.{length, take, drop, length-take, length-drop}
use lib.Seq.{length-take-le, take-add}
use Rattle.history.specs.declared.Position.{Position}
use Rattle.history.specs.Minimum.{Minimum}
use Rattle.history.specs.Minima.{takes_over, lower, minimum}
use Rattle.history.proofs.Lowest.{minimum_least}
use Rattle.history.proofs.Parts.{moved, minimum-behind, minimum-append}
use Rattle.blocks.specs.Takes.{from_zero, minimum_from}
use Rattle.blocks.specs.Private.{shifted, lower_of}

-- what is taken of the chosen of two is the chosen of what is taken of both
pub chosen : {A B : Type 0} (f : A → B) (t : Bool) (x y : A) → f (cond t x y) ≡ cond t (f x) (f y)
chosen f true x y = refl
chosen f false x y = refl

-- which of two is the lower does not depend on the count from 0
from_zero-lower : (a b : Minimum) → from_zero (lower a b) ≡ lower_of (from_zero a) (from_zero b)
from_zero-lower a b = chosen from_zero (takes_over b.value a.value) b a

-- the first e values are the first b, and the part from there on
front_split : (vs : List ℤ) (b e : ℕ) → b ≤ e → take e vs ≡ take b vs ++ take (e - b) (drop b vs)
front_split vs b e h = let q : e ≡ b + (e - b) = omega arith in ap (λ (k : ℕ). take k vs) q ∙ take-add b (e - b) vs

pub part_some : (vs : List ℤ) (b e : ℕ) → b < e → b < length vs → 0 < length (take (e - b) (drop b vs))
part_some vs b e l s = omega (arith, length-take (e - b) (drop b vs), length-drop b vs)

-- A RANGE IN TWO PARTS: the lower of what is found in both
pub joined : (vs : List ℤ) (a b e : ℕ) → a < b → b < e → b < length vs
    → minimum_from (take e vs) a ≡ lower_of (minimum_from (take b vs) a) (minimum_from (take e vs) b)
joined vs a b e l m s =
    let n : length (take b vs) ≡ b = length-take-le b vs (omega arith) in
    let both = minimum-append (take b vs) (take (e - b) (drop b vs)) (record { 0 = a + 1 }) (omega arith) (omega arith) (part_some vs b e m s) in
    let q : minimum (take e vs) (record { 0 = a + 1 }) ≡ lower (minimum (take b vs) (record { 0 = a + 1 })) (minimum (take e vs) (record { 0 = b + 1 })) =
    rw (n, ← front_split vs b e (omega arith)) at both in
    ap from_zero q ∙ from_zero-lower (minimum (take b vs) (record { 0 = a + 1 })) (minimum (take e vs) (record { 0 = b + 1 }))

-- A PART HANDED ON: "whose place is relative: add a"
pub handed_on : (vs : List ℤ) (a e : ℕ) → a < e → a < length vs → minimum_from (take e vs) a ≡ shifted a (minimum_from (take (e - a) (drop a vs)) 0)
handed_on vs a e l s =
    let part : List ℤ = take (e - a) (drop a vs) in
    let one : Position = record { 0 = 1 } in
    let n : length (take a vs) ≡ a = length-take-le a vs (omega arith) in
    let behind = minimum-behind (take a vs) part one (omega arith) in
    let q : minimum (take e vs) (record { 0 = a + 1 }) ≡ moved a (minimum part one) = rw (n, ← front_split vs a e (omega arith)) at behind in
    let stands = minimum_least part one (omega arith) (part_some vs a e l s) in
    ap from_zero q ∙ ap (λ (k : ℕ). record { value = (minimum part one).value; place = record { 0 = k } }) (omega (arith, stands.from))

-- the least of some values stands at one of their offsets
pub found_inside : (vs : List ℤ) → 0 < length vs → (minimum_from vs 0).place.0 < length vs
found_inside vs s =
    let stands = minimum_least vs (record { 0 = 1 }) (omega arith) s in
    omega (arith, stands.from, stands.to)
