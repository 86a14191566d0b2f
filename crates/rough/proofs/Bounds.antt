-- A value that is at most each of a list, and the least of a list: it is at most each, and one of them.
use mathlib.Core.Path.{◌≡◌, refl, sym, ap, ◌∙◌}
use mathlib.Core.Bool.{Bool, true, false, not, cond}
use mathlib.Core.List.{List, [], ◌∷◌, ◌++◌}
use mathlib.Core.Logic.{inl, inr}
use Rattle.std.specs.Prelude.{Option, None, Some}
use Rattle.std.proofs.lemmas.Option.{none-some}
use Rattle.rough.proofs.Sequences.{same_some}
use Prim.Native.Nat.{ℕ, ◌+◌, ◌-◌, ◌<◌, ◌≤◌}
use native.Mathlib.Omega.{arith}
use lib.IntN.{ℤ, pos}
use lib.Signed.{le_z}
use lib.ListN.{length, get_or, take, drop, length-append, length-take, get_or-append}
use lib.Seq.{get_or-take, get_or-drop, get_or-append-add}
use Rattle.laws.proofs.Tests.{lt_or_ge}
use Rattle.laws.proofs.Order.{le_z_refl, le_z_total, lt_z_le_z}
use Rattle.history.specs.Minima.{takes_over, minimum}
use Rattle.history.proofs.Lowest.{minimum_least}
use Rattle.blocks.specs.Takes.{minimum_from, least_of}
use Rattle.blocks.proofs.Scanning.{least_some}
use Rattle.rough.specs.Private.{lower_of}
use Rattle.rough.proofs.Budgets.{part, length_part}

-- v is at most each of some values
abbrev pub Under : ℤ → List ℤ → Type 0
Under v xs = (t : ℕ) → t < length xs → le_z v (get_or xs t (pos 0)) ≡ true

pub under_append : (v : ℤ) (xs ys : List ℤ) → Under v xs → Under v ys → Under v (xs ++ ys)
under_append v xs ys f g t h = elim (lt_or_ge t (length xs)) [
  | inl l ↦ rw (get_or-append xs ys (pos 0) t l) (f t l)
  | inr l ↦
      let n = length-append xs ys in
      let q : length xs + (t - length xs) ≡ t = omega arith in
      let there : get_or (xs ++ ys) t (pos 0) ≡ get_or ys (t - length xs) (pos 0) = ap (λ (k : ℕ). get_or (xs ++ ys) k (pos 0)) (sym q) ∙ get_or-append-add xs ys (t - length xs) (pos 0) in
      rw there (g (t - length xs) (omega (arith, n)))
]

pub under_left : (v : ℤ) (xs ys : List ℤ) → Under v (xs ++ ys) → Under v xs
under_left v xs ys f t h = rw (get_or-append xs ys (pos 0) t h) at (f t (omega (arith, length-append xs ys)))

pub under_right : (v : ℤ) (xs ys : List ℤ) → Under v (xs ++ ys) → Under v ys
under_right v xs ys f t h = rw (get_or-append-add xs ys t (pos 0)) at (f (length xs + t) (omega (arith, length-append xs ys)))

pub under_take : (v : ℤ) (k : ℕ) (xs : List ℤ) → Under v xs → Under v (take k xs)
under_take v k xs f t h = let n = length-take k xs in rw (get_or-take k xs t (pos 0) (omega (arith, n))) (f t (omega (arith, n)))

-- of a part of a list
pub get_d_part : (a b : ℕ) (l : List ℤ) (t : ℕ) → t < b - a → get_or (part a b l) t (pos 0) ≡ get_or l (a + t) (pos 0)
get_d_part a b l t h = get_or-take (b - a) (drop a l) t (pos 0) h ∙ get_or-drop a l t (pos 0)

pub under_part : (v : ℤ) (a b : ℕ) (l : List ℤ) → a ≤ b → b ≤ length l → ((k : ℕ) → a ≤ k → k < b → le_z v (get_or l k (pos 0)) ≡ true) → Under v (part a b l)
under_part v a b l m s f t h =
    let n = length_part a b l m s in
    rw (get_d_part a b l t (omega (arith, n))) (f (a + t) (omega arith) (omega (arith, n)))

pub part_under : (v : ℤ) (a b : ℕ) (l : List ℤ) → a ≤ b → b ≤ length l → Under v (part a b l) → (k : ℕ) → a ≤ k → k < b → le_z v (get_or l k (pos 0)) ≡ true
part_under v a b l m s f k h e =
    let n = length_part a b l m s in
    let q : a + (k - a) ≡ k = omega arith in
    rw q at (rw (get_d_part a b l (k - a) (omega arith)) at (f (k - a) (omega (arith, n))))

-- THE LEAST is at most each, and one of them
pub least_under : (xs : List ℤ) (v : ℤ) → least_of xs ≡ Some v → Under v xs
least_under [] v e = absurd (none-some v e)
least_under (x ∷ xs) v e =
    let least = minimum_least (x ∷ xs) (record { 0 = 1 }) (omega arith) (omega arith) in
    let same : (minimum (x ∷ xs) (record { 0 = 1 })).value ≡ v = same_some _ _ e in
    λ t h.
    let back : t + 1 - 1 ≡ t = omega arith in
    rw (back, same) at (least.least (record { 0 = t + 1 }) (omega arith) (omega arith))

pub least_one : (xs : List ℤ) (v : ℤ) → least_of xs ≡ Some v → (t : ℕ) × (t < length xs) × (get_or xs t (pos 0) ≡ v)
least_one [] v e = absurd (none-some v e)
least_one (x ∷ xs) v e =
    let least = minimum_least (x ∷ xs) (record { 0 = 1 }) (omega arith) (omega arith) in
    ((minimum (x ∷ xs) (record { 0 = 1 })).place.0 - 1, omega (arith, least.from, least.to), least.stands ∙ same_some _ _ e)

-- so what is at most each is at most the least
pub under_least : (xs : List ℤ) (u v : ℤ) → Under u xs → least_of xs ≡ Some v → le_z u v ≡ true
under_least xs u v f e = let o = least_one xs v e in rw o.2 at (f o.0 o.1)

-- with more values the least does not rise, and stays one
pub lower_falls : (v : ℤ) (o : Option ℤ) → (w : ℤ) × (lower_of (Some v) o ≡ Some w) × (le_z w v ≡ true)
lower_falls v None = (v, refl, le_z_refl v)
lower_falls v (Some x) = go (takes_over x v) refl
  where
    denied : (b : Bool) → not b ≡ true → b ≡ false
    denied true e = sym e
    denied false e = refl

    go : (t : Bool) → takes_over x v ≡ t → (w : ℤ) × (Some (cond t x v) ≡ Some w) × (le_z w v ≡ true)
    go true e = (x, refl, le_z_total v x (denied (le_z v x) (sym (lt_z_le_z x v) ∙ e)))
    go false e = (v, refl, le_z_refl v)

-- of some values there is a least
pub least_exists : (xs : List ℤ) → 0 < length xs → (v : ℤ) × (least_of xs ≡ Some v)
least_exists xs h = ((minimum_from xs 0).value, least_some xs h)
