-- The word of a minimum reads back as the minimum, and the order of words is that of the choice: by value, and among equal values by place.
use mathlib.Core.Path.{◌≡◌, sym, ap, subst, ◌∙◌}
use mathlib.Core.Bool.{Bool, true, false, cond, not}
use mathlib.Core.Logic.{⊎_elim}
use Prim.Native.Nat.{ℕ, ◌+◌, ◌*◌, ◌/◌, ◌%◌, ◌<◌, ◌≤◌, min}
use native.Mathlib.Nat.{min-eq_left, min-eq_right, eq-or-lt_of_le}
use native.Mathlib.Omega.{arith}
use lib.Dec.{ltb}
use lib.IntN.{ℤ}
use lib.Signed.{le_z, lt_z}
use borrow.Author.Tests.{ltb-true, ltb-false}
use mir.Syntax.{w32}
use mir.Val.{SFits}
use Rattle.laws.proofs.Order.{lt_z_le_z}
use Rattle.history.specs.Minimum.{Minimum}
use Rattle.history.specs.Minima.{takes_over, lower, stands_at}
use Rattle.signed.specs.Word.{word_of, lower_half, value_of}
use Rattle.signed.proofs.Offset.{up_small, down_small, back}
use Rattle.signed.proofs.Ordered.{ordered}
use Rattle.packing.specs.Packing.{packed, Faithful}

-- a minimum of 32 bits each reads back
pub reads_back : (m : Minimum) → SFits w32 m.value → m.place.0 < 4294967296 → Faithful m
reads_back m f l =
    let value : packed m / 4294967296 ≡ word_of m.value = omega arith in
    let place : packed m % 4294967296 ≡ m.place.0 = omega arith in
    ap (λ (n : ℕ). stands_at (value_of n) (record { 0 = packed m % 4294967296 })) value
    ∙ ap (λ (n : ℕ). stands_at (value_of (word_of m.value)) (record { 0 = n })) place
    ∙ ap (λ (v : ℤ). stands_at v m.place) (back m.value f)

-- a place that reads back has 32 bits
place_small : (m : Minimum) → Faithful m → m.place.0 < 4294967296
place_small m f = let e : packed m % 4294967296 ≡ m.place.0 = ap (λ (d : Minimum). d.place.0) f in omega arith

-- and so has a value
value_fits : (m : Minimum) → Faithful m → SFits w32 m.value
value_fits m f = subst (SFits w32) (ap (λ (d : Minimum). d.value) f) (down_small (lower_half (packed m / 4294967296)) (omega arith))

-- values compare as their words
compared : (u v : ℤ) → SFits w32 u → SFits w32 v → lt_z u v ≡ ltb (word_of u) (word_of v)
compared u v f g = ap (lt_z u) (sym (back v g)) ∙ ordered u (word_of v) f (up_small v g)

-- equal words are of equal values
same_value : (u v : ℤ) → SFits w32 u → SFits w32 v → word_of u ≡ word_of v → u ≡ v
same_value u v f g e = sym (back u f) ∙ ap value_of e ∙ back v g

-- two numbers of two halves each: by the upper halves, and where these are equal by the lower
by_upper : (a b p q : ℕ) → p < 4294967296 → a < b → a * 4294967296 + p ≤ b * 4294967296 + q
by_upper a b p q l h = omega arith

by_lower : (a b p q : ℕ) → a ≤ b → p ≤ q → a * 4294967296 + p ≤ b * 4294967296 + q
by_lower a b p q l h = omega arith

-- the word of the lower of two minima is the lower of their words, where the second stands later
pub packed-lower : (d m : Minimum) → Faithful d → Faithful m → d.place.0 < m.place.0 → packed (lower d m) ≡ min (packed d) (packed m)
packed-lower d m f g l = go (takes_over m.value d.value) (sym (compared m.value d.value (value_fits m g) (value_fits d f)))
  where
    go : (b : Bool) → ltb (word_of m.value) (word_of d.value) ≡ b → packed (cond b m d) ≡ min (packed d) (packed m)
    go true e =
        sym (min-eq_right {n = packed m} {m = packed d} (by_upper (word_of m.value) (word_of d.value) m.place.0 d.place.0 (place_small m g) (ltb-true _ _ e)))
    go false e =
        sym (min-eq_left {n = packed d} {m = packed m} (by_lower (word_of d.value) (word_of m.value) d.place.0 m.place.0 (ltb-false _ _ e) (omega arith)))

-- the lower of two minima reads back
pub faithful_lower : (d m : Minimum) → Faithful d → Faithful m → Faithful (lower d m)
faithful_lower d m f g = go (takes_over m.value d.value)
  where
    go : (b : Bool) → Faithful (cond b m d)
    go true = g
    go false = f

-- a minimum of no smaller value, and among equal values of no earlier place, has no smaller word
pub packed_rises : (d m : Minimum) → Faithful d → Faithful m → le_z d.value m.value ≡ true → (d.value ≡ m.value → d.place.0 ≤ m.place.0)
    → packed d ≤ packed m
packed_rises d m f g l e =
    let u = value_fits d f in
    let v = value_fits m g in
    let h : word_of d.value ≤ word_of m.value = ltb-false _ _ (sym (compared m.value d.value v u) ∙ lt_z_le_z m.value d.value ∙ ap not l) in
    ⊎_elim
    (λ (q : word_of d.value ≡ word_of m.value).
    by_lower (word_of d.value) (word_of m.value) d.place.0 m.place.0 h (e (same_value d.value m.value u v q)))
    (λ (q : word_of d.value < word_of m.value). by_upper (word_of d.value) (word_of m.value) d.place.0 m.place.0 (place_small d f) q)
    (eq-or-lt_of_le h)
