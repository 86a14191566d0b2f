-- The laws of the choice among equal values. `is_lower` is of the earliest place alone; all others would hold of the latest too. Above this crate only the proof of the comparison
-- itself looks into `takes_over`.
use mathlib.Core.Path.{◌≡◌, refl, sym, ap, ◌∙◌}
use mathlib.Core.Bool.{Bool, true, false, cond, not}
use lib.IntN.{ℤ}
use lib.Signed.{le_z}
use borrow.Author.Tests.{not-true, not-false}
use Rattle.laws.proofs.Order.{le_z_trans, le_z_total, lt_z_le_z}
use Rattle.laws.proofs.Tests.{clash, refuted}
use Rattle.history.specs.Minimum.{Minimum}
use Rattle.history.specs.Minima.{takes_over, lower}

-- what takes over is lower
pub is_lower : (v a : ℤ) → takes_over v a ≡ true → le_z a v ≡ false
is_lower v a h = not-true (le_z a v) (sym (lt_z_le_z v a) ∙ h)

-- what takes over is no larger
pub no_larger : (v a : ℤ) → takes_over v a ≡ true → le_z v a ≡ true
no_larger v a h = le_z_total a v (is_lower v a h)

-- what does not take over is no smaller
pub no_smaller : (v a : ℤ) → takes_over v a ≡ false → le_z a v ≡ true
no_smaller v a h = not-false (le_z a v) (sym (lt_z_le_z v a) ∙ h)

-- what takes over from a value takes over from a larger one
pub monotone : (v a b : ℤ) → le_z a b ≡ true → takes_over v a ≡ true → takes_over v b ≡ true
monotone v a b l h = lt_z_le_z v b ∙ ap not (refuted (le_z b v) (λ g. clash (le_z_trans a b v l g) (is_lower v a h)))

-- the lower of a minimum and a later one, by what the choice says
pub lower_as : {a d : Minimum} (m : Minimum) (b : Bool) → a ≡ d → takes_over m.value a.value ≡ b → lower d m ≡ cond b m d
lower_as {a} {d} m b e h =
    ap (λ (x : Bool). cond x m d) (ap (λ (x : Minimum). takes_over m.value x.value) (sym e) ∙ h)

-- of three, it is all the same which two are compared first
pub lower_assoc : (a b c : Minimum) → lower (lower a b) c ≡ lower a (lower b c)
lower_assoc a b c = go (takes_over b.value a.value) (takes_over c.value b.value) refl refl
  where
    go : (t u : Bool) → takes_over b.value a.value ≡ t → takes_over c.value b.value ≡ u
        → lower (cond t b a) c ≡ lower a (cond u c b)
    go true true p q = simp (q, monotone c.value b.value a.value (no_larger b.value a.value p) q)
    go true false p q = simp (p, q)
    go false true p q = refl
    go false false p q = simp (p, refuted (takes_over c.value a.value) (λ h. clash (monotone c.value a.value b.value (no_smaller b.value a.value p) h) q))
