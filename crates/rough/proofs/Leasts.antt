-- The least of two lists, one behind the other, is the lower of both.
use mathlib.Core.Path.{◌≡◌, refl, ap, ◌∙◌}
use mathlib.Core.Bool.{cond}
use mathlib.Core.List.{List, [], ◌∷◌, ◌++◌, append-nil}
use Rattle.std.specs.Prelude.{Some}
use native.Mathlib.Omega.{arith}
use lib.IntN.{ℤ}
use Rattle.history.specs.declared.Position.{Position}
use Rattle.history.specs.Minimum.{Minimum}
use Rattle.history.specs.Minima.{takes_over, lower, next, present_at, minimum}
use Rattle.history.proofs.Parts.{minimum-behind, minimum-append}
use Rattle.blocks.specs.Takes.{least_of}
use Rattle.blocks.proofs.Founds.{chosen}
use Rattle.rough.specs.Private.{lower_of}

abbrev first : Position
first = record { 0 = 1 }

lower-value : (a b : Minimum) → (lower a b).value ≡ cond (takes_over b.value a.value) b.value a.value
lower-value a b = chosen (λ (m : Minimum). m.value) (takes_over b.value a.value) b a

pub least_append : (us ws : List ℤ) → least_of (us ++ ws) ≡ lower_of (least_of us) (least_of ws)
least_append us [] = ap least_of (append-nil us)
least_append [] (w ∷ ws) = refl
least_append (u ∷ us) (w ∷ ws) =
    let both = minimum-append (u ∷ us) (w ∷ ws) first (omega arith) (omega arith) (omega arith) in
    let second : (minimum (u ∷ us ++ (w ∷ ws)) (next (present_at (u ∷ us)))).value ≡ (minimum (w ∷ ws) first).value =
    ap (λ (m : Minimum). m.value) (minimum-behind (u ∷ us) (w ∷ ws) first (omega arith)) in
    ap Some
    (ap (λ (m : Minimum). m.value) both
    ∙ lower-value (minimum (u ∷ us) first) (minimum (u ∷ us ++ (w ∷ ws)) (next (present_at (u ∷ us))))
    ∙ ap (λ (v : ℤ). cond (takes_over v (minimum (u ∷ us) first).value) v (minimum (u ∷ us) first).value) second)
