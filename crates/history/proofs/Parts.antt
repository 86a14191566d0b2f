-- The range minimum of a list in two parts: where it begins in the second it is that part's, counted from the part's start; where it begins in the first it is the lower of both.
use mathlib.Core.Path.{◌≡◌, refl, ap, ◌∙◌}
use mathlib.Core.Bool.{Bool, true, false, cond}
use mathlib.Core.List.{List, [], ◌∷◌, ◌++◌}
use Prim.Native.Nat.{ℕ, ◌+◌, ◌-◌, ◌<◌, ◌≤◌}
use native.Mathlib.Omega.{arith}
use lib.IntN.{ℤ, pos}
use lib.ListN.{length, get_or, drop, length-drop, get_or-append}
use lib.Seq.{drop-append-le, drop-append-add, get_or-append-add, get_or_at}
use Rattle.history.specs.declared.Position.{Position}
use Rattle.history.specs.Minimum.{Minimum}
use Rattle.history.specs.Minima.{takes_over, lower, stands_at, next, lowest, present_at, value_at, minimum}
use Rattle.history.proofs.Choice.{lower_assoc}

-- a position, and a minimum, as they are counted where n values come before
abbrev pub behind : ℕ → Position → Position
behind n i = record { 0 = n + i.0 }

abbrev pub moved : ℕ → Minimum → Minimum
moved n m = record { value = m.value; place = behind n m.place }

-- which of two is the lower does not depend on where the counting starts
moved-lower : (n : ℕ) (a b : Minimum) → lower (moved n a) (moved n b) ≡ moved n (lower a b)
moved-lower n a b = go (takes_over b.value a.value)
  where
    go : (t : Bool) → cond t (moved n b) (moved n a) ≡ moved n (cond t b a)
    go true = refl
    go false = refl

lowest-moved : (n : ℕ) (d : Minimum) (i : Position) (vs : List ℤ) → lowest (moved n d) (behind n i) vs ≡ moved n (lowest d i vs)
unfolding lowest
lowest-moved n d i [] = refl
lowest-moved n d i (v ∷ vs) =
    ap (λ (m : Minimum). lowest m (next (behind n i)) vs) (moved-lower n d (stands_at v i))
    ∙ ap (λ (k : ℕ). lowest (moved n (lower d (stands_at v i))) (record { 0 = k }) vs) (omega arith)
    ∙ lowest-moved n (lower d (stands_at v i)) (next i) vs

-- what came before the least so far is compared with it sooner or later
lowest-lower : (a d : Minimum) (i : Position) (vs : List ℤ) → lowest (lower a d) i vs ≡ lower a (lowest d i vs)
unfolding lowest
lowest-lower a d i [] = refl
lowest-lower a d i (v ∷ vs) =
    ap (λ (m : Minimum). lowest m (next i) vs) (lower_assoc a d (stands_at v i)) ∙ lowest-lower a (lower d (stands_at v i)) (next i) vs

lowest-append : (d : Minimum) (i : Position) (us ws : List ℤ) → lowest d i (us ++ ws) ≡ lowest (lowest d i us) (behind (length us) i) ws
unfolding lowest
lowest-append d i [] ws = ap (λ (k : ℕ). lowest d (record { 0 = k }) ws) (omega arith)
lowest-append d i (u ∷ us) ws =
    lowest-append (lower d (stands_at u i)) (next i) us ws
    ∙ ap (λ (k : ℕ). lowest (lowest (lower d (stands_at u i)) (next i) us) (record { 0 = k }) ws) (omega arith)

-- THE SECOND PART ALONE
pub minimum-behind : (us ws : List ℤ) (i : Position) → 0 < i.0 → minimum (us ++ ws) (behind (length us) i) ≡ moved (length us) (minimum ws i)
minimum-behind us ws i z =
    let n = length us in
    let back : n + i.0 - 1 ≡ n + (i.0 - 1) = omega arith in
    let at : value_at (us ++ ws) (behind n i) ≡ value_at ws i = ap (λ (k : ℕ). get_or (us ++ ws) k (pos 0)) back ∙ get_or-append-add us ws (i.0 - 1) (pos 0) in
    rw (at, drop-append-add us ws i.0)
    (ap (λ (k : ℕ). lowest (moved n (stands_at (value_at ws i) i)) (record { 0 = k }) (drop i.0 ws)) (omega arith)
    ∙ lowest-moved n (stands_at (value_at ws i) i) (next i) (drop i.0 ws))

-- BOTH PARTS: the lower of the first part's and of the second's
pub minimum-append : (us ws : List ℤ) (i : Position) → 0 < i.0 → i.0 ≤ length us → 0 < length ws
    → minimum (us ++ ws) i ≡ lower (minimum us i) (minimum (us ++ ws) (next (present_at us)))
unfolding lowest
minimum-append us [] i z h s = absurd (omega arith)
minimum-append us (w ∷ ws) i z h s =
    let p : Position = next (present_at us) in
    let older : value_at (us ++ (w ∷ ws)) i ≡ value_at us i = get_or-append us (w ∷ ws) (pos 0) (i.0 - 1) (omega arith) in
    let first : value_at (us ++ (w ∷ ws)) p ≡ w = get_or_at us w ws (pos 0) (p.0 - 1) (omega arith) in
    let rest : drop p.0 (us ++ (w ∷ ws)) ≡ ws = drop-append-add us (w ∷ ws) 1 in
    let there : length (drop i.0 us) + (i.0 + 1) ≡ length us + 1 = omega (arith, length-drop i.0 us) in
    rw (older, first, rest, drop-append-le i.0 us (w ∷ ws) h)
    (lowest-append (stands_at (value_at us i) i) (next i) (drop i.0 us) (w ∷ ws)
    ∙ ap (λ (k : ℕ). lowest (minimum us i) (record { 0 = k }) (w ∷ ws)) there
    ∙ lowest-lower (minimum us i) (stands_at w p) (next p) ws)
