-- The place whose run has a row: its run starts at the row or below it, and the next one does not.
use mathlib.Core.Path.{◌≡◌, ap}
use mathlib.Core.Bool.{true, false}
use mathlib.Core.List.{List}
use mathlib.Core.Logic.{⊎_elim}
use Prim.Native.Nat.{ℕ, ◌+◌, ◌-◌, ◌<◌, ◌≤◌}
use native.Mathlib.Nat.{eq-zero-or-pos}
use native.Mathlib.Omega.{arith}
use Rattle.std.specs.Prelude.{ltb}
use Rattle.std.proofs.lemmas.Bool.Decides.{nat_tests}
use Rattle.layout.specs.declared.Held.{Held}
use Rattle.layout.specs.declared.Place.{Place}
use Rattle.layout.specs.declared.Lane.{Lane}
use Rattle.layout.specs.Words.{Lower, Under, bottom, word, Room}
use Rattle.stack.specs.Entries.{Stacked, Covers}
use Rattle.stack.specs.Private.{starts_after, Located}

-- what the test says of a run
late : (first row : ℕ) → true ≡ ltb row first → row < first
late first row e = grind (arith, nat_tests)

early : (first row : ℕ) → false ≡ ltb row first → first ≤ row
early first row e = grind (arith, nat_tests)

-- the search is among the places above the bottom
pub found : {w : List ℕ} {k : Lane} {height : Place} {h : Held} {n : ℕ} → Under bottom height → n ≤ height.0 - 1 → (n < height.0 - 1 → true ≡ starts_after w k h (record { 0 = n + 1 }))
    → ((i : ℕ) → i + 1 ≡ n → false ≡ starts_after w k h (record { 0 = i + 1 })) → Located w k height h (record { 0 = n })
found {w} {k} {height} {h} {n} some within here before = record { within = omega (arith, within); covers = covers }
  where
    covers : (rows : Held) → Room w rows.0 → Stacked w k rows height → Lower h rows → Covers w k height (record { 0 = n }) h
    covers rows r s m = record {
      on = omega (arith, within);
      from =
          ⊎_elim (λ (z : n ≡ 0). omega (arith, ap (λ (i : ℕ). word w k i 5) z, ap (λ (g : Held). g.0) (s.bottom some)))
          (λ (l : 0 < n). let e : n - 1 + 1 ≡ n = omega arith in rw e at (early _ h.0 (before (n - 1) e)))
          (eq-zero-or-pos n);
      to = λ (z : n + 1 < height.0). late _ h.0 (here (omega arith));
    }
