-- A search by halves among rows whose positions ascend: of the row found the mark is the first that is after the one sought. So only the row before it can have the mark sought.
use mathlib.Core.Path.{◌≡◌}
use mathlib.Core.Bool.{true, false}
use mathlib.Core.List.{List}
use Prim.Native.Nat.{ℕ, ◌+◌, ◌-◌, ◌<◌, ◌≤◌}
use native.Mathlib.Decide.{ℕ_discrete, dec_lt}
use native.Mathlib.Omega.{arith}
use Rattle.std.specs.Prelude.{ltb}
use Rattle.std.proofs.lemmas.Bool.Decides.{nat_tests}
use Rattle.layout.specs.declared.Held.{Held}
use Rattle.layout.specs.declared.Lane.{Lane}
use Rattle.layout.specs.Words.{Lower, mark_word}
use Rattle.table.specs.Marks.{Rising}
use Rattle.table.specs.Private.{is_after}
use Rattle.table.proofs.Ordered.{not_after, before}

-- what the test says of a mark
late : (mark sought : ℕ) → true ≡ ltb sought mark → sought < mark
late mark sought e = grind (arith, nat_tests)

early : (mark sought : ℕ) → false ≡ ltb sought mark → mark ≤ sought
early mark sought e = grind (arith, nat_tests)

pub missed : (w : List ℕ) (k : Lane) {sought n : ℕ} {rows : Held} → (n < rows.0 → true ≡ is_after w k sought (record { 0 = n })) → ((i : ℕ) → i + 1 ≡ n → false ≡ is_after w k sought (record { 0 = i }))
    → n ≤ rows.0 → (mark_word w k (record { 0 = n - 1 }) ≡ sought → ⊥) → Rising w k rows → (h : Held) → Lower h rows → mark_word w k h ≡ sought → ⊥
missed w k {sought} {n} {rows} here behind within other up h m e =
    let above : h.0 < n = elim (dec_lt n rows.0) [
      | yes l ↦ before w k rows up h (record { 0 = n }) m (omega (arith, e, late _ _ (here l)))
      | no l ↦ omega arith
    ] in
    elim (ℕ_discrete h.0 (n - 1)) [
      | yes q ↦ other (rw q at e)
      | no d ↦ let b = not_after w k rows up (record { 0 = n - 1 }) h (omega arith) (omega (arith, e, early _ _ (behind (n - 1) (omega arith)))) in omega arith
    ]
